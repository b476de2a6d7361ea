use Rattle.pip_audit.proofs.Differing.{goes_then, plain_covered}
use Rattle.pip_audit.proofs.auditor.Auditor.judge_plain.Goals as goal

pub returns-clause-goes : goal.returns-clause-goes
returns-clause-goes g c =
    let m = g.M.Frames.memory c.args.mem.now in
    let f0 = c.args.found in
    let f1 = c.judge_descriptor-first.result in
    let f2 = c.judge_directory-first.result in
    let f3 = c.judge_directory-first-2.result in
    let f4 = c.judge_directory-first-3.result in
    let f5 = c.judge_list-first.result in
    let f6 = c.judge_tables.result in
    goes_then m f0 f1 f6 c.judge_descriptor-first.ensures.goes
    (goes_then m f1 f2 f6 c.judge_directory-first.ensures.goes
    (goes_then m f2 f3 f6 c.judge_directory-first-2.ensures.goes
    (goes_then m f3 f4 f6 c.judge_directory-first-3.ensures.goes
    (goes_then m f4 f5 f6 c.judge_list-first.ensures.goes c.judge_tables.ensures.goes))))

pub returns-clause-covers : goal.returns-clause-covers
returns-clause-covers g c =
    let m = g.M.Frames.memory c.args.mem.now in
    plain_covered m c.args.self.now.node.part c.judge_descriptor-first.result c.judge_directory-first.result
    c.judge_directory-first-2.result c.judge_directory-first-3.result c.judge_list-first.result
    c.judge_tables.result
    c.judge_directory-first.ensures.goes c.judge_directory-first-2.ensures.goes c.judge_directory-first-3.ensures.goes
    c.judge_list-first.ensures.goes c.judge_tables.ensures.goes
    c.judge_descriptor-first.ensures.covers c.judge_directory-first.ensures.covers
    c.judge_directory-first-2.ensures.covers c.judge_directory-first-3.ensures.covers
    c.judge_list-first.ensures.covers c.judge_tables.ensures.covers
