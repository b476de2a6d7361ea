use Rattle.std.proofs.Common.{ap, subst}
use Rattle.std.specs.Prelude.{slice_index}
use Rattle.pip_model.specs.declared.level.Level.TheVariants.{Shadow1}
use Rattle.pip_audit.specs.declared.auditor.Auditor.{Auditor}
use Rattle.pip_audit.specs.Comparing.{CoversTables}
use Rattle.pip_audit.proofs.Differing.{role_stays}
use Rattle.pip_audit.proofs.auditor.Auditor.judge_all_of.Goals as goal

pub returns-clause-covers : goal.returns-clause-covers
returns-clause-covers g c =
    let m = g.M.Frames.memory c.args.mem.now in
    let node = c.judge_node-first.ensures in
    let given = c.judge_given.ensures in
    record {
      plain = λ r e. role_stays m c.judge_node-first.result c.judge_given.result
          (slice_index c.args.self.now.names.items c.args.x) r given.goes (node.covers r e);
      given = subst (λ p. CoversTables m c.judge_given.result p Shadow1)
          (ap (λ (z : Auditor). slice_index z.names.items c.args.x) node.rest) given.covers;
    }
