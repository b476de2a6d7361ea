use Rattle.std.proofs.Common.{sym, subst, ◌∙◌}
use Rattle.pip_audit.specs.Comparing.{Covers, GoesOn, role_of}
use Rattle.pip_audit.proofs.Differing.{covers_earlier, goes_earlier}
use Rattle.pip_audit.proofs.TreeIn.{judged, plays_fits, plays_inside}
use Rattle.pip_audit.proofs.auditor.Auditor.judge.Goals as goal

pub difference_in-here-requires-clause-frame : goal.difference_in-here-requires-clause-frame
difference_in-here-requires-clause-frame g c = plays_inside (g.M.Frames.memory c.args.mem.now) c.args.self.now
    c.requires.judges c.args.f (role_of c.args.role.now) c.requires.role

pub difference_in-here-requires-clause-fits : goal.difference_in-here-requires-clause-fits
difference_in-here-requires-clause-fits g c = plays_fits (g.M.Frames.memory c.args.mem.now) c.args.self.now
    c.requires.judges c.args.f (role_of c.args.role.now) c.requires.role

pub returns-clause-goes : goal.returns-clause-goes
returns-clause-goes g c =
    let m = g.M.Frames.memory c.args.mem.now in
    let a = c.args.self.now in
    let o = role_of c.args.role.now in
    subst (GoesOn m c.args.found) (sym c.earlier.ensures)
    (goes_earlier m c.args.f (plays_inside m a c.requires.judges c.args.f o c.requires.role) c.args.found
    c.difference_in-here.result (c.difference_in-here.ensures
    ∙ judged m a c.requires.judges o c.args.f c.requires.role c.requires.holds) c.requires.is)

pub returns-clause-covers : goal.returns-clause-covers
returns-clause-covers g c =
    let m = g.M.Frames.memory c.args.mem.now in
    let a = c.args.self.now in
    let o = role_of c.args.role.now in
    subst (λ d. Covers m d c.args.f) (sym c.earlier.ensures)
    (covers_earlier m c.args.f (plays_inside m a c.requires.judges c.args.f o c.requires.role) c.args.found
    c.difference_in-here.result
    (c.difference_in-here.ensures ∙ judged m a c.requires.judges o c.args.f c.requires.role c.requires.holds))
