-- A machine that was taken to the moment of a key makes the test of this moment.
use Rattle.std.proofs.Common.{◌∙◌, refl, sym}
use Rattle.pip_away.specs.Blind.{sight_of}
use Rattle.pip_every.specs.Explored.{explored}
use Rattle.pip_every.proofs.Seeing.{looks_same}
use Rattle.pip_every.proofs.explorer.Explorer.passes.Goals as goal

pub returns-clause-passes : goal.returns-clause-passes
returns-clause-passes g c m k =
    let at = c.go_to.ensures.at m k in
    let same = sym (rw (c.deref.ensures.value, c.go_to.ensures.may)) in
    c.looks_away.ensures.away _ (explored c.args.self.now) at.0 same
    ∙ looks_same c.args.blind.now.own.items (sight_of c.args.blind.now) (explored c.args.self.now) _ m.world
    c.args.cpu (record { tree = refl; cpus = refl })
