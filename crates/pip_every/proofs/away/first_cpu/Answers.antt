use Rattle.std.proofs.Common.{◌≡◌, ◌∙◌, true, subst}
use Rattle.pip_away.specs.Blind.{sight_in, left_out}
use Rattle.pip_every.specs.Away.{looks_away}
use Rattle.pip_every.specs.Explored.{explored}
use Rattle.pip_every.specs.Keys.{IsKeyOf}
use Rattle.pip_every.proofs.Passing.{passes_more}
use Rattle.pip_every.proofs.away.first_cpu.Goals as goal

pub loop-cpu-preserved : goal.loop-cpu-preserved
loop-cpu-preserved g c =
    let was = c.loop-cpu.invariant in
    let o = left_out c.args.blind.now in
    let cpu = c.loop-cpu.cpu in
    record {
      base = c.passes.ensures.base ∙ was.base;
      passes = λ m k. passes_more o (explored c.args.explorer.now) m.world cpu (was.passes m k)
          (subst (λ e. IsKeyOf g.F.First.words e.scope c.args.key.now m
          → looks_away o.own (sight_in o) e m.world cpu ≡ true) was.base
          (λ own. rw (← c.passes.ensures.passes m own) c.if-not-passes.false) k);
    }
