use Rattle.std.proofs.Common.{rules, arith, sym, subst}
use Rattle.pip_model.specs.Booted.{HasBooted}
use Rattle.pip_test_every.proofs.Booted.{booted_word}
use Rattle.pip_test_every.proofs.searches.write_program.Goals as goal

pub loop-i-preserved : goal.loop-i-preserved
loop-i-preserved g c = record {
  booted = subst HasBooted (sym c.set_word.ensures.words)
      (booted_word (g.M.Frames.memory c.loop-i.mem) c.new.result _ _ c.loop-i.invariant.count c.new.ensures
      (search (rules, arith)) (search (rules, arith)) c.loop-i.invariant.booted);
  count = search rules;
}
