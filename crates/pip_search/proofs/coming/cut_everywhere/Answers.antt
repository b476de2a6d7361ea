use Rattle.std.proofs.Common.{refl, ◌∙◌, arith}
use Rattle.pip_search.specs.Keys.{visits_of}
use Rattle.pip_search.proofs.Looping.{none_cut}
use Rattle.pip_search.proofs.coming.cut_everywhere.Goals as goal

pub cut_around-requires-clause-key : goal.cut_around-requires-clause-key
cut_around-requires-clause-key g c = rw c.loop-i.invariant.base c.requires.key

pub cut_around-requires-clause-one : goal.cut_around-requires-clause-one
cut_around-requires-clause-one g c = rw c.loop-i.invariant.base c.requires.one

pub cut_around-requires-clause-cut : goal.cut_around-requires-clause-cut
cut_around-requires-clause-cut g c = rw c.loop-i.invariant.base c.loop-i.invariant.cut

pub cut_around-requires-clause-count : goal.cut_around-requires-clause-count
cut_around-requires-clause-count g c = rw c.loop-i.invariant.base c.loop-i.invariant.count

pub loop-i-init : goal.loop-i-init
loop-i-init g c =
    let m = g.S.System.model (g.S.System.base c.args.system.now) in
    let none = c.new-targets.ensures.items in
    record {
      base = refl;
      cut = none_cut m (visits_of c.args.search.now) c.args.label.now m.choices c.new-targets.result.items none;
      count = omega arith;
    }

pub loop-i-preserved : goal.loop-i-preserved
loop-i-preserved g c =
    let vs = visits_of c.args.search.now in
    let h = c.loop-i.invariant in
    let own = c.in_ok-cut_around.ensures in
    record {
      base = own.base ∙ h.base;
      cut = rw (← h.base) own.cut;
      count = rw (← h.base) own.count;
    }
