use Rattle.std.proofs.Common.{rules, arith, refl, ◌≡◌, ◌∙◌, ◌+◌, ◌≤◌, ℕ, length, false, true, vec_len}
use Rattle.std.specs.Prelude.{Bool, IsTrue, Some, slice_get}
use Rattle.std.proofs.lemmas.List.{length-map}
use Rattle.std.proofs.lemmas.Option.{slice_get_read}
use Rattle.pip_search.specs.Parts.{portion_of, stop_of, stops}
use Rattle.pip_search.proofs.Making.{at-same}
use Rattle.pip_search.proofs.Picking.{map_at}
use Rattle.pip_search.proofs.Portioning.{walked_more, walked_row, walked_start}
use Rattle.pip_search.proofs.parts.meet_all.Goals as goal

pub meet-requires-clause-key : goal.meet-requires-clause-key
meet-requires-clause-key g c = rw c.loop-choice.invariant.base c.requires.key

pub returns-clause-walked : goal.returns-clause-walked
returns-clause-walked g c = λ from w.
    let m = g.S.System.model (g.S.System.base c.args.system.now) in
    let all : c.loop-choice.choice ≡ m.choices = search rules in
    walked_row m c.args.marks.now from (portion_of c.loop-choice.part) c.args.i c.loop-choice.choice c.loop-choice.at
    (c.loop-choice.invariant.walked from w) all

few_more : (own : Bool) (k l first before at next : ℕ) → k + first ≤ before + at → at ≤ next
    → (IsTrue own → next ≡ at + 1) → l ≤ k + 1 → (own ≡ false → l ≡ k) → l + first ≤ before + next
few_more true k l first before at next few low used more other = omega (arith, few, low, used refl, more)
few_more false k l first before at next few low used more other = omega (arith, few, low, more, other refl)

pub loop-choice-init : goal.loop-choice-init
loop-choice-init g c =
    let m = g.S.System.model (g.S.System.base c.args.system.now) in
    let xs = c.args.part.now.keys.items in
    let fits = c.args.part.now.keys.ok.0 in
    let place = c.requires.place in
    let v = c.index.result.now in
    let at : slice_get xs c.args.i ≡ Some v = slice_get_read xs (length xs) c.args.i v refl (omega arith)
    c.index.ensures in
    let size : length (stops xs) ≡ length xs = length-map xs stop_of in
    record {
      base = refl;
      growing = c.requires.growing;
      hand = λ x e. rw (
        ← at-same (stops xs) c.args.i (stop_of v) x (map_at stop_of xs c.args.i v at) e,
        ←
            c.deref.ensures.value,
        ← c.in_ok-unpack.ensures,
      );
      within = c.requires.marks;
      place = place;
      keeps = λ key n h. h;
      kept = c.requires.kept;
      least = omega arith;
      walked = λ from w. walked_start m c.args.marks.now from (portion_of c.args.part.now) c.args.i c.args.first
          (omega arith) w;
      few = omega arith;
    }

pub loop-choice-preserved : goal.loop-choice-preserved
loop-choice-preserved g c =
    let m = g.S.System.model (g.S.System.base c.args.system.now) in
    let was = c.loop-choice.invariant in
    let now = c.in_ok-meet.ensures in
    let mark = c.next_mark-own.ensures in
    let own = c.next_mark-own.result.0 in
    let next = c.next_mark-own.result.1 in
    let p = c.loop-choice.part in
    let q = c.meet.new.part in
    record {
      base = now.base ∙ was.base;
      growing = rw (← was.base) now.growing;
      hand = now.hand;
      within = mark.within;
      place = omega arith;
      keeps = λ key n h. now.keeps key n (was.keeps key n h);
      kept = now.kept;
      least = omega arith;
      walked = λ from w. walked_more m c.args.marks.now from (portion_of p) (portion_of q) c.args.i c.loop-choice.choice
          c.loop-choice.at next own (was.walked from w) mark.is
          (rw (← was.base) now.moved);
      few = few_more own (vec_len p.keys) (vec_len q.keys) c.args.first (vec_len c.args.part.now.keys)
          c.loop-choice.at next was.few mark.least mark.used now.more now.other;
    }
