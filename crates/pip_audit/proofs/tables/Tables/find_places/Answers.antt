use Rattle.std.proofs.Common.{◌<◌, ◌==◌, Some, None, cond, arith, ◌∙◌, sym, ap, subst, get_or}
use Rattle.pip_base.specs.Memory.{frame_at, word_at}
use Rattle.pip_base.specs.Words.{directory_word}
use Rattle.pip_model.specs.ReadOff.{or_first}
use Rattle.pip_audit.proofs.Places.{place_all, place_next, place_none, place_to}
use Rattle.pip_audit.proofs.tables.Tables.find_places.Goals as goal

pub loop-i-init : goal.loop-i-init
loop-i-init g c = record {
  high = omega arith;
  room = c.clear_places.ensures.room;
  places =
      λ f h. c.clear_places.ensures.none f ∙ sym (place_none (g.M.Frames.memory c.args.mem.now) c.args.directory f);
  rest = c.clear_places.ensures.rest;
}

pub loop-i-preserved : goal.loop-i-preserved
unfolding frame_at word_at
loop-i-preserved g c =
    let m = g.M.Frames.memory c.args.mem.now in
    let (inside, some, zeros, above) = c.in-Some.ensures in
    let i = c.in-Some.i in
    let inv = c.loop-i.invariant in
    let words = c.frame-words.ensures.words in
    record {
      high = omega (arith, inside);
      room = c.hold_place.ensures.room ∙ inv.room;
      places = λ f h.
          c.hold_place.ensures.places f (subst (λ n. f < n) (sym (inv.room ∙ c.requires.room)) h)
          ∙ (ap (λ o. or_first o (cond (get_or c.frame-words.result.now i 0 == directory_word f) (Some i) None))
          (inv.places f h ∙ sym (place_to m c.args.directory f c.loop-i.from i above
          (λ j low high. ap (λ ws. get_or ws j 0) (sym words) ∙ zeros j low high)))
          ∙ place_next m c.args.directory f i (get_or c.frame-words.result.now i 0) (ap (λ ws. get_or ws i 0) words));
      rest = (
        c.hold_place.ensures.rest.0 ∙ inv.rest.0,
        c.hold_place.ensures.rest.1 ∙ inv.rest.1,
        c.hold_place.ensures.rest.2 ∙ inv.rest.2,
      );
    }

pub returns-clause-places : goal.returns-clause-places
unfolding frame_at word_at
returns-clause-places g c f h =
    let m = g.M.Frames.memory c.args.mem.now in
    let words = c.frame-words.ensures.words in
    c.loop-i.invariant.places f h
    ∙ sym (place_to m c.args.directory f c.loop-i.from 1024 c.loop-i.invariant.high
    (λ j low high. ap (λ ws. get_or ws j 0) (sym words) ∙ c.in_default.ensures j low high))
    ∙ place_all m c.args.directory f
