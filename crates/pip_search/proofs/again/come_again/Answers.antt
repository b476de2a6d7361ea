use Rattle.std.proofs.Common.{rules, ◌≡◌, ◌<◌, true, false, length, Some, slice_get, inl, inr, refl, ap, sym}
use Rattle.std.proofs.Common.{◌*◌}
use Rattle.std.proofs.Common.{◌∙◌, arith}
use Rattle.std.proofs.lemmas.Bool.{cases_lt}
use Rattle.std.proofs.lemmas.Option.{slice_get_read}
use Rattle.pip_search.specs.Graphs.{IsMarked}
use Rattle.pip_search.specs.Keys.{visits_of}
use Rattle.pip_search.proofs.Lost.{comes_again, is_lost, marked_comes, unmarked_lost}
use Rattle.pip_search.proofs.Steps.{visit_count}
use Rattle.pip_search.proofs.again.come_again.Goals as goal

pub loop-place-preserved : goal.loop-place-preserved
loop-place-preserved g c = λ j low.
    let marks = c.spread.new.marks.items in
    let inside : c.loop-place.place < length marks = omega (
      arith,
      c.loop-place-test.true,
      c.len-place-end.ensures,
      c.spread.new.marks.ok.0,
    ) in
    let here : IsMarked marks c.loop-place.place = slice_get_read marks (length marks) c.loop-place.place true refl
    inside (search rules) in
    elim (cases_lt j c.loop-place.place) [
      | inl less ↦ c.loop-place.invariant j less
      | inr most ↦ let is : c.loop-place.place ≡ j = omega arith in rw (← is) here
    ]

pub returns-then-not-index-clause-again : goal.returns-then-not-index-clause-again
returns-then-not-index-clause-again g c = λ x stands.
    let m = g.S.System.model (g.S.System.base c.args.system.now) in
    let z = c.args.search.now in
    let e = c.in_ok-edges.ensures in
    let s = c.in_ok-spread.ensures in
    let targets = c.in_ok-edges.edges.hashes.items in
    let flags = c.in_ok-edges.marks.items in
    let marks = c.spread.new.marks.items in
    let label = c.args.label.now in
    let width = c.args.width in
    let vs = visits_of z in
    let all = visit_count z c.requires.closed.searching.keyed in
    let places = e.places ∙ sym all in
    let count = e.count ∙ ap (λ n. n * width) (sym all) in
    let rows : length marks ≡ length vs = cc (s.count) in
    let inside : c.loop-place.place < length marks = omega (
      arith,
      c.loop-place-test.true,
      c.len-place-end.ensures,
      c.spread.new.marks.ok.0,
    ) in
    let none : slice_get marks c.loop-place.place ≡ Some false = slice_get_read marks (length marks)
    c.loop-place.place false refl inside (search rules) in
    is_lost m c.args.start.now z c.requires.closed label width marks rows
    (marked_comes m vs label width c.requires.width targets flags marks e.edges e.flags count places rows
    s.sound s.keeps s.closed)
    (unmarked_lost m vs label width c.requires.width targets flags marks e.edges e.flags count places rows
    s.sound s.keeps s.closed)
    x stands c.loop-place.place none c.loop-place.invariant

pub returns-clause-again : goal.returns-clause-again
returns-clause-again g c = λ x stands.
    let m = g.S.System.model (g.S.System.base c.args.system.now) in
    let z = c.args.search.now in
    let e = c.in_ok-edges.ensures in
    let s = c.in_ok-spread.ensures in
    let targets = c.in_ok-edges.edges.hashes.items in
    let flags = c.in_ok-edges.marks.items in
    let marks = c.spread.new.marks.items in
    let label = c.args.label.now in
    let width = c.args.width in
    let vs = visits_of z in
    let all = visit_count z c.requires.closed.searching.keyed in
    let places = e.places ∙ sym all in
    let count = e.count ∙ ap (λ n. n * width) (sym all) in
    let rows : length marks ≡ length vs = cc (s.count) in
    comes_again m c.args.start.now z c.requires.closed label width marks rows
    (marked_comes m vs label width c.requires.width targets flags marks e.edges e.flags count places rows
    s.sound s.keeps s.closed)
    (unmarked_lost m vs label width c.requires.width targets flags marks e.edges e.flags count places rows
    s.sound s.keeps s.closed)
    x stands (λ j low. c.loop-place.invariant j (omega (
      arith,
      low,
      c.loop-place-test.false,
      c.len-place-end.ensures,
      c.spread.new.marks.ok.0,
    )))
