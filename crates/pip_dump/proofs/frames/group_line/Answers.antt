use Rattle.std.proofs.Common.{ℕ, ◌+◌, ◌*◌, ◌++◌, List, [], ◌∷◌, ap, sym, ◌∙◌, append_assoc, arith, get_or}
use Rattle.std.specs.Prelude.{codes, flat_map}
use Rattle.std.proofs.lemmas.List.{append-nil}
use Rattle.pip_model.specs.Text.{word_digits}
use Rattle.pip_dump.proofs.Groups.{numbers_end, piece_more}
use Rattle.pip_dump.proofs.frames.group_line.Goals as goal

abbrev shown : List ℕ → ℕ → List ℕ
shown words j = codes " " ++ word_digits (get_or words j 0)

pub loop-i-preserved : goal.loop-i-preserved
loop-i-preserved c =
    let inside = c.loop-i-test.true in
    let room = c.loop-i.invariant.room in
    let first = c.push_str-in-loop-i.ensures.len in
    let second = c.push_digits.ensures.length in
    let digits = word_digits (get_or c.args.words.now c.loop-i.i 0) in
    let both = c.push_digits.ensures.bytes ∙ (ap (λ l. l ++ digits) c.push_str-in-loop-i.ensures.bytes
    ∙ append_assoc c.loop-i.text.bytes (codes " ") digits) in
    record {
      high = omega (arith, inside);
      room = omega (arith, inside, room, first, second);
      rest = piece_more (shown c.args.words.now) c.loop-i.i (8 * c.args.k + 8) c.loop-i.text.bytes _ inside both
          ∙ c.loop-i.invariant.rest;
    }

pub returns : goal.returns
returns c =
    let over = c.loop-i-test.false in
    c.push_str-2.ensures.bytes
    ∙ ap (λ l. l ++ 10 ∷ []) (sym (append-nil c.loop-i.text.bytes)
    ∙ (ap (λ l. c.loop-i.text.bytes ++ flat_map (shown c.args.words.now) l)
    (sym (numbers_end c.loop-i.i (8 * c.args.k + 8) over)) ∙ c.loop-i.invariant.rest))
