use Rattle.std.proofs.Common.{◌≤◌, ◌+◌, ◌-◌, ◌*◌, ◌/◌, inl, inr, refl, sym, arith, leb-true}
use Rattle.std.proofs.lemmas.Bool.{cases_lt}
use Rattle.pip_base.specs.Memory.{word_at}
use Rattle.pip_audit.specs.Links.{page_after}
use Rattle.pip_audit.proofs.PageWords.{end_word, no_slot_word}
use Rattle.pip_audit.proofs.wanted.lacks_slots.Goals as goal

pub returns-then-b-gt0 : goal.returns-then-b-gt0
returns-then-b-gt0 g c = λ on i h.
    let m = g.M.Frames.memory c.args.mem.now in
    let f = c.args.part in
    let k = c.args.k in
    let n = 32 * c.args.b + i in
    let page = page_after m (word_at m f 9) k in
    let some = c.if-b-gt0.true in
    let past : c.word-count.result ≤ 170 * k + (32 * c.args.b - 2) / 6 = leb-true _ _ on in
    elim (cases_lt n 1022) [
      | inl low ↦ sym (no_slot_word m f k n c.word-count.result page c.word-count.ensures.word refl
          (omega (arith, some)) low (omega (arith, past, some)))
      | inr high ↦ sym (end_word m f k n c.word-count.result page c.word-count.ensures.word refl high)
    ]
