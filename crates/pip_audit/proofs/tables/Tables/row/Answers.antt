use Rattle.std.proofs.Common.{◌≡◌, ◌≢◌, ◌/◌, ◌%◌, ◌<◌, length, refl, sym, ap, ◌∙◌, subst, arith, Some}
use Rattle.pip_base.specs.Memory.{word_at}
use Rattle.pip_audit.specs.Tables.{IsRowAt, tables_in}
use Rattle.pip_audit.proofs.Rows.{a_word, no_row, no_word, row_by_word, row_inside}
use Rattle.pip_audit.proofs.tables.Tables.row.Goals as goal

pub returns-in_err-tables : goal.returns-in_err-tables
returns-in_err-tables g c =
    let m = g.M.Frames.memory c.args.mem.now in
    let small = c.requires.small in
    let of = c.requires.of.of (c.args.v / 1024) (omega (arith, small)) in
    subst (IsRowAt m (tables_in m c.args.self.now.part) c.args.v) (sym c.from_residual.ensures)
    (no_row m (tables_in m c.args.self.now.part) c.args.v (sym of ∙ sym c.in_err-tables.ensures))

pub returns-then-word-eq0 : goal.returns-then-word-eq0
returns-then-word-eq0 g c =
    let m = g.M.Frames.memory c.args.mem.now in
    let small = c.requires.small in
    let b = c.in_ok-tables.tables in
    let of = c.requires.of.of (c.args.v / 1024) (omega (arith, small)) in
    let w = c.word-word.ensures.word in
    let t = c.if-word-eq0.true in
    let z : word_at m b.mmu (c.args.v % 1024) ≡ 0 = omega (arith, w, t) in
    row_by_word m (tables_in m c.args.self.now.part) c.args.v b (sym of ∙ sym c.in_ok-tables.ensures)
    ∙ no_word c.args.v (word_at m b.mmu (c.args.v % 1024)) z

pub returns : goal.returns
returns g c =
    let m = g.M.Frames.memory c.args.mem.now in
    let small = c.requires.small in
    let b = c.in_ok-tables.tables in
    let of = c.requires.of.of (c.args.v / 1024) (omega (arith, small)) in
    let w = c.word-word.ensures.word in
    let t = c.if-word-eq0.false in
    let ne : word_at m b.mmu (c.args.v % 1024) ≢ 0 = λ z. absurd (omega (arith, w, t, z)) in
    let inside = row_inside m b.mmu (c.args.v % 1024) (c.requires.of.leaves (c.args.v / 1024) (c.args.v % 1024) b
    (sym c.in_ok-tables.ensures) (omega arith)) ne in (
      refl,
      subst (λ x. x / 4096 < length m) (sym w) inside,
      row_by_word m (tables_in m c.args.self.now.part) c.args.v b (sym of ∙ sym c.in_ok-tables.ensures)
          ∙ a_word c.args.v (word_at m b.mmu (c.args.v % 1024)) ne
          ∙ ap (λ x. Some (record { at = c.args.v; frame = x / 4096; rights = x / 4 % 8 })) (sym w),
    )
