use Rattle.std.proofs.Common.{◌≡◌, ℕ, ◌<◌, arith, sym, ap, ◌∙◌, subst, Bool, true, false}
use Rattle.pip_base.specs.Memory.{word_at}
use Rattle.pip_audit.specs.BootRows.{HasBootRow}
use Rattle.pip_audit.specs.Judging.{Says}
use Rattle.pip_audit.specs.Tables.{tables_in}
use Rattle.pip_audit.proofs.BootRoot.{part_boot_root_breaks, part_boot_root_says, tables_equal}
use Rattle.pip_audit.proofs.auditor.Auditor.has_boot_root.Goals as goal

clash : (b : Bool) → b ≡ false → b ≡ true → ⊥
clash true p q = cc
clash false p q = cc

pub returns-then-up-ne1-clause-tests : goal.returns-then-up-ne1-clause-tests
returns-then-up-ne1-clause-tests g c =
    let m = g.M.Frames.memory c.args.mem.now in
    let bounds = g.met.M.Frames.bounds c.args.mem.now in
    let root = c.new-root.ensures in
    let word : c.word-up.result ≡ word_at m 1 11 = c.word-up.ensures.word ∙ ap (λ f. word_at m f 11) root in
    let t = c.if-up-ne1.true in
    part_boot_root_breaks m c.args.self.now bounds.0 bounds.1 c.requires
    (λ b. let up = b.up in absurd (omega (arith, word, t, up)))

pub returns-then-not-has_boot_base-clause-tests : goal.returns-then-not-has_boot_base-clause-tests
returns-then-not-has_boot_base-clause-tests g c =
    let m = g.M.Frames.memory c.args.mem.now in
    let bounds = g.met.M.Frames.bounds c.args.mem.now in
    part_boot_root_breaks m c.args.self.now bounds.0 bounds.1 c.requires
    (λ b. clash _ (sym c.has_boot_base.ensures ∙ c.if-not-has_boot_base.true) b.base)

pub has_boot_tables-requires : goal.has_boot_tables-requires
has_boot_tables-requires g c =
    record { base = sym c.has_boot_base.ensures ∙ c.if-not-has_boot_base.false }

pub returns-then-not-has_boot_tables-clause-tests : goal.returns-then-not-has_boot_tables-clause-tests
returns-then-not-has_boot_tables-clause-tests g c =
    let m = g.M.Frames.memory c.args.mem.now in
    let bounds = g.met.M.Frames.bounds c.args.mem.now in
    part_boot_root_breaks m c.args.self.now bounds.0 bounds.1 c.requires
    (λ b. clash _ (sym c.has_boot_tables.ensures ∙ c.if-not-has_boot_tables.true) b.tables)

pub has_boot_rows-requires-clause-tables : goal.has_boot_rows-requires-clause-tables
has_boot_rows-requires-clause-tables g c =
    let m = g.M.Frames.memory c.args.mem.now in
    ap (tables_in m) (c.load.ensures.part ∙ c.new-root.ensures)
    ∙ tables_equal m (sym c.has_boot_tables.ensures ∙ c.if-not-has_boot_tables.false)

pub returns-clause-tests : goal.returns-clause-tests
returns-clause-tests g c =
    let m = g.M.Frames.memory c.args.mem.now in
    let bounds = g.met.M.Frames.bounds c.args.mem.now in
    let root = c.new-root.ensures in
    let word : c.word-up.result ≡ word_at m 1 11 = c.word-up.ensures.word ∙ ap (λ f. word_at m f 11) root in
    let t = c.if-up-ne1.false in
    part_boot_root_says m c.args.self.now bounds.0 bounds.1 c.requires c.has_boot_rows.result (omega (arith, word, t))
    (sym c.has_boot_base.ensures ∙ c.if-not-has_boot_base.false)
    (sym c.has_boot_tables.ensures ∙ c.if-not-has_boot_tables.false)
    (subst (λ f. Says c.has_boot_rows.result ((v : ℕ) → v < 1048576 → HasBootRow m (tables_in m f) v))
    (c.load.ensures.part ∙ root) c.has_boot_rows.ensures)
