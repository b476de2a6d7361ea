use Rattle.std.proofs.Common.{◌≡◌, ◌+◌, ◌*◌, arith, sym, ap, ◌∙◌}
use Rattle.pip_base.specs.Memory.{word_at}
use Rattle.pip_model.specs.Boot.{boot_table, tables_of_root}
use Rattle.pip_model.specs.Parts.{same_table}
use Rattle.pip_audit.proofs.BootRoot.{base_words, here_last, here_less, here_more, root_table, table_here, tables_all}
use Rattle.pip_audit.proofs.BootRoot.{tables_here, tables_other}
use Rattle.pip_audit.proofs.boot.has_boot_tables.Goals as goal

pub returns-then-found-count : goal.returns-then-found-count
returns-then-found-count g c =
    let m = g.M.Frames.memory c.args.mem.now in
    let root = c.new.ensures in
    let word : c.word-found.result ≡ word_at m 1 12 = c.word-found.ensures.word ∙ ap (λ f. word_at m f 12) root in
    let number = c.root_tables-count.ensures.number in
    let count = c.count.ensures in
    let t = c.if-found-count.true in
    sym (tables_other m c.root_tables-count.result (number ∙ ap tables_of_root count)
    (λ z. absurd (omega (arith, word, t, z))))

pub loop-k-init : goal.loop-k-init
loop-k-init g c =
    let m = g.M.Frames.memory c.args.mem.now in
    let root = c.new.ensures in
    let word : c.word-found.result ≡ word_at m 1 12 = c.word-found.ensures.word ∙ ap (λ f. word_at m f 12) root in
    let number = c.root_tables-count.ensures.number in
    let t = c.if-found-count.false in
    tables_all m c.root_tables-count.result (omega (arith, word, t)) (number ∙ ap tables_of_root c.count.ensures)

pub returns-then-not-is_boot_slot : goal.returns-then-not-is_boot_slot
returns-then-not-is_boot_slot g c =
    let m = g.M.Frames.memory c.args.mem.now in
    let count = c.root_tables-count.result in
    let k = c.loop-k.k in
    let low = c.loop-k-test.true in
    let here =
    table_here m count k (base_words m c.requires.base) (omega (arith, low)) c.root_tables-count.ensures.few in
    sym (c.loop-k.invariant ∙ here_less (root_table m (count + 1)) count k low (ap (λ t. same_table t
    (boot_table (1 + k) (6 + 3 * k))) (sym here) ∙ sym c.is_boot_slot.ensures ∙ c.if-not-is_boot_slot.true))

pub loop-k-preserved : goal.loop-k-preserved
loop-k-preserved g c =
    let m = g.M.Frames.memory c.args.mem.now in
    let count = c.root_tables-count.result in
    let k = c.loop-k.k in
    let low = c.loop-k-test.true in
    let here =
    table_here m count k (base_words m c.requires.base) (omega (arith, low)) c.root_tables-count.ensures.few in
    c.loop-k.invariant ∙ here_more (root_table m (count + 1)) count k low (ap (λ t. same_table t
    (boot_table (1 + k) (6 + 3 * k))) (sym here) ∙ sym c.is_boot_slot.ensures ∙ c.if-not-is_boot_slot.false)

pub returns : goal.returns
returns g c =
    let m = g.M.Frames.memory c.args.mem.now in
    let count = c.root_tables-count.result in
    let past = c.loop-k-test.false in
    let far = c.loop-k.far-k in
    let end : c.loop-k.k ≡ count = omega (arith, past, far) in
    let here = table_here m count count (base_words m c.requires.base) (omega arith) c.root_tables-count.ensures.few in
    sym (c.loop-k.invariant ∙ ap (λ k. tables_here (root_table m (count + 1)) count k) end
    ∙ here_last (root_table m (count + 1)) count
    ∙ ap (λ t. same_table t (boot_table 1023 (6 + 3 * count))) (sym here) ∙ sym c.is_boot_slot-2.ensures)
