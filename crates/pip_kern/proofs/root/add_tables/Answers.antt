use Rattle.std.proofs.Common.{arith, sym, ap, subst, ◌∙◌, refl, ◌≡◌, ℕ, suc, ◌+◌, ◌*◌, ◌++◌, ◌∷◌, [], length}
use Rattle.pip_base.specs.Memory.{Memory}
use Rattle.pip_model.specs.Boot.{boot_table, first_user, tables_from, tables_of_root}
use Rattle.pip_model.specs.Booting.{tables_begin}
use Rattle.pip_model.specs.Tree.{table_pairs}
use Rattle.pip_model.proofs.Frames.Booting.{tables_end, tables_more}
use Rattle.pip_kern.specs.Boot.{HoldsRoot, no_rows}
use Rattle.pip_kern.proofs.RootFilled.{has_install, installed}
use Rattle.pip_kern.proofs.root.add_tables.Goals as goal

-- one turn: the record of the longer list
turned : (n k : ℕ) (m : Memory)
    → HoldsRoot n (k + 1 + 1) (6 + 3 * k + 3) (tables_begin k 1 6 ++ boot_table (k + 1) (6 + 3 * k) ∷ []) no_rows m
    → HoldsRoot n (k + 1 + 1) (6 + 3 * (k + 1)) (tables_begin (k + 1) 1 6) no_rows m
turned n k m h =
    let more : k + 1 ≡ suc k = omega arith in
    let index : 1 + k ≡ k + 1 = omega arith in
    let page : 6 + 3 * k + 3 ≡ 6 + 3 * (k + 1) = omega arith in
    let list : tables_begin k 1 6 ++ boot_table (k + 1) (6 + 3 * k) ∷ [] ≡ tables_begin (k + 1) 1 6 =
    cc (tables_more k 1 6) in
    rw (← list) (subst (λ g. HoldsRoot n (k + 1 + 1) g (tables_begin k 1 6 ++ boot_table (k + 1) (6 + 3 * k) ∷ [])
    no_rows m) page h)

-- the end: the record of all tables
ended : (n : ℕ) (m : Memory) → HoldsRoot n 1024 (6 + 3 * tables_of_root n + 3) (tables_begin (tables_of_root n) 1 6
    ++ boot_table 1023 (6 + 3 * tables_of_root n) ∷ []) no_rows m
    → HoldsRoot n 1024 (first_user n) (tables_from (tables_of_root n) 1 6) no_rows m
ended n m h =
    let page : 6 + 3 * tables_of_root n + 3 ≡ first_user n = omega arith in
    rw (← page) (subst (λ ts. HoldsRoot n 1024 (6 + 3 * tables_of_root n + 3) ts no_rows m)
    (tables_end (tables_of_root n) 1 6) h)

pub install_table-requires-clause-can : goal.install_table-requires-clause-can
install_table-requires-clause-can g c =
    let n = length (g.M.Frames.memory c.args.mem.now) in
    let least = (g.met.M.Frames.bounds c.args.mem.now).0 in
    let most = (g.met.M.Frames.bounds c.args.mem.now).1 in
    let number = c.requires.number in
    let test = c.loop-k-test.true in
    has_install n (c.loop-k.k + 1) (6 + 3 * c.loop-k.k) (tables_begin c.loop-k.k 1 6) (g.M.Frames.memory c.loop-k.mem)
    c.loop-k.invariant (omega arith) (c.loop-k.k + 1) (omega arith) (omega arith) (omega arith)
    c.new-root.result (c.loop-k.k + 1) c.slot_at.result c.new-root.ensures refl c.slot_at.ensures

pub loop-k-preserved : goal.loop-k-preserved
loop-k-preserved g c =
    let n = length (g.M.Frames.memory c.args.mem.now) in
    let least = (g.met.M.Frames.bounds c.args.mem.now).0 in
    let most = (g.met.M.Frames.bounds c.args.mem.now).1 in
    let number = c.requires.number in
    let test = c.loop-k-test.true in
    turned n c.loop-k.k (g.M.Frames.memory c.install_table.new.mem)
    (installed n (c.loop-k.k + 1) (6 + 3 * c.loop-k.k) (tables_begin c.loop-k.k 1 6) (g.M.Frames.memory c.loop-k.mem)
    c.loop-k.invariant (omega arith) (c.loop-k.k + 1) (omega arith) (omega arith) (omega arith)
    (g.M.Frames.memory c.install_table.new.mem) c.new-root.result (c.loop-k.k + 1) c.slot_at.result c.new-root.ensures
    refl c.slot_at.ensures c.install_table.ensures.node)

pub install_table-requires-2-clause-can : goal.install_table-requires-2-clause-can
install_table-requires-2-clause-can g c =
    let n = length (g.M.Frames.memory c.args.mem.now) in
    let least = (g.met.M.Frames.bounds c.args.mem.now).0 in
    let most = (g.met.M.Frames.bounds c.args.mem.now).1 in
    let number = c.requires.number in
    let all : c.loop-k.k ≡ c.args.tables = grind arith in
    let slot = subst (λ k. table_pairs (boot_table 0 (6 + 3 * k)) ≡ c.slot_at-2.result) (sym all) c.slot_at-2.ensures in
    has_install n (c.loop-k.k + 1) (6 + 3 * c.loop-k.k) (tables_begin c.loop-k.k 1 6) (g.M.Frames.memory c.loop-k.mem)
    c.loop-k.invariant (omega arith) 1023 (omega arith) (omega arith) (omega arith)
    c.new-root.result 1023 c.slot_at-2.result c.new-root.ensures refl slot

pub returns : goal.returns
returns g c =
    let n = length (g.M.Frames.memory c.args.mem.now) in
    let least = (g.met.M.Frames.bounds c.args.mem.now).0 in
    let most = (g.met.M.Frames.bounds c.args.mem.now).1 in
    let number = c.requires.number in
    let all : c.loop-k.k ≡ c.args.tables = grind arith in
    let last : c.loop-k.k ≡ tables_of_root n = cc in
    let slot = subst (λ k. table_pairs (boot_table 0 (6 + 3 * k)) ≡ c.slot_at-2.result) (sym all) c.slot_at-2.ensures in
    let done = installed n (c.loop-k.k + 1) (6 + 3 * c.loop-k.k) (tables_begin c.loop-k.k 1 6)
    (g.M.Frames.memory c.loop-k.mem) c.loop-k.invariant (omega arith) 1023 (omega arith) (omega arith) (omega arith)
    (g.M.Frames.memory c.install_table-2.new.mem) c.new-root.result 1023 c.slot_at-2.result c.new-root.ensures refl slot
    c.install_table-2.ensures.node in
    ended n (g.M.Frames.memory c.install_table-2.new.mem)
    (rw (← last) done)
