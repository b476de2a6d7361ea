use Rattle.std.proofs.Common.{arith, subst, ◌≡◌, ◌++◌, ◌∷◌, [], List, length, refl}
use Rattle.std.proofs.lemmas.List.{length-append}
use Rattle.pip_base.specs.declared.types.Pair.{Pair}
use Rattle.pip_model.specs.Tree.{Table, table_pairs}
use Rattle.pip_config.specs.Lists.{HasList}
use Rattle.pip_test_tables.proofs.config.push_all.Goals as goal

-- three pairs are a table's
table_of : (ps : List Pair) → length ps ≡ 3 → (t : Table) × (table_pairs t ≡ ps)
table_of [] e = absurd (omega arith)
table_of (a ∷ []) e = absurd (omega arith)
table_of (a ∷ b ∷ []) e = absurd (omega arith)
table_of (a ∷ b ∷ c ∷ []) e = (record { index = 0; mmu = a; shadow1 = b; shadow2 = c }, refl)
table_of (a ∷ b ∷ c ∷ d ∷ ps) e = absurd (omega arith)

pub push_slot-requires : goal.push_slot-requires
push_slot-requires g c =
    let h = c.loop-m.invariant in
    let one = h.1 in
    let most = c.requires.most in
    let below = c.loop-m-test.true in
    record { list = h.0; room = omega arith }

pub loop-m-preserved : goal.loop-m-preserved
loop-m-preserved g c =
    let h = c.loop-m.invariant in
    let one = h.1 in
    let most = c.requires.most in
    let below = c.loop-m-test.true in
    let (t, pairs) = table_of c.slot.result c.slot.ensures in
    let n = length-append h.0.tables (t ∷ []) in
    let count = h.0.count in
    let put = c.push_slot.ensures.list h.0.more h.0.tables t h.0.is_in h.0.count (omega arith) pairs in
    (record { more = h.0.more; tables = h.0.tables ++ t ∷ []; is_in = put.0; count = omega arith }, h.1)

pub returns : goal.returns
returns g c =
    let all : c.loop-m.m ≡ c.args.n = grind arith in
    subst (λ n. (h : HasList (g.M.Frames.memory c.loop-m.mem) c.args.first n) × (length h.more ≡ 1)) all
    c.loop-m.invariant
