-- How many pages a child needs, by its directory and the number of its tables; and the answer of countToMap.
use Rattle.std.proofs.Common.{◌≡◌, ℕ, ◌+◌, ◌-◌, ◌/◌, cond, true, false, length, sym, ap, ◌∙◌, Some, None, refl}
use Rattle.std.specs.Prelude.{is_some, option_map, Err, Ok}
use Rattle.pip_base.specs.declared.outcome.Status.{Status}
use Rattle.pip_base.specs.Memory.{Memory}
use Rattle.pip_model.specs.Answers.{accept, answer_unless, child_of, first_met}
use Rattle.pip_model.specs.CountToMap.{count_refusals, count_to_map, pages_needed}
use Rattle.pip_model.specs.Layout.{LaysOut}
use Rattle.pip_model.specs.declared.level.Level.{Level}
use Rattle.pip_model.specs.FullRows.{cells_of, full_rows}
use Rattle.pip_model.specs.NodeIn.{NodeIn}
use Rattle.pip_model.specs.Sound.{IsSound}
use Rattle.pip_model.specs.Tree.{Node, Tree, child_at, has_table, lists, table_at, vpage}
use Rattle.pip_model.proofs.Frames.Laid.{laid_space}
use Rattle.pip_space.proofs.Tables.{has_table_found}
use Rattle.pip_kern.specs.Calls.{IsAnswer}
use Rattle.pip_kern.proofs.Calls.{child_of_is, named_child, refused-answer}

-- ---- one node

-- none, where there is a table
pub needed_none : (x : Node) (v number : ℕ) → number ≡ v → true ≡ is_some (table_at x.tables (number / 1024))
    → 0 ≡ pages_needed x v
needed_none x v number n e =
    let has : has_table x v ≡ true =
    has_table_found x v ∙ (ap (λ k. is_some (table_at x.tables (k / 1024))) (sym n) ∙ sym e) in
    sym (ap (λ b. cond b 0 (3 + lists (length x.tables + 1) - lists (length x.tables))) has)

-- else three, and those that a further slot needs
pub needed_some : (x : Node) (v number : ℕ) → number ≡ v → false ≡ is_some (table_at x.tables (number / 1024))
    → (m more now : ℕ) → m ≡ length x.tables → more ≡ lists (m + 1) → now ≡ lists m → 3 + more - now ≡ pages_needed x v
needed_some x v number n e m more now m_is more_is now_is =
    let has : has_table x v ≡ false =
    has_table_found x v ∙ (ap (λ k. is_some (table_at x.tables (k / 1024))) (sym n) ∙ sym e) in
    ap (λ k. 3 + k - now) more_is
    ∙ (ap (λ k. 3 + lists (m + 1) - k) now_is
    ∙ (ap (λ k. 3 + lists (k + 1) - lists k) m_is
    ∙ sym (ap (λ b. cond b 0 (3 + lists (length x.tables + 1) - lists (length x.tables))) has)))

-- ---- the child that is named

-- what is said of each node of this name is said of the child
pub child_needs : (t : Tree) → IsSound t → (m : Memory) → LaysOut t m → (p d cv c v n : ℕ)
    → option_map (λ (y : Node). y.name) (child_at t p d) ≡ Some c → v ≡ cv / 4096
    → ((x : Node) (cells : Level → ℕ → ℕ) → NodeIn m x cells → x.name ≡ c → n ≡ pages_needed x v)
    → n ≡ pages_needed (child_of t p d) (vpage cv)
child_needs t s m lays p d cv c v n child place says =
    let (y, is, name, found) = named_child t s p d c child in
    let space = laid_space t s m lays c y found in
    says y (cells_of (full_rows t y)) space.node name
    ∙ (ap (pages_needed y) place ∙ ap (λ z. pages_needed z (vpage cv)) (sym (child_of_is t p d y is)))

-- ---- the answer

-- a condition that is met is the answer
pub count-refused : (t : Tree) (p d cv : ℕ) (q : Status) → first_met (count_refusals t p d cv) ≡ Some q
    → IsAnswer (Err q) (count_to_map t p d cv)
count-refused t p d cv q e =
    refused-answer t (count_refusals t p d cv) (accept (pages_needed (child_of t p d) (vpage cv)) t) q refl e

-- where none is, the number of pages is
pub count-accepted : (t : Tree) (p d cv n : ℕ) → first_met (count_refusals t p d cv) ≡ None
    → n ≡ pages_needed (child_of t p d) (vpage cv) → IsAnswer (Ok n) (count_to_map t p d cv)
count-accepted t p d cv n e is = (
  ap (λ o. (answer_unless t o (accept (pages_needed (child_of t p d) (vpage cv)) t)).status) e,
  ap (λ o. (answer_unless t o (accept (pages_needed (child_of t p d) (vpage cv)) t)).value) e ∙ sym is,
)
