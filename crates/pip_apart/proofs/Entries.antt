-- What the root's row and its load of an entry say of the line.
use Rattle.std.proofs.Common.{◌≡◌, ℕ, zero, suc, ◌+◌, ◌-◌, ◌<◌, ◌==◌, arith, Bool, true, false, not, cond, refl, sym}
use Rattle.std.proofs.Common.{ap, ◌∙◌, subst}
use Rattle.std.proofs.Common.{Option, Some, None, Result, Ok, Err}
use Rattle.std.specs.Prelude.{is_none}
use Rattle.pip_base.specs.declared.types.Access.TheVariants.{Load}
use Rattle.pip_base.specs.declared.types.Size.TheVariants.{Word}
use Rattle.pip_kern.specs.Tested.{is_ungiven}
use Rattle.pip_kern.proofs.Tested.{free-row}
use Rattle.pip_mmu.specs.Answers.{load_answer}
use Rattle.pip_mmu.specs.declared.faults.AccessFault.{AccessFault}
use Rattle.pip_model.specs.FullRows.{FullRow, full_row, full_rows}
use Rattle.pip_model.specs.Reach.{Faulted, Place, Reached, reach, word_reached}
use Rattle.pip_model.specs.Sound.{IsSound}
use Rattle.pip_model.specs.Tree.{Node, Row, Tree, find_node, holder, is_free_row, node, row_at, vpage}
use Rattle.pip_model.proofs.Frames.Laid.{full_back}
use Rattle.pip_model.proofs.Frames.ReadBack.{full-at}
use Rattle.pip_model.proofs.Trees.Ancestry.{root_is_one}
use Rattle.pip_model.proofs.Trees.Lookup.{node_is, root_found, same_found}
use Rattle.pip_apart.specs.Company.{entry_at}
use Rattle.pip_apart.specs.Tops.{first_before, first_some, is_lent, is_set, might_take}

-- the root, by its name
root_is : (t : Tree) → IsSound t → (x : Node) → find_node t 1 ≡ Some x → x ≡ t.root
root_is t s x found =
    same_found t 1 x t.root found (subst (λ n. find_node t n ≡ Some t.root) (root_is_one t s) (root_found t))

module _ (t : Tree) (s : IsSound t) (x : Node) (found : find_node t 1 ≡ Some x) (v : ℕ) where
  -- a row says whether a child has its page
  pub lent_row : (o : Option FullRow) (r : FullRow) (free : Bool) → o ≡ full_rows t x v → o ≡ Some r
      → free ≡ is_ungiven r → not free ≡ is_lent t (row_at t.root.rows v)
  lent_row o r free is some said =
      let full : full_rows t x v ≡ Some r = cc in
      let (q, at, same) = full_back t x v r full in
      let root = root_is t s x found in
      let here : row_at t.root.rows v ≡ Some q = cc in
      let one : is_none (holder t t.root.name q.frame) ≡ is_none (holder t 1 q.frame) =
      cc (root_is_one t s) in
      let row : row_at (node t 1).rows v ≡ Some q = rw (node_is t 1 x found, at) in
      let tells : is_none (holder t 1 q.frame) ≡ is_ungiven r =
      cc (free-row t s 1 x found v r full) in
      ap not (said ∙ sym tells ∙ sym one) ∙ sym (rw here)

  -- where there is no row, none has
  pub no_row : (o : Option FullRow) → o ≡ full_rows t x v → o ≡ None → false ≡ is_lent t (row_at t.root.rows v)
  no_row o is none = go (row_at t.root.rows v) refl
    where
      go : (q : Option Row) → row_at t.root.rows v ≡ q → false ≡ is_lent t q
      go None e = refl
      go (Some q) e =
          let at : row_at x.rows v ≡ Some q = rw (root_is t s x found, e) in
          let full : full_rows t x v ≡ full_row t x (Some q) = full-at t x v (Some q) at in
          let bad : None ≡ full_row t x (Some q) = cc in cc

-- ---- the word

loaded : (t : Tree) (q : Reached) (va : ℕ) (w : ℕ) → Ok w ≡ load_answer t va Word q → word_reached t q ≡ Some w
loaded t (Place g i) va w e = cc
loaded t (Faulted f) va w e = cc

faulted : (t : Tree) (q : Reached) (va : ℕ) (f : AccessFault) → Err f ≡ load_answer t va Word q
    → word_reached t q ≡ None
faulted t (Place g i) va f e = cc
faulted t (Faulted f') va f e = refl

module _ (t : Tree) (s : IsSound t) (line va : ℕ) (is : va ≡ entry_at (32 + line)) (lent : Bool)
    (off : lent ≡ false) (said : lent ≡ is_lent t (row_at t.root.rows (vpage va))) (n : ℕ) (one : n ≡ 1)
    (o : Result ℕ AccessFault) (answer : o ≡ load_answer t va Word (reach t n va Load Word)) where
  none_lent : is_lent t (row_at t.root.rows (vpage (entry_at (32 + line)))) ≡ false
  none_lent = rw (← is, ← said, off)

  of_entry : reach t n va Load Word ≡ reach t t.root.name (entry_at (32 + line)) Load Word
  of_entry = cc (root_is_one t s)

  pub word_tells : (w : ℕ) → o ≡ Ok w → not (w == 0) ≡ might_take t line
  word_tells w e =
      sym (rw (none_lent, ← of_entry, loaded t (reach t n va Load Word) va w (sym e ∙ answer)))

  pub fault_tells : (f : AccessFault) → o ≡ Err f → false ≡ might_take t line
  fault_tells f e =
      sym (rw (none_lent, ← of_entry, faulted t (reach t n va Load Word) va f (sym e ∙ answer)))

-- ---- the first

-- the first of fewer numbers is the first of more
pub first_later : (f : ℕ → Bool) (n m k : ℕ) → first_before f n ≡ Some k → first_before f (n + m) ≡ Some k
first_later f n zero k e = let z : n + zero ≡ n = omega arith in rw (z, e)
first_later f n (suc m) k e =
    let one : n + suc m ≡ suc (n + m) = omega arith in
    rw (one, first_later f n m k e)

-- one for which it is so, after those for which it isn't, is the first
pub first_here : (f : ℕ → Bool) (n k : ℕ) (b : Bool) → first_before f k ≡ None → b ≡ f k → b ≡ true → k < n
    → Some k ≡ first_before f n
first_here f n k b none is on l =
    let one : first_before f (suc k) ≡ Some k =
    rw (none, ← is, on) in
    let rest : n ≡ suc k + (n - suc k) = omega arith in
    rw (← first_later f (suc k) (n - suc k) k one, ← rest)
