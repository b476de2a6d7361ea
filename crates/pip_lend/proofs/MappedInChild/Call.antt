-- What a row says of its page, and what mappedInChild answers by it.
use Rattle.std.proofs.Common.{◌≡◌, ◌≢◌, ℕ, ◌*◌, ◌/◌, cond, inl, inr, not, [], ◌∷◌, refl, sym, ap, ◌∙◌, arith, Option}
use Rattle.std.proofs.Common.{Some, None}
use Rattle.std.specs.Prelude.{Err, is_some}
use Rattle.pip_base.specs.declared.outcome.Status.{Status}
use Rattle.pip_base.specs.declared.outcome.Status.TheVariants as S
use Rattle.pip_model.specs.Answers.{accept, answer_unless, first_met, is_mapped, page_of}
use Rattle.pip_model.specs.FullRows.{FullRow, full_rows, given_word, row_word}
use Rattle.pip_model.specs.declared.level.Level.TheVariants.{Mmu}
use Rattle.pip_space.proofs.Packed.{leaf_not_zero}
use Rattle.pip_model.specs.MappedInChild.{find_refusals, holder_born, mapped_in_child}
use Rattle.pip_model.specs.Sound.{IsSound}
use Rattle.pip_model.specs.Tree.{Node, Tree, find_node, holder, vpage}
use Rattle.pip_model.proofs.Frames.Laid.{full_back}
use Rattle.pip_model.proofs.Trees.Lookup.{cases_option, found_name}
use Rattle.pip_model.proofs.Frames.Shadows.{given_born, given_none}
use Rattle.pip_kern.proofs.Calls.{refused-answer}
use Rattle.pip_kern.specs.Calls.{IsAnswer}
use Rattle.pip_kern.proofs.Tested.{first_met-pass, first_met-stop, mapped-row, page_of-row}
use Rattle.pip_kern.specs.Tested.{place_tests}

module _ (t : Tree) (s : IsSound t) (p : ℕ) (x : Node) (found : find_node t p ≡ Some x) where
  -- a row says to whom its page is given
  pub row_says : (v : ℕ) (r : FullRow) → full_rows t x v ≡ Some r → r.given ≡ given_word t p r.frame
  row_says v r e =
      let (q, at, same) = full_back t x v r e in
      ap (λ z. z.given) same ∙ (ap (given_word t x.name) (sym (ap (λ z. z.frame) same))
      ∙ ap (λ a. given_word t a r.frame) (found_name t p x found))

  -- so it has the address of the child's descriptor, or 0
  born_said : (g : ℕ) → given_word t p g / 4096 * 4096 ≡ holder_born (holder t p g)
  born_said g = elim (cases_option (holder t p g)) [
    | inl none ↦ let zero_word = given_none t p g none in let zero : given_word t p g / 4096 * 4096 ≡ 0 = omega arith in
        zero ∙ sym (ap holder_born none)
    | inr y ↦ given_born t s p g y.0 y.1 ∙ sym (ap holder_born y.1)
  ]

  module _ (v : ℕ) (passed : first_met (place_tests (v ∷ [])) ≡ None) where
    by_row : (o : Option FullRow) → full_rows t x (vpage v) ≡ o
        → first_met (find_refusals t p v) ≡ cond (not (is_some o)) (Some S.NotMapped) None
    by_row o e =
        first_met-pass (place_tests (v ∷ [])) ((not (is_mapped t p (vpage v)), S.NotMapped) ∷ []) passed
        ∙ ap (λ b. cond (not b) (Some S.NotMapped) None) (mapped-row t s p x found (vpage v) ∙ ap is_some e)

    -- no row is NotMapped
    pub find-unmapped : full_rows t x (vpage v) ≡ None → first_met (find_refusals t p v) ≡ Some S.NotMapped
    unfolding by_row
    find-unmapped none = by_row None none

    -- and a row has the answer
    pub find-accepted : (r : FullRow) → full_rows t x (vpage v) ≡ Some r
        → ((mapped_in_child t p v).status ≡ S.Ok) × ((mapped_in_child t p v).value ≡ r.given / 4096 * 4096)
    unfolding by_row born_said
    find-accepted r e = (
      ap (λ o. (answer_unless t o (accept (holder_born (holder t p (page_of t p v))) t)).status) (by_row (Some r) e),
      ap (λ o. (answer_unless t o (accept (holder_born (holder t p (page_of t p v))) t)).value) (by_row (Some r) e)
          ∙ (ap (λ g. holder_born (holder t p g)) (page_of-row t s p x found v r e)
          ∙ (sym (born_said r.frame) ∙ ap (λ w. w / 4096 * 4096) (sym (row_says (vpage v) r e)))),
    )

-- what a refusal answers
pub find-refused : (t : Tree) (p v : ℕ) (q : Status) → first_met (find_refusals t p v) ≡ Some q
    → IsAnswer (Err q) (mapped_in_child t p v)
find-refused t p v q e =
    refused-answer t (find_refusals t p v) (accept (holder_born (holder t p (page_of t p v))) t) q refl e

-- also one for the place alone
pub find-misplaced : (t : Tree) (p v : ℕ) (q : Status) → first_met (place_tests (v ∷ [])) ≡ Some q
    → IsAnswer (Err q) (mapped_in_child t p v)
unfolding find-refused
find-misplaced t p v q e =
    find-refused t p v q (first_met-stop (place_tests (v ∷ [])) ((not (is_mapped t p (vpage v)), S.NotMapped) ∷ []) q e)

-- where the word of the MMU's table is 0, there is no row
pub zero_word : (o : Option FullRow) → row_word Mmu o ≡ 0 → o ≡ None
zero_word None e = refl
zero_word (Some r) e = absurd (leaf_not_zero r e)

-- else there is one
pub row_by_word : (o : Option FullRow) (w : ℕ) → w ≡ row_word Mmu o → w ≢ 0 → (r : FullRow) × (o ≡ Some r)
row_by_word None w is other = absurd (other is)
row_by_word (Some r) w is other = (r, refl)
