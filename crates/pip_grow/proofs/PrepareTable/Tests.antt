-- The chain of pages that prepare follows: from what the code answers of a page to the conditions of the model, and
-- from one page to the next.
use Rattle.std.proofs.Common.{◌≡◌, ℕ, suc, ◌-◌, ◌<◌, ◌≤◌, cond, List, [], ◌∷◌, length, sym, ap, ◌∙◌, subst, arith, Some}
use Rattle.std.proofs.Common.{None}
use Rattle.std.specs.Prelude.{is_some, not}
use Rattle.pip_base.specs.declared.outcome.Status.{Status}
use Rattle.pip_base.specs.declared.outcome.Status.TheVariants as S
use Rattle.pip_base.specs.declared.types.Pair.{Pair}
use Rattle.pip_base.specs.Memory.{Memory, word_at}
use Rattle.pip_model.specs.Answers.{first_met, is_mapped, page_of, pair_at, writable}
use Rattle.pip_model.specs.Layout.{LaysOut}
use Rattle.pip_model.specs.FullRows.{FullRow, full_rows}
use Rattle.pip_model.specs.Lists.{In}
use Rattle.pip_model.specs.Prepare.{PageChain, Pages, Refused, go_on, next_in_chain, page_chain, page_refusals}
use Rattle.pip_model.specs.Prepare.{put_first}
use Rattle.pip_model.specs.Sound.{IsSound}
use Rattle.pip_model.specs.Tree.{Node, Tree, find_node, free, row_pages, vpage, word_of}
use Rattle.pip_model.proofs.Frames.Laid.{free_words, full_back, held_frame, laid_words}
use Rattle.pip_model.proofs.Trees.Lookup.{node_is}
use Rattle.pip_model.proofs.Calls.Prepare.{page_may}
use Rattle.pip_model.proofs.Trees.RowLookup.{held_row}
use Rattle.pip_kern.specs.Tested.{is_ungiven}
use Rattle.pip_kern.proofs.Tested.{first_met-pass, free-row, mapped-row, page_of-row, writable-row}
use Rattle.pip_grow.specs.Chain.{address_tests, row_tests}

-- ---- one page

module _ (t : Tree) (s : IsSound t) (p : ℕ) (x : Node) (found : find_node t p ≡ Some x) where
  -- its page is a frame of the memory
  pub row_inside : (m : Memory) → LaysOut t m → (v : ℕ) (r : FullRow) → full_rows t x v ≡ Some r → r.frame < length m
  row_inside m lays v r e =
      let (q, at, same) = full_back t x v r e in
      let low = (held_frame t s p q.frame x found (held_row x v q at)).1 in
      let frame : r.frame ≡ q.frame = ap (λ z. z.frame) same in
      let count = lays.count in
      omega arith

  module _ (seen : List ℕ) (a : ℕ) (passed : first_met (address_tests seen a) ≡ None) where
    after_address : first_met (page_refusals t p seen a) ≡ cond (not (is_mapped t p (vpage a))) (Some S.NotMapped)
        (cond (not (free t p (vpage a))) (Some S.NotFree) (cond (not (writable t p (vpage a))) (Some S.NoRight) None))
    after_address = first_met-pass (address_tests seen a) ((not (is_mapped t p (vpage a)), S.NotMapped)
        ∷ (not (free t p (vpage a)), S.NotFree) ∷ (not (writable t p (vpage a)), S.NoRight) ∷ []) passed

    -- where there is no row, that decides
    pub unmapped_met : full_rows t x (vpage a) ≡ None → first_met (page_refusals t p seen a) ≡ Some S.NotMapped
    unfolding after_address
    unmapped_met none = after_address ∙ ap (λ b. cond (not b) (Some S.NotMapped)
        (cond (not (free t p (vpage a))) (Some S.NotFree) (cond (not (writable t p (vpage a))) (Some S.NoRight) None)))
        (mapped-row t s p x found (vpage a) ∙ ap is_some none)

    -- else the row decides
    pub row_met : (r : FullRow) → full_rows t x (vpage a) ≡ Some r
        → first_met (page_refusals t p seen a) ≡ first_met (row_tests r)
    unfolding after_address
    row_met r e =
        after_address
        ∙ (ap (λ b. cond (not b) (Some S.NotMapped) (cond (not (free t p (vpage a))) (Some S.NotFree)
        (cond (not (writable t p (vpage a))) (Some S.NoRight) None)))
        (mapped-row t s p x found (vpage a) ∙ ap is_some e)
        ∙ (ap (λ b. cond (not b) (Some S.NotFree) (cond (not (writable t p (vpage a))) (Some S.NoRight) None))
        (free-row t s p x found (vpage a) r e)
        ∙ ap (λ b. cond (not (is_ungiven r)) (Some S.NotFree) (cond (not b) (Some S.NoRight) None))
        (writable-row t s p x found (vpage a) r e)))

    -- and the page is its page
    pub row_passed : (r : FullRow) → full_rows t x (vpage a) ≡ Some r → first_met (row_tests r) ≡ None → (f : ℕ)
        → f ≡ r.frame → (first_met (page_refusals t p seen a) ≡ None) × (record { va = a; frame = f } ≡ pair_at t p a)
    unfolding row_met
    row_passed r e none f f_is =
        (row_met r e ∙ none, ap (λ k. record { va = a; frame = k }) (f_is ∙ sym (page_of-row t s p x found a r e)))

-- ---- one page after another

-- a page that is refused refuses the chain
chain_stop : (t : Tree) (p k : ℕ) (seen : List ℕ) (a : ℕ) (q : Status) → first_met (page_refusals t p seen a) ≡ Some q
    → page_chain t p (suc k) seen a ≡ Refused q
chain_stop t p k seen a q e = ap (λ o. go_on o (pair_at t p a) (page_chain t p k (a ∷ seen) (next_in_chain t p a))) e

-- one that isn't is the first of the chain
chain_more : (t : Tree) (p k : ℕ) (seen : List ℕ) (a : ℕ) → first_met (page_refusals t p seen a) ≡ None
    → page_chain t p (suc k) seen a ≡ put_first (pair_at t p a) (page_chain t p k (a ∷ seen) (next_in_chain t p a))
chain_more t p k seen a e = ap (λ o. go_on o (pair_at t p a) (page_chain t p k (a ∷ seen) (next_in_chain t p a))) e

-- the page at an address passed all tests
abbrev pub HasPassed : Tree → ℕ → List ℕ → ℕ → Pair → Type 0
HasPassed t p seen a g = (first_met (page_refusals t p seen a) ≡ None) × (g ≡ pair_at t p a)

module _ (t : Tree) (s : IsSound t) (p : ℕ) (x : Node) (found : find_node t p ≡ Some x)
    (m : Memory) (lays : LaysOut t m) where
  -- a page that can be given can be read, and its word 0 is the next address
  next_word : (seen : List ℕ) (a : ℕ) → first_met (page_refusals t p seen a) ≡ None
      → word_at m (page_of t p a) 0 ≡ next_in_chain t p a
  next_word seen a e =
      let usable = (page_may t p seen a e).0 in
      let (w, w_is) = free_words t s p (page_of t p a) x found
      (subst (λ z. In (page_of t p a) (row_pages z)) (node_is t p x found) usable.row) usable.unheld in
      laid_words t s m lays (page_of t p a) 0 w w_is (omega arith) ∙ sym (ap (λ o. word_of o 0) w_is)

  -- so the chain goes on at the word that was read
  chain_on : (k : ℕ) (seen : List ℕ) (a : ℕ) (g : Pair) → HasPassed t p seen a g → (w : ℕ) → w ≡ word_at m g.frame 0
      → (o : PageChain) → page_chain t p k (a ∷ seen) w ≡ o → page_chain t p (suc k) seen a ≡ put_first g o
  unfolding next_word
  chain_on k seen a g pass w w_is o rest =
      let next : w ≡ next_in_chain t p a = w_is ∙ (ap (λ h. word_at m h.frame 0) pass.1 ∙ next_word seen a pass.0) in
      chain_more t p k seen a pass.0
      ∙ (ap (λ h. put_first h (page_chain t p k (a ∷ seen) (next_in_chain t p a))) (sym pass.1)
      ∙ ap (put_first g) (ap (page_chain t p k (a ∷ seen)) (sym next) ∙ rest))

  module _ (count first : ℕ) where
    pub refused_first : 3 ≤ count → (q : Status) → first_met (page_refusals t p [] first) ≡ Some q
        → page_chain t p count [] first ≡ Refused q
    refused_first least q e =
        let is : count ≡ suc (count - 1) = omega arith in
        ap (λ k. page_chain t p k [] first) is ∙ chain_stop t p (count - 1) [] first q e

    module _ (mmu : Pair) (one : HasPassed t p [] first mmu)
        (second : ℕ) (second_is : second ≡ word_at m mmu.frame 0) where
      pub refused_second : 3 ≤ count → (q : Status) → first_met (page_refusals t p (first ∷ []) second) ≡ Some q
          → page_chain t p count [] first ≡ Refused q
      unfolding chain_on
      refused_second least q e =
          let is : count ≡ suc (suc (count - 2)) = omega arith in
          ap (λ k. page_chain t p k [] first) is
          ∙ chain_on (suc (count - 2)) [] first mmu one second second_is (Refused q)
          (chain_stop t p (count - 2) (first ∷ []) second q e)

      module _ (shadow1 : Pair) (two : HasPassed t p (first ∷ []) second shadow1)
          (third : ℕ) (third_is : third ≡ word_at m shadow1.frame 0) where
        -- the chain from the third page on
        from_third : (k : ℕ) (o : PageChain) → page_chain t p (suc k) (second ∷ first ∷ []) third ≡ o
            → page_chain t p (suc (suc (suc k))) [] first ≡ put_first mmu (put_first shadow1 o)
        unfolding chain_on
        from_third k o e = chain_on (suc (suc k)) [] first mmu one second second_is (put_first shadow1 o)
            (chain_on (suc k) (first ∷ []) second shadow1 two third third_is o e)

        pub refused_third : 3 ≤ count → (q : Status) → first_met (page_refusals t p (second ∷ first ∷ []) third)
            ≡ Some q → page_chain t p count [] first ≡ Refused q
        unfolding from_third
        refused_third least q e =
            let is : count ≡ suc (suc (suc (count - 3))) = omega arith in
            ap (λ k. page_chain t p k [] first) is
            ∙ from_third (count - 3) (Refused q) (chain_stop t p (count - 3) (second ∷ first ∷ []) third q e)

        module _ (shadow2 : Pair) (three : HasPassed t p (second ∷ first ∷ []) third shadow2) where
          pub three_pages : count ≡ 3 → page_chain t p count [] first ≡ Pages (mmu ∷ shadow1 ∷ shadow2 ∷ [])
          unfolding from_third
          three_pages is =
              ap (λ k. page_chain t p k [] first) is
              ∙ from_third 0 (Pages (shadow2 ∷ [])) (chain_more t p 0 (second ∷ first ∷ []) third three.0
              ∙ ap (λ h. Pages (h ∷ [])) (sym three.1))

          module _ (fourth : ℕ) (fourth_is : fourth ≡ word_at m shadow2.frame 0) (four : count ≡ 4) where
            pub refused_fourth : (q : Status) → first_met (page_refusals t p (third ∷ second ∷ first ∷ []) fourth)
                ≡ Some q → page_chain t p count [] first ≡ Refused q
            unfolding from_third chain_on
            refused_fourth q e =
                ap (λ k. page_chain t p k [] first) four
                ∙ from_third 1 (Refused q) (chain_on 1 (second ∷ first ∷ []) third shadow2 three fourth fourth_is
                (Refused q) (chain_stop t p 0 (third ∷ second ∷ first ∷ []) fourth q e))

            pub four_pages : (list : Pair) → HasPassed t p (third ∷ second ∷ first ∷ []) fourth list
                → page_chain t p count [] first ≡ Pages (mmu ∷ shadow1 ∷ shadow2 ∷ list ∷ [])
            unfolding from_third chain_on
            four_pages list last =
                ap (λ k. page_chain t p k [] first) four
                ∙ from_third 1 (Pages (shadow2 ∷ list ∷ [])) (chain_on 1 (second ∷ first ∷ []) third shadow2 three
                fourth fourth_is (Pages (list ∷ []))
                (chain_more t p 0 (third ∷ second ∷ first ∷ []) fourth last.0 ∙ ap (λ h. Pages (h ∷ [])) (sym last.1)))
