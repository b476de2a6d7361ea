-- A chain leads to the wants whose address may be that of want i: those that it passes have another.
use Rattle.std.proofs.Common.{◌≡◌, ℕ, zero, suc, ◌+◌, ◌/◌, ◌%◌, ◌≤◌, ◌<◌, ◌==◌, ◌||◌, Bool, true, false, cond, List}
use Rattle.std.proofs.Common.{length, slice_index, slice_set, refl, sym, ap, ◌∙◌, subst, arith, eqb-true, eq-eqb}
use Rattle.std.proofs.lemmas.Bool.{eqb-false, ne_eqb}
use Rattle.std.proofs.lemmas.Grind.{get_or-set_at}
use Rattle.std.proofs.lemmas.List.{get_or-set_other}
use Rattle.pip_parent.specs.declared.wants.Want.{Want}
use Rattle.pip_parent.specs.Seen.{chain_of_want, last}
use Rattle.pip_parent.specs.Wants.{earlier, want_at}

last-most : (f : Want → Bool) (ws : List Want) (n : ℕ) → last f ws n ≤ n
last-most f ws zero = omega arith
last-most f ws (suc n) = go (f (want_at ws n)) (last-most f ws n)
  where
    go : (b : Bool) → last f ws n ≤ n → cond b (suc n) (last f ws n) ≤ suc n
    go true h = omega arith
    go false h = omega arith

-- the last such want is such
last-holds : (f : Want → Bool) (ws : List Want) (n j : ℕ) → last f ws n ≡ j + 1 → f (want_at ws j) ≡ true
last-holds f ws zero j e = absurd (let z : ⊥ = omega arith in z)
last-holds f ws (suc n) j e = go (f (want_at ws n)) refl (λ q. last-holds f ws n j q) e
  where
    go : (b : Bool) → f (want_at ws n) ≡ b → (last f ws n ≡ j + 1 → f (want_at ws j) ≡ true)
        → cond b (suc n) (last f ws n) ≡ j + 1 → f (want_at ws j) ≡ true
    go true h ih e = subst (λ k. f (want_at ws k) ≡ true) (let q : n ≡ j = omega arith in q) h
    go false h ih e = ih e

-- where g holds of no want but one such, no want after the last such one has it
earlier-last : (f g : Want → Bool) → ((w : Want) → g w ≡ true → f w ≡ true) → (ws : List Want) (n : ℕ)
    → earlier g ws (last f ws n) ≡ earlier g ws n
earlier-last f g h ws zero = refl
earlier-last f g h ws (suc n) = go (f (want_at ws n)) refl (g (want_at ws n)) refl (earlier-last f g h ws n)
  where
    go : (b : Bool) → f (want_at ws n) ≡ b → (c : Bool) → g (want_at ws n) ≡ c → earlier g ws (last f ws n)
        ≡ earlier g ws n → earlier g ws (cond b (suc n) (last f ws n)) ≡ (earlier g ws n || c)
    go true p c q ih = ap (λ x. earlier g ws n || x) q
    go false p true q ih = let k = h (want_at ws n) q in absurd (let z : ⊥ = grind (arith, p, k) in z)
    go false p false q ih = ih ∙ or_false (earlier g ws n)
      where
        or_false : (b : Bool) → b ≡ (b || false)
        or_false true = refl
        or_false false = refl

module _ (ws : List Want) (i : ℕ) where
  abbrev same_address : Want → Bool
  same_address w = w.va == (want_at ws i).va

  in_chain : (c : ℕ) → c ≡ chain_of_want (want_at ws i) → (w : Want) → same_address w ≡ true
      → (chain_of_want w == c) ≡ true
  in_chain c e w h = eq-eqb (chain_of_want w) c
      (ap (λ a. (a / 4096 + a / 4096 / 1024) % 4096) (eqb-true w.va (want_at ws i).va h) ∙ sym e)

  -- what is left of the wants before i, after those passed
  pub record IsLeft (at : ℕ) : Type 0 where
    pub low : at ≤ i
    pub same : earlier (λ w. w.va == (want_at ws i).va) ws at ≡ earlier (λ w. w.va == (want_at ws i).va) ws i
    pub ours : (j : ℕ) → at ≡ j + 1 → chain_of_want (want_at ws j) ≡ chain_of_want (want_at ws i)

  left_of : (c n at : ℕ) → c ≡ chain_of_want (want_at ws i) → n ≤ i
      → earlier same_address ws n ≡ earlier same_address ws i → at ≡ last (λ w. chain_of_want w == c) ws n → IsLeft at
  left_of c n at e l s q =
      let m = last-most (λ w. chain_of_want w == c) ws n in
      record {
        low = omega arith;
        same = ap (earlier same_address ws) q
            ∙ earlier-last (λ w. chain_of_want w == c) same_address (in_chain c e) ws n ∙ s;
        ours = λ j k.
            eqb-true (chain_of_want (want_at ws j)) c (last-holds (λ w. chain_of_want w == c) ws n j (sym q ∙ k)) ∙ e;
      }

  pub first_left : (at : ℕ) → at ≡ last (λ w. chain_of_want w == chain_of_want (want_at ws i)) ws i → IsLeft at
  first_left at q = left_of (chain_of_want (want_at ws i)) i at refl (omega arith) refl q

  -- the want at the head of the chain is passed
  pub next_left : (at j next : ℕ) → IsLeft at → at ≡ j + 1 → same_address (want_at ws j) ≡ false
      → next ≡ last (λ w. chain_of_want w == chain_of_want (want_at ws j)) ws j → IsLeft next
  next_left at j next left e other q =
      left_of (chain_of_want (want_at ws j)) j next (left.ours j e) (omega arith) (after ∙ left.same) q
    where
      or_false : (b : Bool) → b ≡ (b || false)
      or_false true = refl
      or_false false = refl

      after : earlier same_address ws j ≡ earlier same_address ws at
      after = or_false (earlier same_address ws j) ∙ ap (λ b. earlier same_address ws j || b) (sym other)
          ∙ ap (earlier same_address ws) (let k : suc j ≡ at = omega arith in k)

  pub next_smaller : (at j next : ℕ) → at ≡ j + 1
      → next ≡ last (λ w. chain_of_want w == chain_of_want (want_at ws j)) ws j → next < at
  next_smaller at j next e q = let m = last-most (λ w. chain_of_want w == chain_of_want (want_at ws j)) ws j in
      omega arith

-- want i comes to the head of its chain c
module _ (latest before : List ℕ) (ws : List Want) (i c : ℕ) (e : c ≡ chain_of_want (want_at ws i)) where
  pub latest_more : ((n : ℕ) → n < 4096 → slice_index latest n ≡ last (λ w. chain_of_want w == n) ws i)
      → c < length latest → (n : ℕ) → n < 4096
      → slice_index (slice_set latest c (i + 1)) n ≡ last (λ w. chain_of_want w == n) ws (i + 1)
  latest_more known low n l =
      go (n == c) refl ∙ ap (last (λ w. chain_of_want w == n) ws) (let k : suc i ≡ i + 1 = omega arith in k)
    where
      go : (b : Bool) → (n == c) ≡ b
          → slice_index (slice_set latest c (i + 1)) n ≡ last (λ w. chain_of_want w == n) ws (suc i)
      go true h =
          let q = eqb-true n c h in
          get_or-set_at latest c n (i + 1) 0 q low
          ∙ (let k : i + 1 ≡ suc i = omega arith in k)
          ∙ sym (ap (λ b. cond b (suc i) (last (λ w. chain_of_want w == n) ws i))
          (eq-eqb (chain_of_want (want_at ws i)) n (sym e ∙ sym q)))
      go false h =
          let q = eqb-false n c h in
          get_or-set_other latest c n (i + 1) 0 q
          ∙ known n l
          ∙ sym (ap (λ b. cond b (suc i) (last (λ w. chain_of_want w == n) ws i))
          (ne_eqb (chain_of_want (want_at ws i)) n (λ k. q (sym k ∙ sym e))))

  pub before_more : (head : ℕ) → head ≡ last (λ w. chain_of_want w == c) ws i → ((j : ℕ) → j < i → slice_index before j
      ≡ last (λ w. chain_of_want w == chain_of_want (want_at ws j)) ws j) → i < length before → (j : ℕ) → j < i + 1
      → slice_index (slice_set before i head) j ≡ last (λ w. chain_of_want w == chain_of_want (want_at ws j)) ws j
  before_more head h known low j l = go (j == i) refl
    where
      go : (b : Bool) → (j == i) ≡ b
          → slice_index (slice_set before i head) j ≡ last (λ w. chain_of_want w == chain_of_want (want_at ws j)) ws j
      go true k =
          let q = eqb-true j i k in
          get_or-set_at before i j head 0 q low ∙ h ∙ ap (λ n. last (λ w. chain_of_want w == n) ws i) e
          ∙ ap (λ m. last (λ w. chain_of_want w == chain_of_want (want_at ws m)) ws m) (sym q)
      go false k = let q = eqb-false j i k in get_or-set_other before i j head 0 q ∙ known j (omega arith)
