-- The law of slots: over a whole plan.
use Rattle.std.proofs.Common.{◌≡◌, ◌≢◌, ℕ, ◌+◌, ◌==◌, inl, inr, Bool, true, false, cond, List, [], ◌∷◌, ◌++◌, refl, sym}
use Rattle.std.proofs.Common.{ap, ap₂, ◌∙◌, subst, eq-eqb, arith}
use Rattle.std.specs.Prelude.{◌%◌, zero, suc, Some, slice_get}
use Rattle.std.specs.List.{AllByRecursion}
use Rattle.std.proofs.lemmas.Bool.{cases_eq, ne_eqb}
use Rattle.pip_model.specs.Acts.{Act, after_acts, text_of}
use Rattle.pip_model.specs.Sound.{IsLentBy, IsSound, IsWord}
use Rattle.pip_model.specs.Tree.{Node, Tree, node, vpage}
use Rattle.pip_model.specs.Worlds.{World}
use Rattle.pip_model.proofs.OnLists.Acts.{after-append}
use Rattle.pip_model.proofs.Locality.OneEvent.{to_trees}
use Rattle.pip_model.proofs.Trees.Free.{row_found}
use Rattle.pip_guests.proofs.Elsewhere.{same_sym, same_trans}
use Rattle.pip_slots.specs.declared.time_slot.TimeSlot.{TimeSlot}
use Rattle.pip_slots.specs.Slots.{SlotsSeparate, acts_of_child, after_slot}
use Rattle.pip_slots.specs.Slots.{slot_turns, next_step, opening, rest_acts, slot_acts, slot_run, slot_texts}
use Rattle.pip_slots.proofs.Kids.{Kid, kid_of, kid_other, kid_same}
use Rattle.pip_slots.proofs.Own.{Both, both_same, both_step, both_tops}
use Rattle.pip_slots.proofs.Opening.{own_opened}
use Rattle.pip_slots.proofs.Closing.{Slotted, own_closed}
use Rattle.pip_slots.proofs.Others.{other_slot}
use Rattle.pip_slots.proofs.Walk.{Walked, inners_walked}

-- the address of a child is neither 0 nor 1, which name other targets of a yield
address_at : (d p : ℕ) (t : Tree) → IsSound t → Kid d p t → (d ≢ 0) × (d ≢ 1)
address_at d p t s k = (
  (λ e. let r = row_found t.root (vpage va) x.base.descriptor.frame (l.placed x.base.descriptor (inl refl)) in
      (s.tables t.root (inl refl)).first r.0 r.1 (rw (r.2, at, e))),
  (λ e. let r = sym (ap (λ a. a % 4096) (at ∙ e)) ∙ l.aligned x.base.descriptor (inl refl) in absurd (omega (
    arith,
    r,
  ))),
)
  where
    x : Node
    x = node t p

    va : ℕ
    va = x.base.descriptor.va

    at : x.base.descriptor.va ≡ d
    at = sym (s.named_by_descriptor x (kid_other d p t s k)).born ∙ k.born

    l : IsLentBy t.root x
    l = s.lent x t.root (kid_other d p t s k) (inl refl) k.up

-- acts, and then acts after which another relation holds
walked_then : (R S : World → World → Type 0) (w v : World) (xs ys xs' ys' : List Act) → Walked R w v xs ys
    → Walked S (after_acts w xs) (after_acts v ys) xs' ys' → Walked S w v (xs ++ xs') (ys ++ ys')
walked_then R S w v xs ys xs' ys' a b = record {
  acts = ap₂ (λ x y. x ++ y) a.acts b.acts;
  next = rw (after-append w xs xs') (subst (S (after_acts (after_acts w xs) xs')) (sym (after-append v ys ys')) b.next);
}

-- a slot of a child and its number of turns
abbrev body : ℕ → ℕ → ℕ → World → List Act
body c n t w = opening w c t ++ rest_acts (after_acts w (opening w c t)) n (t + 1)

-- a slot of p's own
own_body : (d p t n : ℕ) (w v : World) → Slotted d p w v → IsWord d → d ≢ 0 → d ≢ 1
    → Walked (Slotted d p) w v (body d n t w) (body d n t v)
own_body d p t n w v b wd n0 n1 =
    let one = own_opened d p t w v b.left b.right b.kid b.guest wd n0 n1 in
    let w1 = after_acts w (opening w d t) in
    let v1 = after_acts v (opening v d t) in
    let two = inners_walked (Both d p) (λ w v b. b.left) (λ w v b. b.right) (both_same d p) (both_tops d p)
    (both_step d p) n (t + 1) w1 v1 one.next in
    let w2 = after_acts w1 (slot_turns w1 n (t + 1)) in
    let v2 = after_acts v1 (slot_turns v1 n (t + 1)) in
    let three = own_closed d p (t + 1 + n) w2 v2 two.next in
    walked_then (Both d p) (Slotted d p) w v _ _ _ _ one (walked_then (Both d p) (Slotted d p) w1 v1 _ _ _ _ two three)

own_slot : (d p t : ℕ) (w v : World) (x : TimeSlot) → Slotted d p w v → IsWord x.child → x.child ≡ d
    → Walked (Slotted d p) w v (slot_acts w x t) (slot_acts v x t)
own_slot d p t w v x b wd e =
    let a = address_at d p w.tree b.left.sound.tree b.kid in
    subst (λ c. Walked (Slotted d p) w v (body c x.turns t w) (body c x.turns t v)) (sym e)
    (own_body d p t x.turns w v b (rw (← e) wd) a.0 a.1)

-- another's slot leaves both worlds with the child in common
other_slots : (d p t : ℕ) (w v : World) (x : TimeSlot) → Slotted d p w v → IsWord x.child → x.child ≢ d
    → Slotted d p (after_slot w x t) (after_slot v x t)
other_slots d p t w v x b wd n =
    let s = b.left.sound in
    let s' = b.right.sound in
    let kid' = kid_same d p w.tree v.tree s.tree s'.tree b.kid (to_trees p w v b.guest.below) in
    let one = other_slot d p t w x b.left b.kid wd n in
    let two = other_slot d p t v x b.right kid' wd n in
    let w1 = after_slot w x t in
    let v1 = after_slot v x t in
    record {
      left = one.between;
      right = two.between;
      kid = one.kid;
      guest = same_trans p w1 w v1 one.between.sound s two.between.sound one.kid.name
          (same_sym p w w1 s one.between.sound b.kid.name one.guest)
          (same_trans p w v v1 s s' two.between.sound b.kid.name b.guest two.guest);
    }

-- ---- a whole plan

some_same : (x y : TimeSlot) → Some x ≡ Some y → x ≡ y
some_same x y e = cc

pub record RunAlike (d p t : ℕ) (w v : World) (ss : List TimeSlot) : Type 0 where
  pub acts : acts_of_child d w ss t ≡ acts_of_child d v ss t
  pub texts : (j : ℕ) (s : TimeSlot) → slice_get ss j ≡ Some s → s.child ≡ d
      → slice_get (slot_texts w ss t) j ≡ slice_get (slot_texts v ss t) j
  pub next : Slotted d p (after_acts w (slot_run w ss t)) (after_acts v (slot_run v ss t))

-- what comes after a slot comes after it in both
after_both : (d p : ℕ) (w v : World) (xs ys xs' ys' : List Act)
    → Slotted d p (after_acts (after_acts w xs) xs') (after_acts (after_acts v ys) ys')
    → Slotted d p (after_acts w (xs ++ xs')) (after_acts v (ys ++ ys'))
after_both d p w v xs ys xs' ys' h = rw (after-append w xs xs')
    (subst (Slotted d p (after_acts (after_acts w xs) xs')) (sym (after-append v ys ys')) h)

pub run_alike : (d p : ℕ) (ss : List TimeSlot) (t : ℕ) (w v : World) → Slotted d p w v
    → AllByRecursion (λ s. IsWord s.child) ss → RunAlike d p t w v ss
run_alike d p [] t w v b all = record { acts = refl; texts = λ j s at own. refl; next = b }
run_alike d p (x ∷ ss) t w v b all = elim (cases_eq x.child d) [
  | inl e ↦
      let z = own_slot d p t w v x b all.0 e in
      let h = run_alike d p ss (next_step x t) (after_slot w x t) (after_slot v x t) z.next all.1 in
      record {
        acts = cc (on w true (eq-eqb x.child d e), ap₂ (λ a b. a ++ b) z.acts h.acts, on v true (eq-eqb x.child d e));
        texts = each (λ own. cc (z.acts)) h.texts;
        next = after_both d p w v (slot_acts w x t) (slot_acts v x t) _ _ h.next;
      }
  | inr n ↦
      let h = run_alike d p ss (next_step x t) (after_slot w x t) (after_slot v x t) (other_slots d p t w v x b all.0 n)
      all.1 in
      record {
        acts = cc (on w false (ne_eqb x.child d n), h.acts, on v false (ne_eqb x.child d n));
        texts = each (λ own. absurd (n own)) h.texts;
        next = after_both d p w v (slot_acts w x t) (slot_acts v x t) _ _ h.next;
      }
]
  where
    on : (w : World) (c : Bool) → (x.child == d) ≡ c → acts_of_child d w (x ∷ ss) t
        ≡ cond c (slot_acts w x t ++ acts_of_child d (after_slot w x t) ss (next_step x t))
        (acts_of_child d (after_slot w x t) ss (next_step x t))
    on w c e = rw e

    -- the first slot and those after it
    each : (x.child ≡ d → Some (text_of (slot_acts w x t)) ≡ Some (text_of (slot_acts v x t)))
        → ((j : ℕ) (s : TimeSlot) → slice_get ss j ≡ Some s → s.child ≡ d
        → slice_get (slot_texts (after_slot w x t) ss (next_step x t)) j
        ≡ slice_get (slot_texts (after_slot v x t) ss (next_step x t)) j)
        → (j : ℕ) (s : TimeSlot) → slice_get (x ∷ ss) j ≡ Some s → s.child ≡ d
        → slice_get (slot_texts w (x ∷ ss) t) j ≡ slice_get (slot_texts v (x ∷ ss) t) j
    each first later zero s at own = first (rw (some_same x s at, own))
    each first later (suc j) s at own = later j s at own

pub slots_separate : SlotsSeparate
slots_separate w v d p ss t b b' c g all =
    let h = run_alike d p ss t w v (record { left = b; right = b'; kid = kid_of w d p b.sound c; guest = g }) all in
    search
