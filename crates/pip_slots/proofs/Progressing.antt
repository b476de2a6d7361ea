-- The steps within a slot, and the slots of a plan, on their way.
use Rattle.std.proofs.Common.{◌≡◌, ℕ, suc, ◌+◌, ◌-◌, ◌*◌, ◌<◌, ◌≤◌, List, [], ◌∷◌, ◌++◌, length, drop, refl, ap}
use Rattle.std.proofs.Common.{subst, arith, append_assoc}
use Rattle.std.proofs.Math.Seq.{drop-length}
use Rattle.std.proofs.Math.Nat.{mul-le-mul_left}
use Rattle.std.proofs.Math.Path.{fun_ext}
use Rattle.pip_cpu.specs.Made.{Cut, Made}
use Rattle.pip_io.specs.Taken.{Taken}
use Rattle.pip_io.proofs.Taken.{Appends-nil}
use Rattle.pip_lines.proofs.Progress.{Progress, progress_begun, progress_cut, progress_end, progress_on}
use Rattle.pip_model.proofs.OnLists.Acts.{after-append}
use Rattle.pip_model.specs.Acts.{Act, after_acts}
use Rattle.pip_model.specs.Worlds.{World}
use Rattle.pip_slots.specs.declared.time_slot.TimeSlot.{TimeSlot}
use Rattle.pip_slots.specs.Slots.{after_slot, next_step, plan_steps, rounds, slot_acts, slot_run, slot_turn, slot_turns}

-- slots after slots
run_append : (w : World) (ss rs : List TimeSlot) (t : ℕ)
    → slot_run w (ss ++ rs) t
    ≡ slot_run w ss t ++ slot_run (after_acts w (slot_run w ss t)) rs (t + plan_steps ss)
run_append w [] rs t = ap (slot_run w rs) (omega arith)
run_append w (s ∷ ss) rs t =
    let acts = slot_acts w s t in
    let v = after_slot w s t in
    let u = next_step s t in
    let more = slot_run v ss u in
    let end : u + plan_steps ss ≡ t + ((s.turns + 2) + plan_steps ss) = omega arith in
    rw (
      run_append v ss rs u,
      ← append_assoc acts more (slot_run (after_acts v more) rs (u + plan_steps ss)),
      end,
      ←
          after-append w acts more,
    )

-- ---- what is left, and the part of it that is next

-- of any relation to the acts that are left: of progress, and of work
module _ (R : (World → List Act) → Type 0) where
  -- the turns within a slot
  pub inners_first : (n t : ℕ) → R (λ v. slot_turns v n t) → R (λ v. slot_turns v (n - 0) (t + 0))
  inners_first n t r =
      let a : n ≡ n - 0 = omega arith in
      let b : t ≡ t + 0 = omega arith in
      rw (← a) (subst (λ x. R (λ v. slot_turns v n x)) b r)

  pub inners_next : (n t k : ℕ) → k < n → R (λ v. slot_turns v (n - k) (t + k))
      → R (λ v. slot_turn v (t + k) ++ slot_turns (after_acts v (slot_turn v (t + k))) (n - (k + 1)) (t + k + 1))
  inners_next n t k inside r = let e : n - k ≡ suc (n - (k + 1)) = omega arith in
      rw e at r

  pub inners_rest : (n t k : ℕ) → R (λ v. slot_turns v (n - (k + 1)) (t + k + 1))
      → R (λ v. slot_turns v (n - (k + 1)) (t + (k + 1)))
  inners_rest n t k r = let e : t + k + 1 ≡ t + (k + 1) = omega arith in
      rw (← e) r

  -- the slots of a plan
  pub slots_next : (ss : List TimeSlot) (i t : ℕ) (s : TimeSlot) → drop i ss ≡ s ∷ drop (suc i) ss
      → R (λ v. slot_run v (drop i ss) t)
      → R (λ v. slot_acts v s t ++ slot_run (after_acts v (slot_acts v s t)) (drop (suc i) ss) (next_step s t))
  slots_next ss i t s here r = rw here at r

  pub slots_rest : (ss : List TimeSlot) (i t : ℕ) (s : TimeSlot) → R (λ v. slot_run v (drop (suc i) ss) (next_step s t))
      → R (λ v. slot_run v (drop (i + 1) ss) (t + (s.turns + 2)))
  slots_rest ss i t s r = let e : suc i ≡ i + 1 = omega arith in
      rw (← e) r

  -- rounds of them
  pub rounds_first : (ss : List TimeSlot) (c : ℕ) → R (λ v. slot_run v (rounds ss c) 0)
      → R (λ v. slot_run v (rounds ss (c - 0)) 0)
  rounds_first ss c r = let a : c ≡ c - 0 = omega arith in rw (← a) r

  pub rounds_next : (ss : List TimeSlot) (c j t : ℕ) → j < c → R (λ v. slot_run v (rounds ss (c - j)) t)
      → R (λ v. slot_run v ss t
      ++ slot_run (after_acts v (slot_run v ss t)) (rounds ss (c - (j + 1))) (t + plan_steps ss))
  rounds_next ss c j t inside r =
      let e : c - j ≡ suc (c - (j + 1)) = omega arith in
      rw (← fun_ext (λ v. run_append v ss (rounds ss (c - (j + 1))) t))
      (subst (λ m. R (λ v. slot_run v (rounds ss m) t)) e r)

-- ---- how far a plan is

pub inners_begun : (S : World → Type 0) (old : Taken) (w : World) (n t : ℕ) → S w
    → Progress S old old w (slot_turns w n t) (λ v. slot_turns v (n - 0) (t + 0))
inners_begun S old w n t h = inners_first (Progress S old old w (slot_turns w n t)) n t
    (progress_begun S old w (λ v. slot_turns v n t) h (Appends-nil old))

pub slots_begun : (S : World → Type 0) (old : Taken) (w : World) (ss : List TimeSlot) (t : ℕ) → S w
    → Progress S old old w (slot_run w ss t) (λ v. slot_run v (drop 0 ss) t)
slots_begun S old w ss t h = progress_begun S old w (λ v. slot_run v ss t) h (Appends-nil old)

pub rounds_begun : (S : World → Type 0) (old : Taken) (w : World) (ss : List TimeSlot) (c : ℕ) → S w
    → Progress S old old w (slot_run w (rounds ss c) 0) (λ v. slot_run v (rounds ss (c - 0)) 0)
rounds_begun S old w ss c h = rounds_first (Progress S old old w (slot_run w (rounds ss c) 0)) ss c
    (progress_begun S old w (λ v. slot_run v (rounds ss c) 0) h (Appends-nil old))

module _ (old mid new : Taken) (w : World) (all : List Act) where
  -- a part of what is left is made, or cut
  module _ (S U : World → Type 0) (part rest : World → List Act)
      (p : Progress S old mid w all (λ v. part v ++ rest (after_acts v (part v)))) where
    made_on : ((v : World) → S v → Made U mid new v (part v)) → Progress U old new w all rest
    made_on made = progress_on S U old mid new w all [] part rest p refl (made p.world p.holds)

    cut_at : ((v : World) → S v → Cut U mid new v (part v)) → Cut U old new w all
    cut_at cut = progress_cut S U old mid new w all [] part rest p refl (cut p.world p.holds)

  module _ (n t k : ℕ) (inside : k < n) (S U : World → Type 0)
      (p : Progress S old mid w all (λ v. slot_turns v (n - k) (t + k))) where
    pub inners_on : ((v : World) → S v → Made U mid new v (slot_turn v (t + k)))
        → Progress U old new w all (λ v. slot_turns v (n - (k + 1)) (t + (k + 1)))
    inners_on made = inners_rest (Progress U old new w all) n t k
        (made_on S U (λ v. slot_turn v (t + k)) (λ v. slot_turns v (n - (k + 1)) (t + k + 1))
        (inners_next (Progress S old mid w all) n t k inside p) made)

    pub inners_cut : ((v : World) → S v → Cut U mid new v (slot_turn v (t + k))) → Cut U old new w all
    inners_cut cut = cut_at S U (λ v. slot_turn v (t + k)) (λ v. slot_turns v (n - (k + 1)) (t + k + 1))
        (inners_next (Progress S old mid w all) n t k inside p) cut

  module _ (ss : List TimeSlot) (i t : ℕ) (s : TimeSlot) (here : drop i ss ≡ s ∷ drop (suc i) ss)
      (S U : World → Type 0) (p : Progress S old mid w all (λ v. slot_run v (drop i ss) t)) where
    pub slots_on : ((v : World) → S v → Made U mid new v (slot_acts v s t))
        → Progress U old new w all (λ v. slot_run v (drop (i + 1) ss) (t + (s.turns + 2)))
    slots_on made = slots_rest (Progress U old new w all) ss i t s
        (made_on S U (λ v. slot_acts v s t) (λ v. slot_run v (drop (suc i) ss) (next_step s t))
        (slots_next (Progress S old mid w all) ss i t s here p) made)

    pub slots_cut : ((v : World) → S v → Cut U mid new v (slot_acts v s t)) → Cut U old new w all
    slots_cut cut = cut_at S U (λ v. slot_acts v s t) (λ v. slot_run v (drop (suc i) ss) (next_step s t))
        (slots_next (Progress S old mid w all) ss i t s here p) cut

  module _ (ss : List TimeSlot) (c j t : ℕ) (inside : j < c) (S U : World → Type 0)
      (p : Progress S old mid w all (λ v. slot_run v (rounds ss (c - j)) t)) where
    pub rounds_on : ((v : World) → S v → Made U mid new v (slot_run v ss t)) → (u : ℕ) → u ≡ t + plan_steps ss
        → Progress U old new w all (λ v. slot_run v (rounds ss (c - (j + 1))) u)
    rounds_on made u e = rw e (made_on S U (λ v. slot_run v ss t)
        (λ v. slot_run v (rounds ss (c - (j + 1))) (t + plan_steps ss))
        (rounds_next (Progress S old mid w all) ss c j t inside p) made)

    pub rounds_cut : ((v : World) → S v → Cut U mid new v (slot_run v ss t)) → Cut U old new w all
    rounds_cut cut = cut_at S U (λ v. slot_run v ss t)
        (λ v. slot_run v (rounds ss (c - (j + 1))) (t + plan_steps ss))
        (rounds_next (Progress S old mid w all) ss c j t inside p) cut

-- the steps of the slots from one on
pub steps_left : (ss : List TimeSlot) (i : ℕ) (s : TimeSlot) → drop i ss ≡ s ∷ drop (suc i) ss
    → plan_steps (drop i ss) ≡ (s.turns + 2) + plan_steps (drop (i + 1) ss)
steps_left ss i s here =
    let next : suc i ≡ i + 1 = omega arith in
    cc

-- all slots are run
pub slots_end : (S : World → Type 0) (old new : Taken) (w : World) (all : List Act) (ss : List TimeSlot) (i t : ℕ)
    → i ≡ length ss → Progress S old new w all (λ v. slot_run v (drop i ss) t) → Made S old new w all
slots_end S old new w all ss i t e p = progress_end S old new w all
    (rw (e, drop-length ss) at p)

pub none_left : (ss : List TimeSlot) (i : ℕ) → i ≡ length ss → plan_steps (drop i ss) ≡ 0
none_left ss i e = rw (e, drop-length ss)

-- all rounds are run
pub rounds_end : (S : World → Type 0) (old new : Taken) (w : World) (all : List Act) (ss : List TimeSlot) (n t : ℕ)
    → n ≡ 0 → Progress S old new w all (λ v. slot_run v (rounds ss n) t) → Made S old new w all
rounds_end S old new w all ss n t e p = progress_end S old new w all
    (rw e at p)

-- the steps of one round more
pub one_round_more : (p k c : ℕ) → k < c → p * k + p ≤ p * c
one_round_more p k c low =
    let e : p * suc k ≡ p * k + p = omega arith in
    let h : p * suc k ≤ p * c = mul-le-mul_left p low in
    omega arith
