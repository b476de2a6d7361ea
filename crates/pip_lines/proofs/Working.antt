-- In how many steps acts are made, one part after another, and so a run.
use Rattle.std.proofs.Common.{◌≡◌, ℕ, suc, ◌+◌, ◌-◌, ◌<◌, ◌≤◌, List, ◌++◌, sym, subst, arith}
use Rattle.pip_base.specs.declared.types.Plan.{Plan}
use Rattle.pip_model.proofs.OnLists.Acts.{after-append}
use Rattle.pip_model.specs.Acts.{Act, after_acts, events_made}
use Rattle.pip_model.specs.Port.{TakesNoMore}
use Rattle.pip_model.specs.Run.{raises, schedule, step, steps}
use Rattle.pip_model.specs.Turn.{turn}
use Rattle.pip_model.specs.Work.{events_work}
use Rattle.pip_model.specs.Worlds.{World}
use Rattle.pip_cpu.proofs.Working.{work_append}

-- acts, and then others
pub both_take : (S T : World → Type 0) (first more : World → List Act) (before between after : ℕ)
    → ((v : World) → S v → T (after_acts v (first v))) → TakesNoMore S first before between
    → TakesNoMore T more between after → TakesNoMore S (λ v. first v ++ more (after_acts v (first v))) before after
both_take S T first more before between after made one two v h =
    let a = one v h in
    let b = two (after_acts v (first v)) (made v h) in
    omega (arith, a, b, work_append v (first v) (more (after_acts v (first v))))

-- the machine stands for a world, and with what is left from there on, no more steps are taken than all may take
pub record Working (stands : World → Type 0) (before now : ℕ) (w : World) (all : List Act) (rest : World → List Act) :
    Type 0 where
  pub world : World
  pub holds : stands world
  pub within : now + events_work world (events_made (rest world)) ≤ before + events_work w (events_made all)

-- at first all is left
pub working_begun : (S : World → Type 0) (before : ℕ) (w : World) (rest : World → List Act) → S w
    → Working S before before w (rest w) rest
working_begun S before w rest h = record { world = w; holds = h; within = omega arith }

-- a part of what is left is next
module _ (S : World → Type 0) (before now after : ℕ) (w : World) (all : List Act) (part rest : World → List Act)
    (takes : TakesNoMore S part now after)
    (k : Working S before now w all (λ v. part v ++ rest (after_acts v (part v)))) where
  left : after + events_work (after_acts k.world (part k.world))
      (events_made (rest (after_acts k.world (part k.world)))) ≤ before + events_work w (events_made all)
  left =
      let both = work_append k.world (part k.world) (rest (after_acts k.world (part k.world))) in
      let one = takes k.world k.holds in
      omega arith

  -- it may be cut
  pub working_cut : after ≤ before + events_work w (events_made all)
  unfolding left
  working_cut = let so = left in omega arith

  -- or it is made
  pub working_on : (U : World → Type 0) → ((v : World) → S v → U (after_acts v (part v)))
      → Working U before after w all rest
  unfolding left
  working_on U made = record {
    world = after_acts k.world (part k.world);
    holds = made k.world k.holds;
    within = left;
  }

-- no step of a run is made yet
pub run_begun : (S : World → Type 0) (before : ℕ) (w : World) (ps : List Plan) (seed c count : ℕ) → S w
    → Working S before before w (steps w ps seed c count 0) (λ v. steps v ps seed c (count - 0) 0)
run_begun S before w ps seed c count h =
    let zero_off : count ≡ count - 0 = omega arith in
    subst (λ n. Working S before before w (steps w ps seed c count 0) (λ v. steps v ps seed c n 0)) zero_off
    (working_begun S before w (λ v. steps v ps seed c count 0) h)

-- one more: step t, at which the schedule gives this processor
module _ (before now : ℕ) (w : World) (all : List Act) (ps : List Plan) (seed c count t cpu : ℕ) (inside : t < count)
    (drawn : cpu ≡ schedule seed c t) where
  module _ (S T : World → Type 0) (k : Working S before now w all (λ v. steps v ps seed c (count - t) t))
      (raised : (v : World) → S v → T (after_acts v (raises ps t))) (between after : ℕ)
      (raise : TakesNoMore S (λ v. raises ps t) now between) (turned : TakesNoMore T (λ v. turn v cpu t) between after)
    where
      abbrev rest : World → List Act
      rest v = steps v ps seed c (count - (t + 1)) (t + 1)

      one : Working S before now w all (λ v. step v ps cpu t ++ rest (after_acts v (step v ps cpu t)))
      one =
          let e : count - t ≡ suc (count - (t + 1)) = omega arith in
          subst (λ p. Working S before now w all (λ v. step v ps p t ++ rest (after_acts v (step v ps p t))))
          (sym drawn) (subst (λ n. Working S before now w all (λ v. steps v ps seed c n t)) e k)

      takes : TakesNoMore S (λ v. step v ps cpu t) now after
      takes = both_take S T (λ v. raises ps t) (λ v. turn v cpu t) now between after raised raise turned

      pub step_cut : after ≤ before + events_work w (events_made all)
      step_cut = working_cut S before now after w all (λ v. step v ps cpu t) rest takes one

      pub step_on : (U : World → Type 0) → ((v : World) → T v → U (after_acts v (turn v cpu t)))
          → Working U before after w all (λ v. steps v ps seed c (count - (t + 1)) (t + 1))
      step_on U made = working_on S before now after w all (λ v. step v ps cpu t) rest takes one U
          (λ v h. subst U (sym (after-append v (raises ps t) (turn (after_acts v (raises ps t)) cpu t)))
          (made (after_acts v (raises ps t)) (raised v h)))
