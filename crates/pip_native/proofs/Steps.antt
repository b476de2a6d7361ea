-- The steps of a monitor on their way.
use Rattle.std.proofs.Common.{◌≡◌, ℕ, suc, ◌+◌, ◌-◌, ◌<◌, ap, ◌∙◌, subst, List, ◌++◌, arith}
use Rattle.pip_io.specs.Taken.{Taken}
use Rattle.pip_io.proofs.Taken.{Appends-nil}
use Rattle.pip_base.specs.declared.types.Plan.{Plan}
use Rattle.pip_cpu.specs.Made.{Cut, Made}
use Rattle.pip_lines.proofs.Progress.{Progress, progress_begun, progress_cut, progress_on}
use Rattle.pip_model.proofs.OnLists.Acts.{text-raises}
use Rattle.pip_model.specs.Acts.{Act, after_acts}
use Rattle.pip_model.specs.Run.{raises}
use Rattle.pip_model.specs.Worlds.{World}
use Rattle.pip_native.specs.Monitoring.{Children}
use Rattle.pip_native.specs.Watching.{monitor_next, watch_step, watched_step, watched_steps}

module _ (old mid new : Taken) (w : World) (all : List Act) (ps : List Plan)
    (count t : ℕ) (m next : Children) (inside : t < count) (S T U : World → Type 0)
    (k : Progress S old mid w all (λ v. watched_steps v ps m (count - t) t)) (raise : (v : World) → S v
    → T (after_acts v (raises ps t))) (said : (v : World) → T v → next ≡ monitor_next v m) where
  abbrev rest : World → List Act
  rest v = watched_steps v ps next (count - (t + 1)) (t + 1)

  -- the next step, and then the others with the monitor that is known to be left
  unfolded : Progress S old mid w all (λ v. (raises ps t ++ watch_step (after_acts v (raises ps t)) m t)
      ++ rest (after_acts v (raises ps t ++ watch_step (after_acts v (raises ps t)) m t)))
  unfolded =
      let e : count - t ≡ suc (count - (t + 1)) = omega arith in
      let one = subst (λ n. Progress S old mid w all (λ v. watched_steps v ps m n t)) e k in
      record {
        world = one.world;
        holds = one.holds;
        front = one.front;
        whole = ap (λ z. one.front ++ (watched_step one.world ps m t
            ++ watched_steps (after_acts one.world (watched_step one.world ps m t)) ps z (count - (t + 1)) (t + 1)))
            (said (after_acts one.world (raises ps t)) (raise one.world one.holds)) ∙ one.whole;
        after = one.after;
        text = one.text;
      }

  pub step_on : ((v : World) → T v → Made U mid new v (watch_step v m t)) → Progress U old new w all rest
  step_on made = progress_on S U old mid new w all (raises ps t) (λ v. watch_step v m t) rest unfolded
      (text-raises ps t)
      (made _ (raise unfolded.world unfolded.holds))

  pub step_cut : ((v : World) → T v → Cut U mid new v (watch_step v m t)) → Cut U old new w all
  step_cut cut = progress_cut S U old mid new w all (raises ps t) (λ v. watch_step v m t) rest unfolded
      (text-raises ps t)
      (cut _ (raise unfolded.world unfolded.holds))

-- no step is made yet
pub steps_begun : (S : World → Type 0) (old : Taken) (w : World) (ps : List Plan) (m : Children) (count : ℕ) → S w
    → Progress S old old w (watched_steps w ps m count 0) (λ v. watched_steps v ps m (count - 0) 0)
steps_begun S old w ps m count h =
    let e : count ≡ count - 0 = omega arith in
    subst (λ n. Progress S old old w (watched_steps w ps m count 0) (λ v. watched_steps v ps m n 0)) e
    (progress_begun S old w (λ v. watched_steps v ps m count 0) h (Appends-nil old))
