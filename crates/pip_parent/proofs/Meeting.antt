-- The world after want i was tried.
use Rattle.std.proofs.Common.{◌≡◌, ℕ, suc, ◌≤◌, ◌<◌, Bool, true, false, not, cond, List, length, sym, ap, ◌∙◌, subst}
use Rattle.std.proofs.Common.{Some}
use Rattle.pip_base.specs.Status.{status_number}
use Rattle.pip_base.specs.declared.outcome.Status.TheVariants as S
use Rattle.pip_model.specs.AddVAddr.{add_vaddr}
use Rattle.pip_model.specs.Answers.{Answer, accept, refuse}
use Rattle.pip_model.specs.Happens.{is_accepted}
use Rattle.pip_model.specs.declared.call_name.MemoryCall.TheVariants.{AddVAddr}
use Rattle.pip_model.specs.Worlds.{World, runs_on}
use Rattle.pip_model.specs.declared.processors.Occupant.{Occupant}
use Rattle.pip_parent.specs.declared.wants.Want.{Want}
use Rattle.pip_parent.specs.Wants.{want_at, is_bad, need, place}
use Rattle.pip_parent.specs.Pool.{pool_at}
use Rattle.pip_parent.specs.Built.{built_before, lacks_right, built_with_table}
use Rattle.pip_parent.specs.Stages.{Called, IsBuilder, caches_before, caches_with, met_world, replying, tabled_world}
use Rattle.pip_parent.specs.Stages.{value_of, world_at}
use Rattle.pip_parent.proofs.Lent.{lends}
use Rattle.pip_parent.proofs.Opening.{its_name}
use Rattle.pip_parent.proofs.Steps.{again, runs_at}

-- whether the call was accepted
abbrev pub Accepts : (World → Type 0) → ℕ → List ℕ → List Want → ℕ → ℕ → Bool → Type 0
Accepts A cpu pool ws i k answer = (w : World) → A w → (r : Occupant) → runs_on w cpu ≡ Some r → answer ≡ is_accepted
    (add_vaddr w.tree r.name (pool_at pool k) (pool_at pool 0) (want_at ws i).va (want_at ws i).rights).status

module _ (A B : World → Type 0) (w : World) (cpu : ℕ) (r : Occupant) (pool : List ℕ) (ws : List Want)
    (i : ℕ) (b : IsBuilder w cpu r pool) (room : need ws ≤ length pool) (low : i < length ws)
    (fits : (j : ℕ) → j < length ws → is_bad ws j ≡ false) (answer : Bool) where
  -- by whether a right is lacked
  abbrev lent_by : Bool → Answer
  lent_by c =
      cond c (refuse (built_with_table w.tree r.name pool ws i) S.NoRight)
      (accept 0 (built_before w.tree r.name pool ws (suc i)))

  abbrev lent : Answer
  lent = cond (lacks_right w.tree r.name pool ws i) (refuse (built_with_table w.tree r.name pool ws i) S.NoRight)
      (accept 0 (built_before w.tree r.name pool ws (suc i)))

  lent_is : add_vaddr (built_with_table w.tree r.name pool ws i) r.name (pool_at pool (place ws i)) (pool_at pool 0)
      (want_at ws i).va (want_at ws i).rights ≡ lent
  lent_is = lends w.tree r.name pool ws b.world.tree (its_name w cpu r pool b) b.pool room
      (built_with_table w.tree r.name pool ws i).words i low fits

  met_here : Called A B cpu AddVAddr
      (λ t p. add_vaddr t p (pool_at pool (place ws i)) (pool_at pool 0) (want_at ws i).va (want_at ws i).rights)
      → Accepts A cpu pool ws i (place ws i) answer → A (tabled_world w cpu r pool ws i 0 (value_of ws i))
      → (answer ≡ not (lacks_right w.tree r.name pool ws i)) × B (met_world w cpu r pool ws i answer)
  met_here called accepts a =
      let here = tabled_world w cpu r pool ws i 0 (value_of ws i) in
      let caches = caches_before w cpu r.name pool ws (suc i) in
      let runs = runs_at w cpu r (built_with_table w.tree r.name pool ws i) caches 0 (value_of ws i) b.runs in
      let one = accepts here a (replying r 0 (value_of ws i)) runs ∙ ap (λ x. is_accepted x.status) lent_is in
      let two = subst B (again AddVAddr w cpu r (built_with_table w.tree r.name pool ws i) caches 0 (value_of ws i)
      (add_vaddr (built_with_table w.tree r.name pool ws i) r.name (pool_at pool (place ws i)) (pool_at pool 0)
      (want_at ws i).va (want_at ws i).rights)
      ∙ ap (λ x. world_at w cpu r x.tree (caches_with AddVAddr caches x) (status_number x.status) x.value) lent_is)
      (called here a (replying r 0 (value_of ws i)) runs) in
      go (lacks_right w.tree r.name pool ws i) one two
    where
      go : (c : Bool) → answer ≡ is_accepted (lent_by c).status
          → B (world_at w cpu r (lent_by c).tree (caches_with AddVAddr (caches_before w cpu r.name pool ws (suc i))
          (lent_by c)) (status_number (lent_by c).status) (lent_by c).value)
          → (answer ≡ not c) × B (met_world w cpu r pool ws i answer)
      go true q h = (q, subst (λ z. B (met_world w cpu r pool ws i z)) (sym q) h)
      go false q h = (q, subst (λ z. B (met_world w cpu r pool ws i z)) (sym q) h)

  pub met : (k : ℕ) → k ≡ place ws i → Called A B cpu AddVAddr
      (λ t p. add_vaddr t p (pool_at pool k) (pool_at pool 0) (want_at ws i).va (want_at ws i).rights)
      → Accepts A cpu pool ws i k answer → A (tabled_world w cpu r pool ws i 0 (value_of ws i))
      → (answer ≡ not (lacks_right w.tree r.name pool ws i)) × B (met_world w cpu r pool ws i answer)
  met k e called accepts a =
      met_here
      (subst (λ x. Called A B cpu AddVAddr
      (λ t p. add_vaddr t p (pool_at pool x) (pool_at pool 0) (want_at ws i).va (want_at ws i).rights)) e called)
      (subst (λ x. Accepts A cpu pool ws i x answer) e accepts)
      a
