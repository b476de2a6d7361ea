-- The worlds at the beginning of a child and where it is deleted, and the counts of the loop.
use Rattle.std.proofs.Common.{◌≡◌, ℕ, suc, ◌≤◌, ◌<◌, ◌==◌, Bool, true, false, not, cond, List, [], ◌++◌, length, refl}
use Rattle.std.proofs.Common.{sym, ap, ◌∙◌, subst, arith, eqb-true, Option, None}
use Rattle.std.proofs.Math.Path.{fun_ext}
use Rattle.std.proofs.lemmas.Bool.{eqb-false, ne_eqb}
use Rattle.std.proofs.lemmas.List.{append-nil}
use Rattle.pip_model.specs.Answers.{words_cleared, words_without}
use Rattle.pip_model.specs.Cache.{all_emptied}
use Rattle.pip_base.specs.Status.{status_number}
use Rattle.pip_base.specs.declared.outcome.Status.TheVariants as S
use Rattle.pip_model.specs.CreatePartition.{create_partition}
use Rattle.pip_model.specs.DeletePartition.{delete_partition}
use Rattle.pip_model.specs.declared.call_name.MemoryCall.TheVariants.{CreatePartition, DeletePartition}
use Rattle.pip_model.specs.Lists.{has}
use Rattle.pip_model.specs.Tree.{config, nodes}
use Rattle.pip_model.specs.Worlds.{IsSoundWorld, World, running}
use Rattle.pip_model.specs.declared.processors.Occupant.{Occupant}
use Rattle.pip_model.proofs.Locality.OneEvent.{names_set}
use Rattle.pip_model.proofs.OnLists.Members.{In-map_from, has_in}
use Rattle.pip_parent.specs.declared.wants.Want.{Want}
use Rattle.pip_parent.specs.Wants.{need, pages_used}
use Rattle.pip_parent.specs.Pool.{first_five, pool_at}
use Rattle.pip_parent.specs.Built.{child_with, built_with_table}
use Rattle.pip_parent.specs.Contract.{CanBuild}
use Rattle.pip_parent.specs.Stages.{Called, CalledIn, IsBuilder, world_after_answer, caches_before, caches_with}
use Rattle.pip_parent.specs.Stages.{met_world, replying, tabled_world, undone_world, world_at, world_before}
use Rattle.pip_parent.proofs.Counting.{opened_most}
use Rattle.pip_parent.proofs.Deleted.{deletes}
use Rattle.pip_parent.proofs.Lent.{has_five, new_name, new_other, nonzero_at}
use Rattle.pip_parent.proofs.Made.{makes}
use Rattle.pip_parent.proofs.Opening.{its_name}
use Rattle.pip_parent.proofs.Steps.{again, runs_at}

pub used_most : (ws : List Want) (i : ℕ) → i ≤ 4096 → pages_used ws i ≤ 100000
used_most ws i l = let m = opened_most ws i in omega arith

pub not_said : (b : Bool) → false ≡ not b → b ≡ true
not_said true e = refl
not_said false e = cc

pub said : (b : Bool) → true ≡ not b → b ≡ false
said true e = cc
said false e = refl

pub builder : {w : World} {cpu : ℕ} {r : Occupant} {pool : List ℕ} → IsSoundWorld w → CanBuild w cpu r pool
    → IsBuilder w cpu r pool
builder s can = record { world = s; runs = can.runs; pool = can.pool }

-- what holds up to i and at i holds up to the next
pub up_to : (P : ℕ → Type 0) (i : ℕ) → ((j : ℕ) → j < i → P j) → P i → (j : ℕ) → j < suc i → P j
up_to P i f p j l = go (j == i) refl
  where
    go : (b : Bool) → (j == i) ≡ b → P j
    go true e = subst P (sym (eqb-true j i e)) p
    go false e = let d = eqb-false j i e in f j (omega arith)

-- pages that were taken away and are cleared are those that are cleared at once
cleared : (gs : List ℕ) (words : ℕ → Option (ℕ → ℕ))
    → words_cleared (gs ++ []) (words_without gs words) ≡ words_cleared gs words
cleared gs words =
    ap (λ hs. words_cleared hs (words_without gs words)) (append-nil gs) ∙ fun_ext (λ g. go (has gs g) _ (words g))
  where
    go : (b : Bool) (z o : Option (ℕ → ℕ)) → cond b z (cond b None o) ≡ cond b z o
    go true z o = refl
    go false z o = refl

module _ (A B : World → Type 0) (w : World) (cpu : ℕ) (r : Occupant) (pool : List ℕ) (ws : List Want)
    (b : IsBuilder w cpu r pool) (room : need ws ≤ length pool) where
  pub created_world : Called A B cpu CreatePartition (λ t p. create_partition t p (first_five pool)) → A w
      → B (world_before w cpu r pool ws 0)
  created_world called a = subst B (ap (λ x. world_after_answer CreatePartition w cpu r x)
      (makes w.tree r.name pool ws b.world.tree (its_name w cpu r pool b) b.pool room)) (called w a r b.runs)

  pub undone_after : (i : ℕ)
      → CalledIn A B cpu DeletePartition (λ v p. delete_partition v.tree (running v) p (pool_at pool 0))
      → A (met_world w cpu r pool ws i false) → B (undone_world w cpu r pool ws i)
  undone_after i called a =
      let here = tabled_world w cpu r pool ws i (status_number S.NoRight) 0 in
      let caches = caches_before w cpu r.name pool ws (suc i) in
      let s = b.world.tree in
      let n = its_name w cpu r pool b in
      let first : 0 < length pool = let f = has_five w.tree r.name pool ws s n b.pool room in omega arith in
      subst B (again DeletePartition w cpu r (built_with_table w.tree r.name pool ws i) caches (status_number S.NoRight)
      0
      (delete_partition (built_with_table w.tree r.name pool ws i) (running here) r.name (pool_at pool 0))
      ∙ ap (λ x. world_at w cpu r x.tree (caches_with DeletePartition caches x) (status_number x.status) x.value)
      (deletes w.tree r.name (child_with w.tree r.name pool ws (suc i) i)
      (built_with_table w.tree r.name pool ws i).words
      (new_other w.tree r.name pool ws s n b.pool room (suc i) i) refl
      (new_name w.tree r.name pool ws s n b.pool room (suc i) i) (running here) idle (b.pool.places 0 first)
      (ne_eqb (pool_at pool 0) 0 (nonzero_at w.tree r.name pool ws s n b.pool room 0 first)))
      ∙ ap (λ words. world_at w cpu r (record w.tree { words = words }) (all_emptied caches) 0 0)
      (cleared (config (child_with w.tree r.name pool ws (suc i) i)) w.tree.words))
      (called here a (replying r (status_number S.NoRight) 0)
      (runs_at w cpu r (built_with_table w.tree r.name pool ws i) caches (status_number S.NoRight) 0 b.runs))
    where
      idle : has (running (tabled_world w cpu r pool ws i (status_number S.NoRight) 0))
          (child_with w.tree r.name pool ws (suc i) i).name ≡ false
      idle =
          ap (λ ns. has ns (child_with w.tree r.name pool ws (suc i) i).name)
          (names_set w.cpus cpu r (replying r (status_number S.NoRight) 0) b.runs refl)
          ∙ go (has (running w) (child_with w.tree r.name pool ws (suc i) i).name) refl
        where
          go : (c : Bool) → has (running w) (child_with w.tree r.name pool ws (suc i) i).name ≡ c → c ≡ false
          go false e = refl
          go true e =
              let (y, j, q) = In-map_from (λ y. y.name) (child_with w.tree r.name pool ws (suc i) i).name (nodes w.tree)
              (b.world.names_nodes (child_with w.tree r.name pool ws (suc i) i).name
              (has_in (child_with w.tree r.name pool ws (suc i) i).name (running w) e)) in
              absurd (new_name w.tree r.name pool ws b.world.tree (its_name w cpu r pool b) b.pool room (suc i) i y j
              (sym q))
