-- The world in which want i has its table.
use Rattle.std.proofs.Common.{◌≡◌, ℕ, suc, ◌≤◌, ◌<◌, true, false, not, cond, List, length, sym, ap, ap₂, ◌∙◌, subst}
use Rattle.std.proofs.Common.{arith, Some}
use Rattle.std.proofs.lemmas.Bool.{ne_eqb}
use Rattle.pip_base.specs.Status.{status_number}
use Rattle.pip_model.specs.Prepare.{prepare}
use Rattle.pip_model.specs.Cache.{all_emptied}
use Rattle.pip_model.specs.declared.call_name.MemoryCall.TheVariants.{Prepare}
use Rattle.pip_model.specs.Worlds.{World, runs_on}
use Rattle.pip_model.specs.declared.processors.Occupant.{Occupant}
use Rattle.pip_model.proofs.Trees.Free.{IsName}
use Rattle.pip_model.proofs.Events.Soundness.{runs_named}
use Rattle.pip_parent.specs.declared.wants.Want.{Want}
use Rattle.pip_parent.specs.Wants.{want_at, is_bad, need, opened_before, opens, pages_used}
use Rattle.pip_parent.specs.Pool.{pool_at}
use Rattle.pip_parent.specs.Built.{built_before, lists_more, built_with_table, tree_with_child}
use Rattle.pip_parent.specs.Stages.{Called, CanLink, IsBuilder, caches_before, caches_with, link_caches, link_words}
use Rattle.pip_parent.specs.Stages.{replying, tabled_world, value_of, world_at, world_before}
use Rattle.pip_parent.proofs.Linked.{prepares_now}
use Rattle.pip_parent.proofs.Reached.{can_link}
use Rattle.pip_parent.proofs.Steps.{again, runs_at}
use Rattle.pip_parent.proofs.Stored.{with_words}
use Rattle.pip_parent.proofs.Tabled.{no_table}

abbrev pub Linked : (World → Type 0) → (World → Type 0) → ℕ → List ℕ → ℕ → ℕ → Type 0
Linked A B cpu pool first stores = (w : World) → A w → (r : Occupant) → runs_on w cpu ≡ Some r
    → CanLink w.tree r.name pool first stores → B (with_words w (link_words w.tree r.name pool first stores)
    (link_caches w.tree w.caches cpu r.name pool first stores))

pub its_name : (w : World) (cpu : ℕ) (r : Occupant) (pool : List ℕ) → IsBuilder w cpu r pool → IsName w.tree r.name
its_name w cpu r pool b = b.world.names_nodes r.name (runs_named w cpu r b.world b.runs)

module _ (w : World) (cpu : ℕ) (r : Occupant) (pool : List ℕ) (ws : List Want) (i : ℕ) (b : IsBuilder w cpu r pool)
    (room : need ws ≤ length pool) (low : i < length ws) (fits : (j : ℕ) → j < length ws → is_bad ws j ≡ false) where
  pub stays_world : (A : World → Type 0) → opens ws i ≡ false → A (world_before w cpu r pool ws i)
      → A (tabled_world w cpu r pool ws i 0 (value_of ws i))
  stays_world A o a =
      let e =
      no_table w.tree r.name pool ws b.world.tree (its_name w cpu r pool b) b.pool room w.tree.words i low fits o in
      subst A (ap₂ (λ x c. world_at w cpu r (tree_with_child w.tree x) (cond c
      (all_emptied (link_caches (built_before w.tree r.name pool ws i) (caches_before w cpu r.name pool ws i) cpu
      r.name pool (pages_used ws i) (suc (suc (lists_more (opened_before ws i)))))) (caches_before w cpu r.name pool ws
      i)) 0 (cond c (suc (suc (suc (lists_more (opened_before ws i))))) 0)) (sym e) (sym o)) a

  opened_here : (A B C : World → Type 0) → opens ws i ≡ true
      → Linked A B cpu pool (pages_used ws i) (suc (suc (lists_more (opened_before ws i))))
      → Called B C cpu Prepare (λ t p. prepare t p (pool_at pool 0) (want_at ws i).va (pool_at pool (pages_used ws i)))
      → A (world_before w cpu r pool ws i) → C (tabled_world w cpu r pool ws i 0 (value_of ws i))
  opened_here A B C o linked called a =
      let s = b.world.tree in
      let n = its_name w cpu r pool b in
      let now = built_before w.tree r.name pool ws i in
      let count = suc (suc (lists_more (opened_before ws i))) in
      let words = link_words now r.name pool (pages_used ws i) count in
      let before = caches_before w cpu r.name pool ws i in
      let caches = link_caches now before cpu r.name pool (pages_used ws i) count in
      let runs = runs_at w cpu r now before 0 0 b.runs in
      let one = linked (world_at w cpu r now before 0 0) a (replying r 0 0) runs
      (can_link w.tree r.name pool ws s n b.pool room i low fits o) in
      let two = called (world_at w cpu r (record now { words = words }) caches 0 0) one (replying r 0 0)
      (runs_at w cpu r (record now { words = words }) caches 0 0 b.runs) in
      subst C (again Prepare w cpu r (record now { words = words }) caches 0 0
      (prepare (record now { words = words }) r.name (pool_at pool 0) (want_at ws i).va
      (pool_at pool (pages_used ws i)))
      ∙ ap (λ x. world_at w cpu r x.tree (caches_with Prepare caches x) (status_number x.status) x.value)
      (prepares_now w.tree r.name pool ws s n b.pool room i low fits o)
      ∙ ap (λ b. world_at w cpu r (built_with_table w.tree r.name pool ws i) (cond (not b) (all_emptied caches) caches)
      0
      (suc count)) (ne_eqb (suc count) 0 (λ e. let z : ⊥ = omega arith in z))
      ∙ ap (λ c. world_at w cpu r (built_with_table w.tree r.name pool ws i) (cond c (all_emptied caches) before) 0
      (cond c (suc count) 0)) (sym o)) two

  pub opened_world : (A B C : World → Type 0) (first stores : ℕ) → first ≡ pages_used ws i
      → stores ≡ suc (suc (lists_more (opened_before ws i))) → opens ws i ≡ true → Linked A B cpu pool first stores
      → Called B C cpu Prepare (λ t p. prepare t p (pool_at pool 0) (want_at ws i).va (pool_at pool first))
      → A (world_before w cpu r pool ws i) → C (tabled_world w cpu r pool ws i 0 (value_of ws i))
  opened_world A B C first stores e f o linked called a =
      opened_here A B C o
      (subst (λ y. Linked A B cpu pool (pages_used ws i) y) f (subst (λ x. Linked A B cpu pool x stores) e linked))
      (subst (λ x. Called B C cpu Prepare (λ t p. prepare t p (pool_at pool 0) (want_at ws i).va (pool_at pool x))) e
      called)
      a
