-- A page of the pool is stored to.
use Rattle.std.proofs.Common.{◌≡◌, ℕ, suc, ◌+◌, List, ap, ◌∙◌, arith, Option, Some}
use Rattle.pip_base.specs.declared.types.Access.TheVariants.{Store}
use Rattle.pip_base.specs.declared.types.Size.TheVariants.{Word}
use Rattle.pip_model.specs.Cache.{Places, places_after_access}
use Rattle.pip_model.specs.Events as E
use Rattle.pip_model.specs.Happens.{by_runner, event, on_running, with_word, wrote}
use Rattle.pip_model.specs.Reach.{Place, reach}
use Rattle.pip_model.specs.Worlds.{World, runs_on, with_caches}
use Rattle.pip_model.specs.declared.processors.Occupant.{Occupant}
use Rattle.pip_model.specs.Answers.{page_of}
use Rattle.pip_parent.specs.Pool.{pool_at}
use Rattle.pip_parent.specs.Stages.{link_caches, link_words}

abbrev pub with_words : World → (ℕ → Option (ℕ → ℕ)) → List Places → World
with_words w words cs = record w { tree = record w.tree { words = words }; caches = cs }

pub store_next : (w : World) (words : ℕ → Option (ℕ → ℕ)) (cs : List Places) (r : Occupant) (cpu va x g : ℕ)
    → runs_on w cpu ≡ Some r → reach w.tree r.name va Store Word ≡ Place g 0
    → (event (with_words w words cs) (E.Store cpu va Word x)).world ≡ with_words w
    (with_word (record w.tree { words = words }) g 0 x).words (places_after_access w.tree cs cpu r.name va Store Word)
store_next w words cs r cpu va x g runs at =
    ap (λ o.
    (with_caches (by_runner cs o (λ r. places_after_access w.tree cs cpu r.name va Store Word))
    (on_running (with_words w words
    cs) cpu o (λ r. wrote (with_words w words cs) cpu r va Word x (reach w.tree r.name va Store Word)))).world) runs
    ∙ ap (λ z. (with_caches (places_after_access w.tree cs cpu r.name va Store Word)
    (wrote (with_words w words cs) cpu r va Word x z)).world) at

abbrev pub linked_world : World → Occupant → ℕ → List ℕ → ℕ → ℕ → World
linked_world w r cpu pool k n =
    with_words w (link_words w.tree r.name pool k n) (link_caches w.tree w.caches cpu r.name pool k n)

pub link_next : (w : World) (r : Occupant) (cpu : ℕ) (pool : List ℕ) (k n : ℕ) → runs_on w cpu ≡ Some r
    → reach w.tree r.name (pool_at pool (k + n)) Store Word ≡ Place (page_of w.tree r.name (pool_at pool (k + n))) 0
    → (event (linked_world w r cpu pool k n)
    (E.Store cpu (pool_at pool (k + n)) Word (pool_at pool (suc (k + n))))).world ≡ linked_world w r cpu pool k (suc n)
link_next w r cpu pool k n runs at =
    store_next w (link_words w.tree r.name pool k n) (link_caches w.tree w.caches cpu r.name pool k n) r cpu
    (pool_at pool (k + n)) (pool_at pool (suc (k + n))) (page_of w.tree r.name (pool_at pool (k + n))) runs at

-- as the loop counts
pub link_more : (w : World) (r : Occupant) (cpu : ℕ) (pool : List ℕ) (k n : ℕ) → runs_on w cpu ≡ Some r
    → reach w.tree r.name (pool_at pool (k + n)) Store Word ≡ Place (page_of w.tree r.name (pool_at pool (k + n))) 0
    → (event (linked_world w r cpu pool k n) (E.Store cpu (pool_at pool (k + n)) Word (pool_at pool (k + n + 1)))).world
    ≡ linked_world w r cpu pool k (n + 1)
link_more w r cpu pool k n runs at =
    ap (λ z. (event (linked_world w r cpu pool k n) (E.Store cpu (pool_at pool (k + n)) Word (pool_at pool z))).world)
    (let e : k + n + 1 ≡ suc (k + n) = omega arith in e)
    ∙ link_next w r cpu pool k n runs at
    ∙ ap (λ z. linked_world w r cpu pool k z) (let e : suc n ≡ n + 1 = omega arith in e)
