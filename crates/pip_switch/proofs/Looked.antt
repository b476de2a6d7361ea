-- An access through the cache of its processor.
use Rattle.std.proofs.Common.{◌≡◌, ℕ, zero, suc, ◌<◌, Bool, true, false, cond, List, [], ◌∷◌, length, refl, sym, ap}
use Rattle.std.proofs.Common.{◌∙◌, subst, arith, Option, Some}
use Rattle.std.specs.Prelude.{slice_index_or, slice_set}
use Rattle.std.specs.List.{refill}
use Rattle.std.proofs.lemmas.List.{get_or_default}
use Rattle.pip_base.specs.Memory.{Memory}
use Rattle.pip_base.specs.declared.types.Access.{Access}
use Rattle.pip_base.specs.declared.types.Access.TheVariants.{Fetch, Load, Store}
use Rattle.pip_base.specs.declared.types.Size.{Size}
use Rattle.pip_base.specs.declared.types.Size.TheVariants.{Word}
use Rattle.pip_mmu.specs.Cached.{HasCached, after_access}
use Rattle.pip_mmu.proofs.Events.{fetch_caches, load_caches, store_caches}
use Rattle.pip_model.specs.Cache.{Agrees, Places, places_after_access, cache_at, cache_after_access}
use Rattle.pip_model.specs.Events as E
use Rattle.pip_model.specs.Happens.{caches_after}
use Rattle.pip_model.specs.Partitions.{InEach}
use Rattle.pip_model.specs.Reach.{is_misaligned}
use Rattle.pip_model.specs.Tree.{Tree}
use Rattle.pip_model.specs.Worlds.{World, runs_on}
use Rattle.pip_model.specs.declared.processors.Occupant.{Occupant}
use Rattle.pip_switch.specs.Occupied.{on_cpu, part_on}
use Rattle.pip_switch.specs.Standing.{HasCachedWorld, StandsWith}
use Rattle.pip_switch.proofs.Placed.{cell_put}
use Rattle.pip_switch.proofs.Running.{part_found, part_of, runs_there}

-- what stands at a place is put there again
set_same : (ks : List Places) (cpu : ℕ) (d : Places) → cpu < length ks → slice_set ks cpu (slice_index_or ks cpu d) ≡ ks
set_same [] cpu d low = absurd (omega (arith, low))
set_same (k ∷ ks) zero d low = refl
set_same (k ∷ ks) (suc cpu) d low = ap (λ z. k ∷ z) (set_same ks cpu d (omega (arith, low)))

-- the cache that is lent of all: zs are the caches as the call has them
module _ (m : Memory) (cs : List (Option Occupant)) (ks zs : List Places)
    (same : zs ≡ ks) (cpu : ℕ) (inside : cpu < length cs) (p : ℕ) (on : part_on cs cpu ≡ Some p) (d : Places) where
  module _ (w : World) (s : StandsWith m cs ks w) where
    low : cpu < length ks
    low = let e = s.each in omega (arith, inside, e)

    lent : slice_index_or zs cpu d ≡ cache_at ks cpu
    lent = ap (λ z. slice_index_or z cpu d) same ∙ get_or_default ks cpu d _ low

    agrees : Agrees w.tree (slice_index_or zs cpu d)
    agrees = subst (Agrees w.tree) (sym lent) (subst (λ k. Agrees w.tree (cache_at k cpu)) s.caches (s.cached cpu))

    -- what holds in each tree with which the cache agrees holds in this one
    pub at_tree : (P : Tree → Type 0) → InEach m p (λ t x. Agrees t (slice_index_or zs cpu d) → P t) → P w.tree
    at_tree P h = let (x, found) = part_found m cs cpu w s.bare p on in
        h w.tree x s.bare.sound.tree s.bare.shows.laid found agrees

    -- the caches after the access
    looked : (va : ℕ) (a : Access) (size : Size) (new : Places)
        → InEach m p (λ t x. new ≡ after_access t (slice_index_or zs cpu d) p va a size)
        → refill (length ks) ks (slice_set zs cpu new) ≡ places_after_access w.tree w.caches cpu p va a size
    looked va a size new h =
        let (x, found) = part_found m cs cpu w s.bare p on in
        cell_put ks zs same cpu new _
        (h w.tree x s.bare.sound.tree s.bare.shows.laid found ∙ ap (λ k. after_access w.tree k p va a size) lent)
        ∙ go (is_misaligned va size) ∙ ap (λ k. places_after_access w.tree k cpu p va a size) (sym s.caches)
      where
        go : (b : Bool) → slice_set ks cpu (cond b (cache_at ks cpu)
            (cache_after_access w.tree (cache_at ks cpu) p va a))
            ≡ cond b ks (slice_set ks cpu (cache_after_access w.tree (cache_at ks cpu) p va a))
        go true = set_same ks cpu _ low
        go false = refl

    here : (r : Occupant) × (runs_on w cpu ≡ Some r) × (r.name ≡ p) × (on_cpu cs cpu ≡ Some r)
    here = let (r, is, name) = part_of (on_cpu cs cpu) p on in (r, runs_there m cs cpu w s.bare ∙ is, name, is)

    pub looked_load : (va : ℕ) (size : Size) (new : Places)
        → InEach m p (λ t x. new ≡ after_access t (slice_index_or zs cpu d) p va Load size)
        → refill (length ks) ks (slice_set zs cpu new) ≡ caches_after w (E.Load cpu va size)
    looked_load va size new h =
        let (r, runs, name, is) = here in
        looked va Load size new h ∙ ap (λ q. places_after_access w.tree w.caches cpu q va Load size) (sym name)
        ∙ sym (load_caches w cpu r runs va size)

    pub looked_store : (va : ℕ) (size : Size) (v : ℕ) (new : Places)
        → InEach m p (λ t x. new ≡ after_access t (slice_index_or zs cpu d) p va Store size)
        → refill (length ks) ks (slice_set zs cpu new) ≡ caches_after w (E.Store cpu va size v)
    looked_store va size v new h =
        let (r, runs, name, is) = here in
        looked va Store size new h ∙ ap (λ q. places_after_access w.tree w.caches cpu q va Store size) (sym name)
        ∙ sym (store_caches w cpu r runs va size v)

    pub looked_fetch : (pc : ℕ) → ((r : Occupant) → on_cpu cs cpu ≡ Some r → pc ≡ r.ctx.pc) → (new : Places)
        → InEach m p (λ t x. new ≡ after_access t (slice_index_or zs cpu d) p pc Fetch Word)
        → refill (length ks) ks (slice_set zs cpu new) ≡ caches_after w (E.Fetch cpu)
    looked_fetch pc at new h =
        let (r, runs, name, is) = here in
        looked pc Fetch Word new h ∙ ap (λ q. places_after_access w.tree w.caches cpu q pc Fetch Word) (sym name)
        ∙ ap (λ q. places_after_access w.tree w.caches cpu r.name q Fetch Word) (at r is)
        ∙ sym (fetch_caches w cpu r runs)

  -- so the partition stands with the cache
  pub lent_stands : HasCachedWorld m cs ks → HasCached m p (slice_index_or zs cpu d)
  lent_stands h =
      let (x, found) = part_found m cs cpu h.world h.stands.bare p on in (
        record {
          tree = h.world.tree;
          node = x;
          sound = h.stands.bare.sound.tree;
          laid = h.stands.bare.shows.laid;
          found = found;
        },
        agrees h.world h.stands,
      )
