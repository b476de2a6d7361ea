-- Why a search ended.
use Rattle.std.proofs.Common.{◌≡◌, ℕ, ◌+◌, ◌-◌, ◌<◌, ◌≤◌, inl, inr, List, length, Some, slice_get, refl, arith}
use Rattle.pip_search.specs.Systems.{Model}
use Rattle.pip_search.specs.Ending.{Ends, IsBeyond}
use Rattle.pip_search.specs.Exploring.{IsExploring}
use Rattle.pip_search.specs.Orders.{IsRanked}
use Rattle.pip_search.specs.Keys.{Keyed, step_of, steps_of}
use Rattle.pip_search.specs.declared.found.Found.{Found}
use Rattle.pip_search.specs.declared.searching.Extent.TheVariants.{Closed, Stopped, Within}
use Rattle.pip_search.proofs.Making.{at-same}
use Rattle.pip_search.proofs.Places.{get-below}
use Rattle.pip_search.proofs.Picking.{map_at}

-- the visits before i are not as deep
abbrev pub IsShallow : List Keyed → ℕ → ℕ → Type 0
IsShallow vs i most = (j : ℕ) (u : Keyed) → j < i → slice_get vs j ≡ Some u → u.depth < most

-- and then visit i isn't either
pub shallow_more : (m : Model) (start : List ℕ) (vs : List Keyed) (fs : List Found) (k c i most : ℕ) (v : Keyed)
    → IsExploring m start vs fs k c → slice_get vs i ≡ Some v → v.depth < most → IsShallow vs (i + 1) most
shallow_more m start vs fs k c i most v h at low j u a e =
    let o : u.depth ≤ v.depth = h.order j i u v (omega arith) e at in omega arith

module _ (m : Model) (start : List ℕ) (vs : List Keyed) (fs : List Found) (i c most limit : ℕ)
    (h : IsExploring m start vs fs i c) where
  pub closed_ends : (v : Keyed) → slice_get vs (length vs - 1) ≡ Some v → IsShallow vs i most → length vs ≤ i
      → Ends m vs most limit (Closed v.depth)
  closed_ends v at shallow all =
      let some = h.some in (
        shallow (length vs - 1) v (omega arith) at,
        (
          record { place = length vs - 1; visit = v; at = at; depth_is = refl },
          λ j u e. let b : j < length vs = get-below vs j u e in
              let o : u.depth ≤ v.depth = h.order j (length vs - 1) u v (omega arith) e at in o,
        ),
      )

  -- at a depth that was asked for no visit is deeper
  pub within_ends : (v : Keyed) → slice_get vs i ≡ Some v → IsRanked (steps_of vs) fs i 0 → IsShallow vs i most
      → most ≤ v.depth → Ends m vs most limit (Within v.depth)
  within_ends v at ranked shallow deep =
      let all : (j : ℕ) (u : Keyed) → slice_get vs j ≡ Some u → u.depth ≤ most = λ j u e. elim (h.visits j u e) [
        | inl first ↦ omega arith
        | inr child ↦
            let low = child.earlier in
            elim (ranked.visits j (step_of u) (omega arith) (map_at step_of vs j u e)) [
              | inl early ↦
                  let d = child.depth in
                  let p : child.from.depth < most = shallow u.parent child.from early child.at in
                  omega arith
              | inr same ↦ absurd (omega arith)
            ]
      ] in
      let own = all i v at in (
        omega arith,
        (
          record { place = i; visit = v; at = at; depth_is = refl },
          λ j u e. omega (arith, all j u e),
        ),
      )

  pub stopped_ends : (v : Keyed) → slice_get vs i ≡ Some v → v.depth < most → IsBeyond m vs limit i
      → Ends m vs most limit (Stopped v.depth)
  stopped_ends v at low beyond = (
    low,
    (
      record { place = i; beyond = beyond; depth_is = rw (at-same vs i beyond.from v beyond.at at) },
      λ j u e. h.near v j u at e,
    ),
  )
