-- Ways back over parents.
use Rattle.std.proofs.Common.{◌≡◌, ℕ, zero, suc, ◌+◌, ◌<◌, ◌≤◌, inl, inr, List, [], ◌∷◌, ◌++◌, length, Some, None}
use Rattle.std.proofs.Common.{replicate, slice_get, refl, sym, subst, ◌∙◌, arith}
use Rattle.pip_search.specs.Orders.{IsTrail}
use Rattle.pip_search.specs.Ways.{AreTraced, choices_back, way_back, way_to}
use Rattle.pip_search.specs.declared.visits.Visit.{Visit}
use Rattle.pip_search.specs.declared.found.Found.{Found}

back_none : (n : ℕ) (vs : List Visit) → way_back n vs 0 ≡ []
unfolding way_back
back_none zero vs = refl
back_none (suc n) vs = refl

back_more : (n j : ℕ) (vs : List Visit)
    → way_back (suc n) vs (suc j) ≡ choices_back (slice_get vs (suc j)) (way_back n vs)
unfolding way_back
back_more n j vs = refl

-- the runs of equal choices before a visit: it ends one, which began at an earlier visit
pub record IsRunBack (vs : List Visit) (j : ℕ) (u : Visit) : Type 0 where
  pub start : Visit
  pub at : slice_get vs u.run ≡ Some start
  pub low : u.run < j
  pub count : ℕ
  pub some : 0 < count
  pub depth : u.depth ≡ count + start.depth
  pub way : way_to vs j ≡ replicate count u.choice ++ way_to vs u.run

module _ (vs : List Visit) (fs : List Found) (t : AreTraced vs fs) where
  -- more parents than there are change nothing
  enough : (n k j : ℕ) → j ≤ n → j ≤ k → way_back n vs j ≡ way_back k vs j
  enough n k zero a b = cc (back_none n vs, back_none k vs)
  enough zero k (suc j) a b = absurd (omega arith)
  enough (suc n) zero (suc j) a b = absurd (omega arith)
  enough (suc n) (suc k) (suc j) a b =
      let parents : (u : Visit) → slice_get vs (suc j) ≡ Some u → u.parent < suc j = λ u e.
      elim (t.visits (suc j) u e) [
        | inl first ↦ absurd (omega arith)
        | inr from ↦ from.earlier
      ] in
      back_more n j vs
      ∙ elim (slice_get vs (suc j)) as (λ o. slice_get vs (suc j) ≡ o
      → choices_back o (way_back n vs) ≡ choices_back o (way_back k vs)) [
        | None ↦ λ e. refl
        | Some u ↦ λ e. let p = parents u e in
            rw (enough n k u.parent (omega arith) (omega arith))
      ] refl ∙ sym (back_more k j vs)

  pub way_more : (j : ℕ) (u : Visit) → 0 < j → slice_get vs j ≡ Some u → way_to vs j ≡ u.choice ∷ way_to vs u.parent
  way_more zero u some e = absurd (omega arith)
  way_more (suc j) u some e = elim (t.visits (suc j) u e) [
    | inl first ↦ absurd (omega arith)
    | inr from ↦ let p = from.earlier in rw (
      back_more j j vs,
      e,
      enough j u.parent u.parent (omega arith)
          (omega arith),
    )
  ]

  pub way_none : way_to vs 0 ≡ []
  way_none = back_none 0 vs

  -- the way is the trail, and as long as the visit is deep
  pub way_trail : (n j : ℕ) (u : Visit) → j < n → slice_get vs j ≡ Some u → IsTrail vs j (way_to vs j)
      × (length (way_to vs j) ≡ u.depth)
  way_trail zero j u a e = absurd (omega arith)
  way_trail (suc n) j u a e = elim (t.visits j u e) [
    | inl first ↦ rw first.0 (subst (λ cs. IsTrail vs 0 cs × (length cs ≡ u.depth)) (sym way_none)
        (refl, sym first.1.depth))
    | inr from ↦ let low = from.earlier in let some : 0 < j = omega arith in
        let r = way_trail n u.parent from.from (omega arith) from.at in
        rw (way_more j u some e) ((some, (u, (e, (refl, r.0)))), let d = r.1 in let f = from.depth in omega arith)
  ]

  pub run_back : (n j : ℕ) (u : Visit) → j < n → 0 < j → slice_get vs j ≡ Some u → IsRunBack vs j u
  run_back zero j u a some e = absurd (omega arith)
  run_back (suc n) j u a some e = elim (t.visits j u e) [
    | inl first ↦ absurd (omega arith)
    | inr from ↦ elim from.run [
      | inl plain ↦ record {
        start = from.from;
        at = rw plain.1 from.at;
        low = omega arith;
        count = 1;
        some = omega arith;
        depth = omega arith;
        way = rw (way_more j u some e, ← plain.1);
      }
      | inr longer ↦ let low = from.earlier in
          let r = run_back n u.parent from.from (omega arith) longer.0 from.at in
          record {
            start = r.start;
            at = rw longer.1.1 r.at;
            low = omega arith;
            count = suc r.count;
            some = omega arith;
            depth = omega arith;
            way = cc (way_more j u some e, r.way, longer.1.0, longer.1.1);
          }
    ]
  ]
