-- One choice is made: from what was known before to what is known after it.
use Rattle.std.proofs.Common.{◌≡◌, ◌≢◌, ℕ, ◌+◌, ◌<◌, ◌≤◌, ◌⊎◌, inl, inr, List, [], ◌∷◌, ◌++◌, length, length-append}
use Rattle.std.proofs.Common.{Some, slice_get, sym, subst, ◌∙◌, arith}
use Rattle.std.proofs.lemmas.Bool.{cases_eq, cases_lt}
use Rattle.pip_search.specs.Systems.{Model, LeadsOn}
use Rattle.pip_search.specs.Growing.{Grew, HasLabel, Told}
use Rattle.pip_search.specs.Orders.{IsRanked}
use Rattle.pip_search.specs.Packing.{unpacked_key}
use Rattle.pip_search.specs.Keys.{Keyed, key_of, step_of, steps_of}
use Rattle.pip_search.specs.Exploring.{IsExploring, IsShown, IsKnown, IsVisit, StartsRun, WasMade}
use Rattle.pip_search.specs.declared.found.Found.{Found}
use Rattle.pip_search.proofs.Places.{get-back, get-below, get-more, get-new}
use Rattle.pip_search.proofs.Picking.{map_at}

pub some-same : {X : Type 0} {x y : X} → Some x ≡ Some y → x ≡ y
some-same e = cc

pub at-same : {X : Type 0} (xs : List X) (i : ℕ) (x y : X) → slice_get xs i ≡ Some x → slice_get xs i ≡ Some y → x ≡ y
at-same xs i x y e f = some-same (cc)

-- ---- one visit more

module _ (m : Model) (start : List ℕ) (vs : List Keyed) (x : Keyed) where
  made_more : (fs : List Found) (j d : ℕ) → WasMade m vs fs j d → WasMade m (vs ++ x ∷ []) fs j d
  made_more fs j d h = record {
    from = h.from;
    at = get-more vs (x ∷ []) j h.from h.at;
    place = h.place;
    to = h.to;
    there = get-more vs (x ∷ []) h.place h.to h.there;
    near = h.near;
    early = h.early;
    shown = h.shown;
    leads = h.leads;
    told = h.told;
  }

  visit_more : (j : ℕ) (u : Keyed) → IsVisit m start vs j u → IsVisit m start (vs ++ x ∷ []) j u
  visit_more j u (inl first) = inl first
  visit_more j u (inr h) = inr (record {
    from = h.from;
    at = get-more vs (x ∷ []) u.parent h.from h.at;
    earlier = h.earlier;
    choice = h.choice;
    depth = h.depth;
    run = h.run;
    shown = h.shown;
    leads = h.leads;
  })

  shown_more : (f : Found) → IsShown m vs f → IsShown m (vs ++ x ∷ []) f
  shown_more f h = record {
    from = h.from;
    at = get-more vs (x ∷ []) f.at h.from h.at;
    choice = h.choice;
    depth = h.depth;
    some = h.some;
    next = h.next;
    leads = h.leads;
  }

-- a new visit, found from visit i by the choice c
pub record IsNew (m : Model) (vs : List Keyed) (i c : ℕ) (v x : Keyed) : Type 0 where
  pub at : slice_get vs i ≡ Some v
  pub parent : x.parent ≡ i
  pub choice : x.choice ≡ c
  pub can : c < m.choices
  pub depth : x.depth ≡ v.depth + 1
  pub run : StartsRun i (step_of v) c x.run
  pub shown : List ℕ
  pub leads : LeadsOn m (key_of v) c (key_of x) shown

module _ (m : Model) (start : List ℕ) (vs : List Keyed) (fs : List Found) (i c : ℕ)
    (h : IsExploring m start vs fs i c) (v x : Keyed) (n : IsNew m vs i c v x) where
  abbrev vs2 : List Keyed
  vs2 = vs ++ x ∷ []

  grown : length vs2 ≡ length vs + 1
  grown = length-append vs (x ∷ [])

  at_i : slice_get vs2 i ≡ Some v
  at_i = get-more vs (x ∷ []) i v n.at

  new_visit : IsVisit m start vs2 (length vs) x
  new_visit = inr (record {
    from = v;
    at = rw (← n.parent) at at_i;
    earlier = let e = n.parent in let b : i < length vs = get-below vs i v n.at in omega arith;
    choice = omega arith;
    depth = n.depth;
    run = rw n.parent (subst (λ d. StartsRun i (step_of v) d x.run) (sym n.choice) n.run);
    shown = n.shown;
    leads = rw n.choice n.leads;
  })

  visits_then : (j : ℕ) (u : Keyed) → slice_get vs2 j ≡ Some u → IsVisit m start vs2 j u
  visits_then j u e = elim (get-back vs x j u e) [
    | inl old ↦ visit_more m start vs x j u (h.visits j u old)
    | inr new ↦ rw new.0 (subst (λ y. IsVisit m start vs2 (length vs) y) (sym new.1) new_visit)
  ]

  x_low : x.depth ≤ length vs
  x_low = let a = h.low i v n.at in let b : i < length vs = get-below vs i v n.at in omega arith

  low_then : (j : ℕ) (u : Keyed) → slice_get vs2 j ≡ Some u → u.depth ≤ j
  low_then j u e = elim (get-back vs x j u e) [
    | inl old ↦ h.low j u old
    | inr new ↦ let d : u.depth ≡ x.depth = rw new.1 in omega (arith, x_low)
  ]

  near_x : (j : ℕ) (u : Keyed) → slice_get vs2 j ≡ Some u → u.depth ≤ v.depth + 1
  near_x j u e = elim (get-back vs x j u e) [
    | inl old ↦ h.near v j u n.at old
    | inr new ↦ let d : u.depth ≡ x.depth = rw new.1 in omega arith
  ]

  order_then : (j k : ℕ) (u w : Keyed) → j ≤ k → slice_get vs2 j ≡ Some u → slice_get vs2 k ≡ Some w → u.depth ≤ w.depth
  order_then j k u w le e f = elim (get-back vs x k w f) [
    | inr new ↦ let d : w.depth ≡ x.depth = rw new.1 in omega (arith, near_x j u e)
    | inl old ↦ elim (get-back vs x j u e) [
      | inl early ↦ h.order j k u w le early old
      | inr late ↦ let b : k < length vs = get-below vs k w old in absurd (omega arith)
    ]
  ]

  is_v : (w : Keyed) → slice_get vs2 i ≡ Some w → w ≡ v
  is_v w e = at-same vs2 i w v e at_i

  pub with_visit : IsExploring m start (vs ++ x ∷ []) fs i c
  with_visit = record {
    some = omega (arith, grown);
    before = λ j d a b. made_more m start vs x fs j d (h.before j d a b);
    here = λ d a. made_more m start vs x fs i d (h.here d a);
    visits = visits_then;
    labels = λ k f e. shown_more m start vs x f (h.labels k f e);
    low = low_then;
    order = order_then;
    near = λ w j u e f. let d : w.depth ≡ v.depth = rw (is_v w e) in omega (arith, near_x j u f);
    soon = λ w k f e g. let d : w.depth ≡ v.depth = rw (is_v w e) in omega (arith, h.soon v k f n.at g);
  }

-- ---- one label more

told_more : (fs : List Found) (f : Found) (label : List ℕ) (d i c : ℕ) → IsKnown fs label d i c
    → IsKnown (fs ++ f ∷ []) label d i c
told_more fs f label d i c h = record {
  place = h.place;
  found = h.found;
  at = get-more fs (f ∷ []) h.place h.found h.at;
  same = h.same;
  soon = h.soon;
  early = h.early;
}

made_told : (m : Model) (vs : List Keyed) (fs : List Found) (f : Found) (j d : ℕ) → WasMade m vs fs j d
    → WasMade m vs (fs ++ f ∷ []) j d
made_told m vs fs f j d h = record {
  from = h.from;
  at = h.at;
  place = h.place;
  to = h.to;
  there = h.there;
  near = h.near;
  early = h.early;
  shown = h.shown;
  leads = h.leads;
  told = λ some. told_more fs f h.shown (h.from.depth + 1) j d (h.told some);
}

module _ (m : Model) (start : List ℕ) (vs : List Keyed) (fs : List Found) (i c : ℕ)
    (h : IsExploring m start vs fs i c) (v : Keyed) (at : slice_get vs i ≡ Some v) (f : Found) (s : IsShown m vs f)
    (d : f.depth ≡ v.depth + 1) where
  pub with_label : IsExploring m start vs (fs ++ f ∷ []) i c
  with_label = record {
    some = h.some;
    before = λ j e a b. made_told m vs fs f j e (h.before j e a b);
    here = λ e a. made_told m vs fs f i e (h.here e a);
    visits = h.visits;
    labels = λ k g e. elim (get-back fs f k g e)
        [ inl old ↦ h.labels k g old | inr new ↦ rw new.1 s ];
    low = h.low;
    order = h.order;
    near = h.near;
    soon = λ w k g e a. let q : w.depth ≡ v.depth = rw (at-same vs i w v e at) in
        elim (get-back fs f k g a) [
          | inl old ↦ h.soon w k g e old
          | inr new ↦ let r : g.depth ≡ f.depth = rw new.1 in omega arith
        ];
  }

-- ---- the choice was made

pub with_made : (m : Model) (start : List ℕ) (vs : List Keyed) (fs : List Found) (i c : ℕ)
    → IsExploring m start vs fs i c → WasMade m vs fs i c → IsExploring m start vs fs i (c + 1)
with_made m start vs fs i c h w = record {
  some = h.some;
  before = h.before;
  here = λ d a. elim (below d a) [
    | inl less ↦ h.here d less
    | inr same ↦ rw same w
  ];
  visits = h.visits;
  labels = h.labels;
  low = h.low;
  order = h.order;
  near = h.near;
  soon = h.soon;
}
  where
    below : (d : ℕ) → d < c + 1 → (d < c) ⊎ (d ≡ c)
    below d a = elim (cases_lt d c) [ inl less ↦ inl less | inr most ↦ inr (omega arith) ]

-- all in one, with the next key as bytes
pub record Makes (m : Model) (vs : List Keyed) (i c : ℕ) (v : Keyed) (key shown : List ℕ) (d r : ℕ) : Type 0 where
  pub at : slice_get vs i ≡ Some v
  pub can : c < m.choices
  pub leads : LeadsOn m (key_of v) c (unpacked_key key) shown
  pub depth : d ≡ v.depth + 1
  pub run : StartsRun i (step_of v) c r

module _ (m : Model) (start : List ℕ) (vs : List Keyed) (fs : List Found) (i c : ℕ)
    (h : IsExploring m start vs fs i c) (v : Keyed) (key shown : List ℕ) (d r : ℕ)
    (k : Makes m vs i c v key shown d r) where
  -- the next state is among the visits
  record Standing (ws : List Keyed) : Type 0 where
    exploring : IsExploring m start ws fs i c
    from : slice_get ws i ≡ Some v
    place : ℕ
    to : Keyed
    there : slice_get ws place ≡ Some to
    same : to.key ≡ key
    near : to.depth ≤ v.depth + 1

  reached : (ws : List Keyed) → Grew vs ws key i c d r → Standing ws
  reached ws (inl keeps) = rw keeps.same (record {
    exploring = h;
    from = k.at;
    place = keeps.has.place;
    to
        = keeps.has.at.visit;
    there = keeps.has.at.at;
    same = keeps.has.at.same;
    near = h.near v keeps.has.place
        keeps.has.at.visit k.at keeps.has.at.at;
  })
  reached ws (inr adds) = rw adds.whole (record {
    exploring = with_visit m start vs fs i c h v adds.visit
        (record {
          at = k.at;
          parent = adds.parent_is;
          choice = adds.choice_is;
          can = k.can;
          depth = adds.depth_is ∙
              k.depth;
          run = subst (λ y. StartsRun i (step_of v) c y) (sym adds.run_is) k.run;
          shown = shown;
          leads = subst
              (λ y. LeadsOn m (key_of v) c (unpacked_key y) shown) (sym adds.key_is) k.leads;
        });
    from = get-more vs
        (adds.visit ∷ []) i v k.at;
    place = length vs;
    to = adds.visit;
    there = get-new vs adds.visit;
    same
        = adds.key_is;
    near = let a = adds.depth_is in let b = k.depth in omega arith;
  })

  made : (ws : List Keyed) (gs : List Found) (s : Standing ws) → IsRanked (steps_of ws) gs i (c + 1)
      → IsExploring m start ws gs i c → (shown ≢ [] → IsKnown gs shown (v.depth + 1) i c)
      → IsExploring m start ws gs i (c + 1)
  made ws gs s rank e told = with_made m start ws gs i c e (record {
    from = v;
    at = s.from;
    place = s.place;
    to = s.to;
    there = s.there;
    near = s.near;
    early = elim (cases_eq s.place 0) [
      | inl zero_th ↦ inl zero_th
      | inr some ↦ inr
          (rank.visits s.place (step_of s.to) (omega arith) (map_at step_of ws s.place s.to s.there))
    ];
    shown = shown;
    leads = rw s.same k.leads;
    told = told;
  })

  told_kept : (ws : List Keyed) (s : Standing ws) → IsRanked (steps_of ws) fs i (c + 1)
      → (shown ≡ []) ⊎ HasLabel fs shown → shown ≢ [] → IsKnown fs shown (v.depth + 1) i c
  told_kept ws s rank (inl none) some = absurd (some none)
  told_kept ws s rank (inr has) some = record {
    early = rank.labels has.place has.at.found has.at.at;
    place = has.place;
    found = has.at.found;
    at = has.at.at;
    same = has.at.same;
    soon = s.exploring.soon v has.place has.at.found s.from has.at.at;
  }

  told_then : (ws : List Keyed) (gs : List Found) (s : Standing ws) → IsRanked (steps_of ws) gs i (c + 1)
      → Told fs gs shown i c d → IsExploring m start ws gs i (c + 1)
  told_then ws gs s rank (inl keeps) =
      let q : IsRanked (steps_of ws) fs i (c + 1) = rw (← keeps.same) rank in
      rw keeps.same (made ws fs s q s.exploring (told_kept ws s q keeps.has))
  told_then ws gs s rank (inr adds) =
      let f = adds.found in
      let q : IsRanked (steps_of ws) (fs ++ f ∷ []) i (c + 1) = rw (← adds.whole) rank in
      let depth : f.depth ≡ v.depth + 1 = adds.depth_is ∙ k.depth in
      rw adds.whole (made ws (fs ++ f ∷ []) s q (with_label m start ws fs i c s.exploring v s.from f
      (record {
        from = v;
        at = subst (λ p. slice_get ws p ≡ Some v) (sym adds.at_is) s.from;
        choice = let a
            = adds.choice_is in let b = k.can in omega arith;
        depth = depth;
        some = λ e. adds.some
            (sym adds.label_is ∙ e);
        next = unpacked_key key;
        leads = subst
            (λ p. LeadsOn m (key_of v) p (unpacked_key key) f.label.items) (sym adds.choice_is)
            (subst (λ y. LeadsOn m (key_of v) c (unpacked_key key) y) (sym adds.label_is) k.leads);
      }) depth)
      (λ some. record {
        place = length fs;
        found = f;
        at = get-new fs f;
        same = adds.label_is;
        soon = omega arith;
        early = q.labels (length fs) f (get-new fs f);
      }))

  pub grown_and_told : (ws : List Keyed) (gs : List Found) → IsRanked (steps_of ws) gs i (c + 1)
      → Grew vs ws key i c d r → Told fs gs shown i c d → IsExploring m start ws gs i (c + 1)
  grown_and_told ws gs q g t = told_then ws gs (reached ws g) q t

-- a visit stays where it stands
pub grew_same : (vs ws : List Keyed) (key : List ℕ) (parent choice depth run i : ℕ) (v : Keyed)
    → slice_get vs i ≡ Some v → Grew vs ws key parent choice depth run → slice_get ws i ≡ slice_get vs i
grew_same vs ws key parent choice depth run i v at (inl keeps) = rw keeps.same
grew_same vs ws key parent choice depth run i v at (inr adds) = rw
    (adds.whole, get-more vs (adds.visit ∷ []) i v at, ← at)
