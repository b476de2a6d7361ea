-- Places that are left, their orders, and stages.
use Rattle.std.proofs.Common.{◌≡◌, ◌≢◌, ℕ, zero, suc, ◌+◌, ◌*◌, ◌/◌, ◌%◌, ◌^◌, ◌<◌, ◌≤◌, ◌⊎◌, inl, inr, List, [], ◌∷◌}
use Rattle.std.proofs.Common.{◌++◌, length, Some, reverse, slice_get, slice_index, refl, ap, sym, subst, ◌∙◌, arith}
use Rattle.std.proofs.Common.{◌-◌, add-one, append_assoc, append-nil, drop, get_or-set_same, get_or-set_other}
use Rattle.std.proofs.Common.{length-append, length-set, map, replicate, set, take, Bool, true, false}
use Rattle.std.proofs.lemmas.Bool.{cases_eq, cases_lt}
use Rattle.std.proofs.lemmas.Nat.{div-add-mod', div_below, mod_below, mul-add-lt}
use Rattle.std.proofs.Math.ListN.{get_or-append}
use Rattle.std.proofs.Math.Seq.{get_or-append_seam}
use Rattle.std.proofs.lemmas.List.{drop_all, get_or_past, length-replicate, reverse-append}
use Rattle.pip_search.specs.Comes.{HasEach, GoesDown, HasOneOf, IsWalk, PassesRanks, helpful, rank_at}
use Rattle.pip_search.specs.Stages.{AreDone, LeadInside, OrdersLead, AreStaged, AreWhole, GoRound, HasStep, IsBegun}
use Rattle.pip_search.specs.Stages.{IsFairLoop, IsGoing, HasNoStage, IsNearer, IsOwn, AllHaveOrders, IsRetired, IsRound}
use Rattle.pip_search.specs.Stages.{IsServed, IsSwept, AreRetired}
use Rattle.pip_search.specs.Stages.{IsRankedOrLooped, IsStep, LeadsBack, Serve, Serves, class_of, stages_with, to_of}
use Rattle.pip_search.specs.Stages.{zeros_in}
use Rattle.pip_search.proofs.Places.{get-back, get-below, get-more, get-new}
use Rattle.pip_search.proofs.Walking.{named_push}

-- ---- how many are 0

pub zeros_set : (xs : List ℕ) (j x : ℕ) → j < length xs → slice_index xs j ≡ 0 → 0 < x
    → zeros_in xs ≡ suc (zeros_in (set xs j x))
unfolding zeros_in
zeros_set [] j x low none some = absurd (omega arith)
zeros_set (y ∷ xs) zero x low none some = grind arith
zeros_set (y ∷ xs) (suc j) x low none some = let h = zeros_set xs j x (omega arith) none some in grind arith

pub zeros_most : (xs : List ℕ) → zeros_in xs ≤ length xs
unfolding zeros_in
zeros_most [] = omega arith
zeros_most (x ∷ xs) = let h = zeros_most xs in grind arith

none_at : (n j : ℕ) → slice_index (replicate n 0) j ≡ 0
none_at zero j = refl
none_at (suc n) zero = refl
none_at (suc n) (suc j) = none_at n j

pub all_zero : (xs : List ℕ) (n : ℕ) → xs ≡ replicate n 0 → (j : ℕ) → slice_index xs j ≡ 0
all_zero xs n e j = rw e (none_at n j)

pub zero_length : (xs : List ℕ) (n m : ℕ) → xs ≡ replicate n 0 → n ≡ m → length xs ≡ m
zero_length xs n m e is = rw (e, length-replicate {A = ℕ} n 0, is)

take_whole : (xs : List ℕ) (n : ℕ) → length xs ≤ n → take n xs ≡ xs
take_whole [] zero low = refl
take_whole [] (suc n) low = refl
take_whole (x ∷ xs) zero low = absurd (omega arith)
take_whole (x ∷ xs) (suc n) low = rw (take_whole xs n (omega arith))

-- what a slice of all words of a vector has, it has
pub written_back : (n : ℕ) (new items : List ℕ) → length new ≡ length items → n ≡ length items
    → take n (new ++ drop (length new) items) ≡ new
written_back n new items same is = rw (drop_all (length new) items (omega arith), append-nil new)
    (take_whole new n (omega arith))

pub none_ordered : (targets classes stages : List ℕ) (width goal : ℕ) (orders : List ℕ)
    → ((j : ℕ) → slice_index orders j ≡ 0) → OrdersLead targets classes stages width goal orders
none_ordered targets classes stages width goal orders none j some = absurd (let h = none j in omega arith)

-- ---- one order more

module _ (targets classes stages : List ℕ) (width goal : ℕ) where
  -- a step stays one where a place gets an order that had none
  step_set : (orders : List ℕ) (i v d j c : ℕ) → slice_index orders i ≡ 0
      → IsStep targets classes stages width goal orders d j c
      → IsStep targets classes stages width goal (set orders i v) d j c
  step_set orders i v d j c none s = record {
    low = s.low;
    to = s.to;
    nearer = elim s.nearer [
      | inl serves ↦ inl serves
      | inr near ↦ inr (elim (cases_eq (to_of targets width j c) i) [
        | inl same ↦ let some = near.some in absurd (let z : slice_index orders (to_of targets width j c) ≡ 0 =
            rw same none in omega arith)
        | inr other ↦
            let is : slice_index (set orders i v) (to_of targets width j c)
            ≡ slice_index orders (to_of targets width j c) =
            get_or-set_other orders i (to_of targets width j c) v 0 other in
            record { some = rw is near.some; lower = rw is near.lower }
      ])
    ];
  }

  pub ordered_set : (orders : List ℕ) (i d : ℕ) → i < length orders → slice_index orders i ≡ 0
      → OrdersLead targets classes stages width goal orders
      → HasStep targets classes stages width goal orders d i
      → OrdersLead targets classes stages width goal (set orders i d)
  ordered_set orders i d low none all new j some = elim (cases_eq j i) [
    | inl same ↦
        let is : slice_index (set orders i d) j ≡ d = rw same (get_or-set_same orders i d 0 low) in
        record { choice = new.choice; is = rw (is, same) (step_set orders i d d i new.choice none new.is) }
    | inr other ↦
        let is : slice_index (set orders i d) j ≡ slice_index orders j = get_or-set_other orders i j d 0 other in
        let old = all j (rw is at some) in
        record { choice = old.choice; is = rw is (step_set orders i d (slice_index orders j) j old.choice none old.is) }
  ]

  below_set : (orders : List ℕ) (i d : ℕ) → i < length orders → ((j : ℕ) → slice_index orders j < d + 1) → (j : ℕ)
      → slice_index (set orders i d) j < d + 1
  below_set orders i d low all j = elim (cases_eq j i) [
    | inl same ↦
        let is : slice_index (set orders i d) j ≡ d = rw same (get_or-set_same orders i d 0 low) in omega arith
    | inr other ↦
        let is : slice_index (set orders i d) j ≡ slice_index orders j = get_or-set_other orders i j d 0 other in
        let h = all j in omega arith
  ]

  -- one place was swept, and got its order
  pub swept_set : (orders : List ℕ) (i d : ℕ) → 0 < d → length orders ≡ length stages
      → ((j : ℕ) → slice_index orders j < d + 1) → OrdersLead targets classes stages width goal orders
      → HasNoStage stages i → slice_index orders i ≡ 0 → HasStep targets classes stages width goal orders d i
      → IsSwept targets classes stages width goal d i (i + 1) orders (set orders i d) true
  swept_set orders i d some count below ordered left none step =
      let low : i < length orders = let h = left.inside in omega arith in
      let falls = zeros_set orders i d low none some in
      record {
        count = length-set orders i d;
        ordered = ordered_set orders i d low none ordered step;
        below = below_set orders i d low below;
        most = omega arith;
        less = λ e. omega arith;
        same = λ e. absurd cc;
        done = λ e. absurd cc;
      }

  -- or none
  pub swept_none : (orders : List ℕ) (i d : ℕ) → ((j : ℕ) → slice_index orders j < d + 1)
      → OrdersLead targets classes stages width goal orders
      → (HasNoStage stages i → slice_index orders i ≡ 0 → (c : ℕ)
      → IsStep targets classes stages width goal orders d i c → ⊥)
      → IsSwept targets classes stages width goal d i (i + 1) orders orders false
  swept_none orders i d below ordered done = record {
    count = refl;
    ordered = ordered;
    below = below;
    most = omega arith;
    less = λ e. absurd cc;
    same = λ e. refl;
    done = λ e j from to. let is : j ≡ i = omega arith in rw is done;
  }

  pub swept_begin : (orders : List ℕ) (d : ℕ) → ((j : ℕ) → slice_index orders j < d)
      → OrdersLead targets classes stages width goal orders
      → IsSwept targets classes stages width goal d 0 0 orders orders false
  swept_begin orders d below ordered = record {
    count = refl;
    ordered = ordered;
    below = λ j. let h = below j in omega arith;
    most = omega arith;
    less = λ e. absurd cc;
    same = λ e. refl;
    done = λ e j from to. absurd (omega arith);
  }

  -- the next place
  pub swept_more : (old mid new : List ℕ) (d i : ℕ) (a b : Bool)
      → IsSwept targets classes stages width goal d 0 i old mid a
      → IsSwept targets classes stages width goal d i (i + 1) mid new b → (c : Bool) → (b ≡ true → c ≡ true)
      → (b ≡ false → c ≡ a) → IsSwept targets classes stages width goal d 0 (i + 1) old new c
  swept_more old mid new d i a true s t c up stays = record {
    count = t.count ∙ s.count;
    ordered = t.ordered;
    below = t.below;
    most = let h = s.most in let k = t.most in omega arith;
    less = λ e. let h = s.most in let k = t.less refl in omega arith;
    same = λ e. absurd (cc (up refl));
    done = λ e. absurd (cc (up refl));
  }
  swept_more old mid new d i a false s t c up stays =
      let kept : new ≡ mid = t.same refl in
      let is : c ≡ a = stays refl in
      record {
        count = t.count ∙ s.count;
        ordered = t.ordered;
        below = t.below;
        most = let h = s.most in let k = t.most in omega arith;
        less = λ e. let h = s.less (sym is ∙ e) in let k = t.most in omega arith;
        same = λ e. kept ∙ s.same (sym is ∙ e);
        done = λ e j from to. elim (cases_eq j i) [
          | inl same ↦ t.done refl j (omega arith) (omega arith)
          | inr other ↦ rw kept (s.done (sym is ∙ e) j from (omega arith))
        ];
      }

  -- where orders are whole, a choice from a place without one leads to a place without one, and doesn't serve
  pub whole_apart : (orders : List ℕ) (j c : ℕ) → AreWhole targets classes stages width goal orders → HasNoStage stages
      j
      → slice_index orders j ≡ 0 → c < width → HasNoStage stages (to_of targets width j c)
      → (slice_index orders (to_of targets width j c) ≡ 0) × (Serves classes goal c → ⊥)
  whole_apart orders j c w left none low to = (
    elim (cases_eq (slice_index orders (to_of targets width j c)) 0) [
      | inl is ↦ is
      | inr some ↦ absurd (w.done j left.inside left none c (record {
        low = low;
        to = to;
        nearer = inr (record { some = omega arith; lower = w.below (to_of targets width j c) });
      }))
    ],
    λ serves. w.done j left.inside left none c (record { low = low; to = to; nearer = inl serves }),
  )

-- ---- places that are taken

module _ (orders : List ℕ) (stage : ℕ) where
  pub taken_set : (old : List ℕ) (i : ℕ) → 0 < stage → i < length old → slice_index old i ≡ 0
      → slice_index orders i ≡ 0 → AreRetired orders stage i (i + 1) old (set old i stage) true
  taken_set old i some low none free =
      let falls = zeros_set old i stage low none some in
      record {
        count = length-set old i stage;
        each = λ j from to. let is : j ≡ i = omega arith in rw is (inl (
          record { inside = low; none = none },
          (free, get_or-set_same old i stage 0 low),
        ));
        before = λ j less. get_or-set_other old i j stage 0 (λ e. absurd (omega arith));
        rest = λ j more. get_or-set_other old i j stage 0 (λ e. absurd (omega arith));
        most = omega arith;
        less = λ e. omega arith;
        same = λ e. absurd cc;
        none = λ e. absurd cc;
      }

  pub taken_none : (old : List ℕ) (i : ℕ) → (HasNoStage old i → 0 < slice_index orders i)
      → AreRetired orders stage i (i + 1) old old false
  taken_none old i some = record {
    count = refl;
    each = λ j from to. let is : j ≡ i = omega arith in rw is (inr (refl, some));
    before = λ j less. refl;
    rest = λ j more. refl;
    most = omega arith;
    less = λ e. absurd cc;
    same = λ e. refl;
    none = λ e j from to. let is : j ≡ i = omega arith in rw is some;
  }

  pub taken_begin : (old : List ℕ) → AreRetired orders stage 0 0 old old false
  taken_begin old = record {
    count = refl;
    each = λ j from to. absurd (omega arith);
    before = λ j less. refl;
    rest = λ j more. refl;
    most = omega arith;
    less = λ e. absurd cc;
    same = λ e. refl;
    none = λ e j from to. absurd (omega arith);
  }

  retired_from : (old mid new : List ℕ) (j : ℕ) → length mid ≡ length old → slice_index mid j ≡ slice_index old j
      → IsRetired mid orders stage new j → IsRetired old orders stage new j
  retired_from old mid new j count same (inl now) = inl (
    record { inside = (let h = now.0.inside in omega arith); none = sym same ∙ now.0.none },
    now.1,
  )
  retired_from old mid new j count same (inr keeps) = inr (
    keeps.0 ∙ same,
    λ left. keeps.1 (record { inside = (let h = left.inside in omega arith); none = same ∙ left.none }),
  )

  retired_to : (old mid new : List ℕ) (j : ℕ) → slice_index new j ≡ slice_index mid j
      → IsRetired old orders stage mid j → IsRetired old orders stage new j
  retired_to old mid new j same (inl now) = inl (now.0, (now.1.0, same ∙ now.1.1))
  retired_to old mid new j same (inr keeps) = inr (same ∙ keeps.0, keeps.1)

  module _ (old mid new : List ℕ) (i : ℕ) (a b : Bool) (s : AreRetired orders stage 0 i old mid a)
      (t : AreRetired orders stage i (i + 1) mid new b) where
    taken_each : (j : ℕ) → 0 ≤ j → j < i + 1 → IsRetired old orders stage new j
    taken_each j from to = elim (cases_eq j i) [
      | inl same ↦ retired_from old mid new j s.count (s.rest j (omega arith)) (t.each j (omega arith) (omega arith))
      | inr other ↦ retired_to old mid new j (t.before j (omega arith)) (s.each j from (omega arith))
    ]

    taken_left : a ≡ false → b ≡ false → (j : ℕ) → 0 ≤ j → j < i + 1 → HasNoStage old j → 0 < slice_index orders j
    taken_left none same j from to left = elim (cases_eq j i) [
      | inl is ↦ t.none same j (omega arith) (omega arith) (record {
        inside = (let h = left.inside in let k = s.count in omega arith);
        none = s.rest j (omega arith) ∙ left.none;
      })
      | inr other ↦ s.none none j from (omega arith) left
    ]

  -- the next place
  pub taken_more : (old mid new : List ℕ) (i : ℕ) (a b : Bool) → AreRetired orders stage 0 i old mid a
      → AreRetired orders stage i (i + 1) mid new b → (c : Bool) → (b ≡ true → c ≡ true) → (b ≡ false → c ≡ a)
      → AreRetired orders stage 0 (i + 1) old new c
  taken_more old mid new i a true s t c up stays = record {
    count = t.count ∙ s.count;
    each = taken_each old mid new i a true s t;
    before = λ j less. absurd (omega arith);
    rest = λ j more. t.rest j (omega arith) ∙ s.rest j (omega arith);
    most = let h = s.most in let k = t.most in omega arith;
    less = λ e. let h = s.most in let k = t.less refl in omega arith;
    same = λ e. absurd (cc (up refl));
    none = λ e. absurd (cc (up refl));
  }
  taken_more old mid new i a false s t c up stays =
      let is : c ≡ a = stays refl in
      record {
        count = t.count ∙ s.count;
        each = taken_each old mid new i a false s t;
        before = λ j less. absurd (omega arith);
        rest = λ j more. t.rest j (omega arith) ∙ s.rest j (omega arith);
        most = let h = s.most in let k = t.most in omega arith;
        less = λ e. let h = s.less (sym is ∙ e) in let k = t.most in omega arith;
        same = λ e. t.same refl ∙ s.same (sym is ∙ e);
        none = λ e. taken_left old mid new i a false s t (sym is ∙ e) refl;
      }

-- ---- stages

module _ (targets classes : List ℕ) (width count : ℕ) where
  pub staged_begin : (stages : List ℕ) → length stages ≡ count → ((j : ℕ) → slice_index stages j ≡ 0)
      → AreStaged targets classes stages [] width count
  staged_begin stages long none = record {
    count_is = long;
    few = let h = zeros_most stages in omega arith;
    within = λ j. let h = none j in omega arith;
    back = λ j c some low. absurd (let h = none j in omega arith);
  }

  class_more : (goals : List ℕ) (goal s : ℕ) → s ≤ length goals
      → class_of classes (goals ++ goal ∷ []) s ≡ class_of classes goals s
  class_more goals goal zero low = refl
  class_more goals goal (suc s) low = rw (get_or-append goals (goal ∷ []) 0 s (omega arith))

  class_new : (goals : List ℕ) (goal : ℕ)
      → class_of classes (goals ++ goal ∷ []) (suc (length goals)) ≡ slice_index classes goal
  class_new goals goal = rw (get_or-append_seam goals goal [] 0)

  module _ (old new goals orders : List ℕ) (goal : ℕ) (inside : LeadInside targets count)
      (places : length targets ≡ count * width) (s : AreStaged targets classes old goals width count)
      (w : AreWhole targets classes old width goal orders) (long : length new ≡ length old)
      (each : (j : ℕ) → IsRetired old orders (suc (length goals)) new j) where
    -- a place that had no stage, and still has none or has got the new one
    later : (j : ℕ) → slice_index old j ≡ 0 → 0 < slice_index new j → slice_index new j ≡ suc (length goals)
    later j none some = elim (each j) [
      | inl now ↦ now.1.1
      | inr keeps ↦ absurd (let e = keeps.0 in omega arith)
    ]

    same_stage : (j : ℕ) → 0 < slice_index old j → slice_index new j ≡ slice_index old j
    same_stage j some = elim (each j) [
      | inl now ↦ absurd (let e = now.0.none in omega arith)
      | inr keeps ↦ keeps.0
    ]

    target_below : (j c : ℕ) → j < count → c < width → to_of targets width j c ≢ 0xffffffff
        → to_of targets width j c < count
    target_below j c low less other =
        let within : j * width + c < width * count = mul-add-lt j width c count low less in
        elim (inside (j * width + c) (omega arith)) [
          | inl cut ↦ absurd (other cut)
          | inr below ↦ below
        ]

    fresh_left : (j c : ℕ) → HasNoStage old j → slice_index orders j ≡ 0 → slice_index new j ≡ suc (length goals)
        → c < width → HasNoStage old (to_of targets width j c)
        → LeadsBack classes (goals ++ goal ∷ []) new j c (to_of targets width j c)
    fresh_left j c left none is low to =
        let (apart, unserved) = whole_apart targets classes old width goal orders j c w left none low to in
        elim (each (to_of targets width j c)) [
          | inl now ↦
              let there = now.1.1 in
              let own : class_of classes (goals ++ goal ∷ []) (slice_index new j) ≡ slice_index classes goal =
              rw is (class_new goals goal) in
              record {
                gone = omega arith;
                back = inr (record {
                  same = there ∙ sym is;
                  some = elim (cases_eq (slice_index classes goal) 0) [
                    | inl nil ↦ absurd (unserved (inl nil))
                    | inr more ↦ omega arith
                  ];
                  other = λ e. unserved (inr (e ∙ own));
                });
              }
          | inr keeps ↦ absurd (let some = keeps.1 to in omega arith)
        ]

    fresh : (j c : ℕ) → HasNoStage old j → slice_index orders j ≡ 0 → slice_index new j ≡ suc (length goals)
        → c < width → to_of targets width j c ≢ 0xffffffff
        → LeadsBack classes (goals ++ goal ∷ []) new j c (to_of targets width j c)
    fresh j c left none is low other =
        let count_is = s.count_is in
        let first = left.inside in
        let below = target_below j c (omega arith) low other in
        elim (cases_eq (slice_index old (to_of targets width j c)) 0) [
          | inl nil ↦ fresh_left j c left none is low (record { inside = omega arith; none = nil })
          | inr some ↦
              let keeps = same_stage (to_of targets width j c) (omega arith) in
              let within = s.within (to_of targets width j c) in
              record { gone = omega arith; back = inl (omega arith) }
        ]

    kept : (j c k : ℕ) → 0 < slice_index old j → LeadsBack classes goals old j c k
        → LeadsBack classes (goals ++ goal ∷ []) new j c k
    kept j c k some b =
        let gone = b.gone in
        let here = same_stage j some in
        let there = same_stage k gone in
        let own : class_of classes (goals ++ goal ∷ []) (slice_index new j)
        ≡ class_of classes goals (slice_index old j) =
        rw here (class_more goals goal (slice_index old j) (s.within j)) in
        record {
          gone = omega arith;
          back = elim b.back [
            | inl lower ↦ inl (omega arith)
            | inr o ↦ inr (record {
              same = there ∙ (o.same ∙ sym here);
              some = rw own o.some;
              other = λ e. o.other (e ∙ own);
            })
          ];
        }

    -- a stage more
    pub staged_more : zeros_in new < zeros_in old → AreStaged targets classes new (goals ++ goal ∷ []) width count
    staged_more less = record {
      count_is = long ∙ s.count_is;
      few = let h = s.few in omega (arith, length-append goals (goal ∷ []));
      within = λ j. let h = s.within j in elim (each j) [
        | inl now ↦ let e = now.1.1 in omega (arith, length-append goals (goal ∷ []))
        | inr keeps ↦ let e = keeps.0 in omega (arith, length-append goals (goal ∷ []))
      ];
      back = λ j c some low. elim (cases_eq (to_of targets width j c) 0xffffffff) [
        | inl cut ↦ inl cut
        | inr other ↦ elim (each j) [
          | inl now ↦ inr (fresh j c now.0 now.1.0 now.1.1 low other)
          | inr keeps ↦ let e = keeps.0 in elim (s.back j c (omega arith) low) [
            | inl cut ↦ absurd (other cut)
            | inr b ↦ inr (kept j c (to_of targets width j c) (omega arith) b)
          ]
        ]
      ];
    }

  -- all places that a goal wants were taken
  pub taken_all : (old new goals orders : List ℕ) (goal stage : ℕ) → LeadInside targets count
      → length targets ≡ count * width → AreStaged targets classes old goals width count
      → AreWhole targets classes old width goal orders → stage ≡ suc (length goals)
      → AreRetired orders stage 0 (length old) old new true
      → AreStaged targets classes new (goals ++ goal ∷ []) width count
  taken_all old new goals orders goal stage inside places s w is t =
      staged_more old new goals orders goal inside places s w t.count
      (λ j. subst (λ n. IsRetired old orders n new j) is (elim (cases_lt j (length old)) [
        | inl low ↦ t.each j (omega arith) low
        | inr past ↦ inr (t.rest j past, λ left. absurd (let h = left.inside in omega arith))
      ])) (t.less refl)

pub none_got : {X : Type 0} (f : X → List ℕ) (xs : List X) → xs ≡ [] → (g : ℕ) (o : List ℕ)
    → slice_get (map f xs) g ≡ Some o → ⊥
none_got f [] none g o e = absurd (cc)
none_got f (x ∷ xs) none g o e = absurd (cc)

-- one more
pub pushed_at : (xs : List ℕ) (y e : ℕ) → e < length xs + 1
    → ((e < length xs) × (slice_index (xs ++ y ∷ []) e ≡ slice_index xs e))
    ⊎ ((e ≡ length xs) × (slice_index (xs ++ y ∷ []) e ≡ y))
pushed_at xs y e low = elim (cases_eq e (length xs)) [
  | inl is ↦ inr (is, rw (is, get_or-append_seam xs y [] 0))
  | inr other ↦ inl (omega arith, get_or-append xs (y ∷ []) 0 e (omega arith))
]

pub reached_more : (targets classes stages : List ℕ) (width : ℕ) (all : List (List ℕ)) (orders : List ℕ) (n : ℕ)
    → length all ≡ n → ((g : ℕ) (o : List ℕ) → slice_get all g ≡ Some o
    → AllHaveOrders targets classes stages width g o) → AllHaveOrders targets classes stages width n orders → (g : ℕ)
    (o : List ℕ) → slice_get (all ++ orders ∷ []) g ≡ Some o → AllHaveOrders targets classes stages width g o
reached_more targets classes stages width all orders n count h own g o e = elim (get-back all orders g o e) [
  | inl old ↦ h g o old
  | inr new ↦ rw (new.0, count, new.1) own
]

mapped_count : {X : Type 0} (f : X → List ℕ) (xs : List X) → length (map f xs) ≡ length xs
mapped_count f [] = refl
mapped_count f (x ∷ xs) = rw (mapped_count f xs)

pub reached_push : {X : Type 0} (f : X → List ℕ) (targets classes stages : List ℕ) (width : ℕ) (xs ys : List X) (x : X)
    (n : ℕ) → ys ≡ xs ++ x ∷ [] → length xs ≡ n → ((g : ℕ) (o : List ℕ) → slice_get (map f xs) g ≡ Some o
    → AllHaveOrders targets classes stages width g o) → AllHaveOrders targets classes stages width n (f x) → (g : ℕ)
    (o : List ℕ) → slice_get (map f ys) g ≡ Some o → AllHaveOrders targets classes stages width g o
reached_push f targets classes stages width xs ys x n whole count h own g o e =
    let is : map f ys ≡ map f xs ++ f x ∷ [] = rw (whole, named_push f xs x) in
    reached_more targets classes stages width (map f xs) (f x) n (mapped_count f xs ∙ count) h own g o
    (sym (ap (λ l. slice_get l g) is) ∙ e)

-- ---- ranks

module _ (classes goals : List ℕ) (column : ℕ) where
  pub stages_step : (s : ℕ) → stages_with classes goals column s ≤ stages_with classes goals column (suc s)
  stages_step s = grind arith

  pub stages_rise : (s t : ℕ) → s ≤ t → stages_with classes goals column s ≤ stages_with classes goals column t
  stages_rise s zero low = let z : s ≡ 0 = omega arith in rw z (omega arith)
  stages_rise s (suc t) low = elim (cases_eq s (suc t)) [
    | inl same ↦ rw same (omega arith)
    | inr other ↦ let h = stages_rise s t (omega arith) in let k = stages_step t in omega arith
  ]

  pub stages_most : (s : ℕ) → stages_with classes goals column s ≤ s
  stages_most zero = omega arith
  stages_most (suc s) = let h = stages_most s in grind arith

  pub stages_yes : (s : ℕ) → slice_index classes (slice_index goals s) ≡ column
      → stages_with classes goals column (s + 1) ≡ stages_with classes goals column s + 1
  stages_yes s is =
      let one : stages_with classes goals column (suc s) ≡ suc (stages_with classes goals column s) = grind arith in
      ap (stages_with classes goals column) (add-one s) ∙ (one ∙ sym (add-one (stages_with classes goals column s)))

  pub stages_no : (s : ℕ) → slice_index classes (slice_index goals s) ≢ column
      → stages_with classes goals column (s + 1) ≡ stages_with classes goals column s
  stages_no s other =
      let one : stages_with classes goals column (suc s) ≡ stages_with classes goals column s = grind arith in
      ap (stages_with classes goals column) (add-one s) ∙ one

  -- a stage of the class is one more
  pub stages_own : (s : ℕ) → 0 < s → class_of classes goals s ≡ column → (t : ℕ) → t < s
      → stages_with classes goals column t < stages_with classes goals column s
  stages_own zero some own t less = absurd (omega arith)
  stages_own (suc s) some own t less =
      let h = stages_rise t s (omega arith) in
      let one : stages_with classes goals column (suc s) ≡ suc (stages_with classes goals column s) = grind arith in
      omega arith

module _ (targets classes : List ℕ) (width columns count : ℕ) (stages goals ranks helpers : List ℕ)
    (places : length targets ≡ count * width) (some_width : 0 < width)
    (columns_are : (c : ℕ) → slice_index classes c < columns)
    (s : AreStaged targets classes stages goals width count)
    (gone : (j : ℕ) → j < count → 0 < slice_index stages j)
    (ranked : (j d : ℕ) → j < count → d < columns
    → rank_at ranks columns j d ≡ stages_with classes goals d (slice_index stages j))
    (helped : (j t : ℕ) → j < count → slice_index stages j ≡ t + 1 → slice_index helpers j ≡ slice_index goals t)
  where
    helpful_is : (j t : ℕ) → j < count → slice_index stages j ≡ t → helpful classes helpers j ≡ class_of classes goals t
    helpful_is j zero low is = absurd (let h = gone j low in omega arith)
    helpful_is j (suc t) low is =
        let h : slice_index helpers j ≡ slice_index goals t = helped j t low (omega arith) in rw h

    rank_is : (j d t : ℕ) → j < count → d < columns → slice_index stages j ≡ t
        → rank_at ranks columns j d ≡ stages_with classes goals d t
    rank_is j d t low less is = rw (ranked j d low less, is)

    goes_down : (j c k : ℕ) → j < count → k < count → LeadsBack classes goals stages j c k
        → GoesDown classes ranks helpers columns j c k
    goes_down j c k low below b =
        let at = slice_index stages j in
        let to = slice_index stages k in
        let some : 0 < at = gone j low in
        let own : helpful classes helpers j ≡ class_of classes goals at = helpful_is j at low refl in
        let less : helpful classes helpers j < columns = columns_are (slice_index helpers j) in
        let no_more : to ≤ at = elim b.back [ inl lower ↦ omega arith | inr o ↦ let e = o.same in omega arith ] in
        record {
          below = λ d inside. rw (rank_is k d to below inside refl, rank_is j d at low inside refl)
              (stages_rise classes goals d to at no_more);
          down = elim b.back [
            | inl lower ↦ inl (rw (
              rank_is k (helpful classes helpers j) to below less refl,
              rank_is j (helpful classes helpers j) at low less refl,
            )
                (stages_own classes goals (helpful classes helpers j) at some (sym own) to lower))
            | inr o ↦ inr (record {
              same = helpful_is k at below o.same ∙ sym own;
              some = rw own o.some;
              other = λ e. o.other (e ∙ own);
            })
          ];
        }

    pub stages_pass : LeadInside targets count → (e : ℕ) → e < length targets
        → PassesRanks classes ranks helpers columns width targets e
    stages_pass inside e low =
        let j = e / width in
        let c = e % width in
        let is : e ≡ j * width + c = sym (div-add-mod' e width) in
        let there : to_of targets width j c ≡ slice_index targets e = ap (slice_index targets) (sym is) in
        let less : c < width = mod_below e width some_width in
        let first : j < count = div_below e width count some_width (omega arith) in
        let at = slice_index stages j in
        let some : 0 < at = gone j first in
        let own : helpful classes helpers j ≡ class_of classes goals at = helpful_is j at first refl in
        let within : helpful classes helpers j < columns = columns_are (slice_index helpers j) in
        record {
          ready = record {
            inside = within;
            some = rw (rank_is j (helpful classes helpers j) at first within refl)
                (let h = stages_own classes goals (helpful classes helpers j) at some (sym own) 0 some in omega arith);
          };
          down = elim (inside e low) [
            | inl cut ↦ inl cut
            | inr below ↦ elim (s.back j c some less) [
              | inl cut ↦ inl (sym there ∙ cut)
              | inr b ↦ inr (goes_down j c (slice_index targets e) first below
                  (subst (λ k. LeadsBack classes goals stages j c k) there b))
            ]
          ];
        }

-- ---- walks

module _ (targets : List ℕ) (width : ℕ) where
  pub walk_both : (j i k : ℕ) (cs ds : List ℕ) → IsWalk targets width j ds i → IsWalk targets width i cs k
      → IsWalk targets width j (cs ++ ds) k
  walk_both j i k [] ds before walk = rw walk before
  walk_both j i k (c ∷ cs) ds before (n, (first, rest)) = (n, (walk_both j i n cs ds before first, rest))

  pub walk_more : (j i k : ℕ) (old more : List ℕ) → IsWalk targets width j (reverse old) i
      → IsWalk targets width i (reverse more) k → IsWalk targets width j (reverse (old ++ more)) k
  walk_more j i k old more before walk =
      rw (reverse-append old more) (walk_both j i k (reverse more) (reverse old) before walk)

one_before : (classes old more : List ℕ) (class : ℕ) → HasOneOf classes old class → HasOneOf classes (old ++ more) class
one_before classes old more class h = record {
  place = h.place;
  choice = h.choice;
  at = get-more old more h.place h.choice h.at;
  class_is = h.class_is;
}

one_after : (classes old more : List ℕ) (class : ℕ) → HasOneOf classes more class → HasOneOf classes (old ++ more) class
one_after classes [] more class h = h
one_after classes (x ∷ old) more class h =
    let o = one_after classes old more class h in
    record { place = suc o.place; choice = o.choice; at = o.at; class_is = o.class_is }

module _ (targets classes stages : List ℕ) (width : ℕ) (places : length targets ≡ length stages * width)
    (few : length stages < 2 ^ 32) where
  -- a choice more, which leads to a place that is left
  pub walk_on : (j i c k : ℕ) (more : List ℕ) → IsWalk targets width j (reverse more) i → HasNoStage stages i → c <
      width
      → to_of targets width i c ≡ k → HasNoStage stages k → IsWalk targets width j (reverse (more ++ c ∷ [])) k
  walk_on j i c k more walk from low is to =
      let within : i * width + c < width * length stages = mul-add-lt i width c (length stages) from.inside low in
      let below = to.inside in
      rw (reverse-append more (c ∷ [])) (i, (walk, (low, (omega arith, (is, λ e. absurd (omega arith))))))

  module _ (goal j i c k bound : ℕ) (orders old mid : List ℕ) (g : IsGoing targets width j i old mid)
      (from : HasNoStage stages i) (step : IsStep targets classes stages width goal orders bound i c)
      (is : k ≡ to_of targets width i c) where
    pub to_left : HasNoStage stages k
    to_left = rw is step.to

    walk_to : IsWalk targets width j (reverse (g.more ++ c ∷ [])) k
    walk_to = walk_on j i c k g.more g.walk from step.low (sym is) to_left

    whole_is : mid ++ c ∷ [] ≡ old ++ (g.more ++ c ∷ [])
    whole_is = rw (g.whole, append_assoc old g.more (c ∷ []))

    pub going_more : IsGoing targets width j k old (mid ++ c ∷ [])
    going_more = record { more = g.more ++ c ∷ []; whole = whole_is; walk = walk_to }

    pub going_serves : Serves classes goal c → Serve targets classes width goal j k old (mid ++ c ∷ [])
    going_serves serves = record {
      more = g.more ++ c ∷ [];
      whole = whole_is;
      served = record {
        walk = walk_to;
        some = omega (arith, length-append g.more (c ∷ []));
        serves = λ some. record {
          place = length g.more;
          choice = c;
          at = get-new g.more c;
          class_is = elim serves [
            | inl none ↦ absurd (omega arith)
            | inr own ↦ own
          ];
        };
      };
    }

    pub going_down : (Serves classes goal c → ⊥) → slice_index orders k < bound
    going_down unserved = elim step.nearer [
      | inl serves ↦ absurd (unserved serves)
      | inr near ↦ rw is near.lower
    ]

pub going_begin : (targets : List ℕ) (width j : ℕ) (cs : List ℕ) → IsGoing targets width j j cs cs
going_begin targets width j cs = record { more = []; whole = sym (append-nil cs); walk = refl }

module _ (targets classes : List ℕ) (width : ℕ) where
  pub round_begin : (j : ℕ) (cs : List ℕ) → GoRound targets classes width 0 j j cs cs
  round_begin j cs = record {
    more = [];
    whole = sym (append-nil cs);
    round = record {
      walk = refl;
      some = λ some. absurd (omega arith);
      each = λ goal low. absurd (omega arith);
    };
  }

  -- one goal more
  pub round_more : (n j i k : ℕ) (old mid new : List ℕ) → GoRound targets classes width n j i old mid
      → Serve targets classes width n i k mid new → GoRound targets classes width (n + 1) j k old new
  round_more n j i k old mid new g s = record {
    more = g.more ++ s.more;
    whole = rw (s.whole, g.whole, append_assoc old g.more s.more);
    round = record {
      walk = walk_more targets width j i k g.more s.more g.round.walk s.served.walk;
      some = λ some. let h = s.served.some in omega (arith, length-append g.more s.more);
      each = λ goal low own. elim (cases_eq goal n) [
        | inl same ↦ one_after classes g.more s.more (slice_index classes goal)
            (rw same (s.served.serves (rw (← same) own)))
        | inr other ↦ one_before classes g.more s.more (slice_index classes goal) (g.round.each goal (omega arith) own)
      ];
    };
  }

  -- one round more
  pub round_both : (n j i k : ℕ) (old mid new : List ℕ) → GoRound targets classes width n j i old mid
      → GoRound targets classes width n i k mid new → GoRound targets classes width n j k old new
  round_both n j i k old mid new g s = record {
    more = g.more ++ s.more;
    whole = rw (s.whole, g.whole, append_assoc old g.more s.more);
    round = record {
      walk = walk_more targets width j i k g.more s.more g.round.walk s.round.walk;
      some = λ some. let h = s.round.some some in omega (arith, length-append g.more s.more);
      each = λ goal low own. one_before classes g.more s.more (slice_index classes goal) (g.round.each goal low own);
    };
  }

  -- a round that begins at a place, beside those that began before
  pub begun_more : (begun : List ℕ) (at to : ℕ) (cs new : List ℕ) → at < length begun
      → ((j : ℕ) → 0 < slice_index begun j → IsBegun targets classes width (slice_index begun j) j at cs)
      → GoRound targets classes width width at to cs new → (j : ℕ)
      → 0 < slice_index (set begun at (length cs + 1)) j
      → IsBegun targets classes width (slice_index (set begun at (length cs + 1)) j) j to new
  begun_more begun at to cs new low all g j some = elim (cases_eq j at) [
    | inl same ↦ record {
      before = cs;
      mark_is = rw same (get_or-set_same begun at (length cs + 1) 0 low);
      since = rw same g;
    }
    | inr other ↦
        let is : slice_index (set begun at (length cs + 1)) j ≡ slice_index begun j =
        get_or-set_other begun at j (length cs + 1) 0 other in
        let h = all j (rw is at some) in
        record {
          before = h.before;
          mark_is = is ∙ h.mark_is;
          since = round_both width j at to h.before cs new h.since g;
        }
  ]

  -- it began after no more choices than there are
  pub begun_within : (mark j k : ℕ) (cs : List ℕ) → IsBegun targets classes width mark j k cs → mark ≤ length cs + 1
  begun_within mark j k cs b =
      let g = b.since in
      let long : length cs ≡ length b.before + length g.more = rw (g.whole, length-append b.before g.more) in
      let e = b.mark_is in
      omega arith

  dropped : (xs ys : List ℕ) → drop (length xs) (xs ++ ys) ≡ ys
  dropped [] ys = refl
  dropped (x ∷ xs) ys = dropped xs ys

  -- a round that leads back
  pub fair_loop : (count mark j : ℕ) (cs loop : List ℕ) → j < count → 0 < width → length classes ≤ width
      → IsBegun targets classes width mark j j cs → loop ≡ drop (mark - 1) cs
      → IsFairLoop targets classes width count j loop
  fair_loop count mark j cs loop low some few b is =
      let g = b.since in
      let begins : mark - 1 ≡ length b.before = let e = b.mark_is in omega arith in
      let same : loop ≡ g.more = rw (is, begins, g.whole) (dropped b.before g.more) in
      rw same (record {
        inside = low;
        walk = g.round.walk;
        some = g.round.some some;
        each = λ c own. elim (cases_lt c (length classes)) [
          | inl within ↦ g.round.each c (omega arith) own
          | inr past ↦ absurd (let none : slice_index classes c ≡ 0 = get_or_past classes c 0 past in omega arith)
        ];
      })
