-- Marks that are spread against the edges of a graph.
use Rattle.std.proofs.Common.{◌≡◌, ◌≢◌, ℕ, zero, suc, ◌+◌, ◌*◌, ◌/◌, ◌%◌, ◌<◌, ◌≤◌, ◌⊎◌, inl, inr, Bool, true, false}
use Rattle.std.proofs.Common.{List, [], ◌∷◌, ◌++◌, length, Some, slice_get, slice_set, slice_index, refl}
use Rattle.std.proofs.Common.{subst, ◌∙◌, arith, get_or}
use Rattle.std.proofs.lemmas.Bool.{cases_eq, cases_lt}
use Rattle.pip_search.specs.Filing.{IsFiled, last_below}
use Rattle.pip_search.specs.Graphs.{AreFollowed, IsFollowedTo, IsListed, IsMarked, IsSpreading, LeadsToMarked}
use Rattle.pip_search.specs.Graphs.{marks_left}
use Rattle.pip_search.specs.declared.index.Index.{Index}
use Rattle.pip_search.proofs.Chains.{last_gap, last_le, last_rest}
use Rattle.pip_search.proofs.Places.{get-back, get-below, get-more, get-new}

-- ---- one mark more

pub unmarked_set : (bs : List Bool) (j : ℕ) → slice_get bs j ≡ Some false
    → marks_left bs ≡ suc (marks_left (slice_set bs j true))
unfolding marks_left
unmarked_set [] j e = absurd (cc)
unmarked_set (false ∷ bs) zero e = refl
unmarked_set (true ∷ bs) zero e = absurd (cc)
unmarked_set (false ∷ bs) (suc j) e = rw (unmarked_set bs j e)
unmarked_set (true ∷ bs) (suc j) e = unmarked_set bs j e

pub set_marked : (bs : List Bool) (j : ℕ) → j < length bs → IsMarked (slice_set bs j true) j
set_marked [] j low = absurd (omega arith)
set_marked (b ∷ bs) zero low = refl
set_marked (b ∷ bs) (suc j) low = set_marked bs j (omega arith)

pub set_keeps : (bs : List Bool) (j k : ℕ) → IsMarked bs k → IsMarked (slice_set bs j true) k
set_keeps [] j k e = e
set_keeps (b ∷ bs) zero zero e = refl
set_keeps (b ∷ bs) zero (suc k) e = e
set_keeps (b ∷ bs) (suc j) zero e = e
set_keeps (b ∷ bs) (suc j) (suc k) e = set_keeps bs j k e

pub set_back : (bs : List Bool) (j k : ℕ) → IsMarked (slice_set bs j true) k → IsMarked bs k ⊎ (k ≡ j)
set_back [] j k e = absurd (cc)
set_back (b ∷ bs) zero zero e = inr refl
set_back (b ∷ bs) zero (suc k) e = inl e
set_back (b ∷ bs) (suc j) zero e = inl e
set_back (b ∷ bs) (suc j) (suc k) e = elim (set_back bs j k e) [ inl h ↦ inl h | inr h ↦ inr (rw h) ]

module _ (targets : List ℕ) (width : ℕ) (first marks : List Bool) (queue : List ℕ) (i j : ℕ)
    (s : IsSpreading targets width first marks queue i) (low : j < length marks)
    (leads : LeadsToMarked targets width first j) where
  queued : (k : ℕ) → IsMarked (slice_set marks j true) k → IsListed (queue ++ j ∷ []) k
  queued k e = elim (set_back marks j k e) [
    | inl old ↦ let h = s.queued k old in
        record { number = h.number; at = get-more queue (j ∷ []) h.number k h.at }
    | inr new ↦ record {
      number = length queue;
      at = rw new (get-new queue j);
    }
  ]

  listed : (p k : ℕ) → slice_get (queue ++ j ∷ []) p ≡ Some k → IsMarked (slice_set marks j true) k
  listed p k e = elim (get-back queue j p k e) [
    | inl old ↦ set_keeps marks j k (s.marked p k old)
    | inr new ↦ rw new.1 (set_marked marks j low)
  ]

  followed : (p k : ℕ) → p < i → slice_get (queue ++ j ∷ []) p ≡ Some k
      → AreFollowed targets width (slice_set marks j true) k
  followed p k l e = elim (get-back queue j p k e) [
    | inl old ↦ λ n at. set_keeps marks j (n / width) (s.done p k l old n at)
    | inr new ↦ absurd (omega arith)
  ]

  sound : (k : ℕ) → IsMarked (slice_set marks j true) k → LeadsToMarked targets width first k
  sound k e = elim (set_back marks j k e) [
    | inl old ↦ s.sound k old
    | inr new ↦ rw new leads
  ]

  longer : (xs : List ℕ) (x : ℕ) → length xs ≤ length (xs ++ x ∷ [])
  longer [] x = omega arith
  longer (y ∷ xs) x = omega (arith, longer xs x)

  pub marked_more : IsSpreading targets width first (slice_set marks j true) (queue ++ j ∷ []) i
  marked_more = record {
    within = omega (arith, longer queue j);
    queued = queued;
    marked = listed;
    done = followed;
    sound = sound;
    keeps = λ k e. set_keeps marks j k (s.keeps k e);
  }

-- ---- a walk over the edges to a place

module _ (x : Index) (width k : ℕ) (f : IsFiled x) where
  abbrev rest : ℕ
  rest = k % length x.heads.items

  -- an edge whose end leaves another rest isn't one to k
  other : (e : ℕ) → get_or x.hashes.items e 0 % length x.heads.items ≢ rest → slice_get x.hashes.items e ≢ Some k
  other e ne at = ne (rw (← read x.hashes.items e k at))
    where
      read : (xs : List ℕ) (i v : ℕ) → slice_get xs i ≡ Some v → v ≡ get_or xs i 0
      read [] i v e = absurd (cc)
      read (y ∷ xs) zero v e = cc
      read (y ∷ xs) (suc i) v e = read xs i v e

  pub walk_begins : (marks : List Bool) (at : ℕ) → at ≡ get_or x.heads.items rest 0 → IsFollowedTo x width marks k at
  walk_begins marks at head =
      let some = f.some in
      let low : rest < length x.heads.items = omega arith in
      let last : at ≡ last_below x.hashes.items (length x.heads.items) rest (length x.hashes.items) = cc
      (f.linked.heads_are rest low) in
      record {
        within = omega (arith, last_le x.hashes.items (length x.heads.items) rest (length x.hashes.items));
        rest = λ p e. last_rest x.hashes.items (length x.heads.items) rest (length x.hashes.items) p (cc);
        walked = λ e a at. let b : e < length x.hashes.items = get-below x.hashes.items e k at in
            absurd (other e (last_gap x.hashes.items (length x.heads.items) rest (length x.hashes.items) e (omega arith)
            b) at);
      }

  pub walk_goes : (marks more : List Bool) (at p next : ℕ) → IsFollowedTo x width marks k at → at ≡ p + 1
      → ((j : ℕ) → IsMarked marks j → IsMarked more j)
      → (slice_get x.hashes.items p ≡ Some k → IsMarked more (p / width)) → next ≡ get_or x.chains.items p 0
      → IsFollowedTo x width more k next
  walk_goes marks more at p next w here keeps own is_next =
      let within = w.within in
      let count = f.count in
      let is : get_or x.hashes.items p 0 % length x.heads.items ≡ rest = w.rest p here in
      let last : next ≡ last_below x.hashes.items (length x.heads.items) rest p = rw
      (is_next, f.linked.chains_are p (omega arith), is) in
      let low : last_below x.hashes.items (length x.heads.items) rest p ≤ p =
      last_le x.hashes.items (length x.heads.items) rest p in
      record {
        within = omega arith;
        rest = λ q e. last_rest x.hashes.items (length x.heads.items) rest p q (cc);
        walked = λ e a there. elim (cases_lt e p) [
          | inl less ↦ absurd (other e (last_gap x.hashes.items (length x.heads.items) rest p e (omega arith) less)
              there)
          | inr most ↦ elim (cases_eq e p) [
            | inl same ↦ rw same (own (subst (λ n. slice_get x.hashes.items n ≡ Some k) same there))
            | inr far ↦ keeps (e / width) (w.walked e (omega arith) there)
          ]
        ];
      }

  -- the next number is lower
  pub walk_falls : (marks : List Bool) (at p next : ℕ) → IsFollowedTo x width marks k at → at ≡ p + 1
      → next ≡ get_or x.chains.items p 0 → next < at
  walk_falls marks at p next w here is_next =
      let within = w.within in
      let count = f.count in
      let last : next ≡ last_below x.hashes.items (length x.heads.items)
      (get_or x.hashes.items p 0 % length x.heads.items) p = is_next ∙ f.linked.chains_are p (omega arith) in
      omega (arith, last_le x.hashes.items (length x.heads.items) (get_or x.hashes.items p 0 % length x.heads.items) p)

-- an edge to a place from which edges lead to a marked one
pub one_edge : (targets : List ℕ) (width : ℕ) (first : List Bool) (e k : ℕ) → 0 < width → slice_get targets e ≡ Some k
    → LeadsToMarked targets width first k → LeadsToMarked targets width first (e / width)
one_edge targets width first e k some at leads =
    let whole : e / width * width + e % width ≡ e = omega arith in
    let is : slice_index targets (e / width * width + e % width) ≡ k = rw (whole, read targets e k at) in
    record {
      edges = (e % width) ∷ leads.edges;
      are = (omega arith, leads.are);
      marked = rw is leads.marked;
    }
  where
    read : (xs : List ℕ) (i v : ℕ) → slice_get xs i ≡ Some v → slice_index xs i ≡ v
    read [] i v e = absurd (cc)
    read (y ∷ xs) zero v e = cc
    read (y ∷ xs) (suc i) v e = read xs i v e

-- one place of the queue more was followed
pub followed_one : (targets : List ℕ) (width : ℕ) (first marks : List Bool) (queue : List ℕ) (i k : ℕ)
    → IsSpreading targets width first marks queue i → slice_get queue i ≡ Some k → AreFollowed targets width marks k
    → IsSpreading targets width first marks queue (i + 1)
followed_one targets width first marks queue i k s at now = record {
  within = let l : i < length queue = get-below queue i k at in omega arith;
  queued = s.queued;
  marked = s.marked;
  done = λ p j low e. elim (cases_lt p i) [
    | inl less ↦ s.done p j less e
    | inr most ↦ let is : p ≡ i = omega arith in
        let same : j ≡ k = some_same (rw (← e, is, at)) in
        rw same now
  ];
  sound = s.sound;
  keeps = s.keeps;
}
  where
    some_same : {A : Type 0} {x y : A} → Some x ≡ Some y → x ≡ y
    some_same e = cc

-- where all were followed, the marks are closed
pub all_followed : (targets : List ℕ) (width : ℕ) (first marks : List Bool) (queue : List ℕ) (i : ℕ)
    → IsSpreading targets width first marks queue i → length queue ≤ i → (k : ℕ) → IsMarked marks k
    → AreFollowed targets width marks k
all_followed targets width first marks queue i s all k e =
    let h = s.queued k e in
    s.done h.number k (let l : h.number < length queue = get-below queue h.number k h.at in omega arith) h.at
