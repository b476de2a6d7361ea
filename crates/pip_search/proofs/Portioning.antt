-- The part that a way and marks say, one choice more at a time.
use Rattle.std.proofs.Common.{◌≡◌, ◌≢◌, ℕ, zero, suc, ◌+◌, ◌<◌, inl, inr, List, [], ◌∷◌, ◌++◌, length}
use Rattle.std.proofs.Common.{Some, slice_get, refl, ap, sym, subst, ◌∙◌, arith, true, false}
use Rattle.std.specs.Prelude.{Bool, ◌==◌, ◌||◌, min}
use Rattle.std.specs.List.{list_any}
use Rattle.std.specs.Str.{bytes_eq}
use Rattle.std.proofs.lemmas.Bool.{cases_lt, cases_order, ne_eqb}
use Rattle.std.proofs.lemmas.List.{map-append}
use Rattle.std.proofs.lemmas.Slice.Eq.{bytes_eq-Decides}
use Rattle.pip_search.specs.Certificates.{Portion, Stop}
use Rattle.pip_search.specs.Growing.{Told}
use Rattle.pip_search.specs.Keys.{labels}
use Rattle.pip_search.specs.Naming.{AreDistinct}
use Rattle.pip_search.specs.Parts.{HasMoved, IsWalked, IsWalkedOn, portion_of, stop_at, stops}
use Rattle.pip_search.specs.Portions.{AreAllMoves, AreLed, AreMovesAt, IsPortionOf, Move, SayOnePortion, Walk}
use Rattle.pip_search.specs.Portions.{asked_with, is_next_own, is_told, keys_with, walk_on, walk_rows}
use Rattle.pip_search.specs.Portions.{walk_start, with_text}
use Rattle.pip_search.specs.Summary.{HasOneKey}
use Rattle.pip_search.specs.Systems.{IsKey, LeadsAlong, LeadsOn, Model, after_way}
use Rattle.pip_search.specs.declared.found.Found.{Found}
use Rattle.pip_search.specs.declared.parts.Part.{Part}
use Rattle.pip_search.proofs.Making.{at-same}
use Rattle.pip_search.proofs.Picking.{map_at}
use Rattle.pip_search.proofs.Places.{get-below, get-back, get-more, get-new, get-some}

-- ---- labels

any_at : (ts : List (List ℕ)) (i : ℕ) (t : List ℕ) → slice_get ts i ≡ Some t
    → list_any (λ u. bytes_eq u t) ts ≡ true
any_at [] i t e = absurd cc
any_at (u ∷ ts) zero t e =
    let same : u ≡ t = cc in
    let yes : bytes_eq u t ≡ true = (bytes_eq-Decides u t).1 same in
    rw yes
any_at (u ∷ ts) (suc i) t e = or_right (bytes_eq u t) _ (any_at ts i t e)
  where
    or_right : (a b : Bool) → b ≡ true → (a || b) ≡ true
    or_right true b h = refl
    or_right false b h = h

any_none : (ts : List (List ℕ)) (t : List ℕ) → ((j : ℕ) → slice_get ts j ≢ Some t)
    → list_any (λ u. bytes_eq u t) ts ≡ false
any_none [] t h = refl
any_none (u ∷ ts) t h = by_test (bytes_eq u t) refl (any_none ts t (λ j. h (suc j)))
  where
    by_test : (b : Bool) → bytes_eq u t ≡ b → list_any (λ u. bytes_eq u t) ts ≡ false
        → (b || list_any (λ u. bytes_eq u t) ts) ≡ false
    by_test true is rest = absurd (h 0 (rw ((bytes_eq-Decides u t).0 is)))
    by_test false is rest = rest

some_length : (xs : List ℕ) → xs ≢ [] → (length xs == 0) ≡ false
some_length [] h = absurd (h refl)
some_length (x ∷ xs) h = ne_eqb (suc (length xs)) 0 (λ e. omega arith)

-- labels with what was told are those with the text
told_texts : (fs gs : List Found) (label : List ℕ) (at choice depth : ℕ) → Told fs gs label at choice depth
    → AreDistinct (labels gs) → labels gs ≡ with_text (labels fs) label
told_texts fs gs label at choice depth (inl keeps) distinct =
    ap labels keeps.same ∙ sym (rw yes)
  where
    yes : is_told (labels fs) label ≡ true
    yes = elim (keeps.has) [
      | inl none ↦ rw none
      | inr has ↦
          let there : slice_get (labels fs) has.place ≡ Some label =
          rw (map_at (λ (f : Found). f.label.items) fs has.place has.at.found has.at.at, has.at.same) in
          either (length label == 0) (any_at (labels fs) has.place label there)
    ]
      where
        either : (a : Bool) {b : Bool} → b ≡ true → (a || b) ≡ true
        either true h = refl
        either false h = h
told_texts fs gs label at choice depth (inr adds) distinct =
    all ∙ sym (rw no)
  where
    all : labels gs ≡ labels fs ++ label ∷ []
    all = rw (adds.whole, map-append (λ (f : Found). f.label.items) fs (adds.found ∷ []), adds.label_is)

    absent : (j : ℕ) → slice_get (labels fs) j ≢ Some label
    absent j e =
        let before : slice_get (labels gs) j ≡ Some label = rw (all, get-more (labels fs) (label ∷ []) j label e) in
        let last : slice_get (labels gs) (length (labels fs)) ≡ Some label =
        rw (all, get-new (labels fs) label) in
        omega (arith, distinct j (length (labels fs)) label before last, get-below (labels fs) j label e)

    no : is_told (labels fs) label ≡ false
    no = rw (some_length label adds.some, any_none (labels fs) label absent)

-- ---- a choice

-- the same key again isn't asked
pub same_again : (own : Bool) (x : Stop) (key : List ℕ) (asked : List Stop) (y : Stop) → x.key ≡ key
    → asked ≡ asked_with own (bytes_eq x.key key) asked y
same_again own x key asked y same = by_own own (bytes_eq x.key key) ((bytes_eq-Decides x.key key).1 same)
  where
    by_own : (a b : Bool) → b ≡ true → asked ≡ asked_with a b asked y
    by_own true b is = refl
    by_own false true is = refl
    by_own false false is = absurd cc

-- another is
pub other_asked : (own : Bool) (x : Stop) (key : List ℕ) (asked more : List Stop) (y : Stop) → own ≡ false
    → x.key ≢ key → more ≡ asked ++ y ∷ [] → more ≡ asked_with own (bytes_eq x.key key) asked y
other_asked own x key asked more y none other whole = by_own own (bytes_eq x.key key) none refl
  where
    by_own : (a b : Bool) → a ≡ false → bytes_eq x.key key ≡ b → more ≡ asked_with a b asked y
    by_own true b is e = absurd cc
    by_own false true is e = absurd (other ((bytes_eq-Decides x.key key).0 e))
    by_own false false is e = whole

pub has_moved : (m : Model) (x : Stop) (c : ℕ) (own : Bool) (p q : Part) (next shown : List ℕ) (i choice depth : ℕ)
    → LeadsOn m x.key c next shown → Told p.found.items q.found.items shown i choice depth
    → AreDistinct (labels q.found.items)
    → stops q.keys.items ≡ keys_with own (stops p.keys.items) (stop_at next (x.depth + 1))
    → stops q.asked.items ≡ asked_with own (bytes_eq x.key next) (stops p.asked.items) (stop_at next (x.depth + 1))
    → HasMoved m x c own (portion_of p) (portion_of q)
has_moved m x c own p q next shown i choice depth leads told distinct keys asked =
    let texts = told_texts p.found.items q.found.items shown i choice depth told distinct in
    record {
      move = record { next = next; shown = shown };
      leads = leads;
      is = λ j. record { keys = keys j; asked = asked j; labels = texts j };
    }

-- ---- choices at one key after another

stays_at : (own : Bool) (xs : List Stop) (y : Stop) (i : ℕ) (x : Stop) → slice_get xs i ≡ Some x
    → slice_get (keys_with own xs y) i ≡ Some x
stays_at true xs y i x at = get-more xs (y ∷ []) i x at
stays_at false xs y i x at = at

module _ (m : Model) (marks : List ℕ) (from : Stop) where
  -- nothing was chosen
  pub walked_first : (p : Portion) → p ≡ (walk_start from).portion → IsWalked m marks from p 0 0
  unfolding AreAllMoves walk_rows
  walked_first p is = record { rows = []; are = tt; count = refl; is = is; place = omega arith }

  -- at a key
  pub walked_start : (p : Portion) (i at : ℕ) → i < length p.keys → IsWalked m marks from p i at
      → IsWalkedOn m marks from p i 0 at
  unfolding AreLed walk_on
  walked_start p i at low w =
      let (x, there) = get-some p.keys i low in
      record {
        rows = w.rows;
        are = w.are;
        count = w.count;
        stop = x;
        here = rw (← w.is, there);
        row = [];
        led = tt;
        made = refl;
        stays = there;
        is = w.is;
        place = w.place;
      }

  -- one choice more
  pub walked_more : (p q : Portion) (i c at next : ℕ) (own : Bool) → IsWalkedOn m marks from p i c at
      → ((n : ℕ) → at ≡ min n (length marks) → (own ≡ is_next_own marks n) × (next ≡ min (n + 1) (length marks)))
      → ((x : Stop) → slice_get p.keys i ≡ Some x → HasMoved m x c own p q) → IsWalkedOn m marks from q i (c + 1) next
  unfolding AreLed walk_on
  walked_more p q i c at next own w mark moves =
      let k = walk_on marks w.stop (walk_rows marks from w.rows) w.row in
      let by = mark k.used w.place in
      let h = moves w.stop w.stays in
      let count = w.made in
      record {
        rows = w.rows;
        are = w.are;
        count = w.count;
        stop = w.stop;
        here = w.here;
        row = h.move ∷ w.row;
        led = (rw w.made h.leads, w.led);
        made = omega arith;
        stays = rw (h.is, stays_at own p.keys _ i w.stop w.stays);
        is = rw (h.is, w.is, by.0);
        place = by.1;
      }

  -- all choices at a key
  pub walked_row : (p : Portion) (i c at : ℕ) → IsWalkedOn m marks from p i c at → c ≡ m.choices
      → IsWalked m marks from p (i + 1) at
  unfolding AreAllMoves walk_rows
  walked_row p i c at w all =
      let k = walk_rows marks from w.rows in
      let here : slice_get k.portion.keys (length w.rows) ≡ Some w.stop =
      rw (w.count, w.here) in
      let same : walk_rows marks from (w.row ∷ w.rows) ≡ walk_on marks w.stop k w.row =
      rw here in
      let count = w.count in
      record {
        rows = w.row ∷ w.rows;
        are = (record { stop = w.stop; at = here; led = w.led; all = cc (w.made) }, w.are);
        count = omega arith;
        is = rw (w.is, ← same);
        place = rw (w.place, ← same);
      }

-- a part with one key, and no choice made
pub first_portion : (p : Part) (x : Stop) → stops p.keys.items ≡ x ∷ [] → stops p.asked.items ≡ []
    → p.found.items ≡ [] → portion_of p ≡ (walk_start x).portion
first_portion p x keys asked none =
    let texts : labels p.found.items ≡ [] = rw none in
    λ j. record { keys = keys j; asked = asked j; labels = texts j }

pub portion_said : (m : Model) (start way marks first : List ℕ) (p : Portion) (i at : ℕ)
    → LeadsAlong m start way first → IsWalked m marks (stop_at first (length way)) p i at → i ≡ length p.keys
    → IsPortionOf m start way marks p
portion_said m start way marks first p i at leads w all =
    record { first = first; leads = leads; rows = w.rows; are = w.are; all = cc (w.count); is = w.is }

-- ---- one part

module _ (m : Model) (one : HasOneKey m) (marks : List ℕ) (first : Stop) (begins : IsKey m first.key) where
  abbrev AllKeys : List Stop → Type 0
  AllKeys xs = (j : ℕ) (x : Stop) → slice_get xs j ≡ Some x → IsKey m x.key

  with_key : (own : Bool) (xs : List Stop) (y : Stop) → AllKeys xs → IsKey m y.key → AllKeys (keys_with own xs y)
  with_key false xs y all is = all
  with_key true xs y all is = λ j x e. elim (get-back xs y j x e) [
    | inl old ↦ all j x old
    | inr (last, new) ↦ rw new is
  ]

  row_keys : (x : Stop) (w : Walk) (vs : List Move) → IsKey m x.key → AreLed m x.key vs → AllKeys w.portion.keys
      → AllKeys (walk_on marks x w vs).portion.keys
  unfolding AreLed walk_on
  row_keys x w [] is led all = all
  row_keys x w (v ∷ vs) (s, k) led all =
      with_key _ (walk_on marks x w vs).portion.keys _ (row_keys x w vs (s, k) led.1 all)
      (m.act s (length vs), (led.0 s k).0)

  all_keys : (rows : List (List Move)) → AreAllMoves m marks first rows
      → AllKeys (walk_rows marks first rows).portion.keys
  unfolding AreAllMoves walk_rows
  all_keys [] are = λ j x e. with_key true [] first (λ j y e. absurd cc) begins j x e
  all_keys (row ∷ rows) are =
      let k = walk_rows marks first rows in
      let before = all_keys rows are.1 in
      let r = are.0 in
      rw r.at (row_keys r.stop k row (before (length rows) r.stop r.at) r.led before)

  same_row : (key : List ℕ) → IsKey m key → (vs us : List Move) → length vs ≡ length us → AreLed m key vs
      → AreLed m key us → vs ≡ us
  unfolding AreLed
  same_row key is [] [] count a b = refl
  same_row key is [] (u ∷ us) count a b = absurd (omega arith)
  same_row key is (v ∷ vs) [] count a b = absurd (omega arith)
  same_row key (s, k) (v ∷ vs) (u ∷ us) count a b =
      let few : length vs ≡ length us = omega arith in
      let rest = same_row key (s, k) vs us few a.1 b.1 in
      let x = a.0 s k in
      let y = subst (λ n. m.stands u.next (m.act s n) × (u.shown ≡ m.label s n)) (sym few) (b.0 s k) in
      let next : v.next ≡ u.next = one v.next u.next (m.act s (length vs)) x.0 y.0 in
      let shown : v.shown ≡ u.shown = x.1 ∙ sym y.1 in
      λ j. record { next = next j; shown = shown j } ∷ rest j

  same_rows : (rs qs : List (List Move)) → length rs ≡ length qs → AreAllMoves m marks first rs
      → AreAllMoves m marks first qs → rs ≡ qs
  unfolding AreAllMoves
  same_rows [] [] count a b = refl
  same_rows [] (q ∷ qs) count a b = absurd (omega arith)
  same_rows (r ∷ rs) [] count a b = absurd (omega arith)
  same_rows (r ∷ rs) (q ∷ qs) count a b =
      let rest = same_rows rs qs (omega arith) a.1 b.1 in
      let x = a.0 in
      let y = subst (λ ts. AreMovesAt m (walk_rows marks first ts).portion.keys (length ts) q) (sym rest) b.0 in
      let ks = (walk_rows marks first rs).portion.keys in
      let same : x.stop ≡ y.stop = at-same ks (length rs) x.stop y.stop x.at y.at in
      let row : r ≡ q = same_row x.stop.key (all_keys rs a.1 (length rs) x.stop x.at) r q (x.all ∙ sym y.all) x.led
      (rw same y.led) in
      λ j. row j ∷ rest j

  abbrev IsWhole : List (List Move) → Type 0
  IsWhole rs = length rs ≡ length (walk_rows marks first rs).portion.keys

  no_longer : (rs qs : List (List Move)) → length rs < length qs → AreAllMoves m marks first rs
      → AreAllMoves m marks first qs → IsWhole rs → ⊥
  unfolding AreAllMoves
  no_longer rs [] more a b whole = omega arith
  no_longer rs (q ∷ qs) more a b whole = elim (cases_lt (length rs) (length qs)) [
    | inl less ↦ no_longer rs qs less a b.1 whole
    | inr most ↦
        let same : rs ≡ qs = same_rows rs qs (omega arith) a b.1 in
        let x = subst (λ ts. AreMovesAt m (walk_rows marks first ts).portion.keys (length ts) q) (sym same) b.0 in
        omega (arith, get-below (walk_rows marks first rs).portion.keys (length rs) x.stop x.at)
  ]

  one_walk : (rs qs : List (List Move)) → AreAllMoves m marks first rs → AreAllMoves m marks first qs → IsWhole rs
      → IsWhole qs → rs ≡ qs
  one_walk rs qs a b whole all = elim (cases_order (length rs) (length qs)) [
    | inl same ↦ same_rows rs qs same a b
    | inr (inl less) ↦ absurd (no_longer rs qs less a b whole)
    | inr (inr more) ↦ absurd (no_longer qs rs more b a all)
  ]

pub say_one_portion : (m : Model) → SayOnePortion m
say_one_portion m one start way marks p q (s, k) a b =
    let same : a.first ≡ b.first = one a.first b.first (after_way m s way) (a.leads s k) (b.leads s k) in
    let from : Stop = stop_at a.first (length way) in
    let is : q ≡ (walk_rows marks from b.rows).portion = rw (b.is, ← same) in
    let rows : a.rows ≡ b.rows = one_walk m one marks from (after_way m s way, a.leads s k) a.rows b.rows a.are
    (rw same b.are)
    (rw (a.all, a.is)) (rw (b.all, is)) in
    rw (a.is, rows, ← is)
