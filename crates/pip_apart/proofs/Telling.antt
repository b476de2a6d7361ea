-- What a search tells of a guest's machine.
use Rattle.std.proofs.Common.{◌≡◌, ◌≢◌, ℕ, zero, suc, ◌+◌, ◌||◌, ◌&&◌, Bool, true, false, not, inl, inr, take, get_or}
use Rattle.std.proofs.Common.{arith, ap₂, List, [], ◌∷◌, length, map, filter, refl, sym, ap, ◌∙◌}
use Rattle.std.proofs.Common.{subst, Some, Result, Ok, Err, IfOk, slice_get, ◌++◌, ◌<◌}
use Rattle.std.specs.List.{AllByRecursion, list_any}
use Rattle.std.proofs.lemmas.Option.{slice_get-get_or}
use Rattle.pip_base.specs.Memory.{Memory}
use Rattle.pip_model.specs.Lists.{In}
use Rattle.pip_model.proofs.OnLists.Members.{any_none}
use Rattle.pip_model.specs.Worlds.{World}
use Rattle.pip_search.specs.Summary.{HasOneKey, IsShownOn, IsTold, Witness}
use Rattle.pip_search.specs.Systems.{Model}
use Rattle.pip_search.specs.Ways.{witness_of, witnesses_of}
use Rattle.pip_search.specs.declared.found.Found.{Found}
use Rattle.pip_search.specs.declared.searching.Extent.{Extent}
use Rattle.pip_search.specs.declared.searching.Extent.TheVariants.{Closed}
use Rattle.pip_search.specs.declared.visits.Visit.{Visit}
use Rattle.pip_switch.specs.Standing.{StandsAs, StandsFor, State}
use Rattle.pip_every.specs.Keys.{IsKeyOf, key_words}
use Rattle.pip_every.proofs.OneKey.{one_key}
use Rattle.pip_every.specs.Told.{AreWaysOf}
use Rattle.pip_apart.proofs.Testing.{not_true}
use Rattle.pip_apart.specs.Alone.{NoneLeaves, guest_model, mark, turns_scope}
use Rattle.pip_apart.specs.Found.{GuestAlone, IsFoundAt, all_stay, is_marked, stays}
use Rattle.pip_apart.specs.Searches.{CanBeShown, IsGuestKey, alone_of}
use Rattle.pip_apart.specs.Tops.{processors_of}
use Rattle.pip_apart.specs.declared.searching.GuestSearch.{GuestSearch}

-- the key at which a search begins
pub begins : (first : Memory) (n : ℕ) (p : State) (w : World) (start : List ℕ) → StandsAs p w
    → length p.memory ≡ length first → length p.cpus ≡ n → start ≡ key_words first 0 p.cpus p.memory
    → IsKeyOf first (turns_scope n) start (record { world = w; turns = 0 })
begins first n p w start s frames count is =
    let cpus_are : w.cpus ≡ p.cpus = s.bare.shows.cpus in
    record {
      memory = p.memory;
      stands = rw (← cpus_are) at s.bare;
      frames = frames;
      cpus = rw (cpus_are, count);
      whole = rw (is, ← cpus_are);
    }

-- no world has two keys
pub guests_have_one_key : (first : Memory) (n top : ℕ) (cpus : List ℕ) → HasOneKey (guest_model first n top cpus)
guests_have_one_key first n top cpus key other w k l =
    one_key first (turns_scope n) key other (record { world = w; turns = 0 }) k l

-- what is told of the same machine and guest is told
pub told_on : (first : Memory) (n m top tip : ℕ) (cpus ids : List ℕ) (w : World) (most limit count : ℕ)
    (ws : List Witness) (v : Extent) → m ≡ n → tip ≡ top → ids ≡ cpus
    → IsTold (guest_model first m tip ids) w most limit ws count v
    → IsTold (guest_model first n top cpus) w most limit ws count v
told_on first n m top tip cpus ids w most limit count ws v one two three h =
    rw (← three) (subst (λ t. IsTold (guest_model first n t ids) w most limit ws count v) two
    (subst (λ x. IsTold (guest_model first x tip ids) w most limit ws count v) one h))

-- what holds of an answer that is no error
pub if_one : {T E : Type 0} (r : Result T E) (P Q : T → Type 0) → IfOk r P → ((x : T) → P x → Q x) → IfOk r Q
if_one (Ok x) P Q p f = f x p
if_one (Err e) P Q p f = tt

-- ---- labels

-- all labels of a closed search are covered
all_covered : (fs : List Found) → filter (λ (f : Found). true) fs ≡ fs
all_covered [] = refl
all_covered (f ∷ fs) = rw (all_covered fs)

-- ---- all guests

-- what was found from a key is found at each world of the key
pub found_at_key : (first : Memory) (count m : ℕ) (key : List ℕ) (w : World) (most limit top tip n : ℕ)
    (cpus ids : List ℕ) (ws : List Witness) (v : Extent) → IsGuestKey first count key w → m ≡ count → tip ≡ top
    → ids ≡ cpus → cpus ≡ processors_of w top → IsTold (guest_model first m tip ids) w most limit ws n v
    → IsFoundAt first w most limit (record { top = top; cpus = cpus; lines = ws; count = n; end = v })
found_at_key first count m key w most limit top tip n cpus ids ws v k one two three are told = record {
  cpus = are;
  told = told_on first (length w.cpus) m top tip cpus ids w most limit n ws v (cc (k.cpus)) two three told;
}

shown_known : (m : Model) (s : m.State) (label way : List ℕ) → IsShownOn m s label way
    → AllByRecursion (λ c. c < m.choices) way
shown_known m s label [] shown = absurd shown
shown_known m s label (c ∷ cs) shown = shown.0

-- the ways make choices of the guest's processors
pub ways_known : (first : Memory) (m tip : ℕ) (cpus ids : List ℕ) (w : World) (most limit n : ℕ) (ws : List Witness)
    (v : Extent) → ids ≡ cpus → IsTold (guest_model first m tip ids) w most limit ws n v
    → AreWaysOf (length cpus) ws
ways_known first m tip cpus ids w most limit n ws v same told = rw (← same)
    (record { each = λ k x at. shown_known (guest_model first m tip ids) w x.label x.way (told.shown k x at).0 })

-- one more was found
pub one_found : (P : GuestAlone → Type 0) (xs : List GuestSearch) (x : GuestSearch)
    → AllByRecursion P (map alone_of xs) → P (alone_of x) → AllByRecursion P (map alone_of (xs ++ x ∷ []))
one_found P [] x all h = (h, tt)
one_found P (y ∷ ys) x all h = (all.0, one_found P ys x all.1 h)

pub one_shown : (xs : List GuestSearch) (x : GuestSearch) → AllByRecursion CanBeShown xs → CanBeShown x
    → AllByRecursion CanBeShown (xs ++ x ∷ [])
one_shown [] x all h = (h, tt)
one_shown (y ∷ ys) x all h = (all.0, one_shown ys x all.1 h)

pub tops_found : (xs : List GuestSearch) → map (λ g. g.top) (map alone_of xs) ≡ map (λ s. s.top) xs
tops_found [] = refl
tops_found (x ∷ xs) = rw (tops_found xs)

one_taken : (xs : List GuestSearch) (x : GuestSearch) (ts : List ℕ) (i t : ℕ) → map (λ s. s.top) xs ≡ take i ts
    → x.top ≡ t → slice_get ts i ≡ Some t → map (λ s. s.top) (xs ++ x ∷ []) ≡ take (suc i) ts
one_taken xs x ts i t before same at = rw (tops_append xs, ap₂ (λ a b. a ++ b ∷ []) before same, ← taken ts i at)
  where
    tops_append : (ys : List GuestSearch) → map (λ s. s.top) (ys ++ x ∷ []) ≡ map (λ s. s.top) ys ++ x.top ∷ []
    tops_append [] = refl
    tops_append (y ∷ ys) = rw (tops_append ys)

    taken : (us : List ℕ) (k : ℕ) → slice_get us k ≡ Some t → take (suc k) us ≡ take k us ++ t ∷ []
    taken [] k e = cc
    taken (u ∷ us) zero e = ap (λ n. n ∷ []) (let is : u ≡ t = cc in is)
    taken (u ∷ us) (suc k) e = rw (taken us k e)

-- one more guest was searched
pub one_top : (xs : List GuestSearch) (x : GuestSearch) (ts : List ℕ) (i t : ℕ) → map (λ s. s.top) xs ≡ take i ts
    → x.top ≡ t → t ≡ get_or ts i t → i < length ts → map (λ s. s.top) (xs ++ x ∷ []) ≡ take (i + 1) ts
one_top xs x ts i t before same is less =
    let one : suc i ≡ i + 1 = omega arith in
    rw (one_taken xs x ts i t before same (slice_get-get_or ts i t less ∙ ap Some (sym is)), one)

-- ---- marks

member_at : {A : Type 0} (xs : List A) (k : ℕ) (x : A) → slice_get xs k ≡ Some x → In x xs
member_at [] k x e = cc
member_at (y ∷ ys) zero x e = inl cc
member_at (y ∷ ys) (suc k) x e = inr (member_at ys k x e)

-- no label that begins with the mark is among those of which none is marked
pub none_marked : (ws : List Witness) → list_any (λ x. is_marked x.label) ws ≡ false → NoneLeaves ws
none_marked ws off k x text at e =
    let no : is_marked x.label ≡ false = any_none (λ x. is_marked x.label) x ws off (member_at ws k x at) in
    not_true (is_marked x.label) (rw no) (rw e)

marked_alike : (vs : List Visit) (fs : List Found) → list_any (λ f. is_marked f.label.items) fs
    ≡ list_any (λ x. is_marked x.label) (map (witness_of vs) fs)
marked_alike vs [] = refl
marked_alike vs (f ∷ fs) = rw (marked_alike vs fs)

-- of a closed search the witnesses are marked as the labels are
pub labels_marked : (depth : ℕ) (vs : List Visit) (fs : List Found) → list_any (λ f. is_marked f.label.items) fs
    ≡ list_any (λ x. is_marked x.label) (witnesses_of (Closed depth) vs fs)
labels_marked depth vs fs =
    cc (marked_alike vs fs, all_covered fs)

pub unmarked : (depth : ℕ) (vs : List Visit) (fs : List Found) (b : Bool)
    → b ≡ list_any (λ f. is_marked f.label.items) fs → not b ≡ true
    → list_any (λ x. is_marked x.label) (witnesses_of (Closed depth) vs fs) ≡ false
unmarked depth vs fs true is e = cc
unmarked depth vs fs false is e = cc (labels_marked depth vs fs)

-- ---- guests one by one

all_first : (xs : List GuestSearch) (k : ℕ) (x : GuestSearch) → slice_get xs k ≡ Some x
    → all_stay (map alone_of (take (suc k) xs))
    ≡ (all_stay (map alone_of (take k xs)) && stays x.end (alone_of x).lines)
all_first [] k x e = cc
all_first (y ∷ ys) zero x e =
    let same : y ≡ x = cc in
    rw (same, second (stays x.end (alone_of x).lines))
  where
    second : (b : Bool) → (b && true) ≡ b
    second true = refl
    second false = refl
all_first (y ∷ ys) (suc k) x e =
    rw (
      all_first ys k x e,
      assoc (stays y.end (alone_of y).lines) (all_stay (map alone_of (take k ys)))
          (stays x.end (alone_of x).lines),
    )
  where
    assoc : (a b c : Bool) → (a && (b && c)) ≡ ((a && b) && c)
    assoc true b c = refl
    assoc false b c = refl

-- one that doesn't stay says no of all
none_after : (xs : List GuestSearch) (k : ℕ) (x : GuestSearch) → slice_get xs k ≡ Some x
    → stays x.end (alone_of x).lines ≡ false → false ≡ all_stay (map alone_of xs)
none_after [] k x e off = cc
none_after (y ∷ ys) zero x e off =
    let same : y ≡ x = cc in cc
none_after (y ∷ ys) (suc k) x e off =
    rw (← second (stays y.end (alone_of y).lines), none_after ys k x e off)
  where
    second : (b : Bool) → (b && false) ≡ false
    second true = refl
    second false = refl

module _ (xs : List GuestSearch) (k : ℕ) (x : GuestSearch) (b : Bool) (is : x ≡ get_or xs k x) (less : k < length xs)
    (said : b ≡ stays x.end (alone_of x).lines) where
  at_place : slice_get xs k ≡ Some x
  at_place = rw (slice_get-get_or xs k x less, ← is)

  pub not_all_stay : b ≡ false → false ≡ all_stay (map alone_of xs)
  not_all_stay off = none_after xs k x at_place (cc)

  pub all_stay_on : b ≡ true → all_stay (map alone_of (take k xs)) ≡ true
      → all_stay (map alone_of (take (k + 1) xs)) ≡ true
  all_stay_on on before =
      let one : k + 1 ≡ suc k = omega arith in
      rw (one, all_first xs k x at_place, ap₂ (λ c d. c && d) before (sym said ∙ on))
