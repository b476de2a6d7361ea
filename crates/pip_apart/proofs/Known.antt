-- What is known of the guests of a world says what all of them can show together.
use Rattle.std.proofs.Common.{arith, ◌≡◌, ℕ, ◌+◌, suc, ◌<◌, ◌==◌, not, inl, inr, Bool, true, false, cond}
use Rattle.std.proofs.Common.{List, [], ◌∷◌, ◌++◌, map, length, refl, sym, ap, ◌∙◌, subst, eqb-true, eq-eqb}
use Rattle.std.proofs.Common.{Option, Some, None}
use Rattle.std.specs.Prelude.{is_none, slice_get}
use Rattle.std.specs.List.{AllByRecursion, list_any}
use Rattle.pip_base.specs.Memory.{Memory}
use Rattle.pip_base.specs.declared.types.Plan.{Plan}
use Rattle.pip_model.specs.Acts.{Act, after_acts}
use Rattle.pip_model.specs.Lists.{In}
use Rattle.pip_model.specs.Run.{raises, steps}
use Rattle.pip_model.specs.Worlds.{IsSoundWorld, World}
use Rattle.pip_model.proofs.OnLists.Acts.{after-append}
use Rattle.pip_guests.specs.Programs.{Slot, all_steps, next_world, ready, run_slots, turn_of}
use Rattle.pip_guests.proofs.Programs.{runs_are_steps, runs_go_on}
use Rattle.pip_search.specs.Summary.{IsTold, Witness}
use Rattle.pip_search.specs.declared.searching.Extent.{Extent}
use Rattle.pip_search.specs.declared.searching.Extent.TheVariants.{Closed, Stopped, Within}
use Rattle.pip_apart.specs.Alone.{AreProcessors, AreSearched, IsSearchedAlone, guest_model}
use Rattle.pip_apart.specs.Company.{IsOfGuests}
use Rattle.pip_apart.specs.Found.{GuestAlone, IsFoundAt, IsKnownAt, IsLineOf, Known, KnownAreInCompany}
use Rattle.pip_apart.specs.Found.{KnownGuestsHold, KnownLinesSuffice}
use Rattle.pip_apart.specs.Found.{RunsShowKnown, ShowOnly, SlotsShowKnown, all_stay, hold_apart, has_closed}
use Rattle.pip_apart.specs.Found.{is_marked, stays}
use Rattle.pip_apart.specs.Tops.{root_on, tops}
use Rattle.pip_apart.proofs.Searched.{searched_guests_stay, searches_add}
use Rattle.pip_apart.proofs.NoLine.{guests_hold_among_lines, of_one}
use Rattle.pip_apart.proofs.Telling.{none_marked}
use Rattle.pip_apart.proofs.Testing.{both, not_true}
use Rattle.pip_apart.proofs.Children.{of_guests, processors_are, top_named, top_not_root, tops_are, tops_aside}
use Rattle.pip_apart.proofs.Untaken.{takes_no_line}

-- ---- one guest

-- where a search closed, it ended at a depth
closed_depth : (e : Extent) → has_closed e ≡ true → (depth : ℕ) × (e ≡ Closed depth)
closed_depth (Closed depth) c = (depth, refl)
closed_depth (Within depth) c = cc
closed_depth (Stopped depth) c = cc

-- a guest that stays inside was searched
searched_alone : (w : World) (first : Memory) (most limit : ℕ) (g : GuestAlone) → IsSoundWorld w
    → IsFoundAt first w most limit g → stays g.end g.lines ≡ true → IsSearchedAlone w g.top g.lines
searched_alone w first most limit g s f on =
    let b = both (has_closed g.end) _ on in
    let (depth, e) = closed_depth g.end b.0 in
    record {
      first = first;
      machine = length w.cpus;
      cpus = g.cpus;
      processors = rw f.cpus (processors_are w g.top s);
      most = most;
      limit = limit;
      count = g.count;
      depth = depth;
      told = rw (← e) f.told;
      none = none_marked g.lines (off (list_any (λ x. is_marked x.label) g.lines) b.1);
    }
  where
    off : (b : Bool) → not b ≡ true → b ≡ false
    off true e = cc
    off false e = refl

-- ---- all guests

-- the lines of the guest of a name
lines_of : List GuestAlone → ℕ → List Witness
lines_of [] p = []
lines_of (g ∷ gs) p = cond (g.top == p) g.lines (lines_of gs p)

all_searched : (w : World) (first : Memory) (most limit : ℕ) (gs : List GuestAlone) → IsSoundWorld w
    → AllByRecursion (IsFoundAt first w most limit) gs → all_stay gs ≡ true → (p : ℕ) → In p (map (λ g. g.top) gs)
    → IsSearchedAlone w p (lines_of gs p)
unfolding lines_of
all_searched w first most limit [] s all on p i = absurd i
all_searched w first most limit (g ∷ gs) s all on p i =
    go (g.top == p) refl i (all_searched w first most limit gs s all.1 (both (stays g.end g.lines) _ on).1 p)
  where
    go : (b : Bool) → (g.top == p) ≡ b → In p (map (λ g. g.top) (g ∷ gs))
        → (In p (map (λ g. g.top) gs) → IsSearchedAlone w p (lines_of gs p))
        → IsSearchedAlone w p (cond b g.lines (lines_of gs p))
    go true e j rest = rw (← eqb-true g.top p e) (searched_alone w first most limit g s all.0
        (both (stays g.end g.lines) _ on).0)
    go false e (inl d) rest = absurd (not_true (g.top == p) (rw e) (eq-eqb g.top p (sym d)))
    go false e (inr j) rest = rest j

-- what one of them showed is of the list
line_of : (gs : List GuestAlone) (p k : ℕ) (x : Witness) (line : List ℕ) → slice_get (lines_of gs p) k ≡ Some x
    → x.label ≡ line → IsLineOf gs line
unfolding lines_of
line_of [] p k x line e same = cc
line_of (g ∷ gs) p k x line e same = go (g.top == p) e (λ d. line_of gs p k x line d same)
  where
    go : (b : Bool) → slice_get (cond b g.lines (lines_of gs p)) k ≡ Some x
        → (slice_get (lines_of gs p) k ≡ Some x → IsLineOf gs line) → IsLineOf (g ∷ gs) line
    go true d rest = record { place = 0; guest = g; guest_at = refl; number = k; witness = x; at = d; same = same }
    go false d rest = let h = rest d in record {
      place = suc h.place;
      guest = h.guest;
      guest_at = h.guest_at;
      number = h.number;
      witness = h.witness;
      at = h.at;
      same = h.same;
    }

is_nothing : (o : Option ℕ) → is_none o ≡ true → o ≡ None
is_nothing None e = refl
is_nothing (Some k) e = cc

are_searched : (w : World) (most limit : ℕ) (k : Known) → IsKnownAt w most limit k → hold_apart k ≡ true
    → AreSearched w (tops w) (lines_of k.guests)
are_searched w most limit k is on =
    let s = is.sound in
    let b = both (all_stay k.guests) _ on in
    let c = both (is_none k.root) _ b.1 in
    let t = w.tree in
    record {
      sound = s;
      names = λ p i. let (cpu, r) = tops_are w p i in top_named t r.occupant.name p r.is;
      not_root = λ p i. let (cpu, r) = tops_are w p i in top_not_root t r.occupant.name p s.tree r.is;
      aside = λ p q i j n.
          let (cpu, r) = tops_are w p i in
          let (other, u) = tops_are w q j in
          tops_aside t r.occupant.name u.occupant.name p q s.tree r.is u.is n;
      searched = λ p i. all_searched w is.found.first most limit k.guests s is.found.each b.0 p
          (rw is.found.tops_are i);
      lines = takes_no_line w (tops w) s (λ p i. let (cpu, r) = tops_are w p i in (r.occupant.name, r.is))
          (sym is.line_is ∙ is_nothing k.line c.1);
    }

all_guests : (w : World) (ss : List Slot) → IsSoundWorld w → root_on w ≡ None
    → AllByRecursion (IsOfGuests w (tops w)) ss
all_guests w [] s none = tt
all_guests w (x ∷ ss) s none = (of_guests w x.cpu s none, all_guests w ss s none)

pub known_lines_suffice : KnownLinesSuffice
known_lines_suffice w most limit k plans ss s is on below some =
    let sound = is.sound in
    let b = both (all_stay k.guests) _ on in
    let c = both (is_none k.root) _ b.1 in
    let none : root_on w ≡ None = sym is.root_is ∙ is_nothing k.root c.0 in
    let f = searches_add plans w (tops w) (lines_of k.guests) ss s (are_searched w most limit k is on) below
    (all_guests w (s ∷ ss) sound none) some in
    line_of k.guests f.guest f.place f.witness _ f.at f.label

-- ---- slots one after another

-- what a slot does
abbrev raises_turn : List Plan → World → Slot → List Act
raises_turn plans w s = raises plans s.step ++ turn_of (ready plans w s) s

-- the world after it
next : (plans : List Plan) (w : World) (s : Slot) → after_acts w (raises_turn plans w s) ≡ next_world plans w s
next plans w s = after-append w (raises plans s.step) (turn_of (ready plans w s) s)

-- the world after one slot more
one_more : (plans : List Plan) (w : World) (ss : List Slot) (s : Slot)
    → after_acts w (all_steps plans w (ss ++ s ∷ [])) ≡ next_world plans (after_acts w (all_steps plans w ss)) s
one_more plans w [] s = after-append w (raises_turn plans w s) [] ∙ next plans w s
one_more plans w (x ∷ ss) s =
    cc (
      after-append w (raises_turn plans w x) (all_steps plans (next_world plans w x) (ss ++ s ∷ [])),
      next plans w x,
      one_more plans (next_world plans w x) ss s,
      next plans w x,
      after-append w (raises_turn plans w x)
          (all_steps plans (next_world plans w x) ss),
    )

show_from : (w : World) (most limit : ℕ) (k : Known) (plans : List Plan) → IsKnownAt w most limit k
    → hold_apart k ≡ true → AllByRecursion (λ x. x.line < 16) plans → (before ss : List Slot)
    → ShowOnly (IsLineOf k.guests) plans (after_acts w (all_steps plans w before)) ss
show_from w most limit k plans is on below before [] = tt
show_from w most limit k plans is on below before (x ∷ ss) = (
  known_lines_suffice w most limit k plans before x is on below,
  rw (← one_more plans w before x) (show_from w most limit k plans is on below (before ++ x ∷ []) ss),
)

pub slots_show_known : SlotsShowKnown
slots_show_known w most limit k plans ss is on below = show_from w most limit k plans is on below [] ss

pub known_are_in_company : KnownAreInCompany
known_are_in_company w most limit k is on =
    let a = are_searched w most limit k is on in
    let b = both (all_stay k.guests) _ on in
    let c = both (is_none k.root) _ b.1 in
    let none : root_on w ≡ None = sym is.root_is ∙ is_nothing k.root c.0 in
    record {
      guests = record {
        sound = a.sound;
        each = λ q j. record {
          name = a.names q j;
          not_root = a.not_root q j;
          stays = searched_guests_stay w q (lines_of k.guests q) a.sound (a.names q j) (a.not_root q j)
              (of_one w (tops w) a.lines q j) (a.searched q j);
        };
        aside = a.aside;
      };
      lines = a.lines;
      slots = λ ss. all_guests w ss a.sound none;
    }

pub known_guests_hold : KnownGuestsHold
known_guests_hold w most limit k plans ss is on below p i =
    let c = known_are_in_company w most limit k is on in
    guests_hold_among_lines plans w (tops w) ss c.guests c.lines below (c.slots ss) p i

pub runs_show_known : RunsShowKnown
runs_show_known w plans seed c m n most limit k is on below =
    let v = after_acts w (steps w plans seed c m 0) in
    let at : 0 + m ≡ m = omega arith in
    record {
      acts = rw (runs_go_on w plans seed c m n 0, at, runs_are_steps v plans seed c n m);
      show = slots_show_known v most limit k plans (run_slots seed c n m) is on below;
      alone = λ p i. known_guests_hold v most limit k plans (run_slots seed c n m) is on below p i;
    }
