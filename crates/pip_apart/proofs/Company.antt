-- A turn of one of several guests, in a world in which each of them is the same as in a world of its own.
use Rattle.std.proofs.Common.{◌≡◌, ◌≢◌, ℕ, inl, inr, true, false, List, [], ◌∷◌, sym, ap, ◌∙◌, subst}
use Rattle.std.proofs.Common.{Some, None}
use Rattle.std.specs.List.{AllByRecursion}
use Rattle.std.proofs.lemmas.Bool.{false_from_ne_true}
use Rattle.std.proofs.lemmas.Bool.Decides.{eqb_tells}
use Rattle.pip_model.specs.Acts.{Makes, after_acts, events_made}
use Rattle.pip_model.specs.Events.{Event, IsEvent}
use Rattle.pip_model.specs.Events as E
use Rattle.pip_model.specs.Happens.{event}
use Rattle.pip_model.specs.Lists.{In, has}
use Rattle.pip_model.specs.Local.{IsAside, actor}
use Rattle.pip_model.specs.Poll.{occupant_name}
use Rattle.pip_model.specs.Tree.{ancestry}
use Rattle.pip_model.specs.Turn.{acts_after_poll, fetch_acts, turn}
use Rattle.pip_model.specs.Worlds.{IsSoundWorld, World, nothing, runs_on}
use Rattle.pip_model.specs.declared.processors.Occupant.{Occupant}
use Rattle.pip_model.proofs.OnLists.Members.{has_in}
use Rattle.pip_model.proofs.Locality.OneEvent.{to_trees}
use Rattle.pip_model.proofs.Trees.Free.{IsName}
use Rattle.pip_guests.specs.Guests.{IsSameGuest, PollsInVain}
use Rattle.pip_guests.specs.Programs.{AreInsideTurns, IsInsideTurn, IsSameTurn, Slot, turn_of}
use Rattle.pip_guests.proofs.Lines.{below_before, lines_meet, no_line, not_top}
use Rattle.pip_guests.proofs.Elsewhere.{name_kept, same_trans}
use Rattle.pip_guests.proofs.Elsewhere.{same_world}
use Rattle.pip_guests.proofs.Turns.{after_turn, turn_name, turn_runs, turn_same, turn_sound}
use Rattle.pip_guests.proofs.Words.{fetch_are}
use Rattle.pip_guests.proofs.Together.{Both, name_there}
use Rattle.pip_guests.proofs.Programs.{KeptList, apart_acts, both_after, turn_apart}
use Rattle.pip_apart.specs.Company.{runs_below}
use Rattle.pip_apart.proofs.Here.{turn_elsewhere}

-- what is below one guest is not below another aside
pub not_both : (w : World) (p q n : ℕ) → IsSoundWorld w → IsAside w.tree q p → In q (ancestry w.tree n)
    → has (ancestry w.tree n) p ≡ false
not_both w p q n s a h = false_from_ne_true _ (λ z. elim (lines_meet w.tree s.tree q p n h (has_in p _ z))
    [ inl b ↦ a.not_below b | inr b ↦ a.not_above b ])

-- nothing of a guest is on a processor that runs nothing
pub none_below : (w : World) (p cpu : ℕ) → IsSoundWorld w → runs_on w cpu ≡ None
    → has (ancestry w.tree (actor w (E.Poll cpu))) p ≡ false
none_below w p cpu s k = false_from_ne_true _ (λ z. no_line w.tree s.tree p
    (subst (λ o. In p (ancestry w.tree (occupant_name o))) k (has_in p _ z)))

-- the turn of a processor that runs nothing, where no line is taken
pub idle_turn : (w : World) (cpu t : ℕ) → event w (E.Poll cpu) ≡ nothing w → after_acts w (turn w cpu t) ≡ w
idle_turn w cpu t e =
    ap (λ h. after_acts w (Makes (E.Poll cpu) ∷ acts_after_poll h.world t cpu h.outcome)) e ∙ ap (λ h. h.world) e

-- guests, those of w0, of which each stays inside alone. C says why polls are in vain in company, and B why they are
-- where a guest is alone
module _ (w0 : World) (ps : List ℕ) (B : ℕ → World → Type 0) (C : World → Type 0)
    (vain_alone : (w : World) (q cpu : ℕ) (r : Occupant) → IsSoundWorld w → B q w → runs_on w cpu ≡ Some r
    → PollsInVain w cpu)
    (later_alone : (w : World) (q cpu t : ℕ) → IsSoundWorld w → IsName w.tree q → q ≢ w.tree.root.name → B q w
    → PollsInVain w cpu → IsInsideTurn q w cpu t → B q (after_acts w (turn w cpu t)))
    (vain : (w : World) (cpu : ℕ) (r : Occupant) → IsSoundWorld w → C w → runs_on w cpu ≡ Some r → PollsInVain w cpu)
    (later : (w : World) (q cpu t : ℕ) → In q ps → IsSoundWorld w → IsName w.tree q → q ≢ w.tree.root.name → C w
    → PollsInVain w cpu → IsInsideTurn q w cpu t → IsSoundWorld (after_acts w (turn w cpu t))
    → ((p : ℕ) → In p ps → p ≢ q → IsName w.tree p × IsSameGuest p w (after_acts w (turn w cpu t)))
    → C (after_acts w (turn w cpu t))) where
  -- the processor of a slot runs the guest q in w0
  abbrev pub Owns : ℕ → Slot → Type 0
  Owns q s = runs_below w0 q s.cpu ≡ true

  -- the guest q is in w as it is in u, where it is alone
  pub record Alone (q : ℕ) (u w : World) : Type 0 where
    pub sound : IsSoundWorld u
    pub no_faults : B q u
    pub guest : IsSameGuest q u w
    pub stays : (xs : List Slot) → AllByRecursion (Owns q) xs → AreInsideTurns q u xs

  -- each is in w as it is in some world where it is alone
  pub record Company (w : World) : Type 0 where
    pub sound : IsSoundWorld w
    pub no_faults : C w
    pub names : (q : ℕ) → In q ps → IsName w.tree q
    pub not_root : (q : ℕ) → In q ps → q ≢ w.tree.root.name
    pub aside : (p q : ℕ) → In p ps → In q ps → p ≢ q → IsAside w.tree p q
    pub alone : (q : ℕ) → In q ps → (u : World) × Alone q u w
    pub idle : (cpu : ℕ) → runs_on w0 cpu ≡ None → runs_on w cpu ≡ None

  -- in a world in which the guest is the same it is as it is alone, too
  pub alone_on : (q : ℕ) (u w v : World) → IsSoundWorld w → IsSoundWorld v → IsName w.tree q → Alone q u w
      → IsSameGuest q w v → Alone q u v
  alone_on q u w v s r n a g = record {
    sound = a.sound;
    no_faults = a.no_faults;
    guest = same_trans q u w v a.sound s r (name_there q u w a.sound s n a.guest) a.guest g;
    stays = a.stays;
  }

  -- two that are the same in another world are aside there, too
  aside_on : (w v : World) (p q : ℕ) → IsSoundWorld w → IsSoundWorld v → IsName w.tree p → IsAside w.tree p q
      → IsSameGuest p w v → IsSameGuest q w v → IsAside v.tree p q
  aside_on w v p q s r n a g h = record {
    there = name_kept w v q s r a.there h;
    not_below = λ z. a.not_below (below_before w.tree v.tree p q s.tree r.tree n (to_trees p w v g.below) z);
    not_above = λ z. a.not_above (below_before w.tree v.tree q p s.tree r.tree a.there (to_trees q w v h.below) z);
  }

  -- a company in a world in which all guests are the same
  pub company_on : (w v : World) → Company w → IsSoundWorld v → C v → ((q : ℕ) → In q ps → IsSameGuest q w v)
      → ((cpu : ℕ) → runs_on w cpu ≡ None → runs_on v cpu ≡ None) → Company v
  company_on w v c r k g idle = record {
    sound = r;
    no_faults = k;
    names = λ q j. name_kept w v q c.sound r (c.names q j) (g q j);
    not_root = λ q j. not_top w.tree v.tree c.sound.tree r.tree q (c.not_root q j);
    aside = λ p q i j d. aside_on w v p q c.sound r (c.names p i) (c.aside p q i j d) (g p i) (g q j);
    alone = λ q j. let (u, a) = c.alone q j in (u, alone_on q u w v c.sound r (c.names q j) a (g q j));
    idle = λ cpu e. idle cpu (c.idle cpu e);
  }

  -- a turn of the guest q: it is that of q alone, q is again as alone, and so is each other guest
  pub record Turned (q : ℕ) (s : Slot) (u w : World) : Type 0 where
    pub acts : turn_of w s ≡ turn_of u s
    pub own : In q (ancestry w.tree (actor w (E.Poll s.cpu)))
    pub alone : Alone q (after_acts u (turn_of u s)) (after_acts w (turn_of w s))
    pub others : (p : ℕ) → In p ps → p ≢ q → IsSameGuest p w (after_acts w (turn_of w s))
    pub company : Company (after_acts w (turn_of w s))

  module _ (q : ℕ) (s : Slot) (u w : World) (j : In q ps) (c : Company w) (a : Alone q u w) (o : Owns q s) where
    abbrev there : World
    there = after_acts w (turn_of w s)

    first : IsInsideTurn q u s.cpu s.step
    first = (a.stays (s ∷ []) (o, tt)).0

    runs : (r : Occupant) × (runs_on w s.cpu ≡ Some r) × (runs_on u s.cpu ≡ Some r)
    runs = let (r, k, h) = turn_runs u q s.cpu s.step a.sound first in (r, a.guest.runs s.cpu r h k, k)

    quiet : PollsInVain w s.cpu
    quiet = vain w s.cpu runs.0 c.sound c.no_faults runs.1

    quiet_alone : PollsInVain u s.cpu
    quiet_alone = vain_alone u q s.cpu runs.0 a.sound a.no_faults runs.2

    not_root_alone : q ≢ u.tree.root.name
    not_root_alone = not_top w.tree u.tree c.sound.tree a.sound.tree q (c.not_root q j)

    same : IsSameTurn q s.cpu s.step u w
    same = turn_same u w q s.cpu s.step a.sound c.sound not_root_alone a.guest quiet_alone quiet first

    sound : IsSoundWorld there
    sound = turn_sound w q s.cpu s.step c.sound quiet same.inside

    kept : (p : ℕ) → In p ps → p ≢ q → KeptList p w there
    kept p i d = apart_acts p (turn_of w s) w c.sound (c.names p i) (c.not_root p i)
        (turn_apart q p s.cpu s.step w c.sound (c.names q j) (c.aside q p j i (λ e. d (sym e))) quiet same.inside)

    name : IsName there.tree q
    name = turn_name w q s.cpu s.step c.sound (c.names q j) (c.not_root q j) quiet same.inside

    -- another guest is aside of q after the turn
    aside_of : (p : ℕ) → In p ps → p ≢ q → IsAside there.tree q p
    aside_of p i d =
        let b : Both q p w w w = record {
          sound = c.sound;
          left_sound = c.sound;
          right_sound = c.sound;
          name = c.names q j;
          aside = c.aside q p j i (λ e. d (sym e));
          left_guest = same_world q w;
          right_guest = same_world p w;
        } in
        let n = both_after q p (events_made (fetch_acts w s.step s.cpu)) w w w b
        (fetch_are w s.cpu s.step c.sound) same.inside.inside in
        rw (after_turn w s.cpu s.step quiet) n.aside

    aside_there : (x y : ℕ) → In x ps → In y ps → x ≢ y → IsAside there.tree x y
    aside_there x y i k d = elim (eqb_tells x q) [
      | inl e ↦ rw e.1 (aside_of y k (λ f. d (e.1 ∙ sym f)))
      | inr e ↦ elim (eqb_tells y q) [
        | inl f ↦
            let b = aside_of x i e.1 in
            let name_x = (kept x i e.1).name in
            rw f.1 (record { there = name; not_below = b.not_above; not_above = b.not_below })
        | inr f ↦ aside_on w there x y c.sound sound (c.names x i) (c.aside x y i k d) (kept x i e.1).guest
            (kept y k f.1).guest
      ]
    ]

    alone_there : Alone q (after_acts u (turn_of u s)) there
    alone_there = record {
      sound = turn_sound u q s.cpu s.step a.sound quiet_alone first;
      no_faults = later_alone u q s.cpu s.step a.sound (name_there q u w a.sound c.sound (c.names q j) a.guest)
          not_root_alone a.no_faults quiet_alone first;
      guest = same.guest;
      stays = λ xs all. (a.stays (s ∷ xs) (o, all)).1;
    }

    pub turn_on : Turned q s u w
    turn_on = record {
      acts = sym same.acts;
      own = same.inside.below;
      alone = alone_there;
      others = λ p i d. (kept p i d).guest;
      company = record {
        sound = sound;
        no_faults = later w q s.cpu s.step j c.sound (c.names q j) (c.not_root q j) c.no_faults quiet same.inside sound
            (λ p i d. (c.names p i, (kept p i d).guest));
        names = λ p i. elim (eqb_tells p q) [
          | inl e ↦ subst (IsName there.tree) (sym e.1) name
          | inr e ↦ (kept p i e.1).name
        ];
        not_root = λ p i. not_top w.tree there.tree c.sound.tree sound.tree p (c.not_root p i);
        aside = aside_there;
        alone = λ p i. elim (eqb_tells p q) [
          | inl e ↦ (
            after_acts u (turn_of u s),
            rw e.1 alone_there,
          )
          | inr e ↦ let (v, b) = c.alone p i in
              (v, alone_on p v w there c.sound sound (c.names p i) b (kept p i e.1).guest)
        ];
        idle = λ cpu e. turn_elsewhere w q s.cpu s.step cpu c.sound (c.names q j) (c.not_root q j) quiet same.inside
            (λ d. let k : None ≡ Some runs.0 = rw (← c.idle cpu e, d, runs.1) in cc)
            ∙ c.idle cpu e;
      };
    }
