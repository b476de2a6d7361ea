-- Where the root has no handler for any line: no line is taken, and so it stays.
use Rattle.std.proofs.Common.{◌≡◌, ◌≢◌, ℕ, ◌+◌, ◌*◌, ◌<◌, ◌==◌, ◌||◌, eq-eqb, inl, inr, Bool, true, false, cond, List}
use Rattle.std.proofs.Common.{[], ◌∷◌}
use Rattle.std.proofs.Common.{refl, sym, ap, ◌∙◌, subst, map, Some, None}
use Rattle.std.specs.Prelude.{is_some, nat_lt}
use Rattle.std.specs.List.{AllByRecursion, list_any}
use Rattle.std.proofs.lemmas.Bool.Decides.{eqb_tells}
use Rattle.pip_base.specs.declared.types.Plan.{Plan}
use Rattle.pip_model.specs.Acts.{after_acts, events_made}
use Rattle.pip_model.specs.Events.{Event, IsEvent}
use Rattle.pip_model.specs.Events as E
use Rattle.pip_model.specs.Handlers.{handler}
use Rattle.pip_model.specs.Happens.{after, event}
use Rattle.pip_model.specs.Lists.{In, has}
use Rattle.pip_model.specs.Poll.{lines_with, lowest_line, may_take, none_taken, poll_line}
use Rattle.pip_model.specs.Sound.{IsSound}
use Rattle.pip_model.specs.Tree.{Node, Row, config, hidden, node, nodes, row_at, row_pages, vpage}
use Rattle.pip_model.specs.Turn.{fetch_acts, turn}
use Rattle.pip_model.specs.Worlds.{IsSoundWorld, World, lines_in, nothing, runs_on, with_caches}
use Rattle.pip_model.specs.declared.processors.Occupant.{Occupant}
use Rattle.pip_model.proofs.Events.Soundness.{event-sound}
use Rattle.pip_model.proofs.Locality.Leaves.{LeavesTree}
use Rattle.pip_model.proofs.Locality.OneEvent.{own_name, to_trees}
use Rattle.pip_model.proofs.Trees.Ancestors.{same_name}
use Rattle.pip_model.proofs.Trees.Ancestry.{node_on, root_is_one}
use Rattle.pip_model.proofs.Trees.Free.{IsName, tests_agree}
use Rattle.pip_guests.specs.Guests.{IsSameGuest, PollsInVain}
use Rattle.pip_guests.specs.Programs.{AllStayInside, IsInsideTurn, Slot}
use Rattle.pip_guests.proofs.Lines.{node_alike, not_top, own_line, top_alone}
use Rattle.pip_guests.proofs.Elsewhere.{same_world}
use Rattle.pip_guests.proofs.Together.{step_leaves, step_name}
use Rattle.pip_guests.proofs.Turns.{after_turn, list_same, turn_sound}
use Rattle.pip_guests.proofs.Words.{fetch_are}
use Rattle.pip_apart.specs.Company.{AreGuests, GuestsHoldAmongLines, HasNone, LinesAreShownAlone, TakesNoLine}
use Rattle.pip_apart.proofs.Root.{KeepsRoot, handler_same, hidden_on, loads_same}
use Rattle.pip_apart.proofs.Running.{AreRaised, guests_hold, shown_alone}

-- ---- polls

-- no line is chosen
none_chosen : (w : World) (js : List ℕ) → ((j : ℕ) → j < 16 → handler w.tree w.tree.root.name (32 + j) ≡ None)
    → AllByRecursion (λ j. j < 16) js → lowest_line w js ≡ None
none_chosen w [] h all = refl
none_chosen w (j ∷ js) h all =
    ap (λ o. cond (is_some o) (Some j) (lowest_line w js)) (h j all.0) ∙ none_chosen w js h all.1

-- no line is taken
pub no_line_taken : (w : World) (ps : List ℕ) (cpu : ℕ) → TakesNoLine w ps
    → event w (E.Poll cpu) ≡ with_caches w.caches (none_taken w (runs_on w cpu))
no_line_taken w ps cpu k = ap (with_caches w.caches) (go (may_take w cpu (runs_on w cpu)))
  where
    go : (b : Bool) → cond b (poll_line w cpu (runs_on w cpu) (lowest_line w w.tree.root.pending))
        (none_taken w (runs_on w cpu)) ≡ none_taken w (runs_on w cpu)
    go true = ap (poll_line w cpu (runs_on w cpu))
        (none_chosen w w.tree.root.pending (λ j l. (k.handlers j l).none) k.pending)
    go false = refl

-- ---- a tree in which the root has the same handlers

-- such a change, as far as guests ps are concerned: their rows are the same, and the root's pages that are in none of
-- these are
record Keeps (ps : List ℕ) (Out : ℕ → Type 0) (w v : World) : Type 0 where
  root : KeepsRoot Out w.tree v.tree
  out : (g : ℕ) → ((p : ℕ) → In p ps → In g (row_pages (node w.tree p)) → ⊥) → Out g
  rows : (p : ℕ) → In p ps → row_pages (node v.tree p) ≡ row_pages (node w.tree p)

none_on : (w v : World) (ps : List ℕ) (Out : ℕ → Type 0) (j : ℕ) → IsSound w.tree → IsSound v.tree
    → Keeps ps Out w v → HasNone w ps j → HasNone v ps j
none_on w v ps Out j s r k h =
    let entry : (b : Row) → row_at w.tree.root.rows (vpage (0xfffff000 + 4 * j)) ≡ Some b → Out b.frame =
    λ b e. k.out b.frame (h.entry b e) in
    let l = loads_same Out w.tree v.tree k.root s r (0xfffff000 + 4 * j) entry in
    record {
      none = handler_same Out w.tree v.tree k.root s r j entry (λ a e b f. k.out b.frame (h.block a e b f)) ∙ h.none;
      entry = λ b e p i m. h.entry b (subst (λ rs. row_at rs (vpage (0xfffff000 + 4 * j)) ≡ Some b) k.root.rows e) p i
          (subst (In b.frame) (k.rows p i) m);
      block = λ a e b f p i m. h.block a (sym l.word ∙ e) b
          (subst (λ rs. row_at rs (vpage a) ≡ Some b) k.root.rows f) p i (subst (In b.frame) (k.rows p i) m);
    }

lines_on : (w v : World) (ps : List ℕ) (Out : ℕ → Type 0) → IsSound w.tree → IsSound v.tree → Keeps ps Out w v
    → AllByRecursion (λ j. j < 16) v.tree.root.pending → TakesNoLine w ps → TakesNoLine v ps
lines_on w v ps Out s r k all t =
    record { handlers = λ j l. none_on w v ps Out (32 + j) s r k (t.handlers j l); pending = all }

-- ---- a turn of a guest

-- the guest q changes nothing of the root but its pages that are in q's rows
record QKeeps (q : ℕ) (w v : World) : Type 0 where
  root : KeepsRoot (λ g. In g (row_pages (node w.tree q)) → ⊥) w.tree v.tree
  rows : row_pages (node v.tree q) ≡ row_pages (node w.tree q)

event_keeps : (w : World) (q : ℕ) (e : Event) → IsSoundWorld w → IsEvent e → IsName w.tree q → q ≢ w.tree.root.name
    → AllStayInside q w (e ∷ []) → QKeeps q w (event w e).world
event_keeps w q e s ev n m i = record {
  root = record { rows = ap (λ x. x.rows) same; words = l.words; hides = λ g j h. hides g h };
  rows = sym (ap row_pages l.own);
}
  where
    v : World
    v = (event w e).world

    r : IsSoundWorld v
    r = event-sound w e s ev

    l : LeavesTree q w.tree v.tree
    l = step_leaves w q e s ev m (inl i.0)

    same : v.tree.root ≡ w.tree.root
    same =
        let o = (l.outside w.tree.root).0 (inl refl, (λ h. m (top_alone w.tree s.tree q h))) in
        same_name v.tree v.tree.root w.tree.root r.tree (inl refl) o.0
        (root_is_one v.tree r.tree ∙ sym (root_is_one w.tree s.tree))

    hides : (g : ℕ) → (In g (row_pages (node w.tree q)) → ⊥) → hidden v.tree g ≡ hidden w.tree g
    hides g h =
        let n' = own_name q w.tree v.tree l n in
        tests_agree (hidden v.tree g) (hidden w.tree g)
        (hidden_on v.tree w.tree q r.tree s.tree n' n (ap config l.own) (λ x j o. ((l.outside x).1 (j, o)).0) g
        (λ k. h (subst (In g) (sym (ap row_pages l.own)) k)))
        (hidden_on w.tree v.tree q s.tree r.tree n n' (sym (ap config l.own)) (λ x j o. ((l.outside x).0 (j, o)).0) g h)

list_keeps : (q : ℕ) (es : List Event) (w : World) → IsSoundWorld w → IsName w.tree q → q ≢ w.tree.root.name
    → AllByRecursion IsEvent es → AllStayInside q w es → QKeeps q w (after w es)
list_keeps q [] w s n m all i =
    record { root = record { rows = refl; words = λ g h. refl; hides = λ g j h. refl }; rows = refl }
list_keeps q (e ∷ es) w s n m all i =
    let v = (event w e).world in
    let r = event-sound w e s all.0 in
    let a = event_keeps w q e s all.0 n m (i.0, tt) in
    let b = list_keeps q es v r (step_name w q e s all.0 m (inl i.0) n) (not_top w.tree v.tree s.tree r.tree q m) all.1
    i.1 in
    let off = λ (g : ℕ) (h : In g (row_pages (node w.tree q)) → ⊥) (k : In g (row_pages (node v.tree q))).
    h (subst (In g) a.rows k) in
    record {
      root = record {
        rows = b.root.rows ∙ a.root.rows;
        words = λ g h. b.root.words g (off g h) ∙ a.root.words g h;
        hides = λ g j h. b.root.hides g
            (subst (λ rs. In g (map (λ x. x.frame) rs)) (sym a.root.rows) j) (off g h) ∙ a.root.hides g j h;
      };
      rows = b.rows ∙ a.rows;
    }

turn_keeps : (w : World) (q cpu t : ℕ) → IsSoundWorld w → IsName w.tree q → q ≢ w.tree.root.name → PollsInVain w cpu
    → IsInsideTurn q w cpu t → QKeeps q w (after_acts w (turn w cpu t))
turn_keeps w q cpu t s n m vain i = subst (QKeeps q w) (sym (after_turn w cpu t vain))
    (list_keeps q (events_made (fetch_acts w t cpu)) w s n m (fetch_are w cpu t s) i.inside)

turn_pending : (w : World) (q cpu t : ℕ) → IsSoundWorld w → q ≢ w.tree.root.name → PollsInVain w cpu
    → IsInsideTurn q w cpu t → (after_acts w (turn w cpu t)).tree.root.pending ≡ w.tree.root.pending
turn_pending w q cpu t s m vain i =
    let l = list_same q (events_made (fetch_acts w t cpu)) w w s s m (same_world q w) (fetch_are w cpu t s) i.inside in
    ap (λ x. x.tree.root.pending) (after_turn w cpu t vain) ∙ ap (λ x. x.pending) l.root

-- ---- a line that is raised

module _ (w : World) (j : ℕ) (s : IsSoundWorld w) where
  lines : List ℕ
  lines = lines_with j w.tree.root.pending

  config_kept : (n g : ℕ) (js : List ℕ) (xs : List Node) → list_any (λ x. has (config x) g) (map (lines_in n js) xs)
      ≡ list_any (λ x. has (config x) g) xs
  config_kept n g js [] = refl
  config_kept n g js (x ∷ xs) = ap (λ b. has (config x) g || b) (config_kept n g js xs)

  raise_keeps : KeepsRoot (λ g. Unit {0}) w.tree (event w (E.Raise j)).world.tree
  raise_keeps = record {
    rows = refl;
    words = λ g h. refl;
    hides = λ g i h. config_kept w.tree.root.name g (lines_with j w.tree.root.pending) (nodes w.tree);
  }

  raise_rows : (p : ℕ) → row_pages (node (event w (E.Raise j)).world.tree p) ≡ row_pages (node w.tree p)
  raise_rows p = ap row_pages
      (node_on (lines_in w.tree.root.name (lines_with j w.tree.root.pending)) (λ x. refl) w.tree p)

  raise_pending : (event w (E.Raise j)).world.tree.root.pending ≡ lines_with j w.tree.root.pending
  raise_pending = ap (λ b. cond b (lines_with j w.tree.root.pending) w.tree.root.pending)
      (eq-eqb w.tree.root.name w.tree.root.name refl)

below_16 : (j : ℕ) (js : List ℕ) → j < 16 → AllByRecursion (λ i. i < 16) js
    → AllByRecursion (λ i. i < 16) (lines_with j js)
below_16 j [] h all = (h, tt)
below_16 j (i ∷ is) h all = go (nat_lt j i) (j == i) (below_16 j is h all.1)
  where
    go : (a b : Bool) → AllByRecursion (λ i. i < 16) (lines_with j is)
        → AllByRecursion (λ i. i < 16) (cond a (j ∷ i ∷ is) (cond b (i ∷ is) (i ∷ lines_with j is)))
    go true b more = (h, (all.0, all.1))
    go false true more = (all.0, all.1)
    go false false more = (all.0, more)

-- ---- where one guest is alone

pub in_vain : (qs : List ℕ) (w : World) (cpu : ℕ) (r : Occupant) → TakesNoLine w qs → runs_on w cpu ≡ Some r
    → PollsInVain w cpu
in_vain qs w cpu r k e = no_line_taken w qs cpu k ∙ ap (λ o. with_caches w.caches (none_taken w o)) e

pub alone_later : (w : World) (q cpu t : ℕ) → IsSoundWorld w → IsName w.tree q → q ≢ w.tree.root.name
    → TakesNoLine w (q ∷ [])
    → PollsInVain w cpu → IsInsideTurn q w cpu t → TakesNoLine (after_acts w (turn w cpu t)) (q ∷ [])
alone_later w q cpu t s n m k v i =
    let a = turn_keeps w q cpu t s n m v i in
    lines_on w (after_acts w (turn w cpu t)) (q ∷ []) (λ g. In g (row_pages (node w.tree q)) → ⊥) s.tree
    (turn_sound w q cpu t s v i).tree
    (record {
      root = a.root;
      out = λ g h. h q (inl refl);
      rows = λ p z. elim z [
        | inl e ↦ subst (λ n. row_pages (node (after_acts w (turn w cpu t)).tree n) ≡ row_pages (node w.tree n))
            (sym e) a.rows
        | inr x ↦ absurd x
      ];
    })
    (subst (AllByRecursion (λ j. j < 16)) (sym (turn_pending w q cpu t s m v i)) k.pending) k

-- a guest alone has no more than all together
pub of_one : (w : World) (ps : List ℕ) → TakesNoLine w ps → (p : ℕ) → In p ps → TakesNoLine w (p ∷ [])
of_one w ps k p i = record {
  handlers = λ j l. let h = k.handlers j l in
      record {
        none = h.none;
        entry = λ b e q z. elim z [
          | inl d ↦ subst (λ n. In b.frame (row_pages (node w.tree n)) → ⊥) (sym d) (h.entry b e p i)
          | inr x ↦ absurd x
        ];
        block = λ a f b e q z. elim z [
          | inl d ↦ subst (λ n. In b.frame (row_pages (node w.tree n)) → ⊥) (sym d) (h.block a f b e p i)
          | inr x ↦ absurd x
        ];
      };
  pending = k.pending;
}

-- ---- the law

module _ (w0 : World) (ps : List ℕ) (g : AreGuests w0 ps) (plans : List Plan) where
  abbrev Alone_in : ℕ → World → Type 0
  Alone_in q w = TakesNoLine w (q ∷ [])

  abbrev In_company : World → Type 0
  In_company w = TakesNoLine w ps

  abbrev May : ℕ → Type 0
  May j = j < 16

  vain_alone : (w : World) (q cpu : ℕ) (r : Occupant) → IsSoundWorld w → Alone_in q w → runs_on w cpu ≡ Some r
      → PollsInVain w cpu
  vain_alone w q cpu r s k e = in_vain (q ∷ []) w cpu r k e

  later_alone : (w : World) (q cpu t : ℕ) → IsSoundWorld w → IsName w.tree q → q ≢ w.tree.root.name → Alone_in q w
      → PollsInVain w cpu → IsInsideTurn q w cpu t → Alone_in q (after_acts w (turn w cpu t))
  later_alone w q cpu t s n m k v i = alone_later w q cpu t s n m k v i

  vain : (w : World) (cpu : ℕ) (r : Occupant) → IsSoundWorld w → In_company w → runs_on w cpu ≡ Some r
      → PollsInVain w cpu
  vain w cpu r s k e = in_vain ps w cpu r k e

  later : (w : World) (q cpu t : ℕ) → In q ps → IsSoundWorld w → IsName w.tree q → q ≢ w.tree.root.name
      → In_company w → PollsInVain w cpu → IsInsideTurn q w cpu t → IsSoundWorld (after_acts w (turn w cpu t))
      → ((p : ℕ) → In p ps → p ≢ q → IsName w.tree p × IsSameGuest p w (after_acts w (turn w cpu t)))
      → In_company (after_acts w (turn w cpu t))
  later w q cpu t j s n m k v i r h =
      let a = turn_keeps w q cpu t s n m v i in
      let u = after_acts w (turn w cpu t) in
      lines_on w u ps (λ g. In g (row_pages (node w.tree q)) → ⊥) s.tree r.tree
      (record {
        root = a.root;
        out = λ g h. h q j;
        rows = λ p z. elim (eqb_tells p q) [
          | inl e ↦ subst (λ n. row_pages (node u.tree n) ≡ row_pages (node w.tree n)) (sym e.1) a.rows
          | inr e ↦ let (x, y) = h p z e.1 in
              sym (ap row_pages (node_alike w.tree u.tree p s.tree r.tree (to_trees p w u y.below) p
              (own_line w.tree s.tree p x)))
        ];
      })
      (subst (AllByRecursion (λ j. j < 16)) (sym (turn_pending w q cpu t s m v i)) k.pending) k

  idle : (w : World) (cpu : ℕ) → IsSoundWorld w → In_company w → runs_on w cpu ≡ None
      → event w (E.Poll cpu) ≡ nothing w
  idle w cpu s k e = no_line_taken w ps cpu k ∙ ap (λ o. with_caches w.caches (none_taken w o)) e

  raised : (w : World) (j : ℕ) → IsSoundWorld w → In_company w → May j → In_company (event w (E.Raise j)).world
  raised w j s k l = lines_on w (event w (E.Raise j)).world ps (λ g. Unit {0}) s.tree (event-sound w (E.Raise j) s
      l).tree
      (record { root = raise_keeps w j s; out = λ g h. tt; rows = λ p i. raise_rows w j s p })
      (subst (AllByRecursion (λ i. i < 16)) (sym (raise_pending w j s)) (below_16 j w.tree.root.pending l k.pending)) k

  abbrev Lines_raised : List Plan → ℕ → Type 0
  Lines_raised xs t = AreRaised w0 ps g Alone_in In_company May vain_alone later_alone vain later idle (λ j l. l) raised
      plans xs t

  lines_raised : (xs : List Plan) (t : ℕ) → AllByRecursion (λ x. x.line < 16) xs → Lines_raised xs t
  lines_raised [] t all = tt
  lines_raised (x ∷ xs) t all = ((λ h. all.0), lines_raised xs t all.1)

  all_lines : (ss : List Slot) → AllByRecursion (λ x. x.line < 16) plans
      → AllByRecursion (λ s. Lines_raised plans s.step) ss
  all_lines [] all = tt
  all_lines (s ∷ ss) all = (lines_raised plans s.step all, all_lines ss all)

pub guests_hold_among_lines : GuestsHoldAmongLines
guests_hold_among_lines plans w ps ss g k all os p i =
    guests_hold w ps g (Alone_in w ps g plans) (In_company w ps g plans) (May w ps g plans) (vain_alone w ps g plans)
    (later_alone w ps g plans) (vain w ps g plans) (later w ps g plans) (idle w ps g plans) (λ j l. l)
    (raised w ps g plans) plans ss k (of_one w ps k) (all_lines w ps g plans ss all) os p i

pub lines_are_shown_alone : LinesAreShownAlone
lines_are_shown_alone plans w ps ss s g k all os some =
    shown_alone w ps g (Alone_in w ps g plans) (In_company w ps g plans) (May w ps g plans) (vain_alone w ps g plans)
    (later_alone w ps g plans) (vain w ps g plans) (later w ps g plans) (idle w ps g plans) (λ j l. l)
    (raised w ps g plans) plans ss s k (of_one w ps k) (all_lines w ps g plans (s ∷ ss) all) os some
