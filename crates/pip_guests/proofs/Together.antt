-- Over lists: what a guest learns depends on nothing that others do, and two guests side by side run as alone.
use Rattle.std.proofs.Common.{◌≡◌, ◌≢◌, ℕ, ◌⊎◌, ◌&&◌, inl, inr, Bool, true, false, cond, List, [], ◌∷◌, refl, sym, ap}
use Rattle.std.proofs.Common.{ap₂, ◌∙◌, subst, Some, None}
use Rattle.std.specs.List.{AllByRecursion}
use Rattle.std.proofs.lemmas.Bool.{false_from_ne_true}
use Rattle.pip_base.specs.declared.outcome.Outcome.{Outcome}
use Rattle.pip_base.specs.declared.outcome.Outcome.TheVariants as O
use Rattle.pip_model.specs.Events.{Event, IsEvent}
use Rattle.pip_model.specs.Events as E
use Rattle.pip_model.specs.Happens.{after, event}
use Rattle.pip_model.specs.Lists.{In}
use Rattle.pip_model.specs.Local.{IsAside, actor, cpu_of}
use Rattle.pip_model.specs.Tree.{Tree, ancestry, node, nodes}
use Rattle.pip_model.specs.Worlds.{IsSoundWorld, World, runs_on}
use Rattle.pip_model.proofs.OnLists.Members.{has_in, in_has}
use Rattle.pip_model.proofs.Events.Soundness.{event-sound}
use Rattle.pip_model.proofs.Locality.Leaves.{LeavesTree}
use Rattle.pip_model.proofs.Locality.OneEvent.{own_name}
use Rattle.pip_model.proofs.Trees.Ancestors.{name_in}
use Rattle.pip_model.proofs.Trees.Free.{IsName, node_found}
use Rattle.pip_guests.specs.Guests.{AllStayOrLeave, Among, AreOwnOrApart, GuestsDependOnThemselves}
use Rattle.pip_guests.specs.Guests.{GuestsLeaveOthersAlone, GuestsRunAsAlone, IsElsewhere, IsSameGuest, Leaves}
use Rattle.pip_guests.specs.Guests.{OthersDoNotMatterToGuests, StaysBelow, StaysOrLeaves, is_of_guest, is_own}
use Rattle.pip_guests.specs.Guests.{guest_learns, learns, learns_all, learns_own, left, none, only_guest, right}
use Rattle.pip_guests.proofs.Lines.{leaves_up, line_name, line_trans, lines_meet, not_top, own_line, root_line}
use Rattle.pip_guests.proofs.Lines.{top_alone}
use Rattle.pip_guests.proofs.Moves.{event_moves}
use Rattle.pip_guests.proofs.Inside.{actor_runs, inside_same}
use Rattle.pip_guests.proofs.Elsewhere.{elsewhere_kept, elsewhere_others, guests_leave, name_kept, same_sym, same_trans}
use Rattle.pip_guests.proofs.Elsewhere.{same_world}
use Rattle.pip_guests.proofs.Leaving.{guests_are_left_alike, own_fault}

pub guests_leave_others_alone : GuestsLeaveOthersAlone
guests_leave_others_alone w p e s ev m o b = guests_leave w p e s ev m o b

pub guests_depend_on_themselves : GuestsDependOnThemselves
guests_depend_on_themselves w v p e s s' ev m g i = inside_same w v p e s s' ev m g i

-- ---- one event that stays inside or leaves

-- it is one of the guest's
pub guest_own : (w : World) (p : ℕ) (e : Event) → StaysOrLeaves p w e → is_own e ≡ true
guest_own w p e (inl i) = i.own
guest_own w p e (inr l) = own_fault e l.faults

pub guest_below : (w : World) (p : ℕ) (e : Event) → StaysOrLeaves p w e → In p (ancestry w.tree (actor w e))
guest_below w p e (inl i) = i.below
guest_below w p e (inr l) = l.below

pub guest_of : (w : World) (p : ℕ) (e : Event) → StaysOrLeaves p w e → is_of_guest p w e ≡ true
guest_of w p e i = ap₂ (λ a b. a && b) (guest_own w p e i) (in_has p _ (guest_below w p e i))

-- all is learned of an outcome after which control is inside, and nothing where it left
learned_inside : (t : Tree) (p : ℕ) (o : Outcome) → StaysBelow t p o → guest_learns t p o ≡ Some o
learned_inside t p (O.Word x) h = refl
learned_inside t p O.Done h = refl
learned_inside t p (O.Reply s x) h = refl
learned_inside t p (O.Switched from to k) h = rw (in_has p _ h)
learned_inside t p (O.Parked from k) h = absurd h
learned_inside t p O.Idle h = absurd h

learned_left : (t : Tree) (p : ℕ) (o : Outcome) → Leaves t p o → guest_learns t p o ≡ None
learned_left t p (O.Word x) h = absurd h
learned_left t p O.Done h = absurd h
learned_left t p (O.Reply s x) h = absurd h
learned_left t p (O.Switched from to k) h =
    rw (false_from_ne_true _ (λ z. h (has_in p _ z)))
learned_left t p (O.Parked from k) h = refl
learned_left t p O.Idle h = absurd h

-- in two worlds in which the guest is the same: the guest learns the same, and is the same again
pub record SameStep (p : ℕ) (e : Event) (w v : World) : Type 0 where
  pub there : StaysOrLeaves p v e
  pub answer : learns p w e ≡ learns p v e
  pub guest : IsSameGuest p (event w e).world (event v e).world

pub step_same : (w v : World) (p : ℕ) (e : Event) → IsSoundWorld w → IsSoundWorld v → IsEvent e → p ≢ w.tree.root.name
    → IsSameGuest p w v → StaysOrLeaves p w e → SameStep p e w v
step_same w v p e s s' ev m g (inl i) =
    let z = inside_same w v p e s s' ev m g i in
    record {
      there = inl z.inside;
      answer = learned_inside w.tree p (event w e).outcome i.stays ∙ ap Some z.outcome
          ∙ sym (learned_inside v.tree p (event v e).outcome z.inside.stays);
      guest = z.guest;
    }
step_same w v p e s s' ev m g (inr l) =
    let z = guests_are_left_alike w v p e s s' ev m g l in
    record {
      there = inr z.leaving;
      answer = learned_left w.tree p (event w e).outcome l.leaves
          ∙ sym (learned_left v.tree p (event v e).outcome z.leaving.leaves);
      guest = z.guest;
    }

-- what such an event leaves of the tree, and that p is there after
module _ (w : World) (p : ℕ) (e : Event) (s : IsSoundWorld w) (ev : IsEvent e)
    (m : p ≢ w.tree.root.name) (i : StaysOrLeaves p w e) where
  pub step_leaves : LeavesTree p w.tree (event w e).world.tree
  step_leaves =
      let b = guest_below w p e i in
      let (r, k, q) = actor_runs w p e s b in
      let h : In p (ancestry w.tree r.name) = rw (← q) b in
      let d : r.name ≢ w.tree.root.name =
      λ z. m (top_alone w.tree s.tree p (rw z at h)) in
      leaves_up p r.name w.tree (event w e).world.tree s.tree (event-sound w e s ev).tree h
      (event_moves w e r s (guest_own w p e i) k d).leaves

  pub step_name : IsName w.tree p → IsName (event w e).world.tree p
  step_name n = own_name p w.tree (event w e).world.tree step_leaves n

-- ---- others left out

record Runs (p : ℕ) (w v : World) (es : List Event) : Type 0 where
  answers : learns_own p w es ≡ learns_all p v (only_guest p w es)
  guest : IsSameGuest p (after w es) (after v (only_guest p w es))

-- with or without a first event
record Step (p : ℕ) (e : Event) (es : List Event) (w v : World) (b : Bool) : Type 0 where
  answers : cond b (learns p w e ∷ learns_own p (event w e).world es) (learns_own p (event w e).world es)
      ≡ learns_all p v (cond b (e ∷ only_guest p (event w e).world es) (only_guest p (event w e).world es))
  guest : IsSameGuest p (after (event w e).world es)
      (after v (cond b (e ∷ only_guest p (event w e).world es) (only_guest p (event w e).world es)))

on : (p : ℕ) (e : Event) (es : List Event) (w v : World) (b : Bool) → is_of_guest p w e ≡ b → Step p e es w v b
    → Runs p w v (e ∷ es)
on p e es w v b q h = let k = subst (Step p e es w v) (sym q) h in assumption

runs : (p : ℕ) (es : List Event) (w v : World) → IsSoundWorld w → IsSoundWorld v → IsName w.tree p
    → p ≢ w.tree.root.name → IsSameGuest p w v → AllByRecursion IsEvent es → AreOwnOrApart p w es → Runs p w v es
runs p [] w v s s' n m g all fit = record { answers = refl; guest = g }
runs p (e ∷ es) w v s s' n m g all fit = elim fit.0 [
  | inl i ↦
      let z = step_same w v p e s s' all.0 m g i in
      let sw = event-sound w e s all.0 in
      let sv = event-sound v e s' all.0 in
      let h = runs p es (event w e).world (event v e).world sw sv (step_name w p e s all.0 m i n)
      (not_top w.tree (event w e).world.tree s.tree sw.tree p m) z.guest all.1 fit.1 in
      on p e es w v true (guest_of w p e i)
      (record { answers = ap₂ (λ x l. x ∷ l) z.answer h.answers; guest = h.guest })
  | inr i ↦
      let sw = event-sound w e s all.0 in
      let n' = name_kept w (event w e).world p s sw n i.same in
      let back = same_trans p (event w e).world w v sw s s' n' (same_sym p w (event w e).world s sw n i.same) g in
      let h = runs p es (event w e).world v sw s' n' (not_top w.tree (event w e).world.tree s.tree sw.tree p m) back
      all.1 fit.1 in
      on p e es w v false i.others (assumption)
]

pub others_do_not_matter_to_guests : OthersDoNotMatterToGuests
others_do_not_matter_to_guests w p es s n m all fit =
    let h = runs p es w w s s n m (same_world p w) all fit in
    (h.answers, h.guest)

-- ---- two guests side by side

-- what an event of a guest is to another
pub guest_elsewhere : (w : World) (p q : ℕ) (e : Event) → IsSoundWorld w → IsAside w.tree p q → is_own e ≡ true
    → In p (ancestry w.tree (actor w e)) → IsElsewhere q w e
guest_elsewhere w p q e s a own below = go e own (inr (record { there = there; not_below = nb; not_above = na }))
  where
    there : IsName w.tree (actor w e)
    there = line_name w.tree (actor w e) p below

    nb : In q (ancestry w.tree (actor w e)) → ⊥
    nb h = elim (lines_meet w.tree s.tree p q (actor w e) below h) [ inl c ↦ a.not_below c | inr c ↦ a.not_above c ]

    na : In (actor w e) (ancestry w.tree q) → ⊥
    na h = a.not_below (line_trans w.tree s.tree p (actor w e) q below h)

    go : (e : Event) → is_own e ≡ true → (runs_on w (cpu_of e) ≡ None) ⊎ IsAside w.tree q (actor w e)
        → IsElsewhere q w e
    go (E.Load cpu va z) o h = h
    go (E.Store cpu va z x) o h = h
    go (E.Fetch cpu) o h = h
    go (E.Trap cpu x b c) o h = h
    go (E.Call cpu number b) o h = h
    go (E.Raise j) o h = cc
    go (E.Poll cpu) o h = cc
    go (E.SetContext cpu c) o h = h

-- a guest that is the same is there
pub name_there : (q : ℕ) (v w : World) → IsSoundWorld v → IsSoundWorld w → IsName w.tree q → IsSameGuest q v w
    → IsName v.tree q
name_there q v w s r n g =
    let f = node_found w.tree q n in
    let b = (g.below.nodes (node w.tree q)).1
    (f.0, rw f.1 (own_line w.tree r.tree q n)) in
    subst (IsName v.tree) f.1 (name_in (node w.tree q) (nodes v.tree) b.0)

-- two guests in a world w, the first the same as in a world u of its own, the second as in v
pub record Both (p q : ℕ) (w u v : World) : Type 0 where
  pub sound : IsSoundWorld w
  pub left_sound : IsSoundWorld u
  pub right_sound : IsSoundWorld v
  pub name : IsName w.tree p
  pub aside : IsAside w.tree p q
  pub left_guest : IsSameGuest p u w
  pub right_guest : IsSameGuest q v w

-- two guests in a world, the second first
pub turned : (p q : ℕ) (w u v : World) → Both p q w u v → Both q p w v u
turned p q w u v b = record {
  sound = b.sound;
  left_sound = b.right_sound;
  right_sound = b.left_sound;
  name = b.aside.there;
  aside = record { there = b.name; not_below = b.aside.not_above; not_above = b.aside.not_below };
  left_guest = b.right_guest;
  right_guest = b.left_guest;
}

-- neither of the two is the root
pub no_root : (p q : ℕ) (w u v : World) → Both p q w u v → p ≢ w.tree.root.name
no_root p q w u v b e =
    b.aside.not_below (rw e (root_line w.tree b.sound.tree q b.aside.there))

pub record Next (p q : ℕ) (e : Event) (w u v : World) : Type 0 where
  pub own : is_of_guest p w e ≡ true
  pub others : is_of_guest q w e ≡ false
  pub answer : learns p w e ≡ learns p u e
  pub both : Both p q (event w e).world (event u e).world v

-- an event of the first
pub next : (p q : ℕ) (e : Event) (w u v : World) → Both p q w u v → IsEvent e → StaysOrLeaves p u e → Next p q e w u v
next p q e w u v b ev i =
    let m = no_root p q w u v b in
    let mq = no_root q p w v u (turned p q w u v b) in
    let mu = not_top w.tree u.tree b.sound.tree b.left_sound.tree p m in
    let z = step_same u w p e b.left_sound b.sound ev mu b.left_guest i in
    let sw = event-sound w e b.sound ev in
    let su = event-sound u e b.left_sound ev in
    let f = guest_elsewhere w p q e b.sound b.aside (guest_own w p e z.there) (guest_below w p e z.there) in
    let k = elsewhere_kept w q e b.sound ev b.aside.there mq f in
    let l = step_leaves w p e b.sound ev m z.there in
    let n' = own_name p w.tree (event w e).world.tree l b.name in
    let nv = name_there q v w b.right_sound b.sound b.aside.there b.right_guest in
    record {
      own = guest_of w p e z.there;
      others = elsewhere_others w q e b.sound f;
      answer = sym z.answer;
      both = record {
        sound = sw;
        left_sound = su;
        right_sound = b.right_sound;
        name = n';
        aside = record {
          there = k.name;
          not_below = λ h. b.aside.not_below ((l.lines q p b.aside.there k.name).1 h);
          not_above = λ h. b.aside.not_above ((l.lines p q b.name n').1 h);
        };
        left_guest = z.guest;
        right_guest = same_trans q v w (event w e).world b.right_sound b.sound sw nv b.right_guest k.guest;
      };
    }

record Alone (p : ℕ) (w u : World) (es xs : List Event) : Type 0 where
  answers : learns_own p w es ≡ learns_all p u xs
  guest : IsSameGuest p (after w es) (after u xs)

-- an event of the guest, and one of others
on_own : (p : ℕ) (e : Event) (es xs : List Event) (w u : World) → is_of_guest p w e ≡ true → learns p w e ≡ learns p u e
    → Alone p (event w e).world (event u e).world es xs → Alone p w u (e ∷ es) (e ∷ xs)
on_own p e es xs w u own out h = record {
  answers = rw (own, ap₂ (λ x l. x ∷ l) out h.answers);
  guest = h.guest;
}

on_other : (p : ℕ) (e : Event) (es xs : List Event) (w u : World) → is_of_guest p w e ≡ false
    → Alone p (event w e).world u es xs → Alone p w u (e ∷ es) xs
on_other p e es xs w u others h = record {
  answers = rw (others, h.answers);
  guest = h.guest;
}

together : (p q : ℕ) (es xs ys : List Event) → Among es xs ys → (w u v : World) → Both p q w u v
    → AllByRecursion IsEvent es → AllStayOrLeave p u xs → AllStayOrLeave q v ys → Alone p w u es xs × Alone q w v es ys
together p q _ _ _ none w u v b all i j = (
  record {
    answers = refl;
    guest =
        same_sym p u w b.left_sound b.sound (name_there p u w b.left_sound b.sound b.name b.left_guest) b.left_guest;
  },
  record {
    answers = refl;
    guest = same_sym q v w b.right_sound b.sound
        (name_there q v w b.right_sound b.sound b.aside.there b.right_guest) b.right_guest;
  },
)
together p q _ _ _ (left {es = es} {xs = xs} {ys = ys} e a) w u v b all i j =
    let z = next p q e w u v b all.0 i.0 in
    let (h, k) = together p q es xs ys a (event w e).world (event u e).world v z.both all.1 i.1 j in
    (on_own p e es xs w u z.own z.answer h, on_other q e es ys w v z.others k)
together p q _ _ _ (right {es = es} {xs = xs} {ys = ys} e a) w u v b all i j =
    let z = next q p e w v u (turned p q w u v b) all.0 j.0 in
    let (h, k) = together p q es xs ys a (event w e).world u (event v e).world
    (turned q p (event w e).world (event v e).world u z.both) all.1 i j.1 in
    (on_other p e es xs w u z.others h, on_own q e es ys w v z.own z.answer k)

pub guests_run_as_alone : GuestsRunAsAlone
guests_run_as_alone w p q es xs ys s n a all am i j =
    let b : Both p q w w w = record {
      sound = s;
      left_sound = s;
      right_sound = s;
      name = n;
      aside = a;
      left_guest = same_world p w;
      right_guest = same_world q w;
    } in
    let (h, k) = together p q es xs ys am w w w b all i j in
    (assumption, assumption)
