-- Over lists: what happens below p depends on nothing that others do.
use Rattle.std.proofs.Common.{◌≡◌, ◌≢◌, ℕ, ◌≤◌, ◌↔◌, ◌⊎◌, inl, inr, true, false, cond, List, [], ◌∷◌, refl, sym, ap}
use Rattle.std.proofs.Common.{ap₂, ◌∙◌, subst, arith, Option, Some, None}
use Rattle.std.specs.List.{AllByRecursion}
use Rattle.std.proofs.lemmas.Bool.{cases_Bool, cases_eq, false_from_ne_true}
use Rattle.pip_base.specs.declared.types.Access.TheVariants.{Load, Store, Fetch}
use Rattle.pip_base.specs.declared.types.Size.TheVariants.{Word}
use Rattle.pip_model.specs.Ancestors.{Above}
use Rattle.pip_model.specs.Events.{Event, IsEvent}
use Rattle.pip_model.specs.Happens.{access_number, what_happens, after, outcomes, call_named, event, fault_number}
use Rattle.pip_model.specs.Happens.{fault_vector, load_happens, on_running, wrote}
use Rattle.pip_model.specs.Lists.{In, has}
use Rattle.pip_model.specs.Local.{AgreeBelow, AreFit, Succeeded, IsBelow, IsPlain, IsPlainOrSet, IsUntouched, actor}
use Rattle.pip_model.specs.Local.{outcomes_below, by_below, cpu_of, only_below}
use Rattle.pip_model.specs.Poll.{occupant_name}
use Rattle.pip_model.specs.Reach.{Faulted, Place, Reached, reach}
use Rattle.pip_model.specs.Sound.{IsSound}
use Rattle.pip_model.specs.Tree.{Node, Tree, ancestry, config, names_of, node, nodes, row_pages, word_of}
use Rattle.pip_model.specs.Worlds.{IsSoundWorld, World, done, with_running, running, runs_on}
use Rattle.pip_model.specs.declared.processors.Occupant.{Occupant}
use Rattle.pip_model.specs.Events as E
use Rattle.pip_model.proofs.OnLists.Members.{In-append_right, has_in, in_has}
use Rattle.pip_model.proofs.Trees.Ancestors.{name_in, holders-related}
use Rattle.pip_model.proofs.Trees.Free.{IsName, node_found}
use Rattle.pip_model.proofs.Trees.Numbers.{name_positive}
use Rattle.pip_model.proofs.Events.Soundness.{event-sound, runs_named}
use Rattle.pip_base.specs.declared.types.Size.{Size}
use Rattle.pip_model.proofs.Trees.Ancestry.{own_ancestry, over_ancestry, ancestry_over, ancestry_trans, over_related}
use Rattle.pip_model.proofs.Trees.Ancestry.{named_node, above_trans}
use Rattle.pip_model.proofs.Locality.Agree.{AgreeTrees, agree_down, is_name, node_same, above-acyclic}
use Rattle.pip_model.proofs.Locality.Leaves.{LeavesTree, leaves_same, store-leaves}
use Rattle.pip_model.proofs.Locality.OneEvent.{at_set_here, at_set_other, called_by, event-again, loaded_world}
use Rattle.pip_model.proofs.Locality.OneEvent.{names_set, own_name, reached_row, replied_to, to_trees, to_worlds}
use Rattle.pip_model.proofs.Locality.OneEvent.{deliver-fails}
use Rattle.std.specs.Prelude.{◌+◌, ◌*◌}

-- p and q that are above one node are related
pub meet : (t : Tree) → IsSound t → (p q : ℕ) (x : Node) → In x (nodes t) → In p (ancestry t x.name)
    → In q (ancestry t x.name) → In p (ancestry t q) ⊎ In q (ancestry t p)
meet t s p q x i h k =
    let (y, j, e, o) = ancestry_over t s x i p h in
    let (z, l, f, v) = ancestry_over t s x i q k in
    elim (over_related t s y z x j l i o v) [
      | inl d ↦ inl (rw (← e, d) (subst (λ n. In z.name (ancestry t n)) f (own_ancestry t s z l)))
      | inr (inl a) ↦ inl (rw (← e) (subst (λ n. In y.name (ancestry t n)) f (over_ancestry t s y z j (inr a))))
      | inr (inr a) ↦ inr (rw (← f) (subst (λ n. In z.name (ancestry t n)) e (over_ancestry t s z y l (inr a))))
    ]

-- two in each other's ancestry are one
pub meet_same : (t : Tree) → IsSound t → (p q : ℕ) → IsName t p → IsName t q → In p (ancestry t q) → In q (ancestry t p)
    → p ≡ q
meet_same t s p q n m h k =
    let f = node_found t p n in
    let g = node_found t q m in
    let (y, j, e, o) = ancestry_over t s (node t q) g.0 p (rw g.1 h) in
    let (z, l, d, v) = ancestry_over t s (node t p) f.0 q (rw f.1 k) in
    let y≡ : node t p ≡ y = named_node t p s y j e in
    let z≡ : node t q ≡ z = named_node t q s z l d in
    elim o [
      | inl a ↦ rw (← e, a, g.1)
      | inr a ↦ elim v [
        | inl b ↦ rw (← f.1, ← b, d)
        | inr b ↦ absurd (above-acyclic t s (node t p) f.0 (above_two t (node t p) (node t q)
            (rw z≡ b) (rw y≡ a)))
      ]
    ]
  where
    above_two : (t : Tree) (x y : Node) → Above t y x → Above t x y → Above t x x
    above_two t x y a b = above_trans t x y x b a

module _ (q : ℕ) (t t' : Tree) (s : IsSound t) (s' : IsSound t') (n : IsName t q) (l : LeavesTree q t t') where
  -- whoever is not below q stays
  pub stays_out : (p : ℕ) → IsName t p → (In q (ancestry t p) → ⊥) → node t' p ≡ node t p
  stays_out p i h =
      let f = node_found t p i in
      let o = (l.outside (node t p)).0 (f.0, (λ k. h (rw (← f.1) k))) in
      named_node t' p s' (node t p) o.0 f.1

  out_name : (p : ℕ) → IsName t p → (In q (ancestry t p) → ⊥) → IsName t' p
  out_name p i h =
      let f = node_found t p i in
      let o = (l.outside (node t p)).0 (f.0, (λ k. h (rw (← f.1) k))) in
      subst (IsName t') f.1 (name_in (node t p) (nodes t') o.0)

  rows_over : (p : ℕ) → IsName t p → In p (ancestry t q) → row_pages (node t' p) ≡ row_pages (node t p)
  rows_over p i h = elim (cases_Bool (has (ancestry t p) q)) [
    | inl e ↦ let z = meet_same t s p q i n h (has_in q _ e) in
        subst (λ v. row_pages (node t' v) ≡ row_pages (node t v)) (sym z) (sym (ap row_pages l.own))
    | inr e ↦ rw (stays_out p i (λ k. let j = in_has q _ k in absurd (grind (arith, e, j))))
  ]

  name_over : (p : ℕ) → IsName t p → In p (ancestry t q) → IsName t' p
  name_over p i h = elim (cases_Bool (has (ancestry t p) q)) [
    | inl e ↦ let z = meet_same t s p q i n h (has_in q _ e) in subst (IsName t') (sym z) (own_name q t t' l n)
    | inr e ↦ out_name p i (λ k. let j = in_has q _ k in absurd (grind (arith, e, j)))
  ]

up_to : (p q : ℕ) (t u t' u' : Tree) → IsSound t → IsSound u → IsSound t' → IsSound u' → IsName t q → IsName u q
    → IsName u' q → LeavesTree q t t' → LeavesTree q u u' → In p (ancestry u q)
    → ((x : Node) → IsBelow t p x → IsBelow u p x) → ((x : Node) → IsBelow u q x → IsBelow t q x)
    → ((x : Node) → IsBelow t' q x → IsBelow u' q x) → (x : Node) → IsBelow t' p x → IsBelow u' p x
up_to p q t u t' u' s r s' r' n m m' l k h to back to' x (i, b) = elim (cases_Bool (has (ancestry t' x.name) q)) [
  | inl e ↦
      let c = to' x (i, has_in q _ e) in
      (c.0, ancestry_trans u' r' x c.0 p q c.1 ((k.lines q p m m').0 h))
  | inr e ↦
      let o = (l.outside x).1 (i, (λ j. let z = in_has q _ j in absurd (grind (arith, e, z)))) in
      let c = to x (o.0, (l.lines x.name p (name_in x (nodes t) o.0) (name_in x (nodes t') i)).1 b) in
      let d = (k.outside x).0 (c.0, (λ j. o.1 (back x (c.0, j)).1)) in
      (d.0, (k.lines x.name p (name_in x (nodes u) c.0) (name_in x (nodes u') d.0)).0 c.1)
]

-- an event by q, below p, in both
pub agree_up : (p q : ℕ) (t u t' u' : Tree) → IsSound t → IsSound u → IsSound t' → IsSound u' → IsName t p → IsName t q
    → In p (ancestry t q) → LeavesTree q t t' → LeavesTree q u u' → AgreeTrees p t u → AgreeTrees q t' u'
    → AgreeTrees p t' u'
agree_up p q t u t' u' s r s' r' np n h l k a b =
    let f = node_found t q n in
    let bq : IsBelow t p (node t q) = (f.0, rw f.1 h) in
    let d = subst (λ v. AgreeTrees v t u) f.1 (agree_down t u p s r np a (node t q) bq) in
    let m = is_name t u q s r n d in
    let n' = own_name q t t' l n in
    let m' = own_name q u u' k m in
    let hu : In p (ancestry u q) = subst (λ v. In p (ancestry u v)) f.1 (a.to (node t q) bq).1 in
    record {
      to = up_to p q t u t' u' s r s' r' n m m' l k hu a.to d.from b.to;
      from = up_to p q u t u' t' r s r' s' m n n' k l h a.from d.to b.from;
      words = λ g i j c. elim (cases_Bool (has (row_pages (node t' q)) g)) [
        | inl e ↦ b.words g i (has_in g _ e) c
        | inr e ↦
            let o : In g (row_pages (node t q)) → ⊥ = λ z. let y = in_has g _ (subst (In g) (ap row_pages l.own) z) in
            absurd (grind (arith, e, y)) in
            let v : In g (row_pages (node u q)) → ⊥ =
            λ z. o (rw (node_same t u q s r n d) z) in
            rw (k.words g v, a.words g i (subst (In g) (rows_over q t t' s s' n l p np h) j) c, ← l.words g o)
      ];
    }

-- an event by q, aside, in the one
pub agree_aside : (p q : ℕ) (t u t' : Tree) → IsSound t → IsSound u → IsSound t' → IsName t p → IsName t q
    → (In p (ancestry t q) → ⊥) → (In q (ancestry t p) → ⊥) → LeavesTree q t t' → AgreeTrees p t u → AgreeTrees p t' u
agree_aside p q t u t' s r s' np n nb na l a = record {
  to = λ x h.
      let o = (l.outside x).1 (
        h.0,
        (λ j. elim (meet t' s' p q x h.0 h.1 j)
            [ inl c ↦ nb ((l.lines q p n n').1 c) | inr c ↦ na ((l.lines p q np np').1 c) ]),
      ) in
      a.to x (o.0, (l.lines x.name p (name_in x (nodes t) o.0) (name_in x (nodes t') h.0)).1 h.1);
  from = λ x h.
      let b = a.from x h in
      let o = (l.outside x).0 (b.0, (λ j. elim (meet t s p q x b.0 b.1 j) [ inl c ↦ nb c | inr c ↦ na c ])) in
      (o.0, (l.lines x.name p (name_in x (nodes t) b.0) (name_in x (nodes t') o.0)).0 b.1);
  words = λ g i j c.
      let jt : In g (row_pages (node t p)) = rw (← stays_out q t t' s s' n l p np na) j in
      rw (a.words g i jt c, ← l.words g (λ z. apart g jt z));
}
  where
    n' : IsName t' q
    n' = own_name q t t' l n

    np' : IsName t' p
    np' = out_name q t t' s s' n l p np na

    apart : (g : ℕ) → In g (row_pages (node t p)) → In g (row_pages (node t q)) → ⊥
    apart g j z =
        let f = node_found t p np in
        let k = node_found t q n in
        let in_q : In (node t q).name (ancestry t q) =
        subst (λ v. In (node t q).name (ancestry t v)) k.1 (own_ancestry t s (node t q) k.0) in
        elim (holders-related t g s (node t p) (node t q) f.0 k.0 (In-append_right g (config (node t p))
        (row_pages (node t p)) j) (In-append_right g (config (node t q)) (row_pages (node t q)) z)) [
          | inl e ↦ nb (rw (← f.1, e) in_q)
          | inr (inl c) ↦ nb (rw (← f.1) (subst (λ v. In (node t p).name (ancestry t v)) k.1
              (over_ancestry t s (node t p) (node t q) f.0 (inr c))))
          | inr (inr c) ↦ na (rw (← k.1) (subst (λ v. In (node t q).name (ancestry t v)) f.1
              (over_ancestry t s (node t q) (node t p) k.0 (inr c))))
        ]

-- what an event of q on a processor moves
record Moved (q here : ℕ) (w v : World) : Type 0 where
  leaves : LeavesTree q w.tree v.tree
  cpus : (i : ℕ) → i ≢ here → runs_on v i ≡ runs_on w i
  names : running v ≡ running w
  own : (r : Occupant) → runs_on v here ≡ Some r → r.name ≡ q

still : (w : World) (cpu : ℕ) (r : Occupant) → runs_on w cpu ≡ Some r → Moved r.name cpu w w
still w cpu r e = record {
  leaves = leaves_same r.name w.tree;
  cpus = λ i n. refl;
  names = refl;
  own = λ q f. let k : Some q ≡ Some r = cc in let d : q ≡ r = cc in rw d;
}

moved_put : (w : World) (t : Tree) (cpu : ℕ) (r q : Occupant) → runs_on w cpu ≡ Some r → q.name ≡ r.name
    → LeavesTree r.name w.tree t → Moved r.name cpu w (with_running (record w { tree = t }) cpu (Some q))
moved_put w t cpu r q e n l = record {
  leaves = l;
  cpus = λ i d. at_set_other (Some q) w.cpus cpu i d;
  names = names_set w.cpus cpu r q e n;
  own = λ z f. let k : Some z ≡ Some q = cc (at_set_here (Some q) w.cpus cpu r e) in let d : z ≡ q = cc in
      rw (d, n);
}

wrote-moved : (w : World) (cpu va : ℕ) (r : Occupant) (z : Size) (x : ℕ) (q : Reached) → IsSoundWorld w
    → runs_on w cpu ≡ Some r → reach w.tree r.name va Store z ≡ q → Succeeded (wrote w cpu r va z x q).outcome
    → Moved r.name cpu w (wrote w cpu r va z x q).world
wrote-moved w cpu va r z x (Place g i) s e h k = record {
  leaves = store-leaves w.tree r.name s.tree (s.names_nodes r.name (runs_named w cpu r s e)) g i _
      (reached_row w.tree r.name va g i Store z h);
  cpus = λ i n. refl;
  names = refl;
  own = (still w cpu r e).own;
}
wrote-moved w cpu va r z x (Faulted f) s e h k =
    absurd (deliver-fails w cpu r (fault_vector f) va (16 * access_number Store + fault_number f) k)

acted-moved : (w : World) (e : Event) (r : Occupant) → IsSoundWorld w → IsPlainOrSet w e → runs_on w (cpu_of e) ≡ Some r
    → Moved r.name (cpu_of e) w (what_happens w e).world
acted-moved w (E.Load cpu va z) r s h e =
    let k = subst (λ o.
    Succeeded (on_running w cpu o (λ r. load_happens w cpu r va Load z (reach w.tree r.name va Load z))).outcome) e h in
    rw (e, loaded_world w cpu r va Load z (reach w.tree r.name va Load z) k) (still w cpu r e)
acted-moved w (E.Fetch cpu) r s h e =
    let k = subst (λ o. Succeeded (on_running w cpu o
    (λ r. load_happens w cpu r r.ctx.pc Fetch Word (reach w.tree r.name r.ctx.pc Fetch Word))).outcome) e h in
    rw (e, loaded_world w cpu r r.ctx.pc Fetch Word (reach w.tree r.name r.ctx.pc Fetch Word) k) (still w cpu r e)
acted-moved w (E.Store cpu va z x) r s h e =
    let q : what_happens w (E.Store cpu va z x) ≡ wrote w cpu r va z x (reach w.tree r.name va Store z) =
    rw e in
    rw q (wrote-moved w cpu va r z x (reach w.tree r.name va Store z) s e refl (subst (λ y. Succeeded y.outcome) q h))
acted-moved w (E.Call cpu number a) r s h e =
    let (b, c, l) = replied_to (call_named number) w cpu r a h s e in
    rw (called_by (call_named number) w cpu r a e, c) (moved_put w b.tree cpu r _ e refl l)
acted-moved w (E.SetContext cpu c) r s h e = rw e (moved_put w w.tree cpu r (record r { ctx = c }) e refl
    (leaves_same r.name w.tree))
acted-moved w (E.Trap cpu k a b) r s h e = absurd h
acted-moved w (E.Raise j) r s h e = absurd h
acted-moved w (E.Poll cpu) r s h e = absurd h

event-moved : (w : World) (e : Event) (r : Occupant) → IsSoundWorld w → IsPlainOrSet w e → runs_on w (cpu_of e) ≡ Some r
    → Moved r.name (cpu_of e) w (event w e).world
event-moved w e r s h f =
    let m = acted-moved w e r s h f in
    assumption

-- the same event in two worlds that agree
record Equal (q : ℕ) (e : Event) (w v : World) : Type 0 where
  outcome : (event w e).outcome ≡ (event v e).outcome
  below : AgreeBelow q (event w e).world (event v e).world
  on : runs_on (event w e).world (cpu_of e) ≡ runs_on (event v e).world (cpu_of e)
  quiet : IsPlainOrSet v e

plain_again : (w v : World) (e : Event) → IsPlain w e → (event w e).outcome ≡ (event v e).outcome → IsPlain v e
plain_again w v (E.Load cpu va z) h q = rw (← q) h
plain_again w v (E.Fetch cpu) h q = rw (← q) h
plain_again w v (E.Store cpu va z x) h q = rw (← q) h
plain_again w v (E.Call cpu number a) h q = h
plain_again w v (E.Trap cpu k a b) h q = absurd h
plain_again w v (E.Raise j) h q = absurd h
plain_again w v (E.Poll cpu) h q = absurd h
plain_again w v (E.SetContext cpu c) h q = absurd h

plain_quiet : (w : World) (e : Event) → IsPlain w e → IsPlainOrSet w e
plain_quiet w (E.Load cpu va z) h = h
plain_quiet w (E.Fetch cpu) h = h
plain_quiet w (E.Store cpu va z x) h = h
plain_quiet w (E.Call cpu number a) h = h
plain_quiet w (E.Trap cpu k a b) h = absurd h
plain_quiet w (E.Raise j) h = absurd h
plain_quiet w (E.Poll cpu) h = absurd h
plain_quiet w (E.SetContext cpu c) h = tt

plain-equal : (w v : World) (e : Event) (r : Occupant) → IsSoundWorld w → IsSoundWorld v → IsEvent e → IsPlain w e
    → runs_on w (cpu_of e) ≡ Some r → runs_on v (cpu_of e) ≡ Some r → AgreeBelow r.name w v → running w ≡ running v
    → Equal r.name e w v
plain-equal w v e r s s' ev h k f a d =
    let g = event-again w v e r s s' ev h k f a (λ y x b. rw d) in
    record { outcome = g.outcome; below = g.below; on = g.cpu; quiet = plain_quiet v e (plain_again w v e h g.outcome) }

quiet-equal : (w v : World) (e : Event) (r : Occupant) → IsSoundWorld w → IsSoundWorld v → IsEvent e → IsPlainOrSet w e
    → runs_on w (cpu_of e) ≡ Some r → runs_on v (cpu_of e) ≡ Some r → AgreeBelow r.name w v → running w ≡ running v
    → Equal r.name e w v
quiet-equal w v (E.SetContext cpu c) r s s' ev h k f a d = record {
  outcome = cc;
  below =
      let agree : AgreeBelow r.name (what_happens w (E.SetContext cpu c)).world
      (what_happens v (E.SetContext cpu c)).world =
      rw k (subst (λ o. AgreeBelow r.name (with_running w cpu (Some (record r { ctx = c })))
      (on_running v cpu o (λ r. done (with_running v cpu (Some (record r { ctx = c }))))).world) (sym f)
      (to_worlds r.name _ _ (to_trees r.name w v a))) in
      to_worlds r.name _ _ (to_trees r.name _ _ agree);
  on = ap (λ o. runs_on (on_running w cpu o (λ r. done (with_running w cpu (Some (record r { ctx = c }))))).world cpu) k
      ∙ at_set_here _ w.cpus cpu r k ∙ sym (at_set_here (Some (record r { ctx = c })) v.cpus cpu r f) ∙ sym (rw f);
  quiet = tt;
}
quiet-equal w v (E.Load cpu va z) r s s' ev h k f a d = plain-equal w v (E.Load cpu va z) r s s' ev h k f a d
quiet-equal w v (E.Fetch cpu) r s s' ev h k f a d = plain-equal w v (E.Fetch cpu) r s s' ev h k f a d
quiet-equal w v (E.Store cpu va z x) r s s' ev h k f a d = plain-equal w v (E.Store cpu va z x) r s s' ev h k f a d
quiet-equal w v (E.Call cpu number c) r s s' ev h k f a d = plain-equal w v (E.Call cpu number c) r s s' ev h k f a d
quiet-equal w v (E.Trap cpu x y b) r s s' ev h k f a d = absurd h
quiet-equal w v (E.Raise j) r s s' ev h k f a d = absurd h
quiet-equal w v (E.Poll cpu) r s s' ev h k f a d = absurd h

-- the two worlds, event by event: w with all events, v without those of others
record Pair (t : Tree) (p : ℕ) (w v : World) : Type 0 where
  sound : IsSoundWorld w
  sound' : IsSoundWorld v
  name : IsName w.tree p
  agree : AgreeBelow p w v
  same : (i : ℕ) (r : Occupant) → In p (ancestry t r.name) → (runs_on w i ≡ Some r) ↔ (runs_on v i ≡ Some r)
  lines : (q n : ℕ) → In q (running w) ⊎ (q ≡ p) → In n (ancestry t q) ↔ In n (ancestry w.tree q)
  names : running w ≡ running v

-- what runs, where the actor is a partition
actor_runs : (w : World) (e : Event) → 1 ≤ actor w e
    → (r : Occupant) × (runs_on w (cpu_of e) ≡ Some r) × (actor w e ≡ r.name)
actor_runs w e h = go (runs_on w (cpu_of e)) refl h
  where
    go : (o : Option Occupant) → runs_on w (cpu_of e) ≡ o → 1 ≤ occupant_name o
        → (r : Occupant) × (o ≡ Some r) × (occupant_name o ≡ r.name)
    go None f k = absurd (omega arith)
    go (Some r) f k = (r, refl, refl)

module _ (t : Tree) (p : ℕ) (w v : World) (e : Event) (r : Occupant) (g : Pair t p w v) (ev : IsEvent e)
    (h : IsPlainOrSet w e) (k : runs_on w (cpu_of e) ≡ Some r) where
  q_runs : In r.name (running w)
  q_runs = runs_named w (cpu_of e) r g.sound k

  q_name : IsName w.tree r.name
  q_name = g.sound.names_nodes r.name q_runs

  moved : Moved r.name (cpu_of e) w (event w e).world
  moved = event-moved w e r g.sound h k

  sound-1 : IsSoundWorld (event w e).world
  sound-1 = event-sound w e g.sound ev

  lines_after : IsName (event w e).world.tree p → (q n : ℕ) → In q (running (event w e).world) ⊎ (q ≡ p)
      → In n (ancestry t q) ↔ In n (ancestry (event w e).world.tree q)
  lines_after np q n (inl i) =
      let j : In q (running w) = rw (← moved.names) i in
      let a = g.lines q n (inl j) in
      let b = moved.leaves.lines q n (g.sound.names_nodes q j) (sound-1.names_nodes q i) in
      ((λ x. b.0 (a.0 x)), (λ x. a.1 (b.1 x)))
  lines_after np q n (inr d) =
      let a = g.lines q n (inr d) in
      let b = moved.leaves.lines q n (subst (IsName w.tree) (sym d) g.name)
      (subst (IsName (event w e).world.tree) (sym d) np) in
      ((λ x. b.0 (a.0 x)), (λ x. a.1 (b.1 x)))

  step_below : In p (ancestry t r.name) → Equal r.name e w v × Pair t p (event w e).world (event v e).world
  step_below b =
      let b' : In p (ancestry w.tree r.name) = (g.lines r.name p (inl q_runs)).0 b in
      let f = node_found w.tree r.name q_name in
      let tr = to_trees p w v g.agree in
      let d : AgreeTrees r.name w.tree v.tree =
      rw (← f.1) (agree_down w.tree v.tree p g.sound.tree g.sound'.tree g.name tr (node w.tree r.name)
      (f.0, subst (λ n. In p (ancestry w.tree n)) (sym f.1) b')) in
      let kv = (g.same (cpu_of e) r b).0 k in
      let q = quiet-equal w v e r g.sound g.sound' ev h k kv (to_worlds r.name w v d) g.names in
      let m' = event-moved v e r g.sound' q.quiet kv in
      let s' = event-sound v e g.sound' ev in
      let np =
      name_over r.name w.tree (event w e).world.tree g.sound.tree sound-1.tree q_name moved.leaves p g.name b' in (
        q,
        record {
          sound = sound-1;
          sound' = s';
          name = np;
          agree = to_worlds p _ _
              (agree_up p r.name w.tree v.tree (event w e).world.tree (event v e).world.tree g.sound.tree g.sound'.tree
              sound-1.tree s'.tree g.name q_name b' moved.leaves m'.leaves tr (to_trees r.name _ _ q.below));
          same = λ i z c. elim (cases_eq i (cpu_of e)) [
            | inl y ↦ rw y ((λ x. sym q.on ∙ x), (λ x. q.on ∙ x))
            | inr y ↦ let o = g.same i z c in (
              (λ x. m'.cpus i y ∙ o.0 (rw (← moved.cpus i y) x)),
              (λ x. moved.cpus i y ∙ o.1 (rw (← m'.cpus i y) x)),
            )
          ];
          lines = lines_after np;
          names = cc (moved.names, g.names, m'.names);
        },
      )

  step_aside : (In p (ancestry t r.name) → ⊥) → (In r.name (ancestry t p) → ⊥) → Pair t p (event w e).world v
  step_aside nb na =
      let nb' : In p (ancestry w.tree r.name) → ⊥ = λ x. nb ((g.lines r.name p (inl q_runs)).1 x) in
      let na' : In r.name (ancestry w.tree p) → ⊥ = λ x. na ((g.lines p r.name (inr refl)).1 x) in
      let np =
      out_name r.name w.tree (event w e).world.tree g.sound.tree sound-1.tree q_name moved.leaves p g.name na' in
      record {
        sound = sound-1;
        sound' = g.sound';
        name = np;
        agree = to_worlds p _ _ (agree_aside p r.name w.tree v.tree (event w e).world.tree g.sound.tree g.sound'.tree
            sound-1.tree g.name q_name nb' na' moved.leaves (to_trees p w v g.agree));
        same = λ i z c. elim (cases_eq i (cpu_of e)) [
          | inl y ↦ (
            (λ x. absurd (nb (rw (← moved.own z (subst (λ i. runs_on (event w e).world i ≡ Some z) y x)) c))),
            (λ x. let u : runs_on w (cpu_of e) ≡ Some z = rw (← y) ((g.same i z c).1 x) in
                let j : Some z ≡ Some r = cc in
                let d : z ≡ r = cc in
                absurd (nb (rw (← d) c))),
          )
          | inr y ↦ let o = g.same i z c in ((λ x. o.0 (rw (← moved.cpus i y) x)), (λ x. moved.cpus i y ∙ o.1 x))
        ];
        lines = lines_after np;
        names = moved.names ∙ g.names;
      }

runs : (t : Tree) (p : ℕ) → IsSound t → (es : List Event) (w v : World) → Pair t p w v → AllByRecursion IsEvent es
    → AreFit t p w es → (outcomes_below t p w es ≡ outcomes v (only_below t p w es))
    × Pair t p (after w es) (after v (only_below t p w es))
runs t p st [] w v g h f = (refl, g)
runs t p st (e ∷ es) w v g h f = elim f.1 [
  | inl b ↦
      let (r, k, n) = actor_runs w e (name_positive t st (actor w e) b.0) in
      let c : In p (ancestry t r.name) = rw (← n) b.1 in
      let z : by_below t p w e ≡ true = in_has p _ b.1 in
      let (q, g') = step_below t p w v e r g h.0 f.0 k c in
      let (a, g'') = runs t p st es (event w e).world (event v e).world g' h.1 f.2 in
      rw z (ap₂ (λ x l. x ∷ l) q.outcome a, g'')
  | inr b ↦
      let (r, k, n) = actor_runs w e (name_positive t st (actor w e) b.there) in
      let z : by_below t p w e ≡ false = false_from_ne_true _ (λ x. b.not_below (has_in p _ x)) in
      let g' = step_aside t p w v e r g h.0 f.0 k (λ x. b.not_below (rw n x))
      (λ x. b.not_above (rw n x)) in
      let i = runs t p st es (event w e).world v g' h.1 f.2 in
      rw z i
]

pub others_do_not_matter : (w : World) (p : ℕ) (es : List Event) → IsSoundWorld w → In p (names_of (nodes w.tree))
    → AllByRecursion IsEvent es → AreFit w.tree p w es → (outcomes_below w.tree p w es
    ≡ outcomes w (only_below w.tree p w es)) × IsUntouched w.tree p (after w es) (after w (only_below w.tree p w es))
others_do_not_matter w p es s n h f =
    let g : Pair w.tree p w w = record {
      sound = s;
      sound' = s;
      name = n;
      agree = record { nodes = λ x. ((λ h. h), (λ h. h)); words = λ g i j l. refl };
      same = λ i r c. ((λ h. h), (λ h. h));
      lines = λ q n i. ((λ h. h), (λ h. h));
      names = refl;
    } in
    let (a, b) = runs w.tree p s.tree es w w g h f in
    (a, record { below = b.agree; cpus = b.same })
