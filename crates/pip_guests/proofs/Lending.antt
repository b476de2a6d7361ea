-- A page that is lent to a guest is an input.
use Rattle.std.proofs.Common.{◌≡◌, ℕ, ◌<◌, ◌⊎◌, inl, inr, Bool, true, false, cond, List, [], ◌∷◌, map, refl}
use Rattle.std.proofs.Common.{sym, ap, ◌∙◌}
use Rattle.std.proofs.Common.{subst, Option, Some, None}
use Rattle.std.specs.Prelude.{nat_lt}
use Rattle.pip_base.specs.declared.outcome.Status.{Status}
use Rattle.pip_model.specs.AddVAddr.{add_refusals, insert_row, tree_with_row, with_row}
use Rattle.pip_model.specs.Answers.{Answer, Five, answer_unless, child_name, first_met, page_of}
use Rattle.pip_model.specs.Events.{IsEvent}
use Rattle.pip_model.specs.Events as E
use Rattle.pip_model.specs.Happens.{IsSwitching, call, event}
use Rattle.pip_model.specs.Lists.{In}
use Rattle.pip_model.specs.Local.{IsBelow, actor}
use Rattle.pip_model.specs.Sound.{IsSound}
use Rattle.pip_model.specs.Tree.{Node, Row, Tree, ancestry, change_at, node, nodes, on_nodes, row_pages, vpage, word_of}
use Rattle.pip_model.specs.Worlds.{IsSoundWorld, World}
use Rattle.pip_model.proofs.Events.Soundness.{event-sound}
use Rattle.pip_model.proofs.Locality.Agree.{AgreeTrees}
use Rattle.pip_model.proofs.Locality.OneEvent.{to_trees, to_worlds}
use Rattle.pip_model.proofs.OnLists.Members.{In-map, In-map_from}
use Rattle.pip_model.proofs.Trees.Ancestors.{name_in}
use Rattle.pip_model.proofs.Trees.Ancestry.{ancestry_in, named_node}
use Rattle.pip_model.proofs.Trees.ChangeNode.{change-here, change-keeps}
use Rattle.pip_model.proofs.Trees.Free.{IsName, node_found}
use Rattle.pip_guests.specs.Inputs.{CallsOn, LendsPage, LendingsAreInputs}
use Rattle.pip_guests.proofs.Elsewhere.{name_after}
use Rattle.pip_guests.proofs.Inputs.{calls_are_inputs}
use Rattle.pip_guests.proofs.Inside.{actor_runs}
use Rattle.pip_guests.proofs.Lines.{own_line}
use Rattle.pip_guests.proofs.Moves.{call_by}

-- ---- one row more

-- the pages of rows with one more are that page and those of the rows
inserted : (r : Row) (rows : List Row) (g : ℕ) → In g (map (λ x. x.frame) (insert_row r rows))
    → (g ≡ r.frame) ⊎ In g (map (λ x. x.frame) rows)
inserted r [] g (inl e) = inl e
inserted r [] g (inr i) = absurd i
inserted r (s ∷ ss) g h = go (nat_lt r.at s.at) h (inserted r ss g)
  where
    go : (b : Bool) → In g (map (λ x. x.frame) (cond b (r ∷ s ∷ ss) (s ∷ insert_row r ss)))
        → (In g (map (λ x. x.frame) (insert_row r ss)) → (g ≡ r.frame) ⊎ In g (map (λ x. x.frame) ss))
        → (g ≡ r.frame) ⊎ In g (map (λ x. x.frame) (s ∷ ss))
    go true (inl e) rest = inl e
    go true (inr i) rest = inr i
    go false (inl e) rest = inr (inl e)
    go false (inr i) rest = elim (rest i) [ inl e ↦ inl e | inr j ↦ inr (inr j) ]

module _ (p : ℕ) (r : Row) where
  abbrev change : Node → Node
  change = change_at p (with_row r)

  names : (x : Node) → (change x).name ≡ x.name
  names = change-keeps p (with_row r) (λ z. z.name) (λ x. refl)

  ups : (x : Node) → (change x).up ≡ x.up
  ups = change-keeps p (with_row r) (λ z. z.up) (λ x. refl)

  line : (t : Tree) (n : ℕ) → ancestry (on_nodes change t) n ≡ ancestry t n
  line t n = ancestry_in change names ups t.root t.others n

  -- what is below p in one tree is so in the other, with the row in both
  below : (t u : Tree) → ((x : Node) → IsBelow t p x → IsBelow u p x) → (x : Node) → IsBelow (on_nodes change t) p x
      → IsBelow (on_nodes change u) p x
  below t u to x (i, h) =
      let (z, j, e) = In-map_from change x (nodes t) i in
      let q : x.name ≡ z.name = cc (names z) in
      let k : In p (ancestry t z.name) = rw (← line t z.name, ← q) h in
      let b = to z (j, k) in (
        subst (λ y. In y (nodes (on_nodes change u))) (sym e) (In-map change z (nodes u) b.0),
        rw (q, line u z.name) b.1,
      )

  -- p's pages are this one, and those that it had
  pages : (t : Tree) → IsSound t → IsSound (on_nodes change t) → IsName t p → (g : ℕ)
      → In g (row_pages (node (on_nodes change t) p)) → (g ≡ r.frame) ⊎ In g (row_pages (node t p))
  pages t s s' n g h =
      let f = node_found t p n in
      let there : In (change (node t p)) (nodes (on_nodes change t)) = In-map change (node t p) (nodes t) f.0 in
      let is : node (on_nodes change t) p ≡ with_row r (node t p) =
      named_node (on_nodes change t) p s' (change (node t p)) there (names (node t p) ∙ f.1)
      ∙ change-here p (with_row r) (node t p) f.1 in
      inserted r (node t p).rows g (rw is at h)

  -- trees that agree below p do so with the row, if the page has the same words in both
  both_agree : (t u : Tree) → IsSound t → IsSound (on_nodes change t) → IsName t p → AgreeTrees p t u
      → ((i : ℕ) → i < 1024 → word_of (u.words r.frame) i ≡ word_of (t.words r.frame) i)
      → AgreeTrees p (on_nodes change t) (on_nodes change u)
  both_agree t u s s' n a same = record {
    to = below t u a.to;
    from = below u t a.from;
    words = λ g i j l. elim (pages t s s' n g j) [
      | inl e ↦ rw e (same i l)
      | inr k ↦ a.words g i k l
    ];
  }

  still_named : (t : Tree) → IsName t p → IsName (on_nodes change t) p
  still_named t n =
      let f = node_found t p n in
      subst (IsName (on_nodes change t)) (names (node t p) ∙ f.1)
      (name_in (change (node t p)) (nodes (on_nodes change t)) (In-map change (node t p) (nodes t) f.0))

-- ---- the call

abbrev row_of_page : ℕ → ℕ → ℕ → Row
row_of_page g cv rights = record { at = vpage cv; frame = g; rights = rights }

unless_none : (t : Tree) (o : Option Status) (b : Answer) → o ≡ None → (answer_unless t o b).tree ≡ b.tree
unless_none t None b e = refl
unless_none t (Some s) b e = cc

-- after it the guest has one row more
lent_tree : (w : World) (p g cv rights cpu number : ℕ) (a : Five) → IsSoundWorld w
    → LendsPage p g cv rights w cpu number a
    → (event w (E.Call cpu number a)).world.tree ≡ tree_with_row w.tree p (row_of_page g cv rights)
lent_tree w p g cv rights cpu number a s l =
    let e = E.Call cpu number a in
    let (r, k, q) = actor_runs w (actor w e) e s (own_line w.tree s.tree (actor w e) l.runs) in
    let asked : first_met (add_refusals w.tree r.name a.x0 a.x1 a.x2 a.x3) ≡ None =
    cc in
    let child : child_name w.tree r.name a.x1 ≡ p = rw (← q) l.child in
    let page : page_of w.tree r.name a.x0 ≡ g = cc in
    ap (λ h. h.world.tree) (call_by w r cpu number a k ∙ ap (λ c. call c w cpu r a) l.adds)
    ∙ unless_none w.tree (first_met (add_refusals w.tree r.name a.x0 a.x1 a.x2 a.x3)) _ asked
    ∙ ap (λ c. tree_with_row w.tree c (record { at = vpage a.x2; frame = page_of w.tree r.name a.x0; rights = a.x3 }))
    child
    ∙ ap (λ f. tree_with_row w.tree p (record { at = vpage a.x2; frame = f; rights = a.x3 })) page
    ∙ ap (λ v. tree_with_row w.tree p (record { at = vpage v; frame = g; rights = a.x3 })) l.address
    ∙ ap (λ n. tree_with_row w.tree p (row_of_page g cv n)) l.rights_are

calls_on : (w : World) (p g cv rights cpu number : ℕ) (a : Five) → IsSoundWorld w → IsName w.tree p
    → LendsPage p g cv rights w cpu number a → CallsOn p w cpu number a
calls_on w p g cv rights cpu number a s n l = record {
  plain = λ h. rw l.adds at h;
  outside = l.outside;
  runs = l.runs;
  name = rw (lent_tree w p g cv rights cpu number a s l) (still_named p (row_of_page g cv rights) w.tree n);
}

pub lendings_are_inputs : LendingsAreInputs
lendings_are_inputs w v p g cv rights cpu cpu2 number number2 a b s s' ev ev' n same l l' words =
    let r = row_of_page g cv rights in
    let one = lent_tree w p g cv rights cpu number a s l in
    let two = lent_tree v p g cv rights cpu2 number2 b s' l' in
    let tr = to_trees p w v same.below in
    let there = name_after p w.tree v.tree s.tree s'.tree n tr in
    let sound = subst IsSound one (event-sound w (E.Call cpu number a) s ev).tree in
    let agree = both_agree p r w.tree v.tree s.tree sound n tr words in
    let after = subst (λ t. AgreeTrees p t (event v (E.Call cpu2 number2 b)).world.tree) (sym one)
    (rw two agree) in
    calls_are_inputs w v p cpu cpu2 number number2 a b s s' n same (calls_on w p g cv rights cpu number a s n l)
    (calls_on v p g cv rights cpu2 number2 b s' there l')
    (to_worlds p (event w (E.Call cpu number a)).world (event v (E.Call cpu2 number2 b)).world after)
