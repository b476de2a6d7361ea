-- The tree with a new partition: how its pages are given, and what lays it out.
use Rattle.std.proofs.Common.{◌≡◌, ◌≢◌, ℕ, zero, suc, ◌<◌, ◌==◌, ◌||◌, cond, inl, inr, Bool, true, false, not, [], ◌∷◌}
use Rattle.std.proofs.Common.{length, refl, sym, ap, ◌∙◌, subst, arith, ne_eqb, Option, Some, None}
use Rattle.pip_model.specs.Accepted.{MayCreate}
use Rattle.std.specs.Prelude.{All, find, option_map}
use Rattle.std.specs.List.{list_any}
use Rattle.std.proofs.lemmas.Bool.{both_ways}
use Rattle.pip_base.specs.declared.outcome.Status.{Status}
use Rattle.pip_base.specs.declared.types.Pair.{Pair}
use Rattle.pip_base.specs.Memory.{Memory, word_at}
use Rattle.pip_base.specs.Words.{as_configuration, as_descriptor, shadow1_word}
use Rattle.pip_model.specs.Answers.{Five, accept, answer_unless, first_met, list_of, page_of, refuse}
use Rattle.pip_model.specs.CreatePartition.{create_partition, create_refusals, tree_with_newborn, newborn}
use Rattle.pip_model.specs.Layout.{LaysOut}
use Rattle.pip_model.specs.FullRows.{FullRow, from_word, full_rows, given_by, given_word, vpage_in_parent, place_word}
use Rattle.pip_model.specs.FullRows.{use_of}
use Rattle.pip_model.specs.Lists.{Distinct, In, has}
use Rattle.pip_model.specs.Midway.{Midway, PagesStay, find_other}
use Rattle.pip_model.specs.NodeIn.{OthersStay, Space}
use Rattle.pip_model.specs.Sound.{IsSound}
use Rattle.pip_model.specs.Tree.{Node, Row, Tree, base_pairs, children, config, find_node, holds, names_of, nodes}
use Rattle.pip_model.specs.Tree.{page_at, row_at, vpage}
use Rattle.pip_model.proofs.Calls.Create.{newborn-fresh, fresh_name, may_create, with_newborn-sound}
use Rattle.pip_model.proofs.Trees.Free.{IsName}
use Rattle.pip_model.proofs.Frames.Laid.{filled, held_frame, zero_owner}
use Rattle.pip_model.proofs.Frames.Lays.{lays_sound, words_stay, zero_stays}
use Rattle.pip_model.proofs.Trees.Lookup.{cases_option, found_in, found_is_name, in_found, node_is, up_found}
use Rattle.pip_model.proofs.OnLists.Members.{in_has}
use Rattle.pip_model.proofs.Nodes.Writes.{Space-same, Space-stays}
use Rattle.pip_model.proofs.Frames.ReadBack.{full-at}
use Rattle.pip_model.proofs.Trees.RowLookup.{held_row, page_at_row, row_in}
use Rattle.pip_model.proofs.Frames.Shadows.{use_descriptor}
use Rattle.pip_kern.proofs.Calls.{some_kept}
use Rattle.pip_kern.proofs.Marking.{marked-parts, marked-word}
use Rattle.pip_kern.specs.Giving.{CanGive, CanGiveEach, row_given, rows_given}
use Rattle.pip_birth.specs.Newborn.{AreFrames}

-- ---- the answer

-- a condition that is met is the answer
pub create-refused : (t : Tree) (p : ℕ) (a : Five) (q : Status) → first_met (create_refusals t p a) ≡ Some q
    → create_partition t p a ≡ refuse t q
create-refused t p a q e = rw e

-- where none is, the tree has the new partition
pub create-accepted : (t : Tree) (p : ℕ) (a : Five) → first_met (create_refusals t p a) ≡ None
    → create_partition t p a ≡ accept 0 (tree_with_newborn t p a)
create-accepted t p a e = rw e

-- ---- tests of Bool

user_parts : (on root rest : Bool) → cond on false (not (root || rest)) ≡ not (root || (on || rest))
user_parts true true rest = refl
user_parts true false rest = refl
user_parts false root rest = refl

module _ (t : Tree) (s : IsSound t) (p : ℕ) (x : Node) (found : find_node t p ≡ Some x)
    (a : Five) (passed : first_met (create_refusals t p a) ≡ None) where
  abbrev pub y : Node
  y = newborn t p a

  abbrev pub u : Tree
  u = tree_with_newborn t p a

  may : MayCreate t p a
  may = may_create t p a passed

  named : IsName t p
  named = found_is_name t p x found

  pub created_sound : IsSound u
  unfolding may named
  created_sound = with_newborn-sound t p a s named may

  -- ---- the five pages

  once : Distinct (config y)
  unfolding created_sound
  once = (created_sound.pages_apart y (inr (inl refl))).pages

  -- the caller's row of each
  row_of : (k : ℕ) → In k (list_of a) → (r : Row) × (row_at x.rows (vpage k) ≡ Some r) × (r.frame ≡ page_of t p k)
  unfolding may
  row_of k i = page_at_row x (vpage k) (page_of t p k)
      (subst (λ z. page_at z (vpage k) ≡ Some (page_of t p k)) (node_is t p x found) (may.usable k i).placed)

  can_give : (k v w : ℕ) → In k (list_of a) → v ≡ vpage k → w ≡ shadow1_word (use_of y (page_of t p k)) (vpage y.born)
      → CanGive t y v w (page_of t p k)
  unfolding row_of may
  can_give k v w i place word =
      let (r, at, page) = row_of k i in
      record {
        sound = s;
        giver = x;
        found = found;
        row = r;
        at = rw (place, at);
        page = page;
        unheld = (may.usable k i).unheld;
        word = word;
      }

  -- the descriptor
  pub can_give_first : (born : ℕ) → born ≡ vpage a.x0
      → CanGive t y born (shadow1_word as_descriptor born) (page_of t p a.x0)
  unfolding can_give
  can_give_first born is = can_give a.x0 born (shadow1_word as_descriptor born) (inl refl) is
      (cc (use_descriptor y))

  used : (g : ℕ) → In g (config y) → y.name ≢ g → use_of y g ≡ as_configuration
  used g i ne = cc (ne_eqb y.name g ne, in_has g (config y) i)

  can_give_more : (k born : ℕ) → In k (list_of a) → born ≡ vpage a.x0 → In (page_of t p k) (config y)
      → y.name ≢ page_of t p k → CanGive t y (vpage k) (shadow1_word as_configuration born) (page_of t p k)
  unfolding can_give used
  can_give_more k born i is on ne =
      can_give k (vpage k) (shadow1_word as_configuration born) i refl (cc (used (page_of t p k) on ne))

  -- the others
  pub can_give_rest : (born : ℕ) → born ≡ vpage a.x0
      → CanGiveEach t y born (y.base.mmu ∷ y.base.shadow1 ∷ y.base.shadow2 ∷ y.base.list ∷ [])
  unfolding can_give_more once
  can_give_rest born is zero d low = can_give_more a.x1 born (inr (inl refl)) is (inr (inl refl)) (λ e. once.0 (inl e))
  can_give_rest born is (suc zero) d low =
      can_give_more a.x2 born (inr (inr (inl refl))) is (inr (inr (inl refl))) (λ e. once.0 (inr (inl e)))
  can_give_rest born is (suc (suc zero)) d low = can_give_more a.x3 born (inr (inr (inr (inl refl)))) is
      (inr (inr (inr (inl refl)))) (λ e. once.0 (inr (inr (inl e))))
  can_give_rest born is (suc (suc (suc zero))) d low = can_give_more a.x4 born (inr (inr (inr (inr (inl refl))))) is
      (inr (inr (inr (inr (inl refl))))) (λ e. once.0 (inr (inr (inr (inl e)))))
  can_give_rest born is (suc (suc (suc (suc k)))) d low = absurd (omega arith)

  -- the descriptor isn't at vpage 0
  pub born_some : vpage a.x0 ≢ 0
  unfolding row_of
  born_some e =
      let (r, at, page) = row_of a.x0 (inl refl) in
      let (i, place) = row_in x (vpage a.x0) r at in
      (s.tables x (found_in t p x found)).first r i (cc)

  -- each is a frame
  page_low : (k : ℕ) → In k (list_of a) → page_of t p k < t.frames
  unfolding row_of
  page_low k i =
      let (r, at, page) = row_of k i in
      subst (λ g. g < t.frames) page (held_frame t s p r.frame x found (held_row x (vpage k) r at)).1

  pages_low : (m : Memory) → length m ≡ t.frames → All (λ (g : Pair). g.frame < length m) (base_pairs y.base)
  unfolding page_low
  pages_low m count zero d low = omega (arith, page_low a.x0 (inl refl))
  pages_low m count (suc zero) d low = omega (arith, page_low a.x1 (inr (inl refl)))
  pages_low m count (suc (suc zero)) d low = omega (arith, page_low a.x2 (inr (inr (inl refl))))
  pages_low m count (suc (suc (suc zero))) d low = omega (arith, page_low a.x3 (inr (inr (inr (inl refl)))))
  pages_low m count (suc (suc (suc (suc zero)))) d low = omega (arith, page_low a.x4 (inr (inr (inr (inr (inl refl))))))
  pages_low m count (suc (suc (suc (suc (suc k))))) d low = absurd (omega arith)

  -- so they are different frames of every memory in the middle of the call
  pub are_frames : (m : Memory) (rows : ℕ → ℕ → Option FullRow) → Midway m t rows → AreFrames m (base_pairs y.base)
  unfolding pages_low once
  are_frames m rows k = record { shape = k.shape; inside = pages_low m k.count; once = once }

  -- ---- the rows of the new tree

  -- the partitions that have a page of the new one
  holder_parts : (q g : ℕ) (own : Bool) → (y.up == q) ≡ own → given_word u q g ≡ cond own
      (cond (has (config y) g) (shadow1_word (use_of y g) (vpage y.born)) (given_word t q g)) (given_word t q g)
  unfolding given_word
  holder_parts q g own is =
      rw (is, go own (has (config y) g) refl)
    where
      go : (own on : Bool) → has (config y) g ≡ on
          → given_by (find (λ z. holds z g) (cond own (y ∷ children t q) (children t q))) g ≡ cond own
          (cond on (shadow1_word (use_of y g) (vpage y.born)) (given_by (find (λ z. holds z g) (children t q)) g))
          (given_by (find (λ z. holds z g) (children t q)) g)
      go false on e = refl
      go true true e = simp e
      go true false e = rw e

  -- the nodes of the old tree are found as before
  pub find_old : (b : ℕ) → In b (names_of (nodes t)) → find_node u b ≡ find_node t b
  unfolding may named
  find_old b i =
      let off : (y.name == b) ≡ false =
      ne_eqb y.name b (λ e. fresh_name t p a s named may (subst (λ k. In k (names_of (nodes t))) (sym e) i)) in
      rw off

  module _ (z : Node) (i : In z (nodes t)) where
    z_found : find_node t z.name ≡ Some z
    z_found = in_found t s z i

    from_old : (g : ℕ) → from_word t z g ≡ from_word u z g
    unfolding from_word find_old z_found
    from_old g =
        let (q, up) = up_found t s z.name z z_found in
        rw (← find_old z.up (found_is_name t z.up q up))

    row_created : (q : Row) → row_given y (config y) (y.up == z.name) (filled t z q) ≡ filled u z q
    unfolding from_old holder_parts
    row_created q =
        let g = q.frame in
        let user = user_parts (has (config y) g) (has (config t.root) g) (list_any (λ w. has (config w) g) t.others) in
        let given : cond (has (config y) g) (cond (y.up == z.name) (shadow1_word (use_of y g) (vpage y.born))
        (given_word t z.name g)) (given_word t z.name g) ≡ given_word u z.name g =
        marked-word (y.up == z.name) (has (config y) g) (shadow1_word (use_of y g) (vpage y.born))
        (given_word t z.name g) ∙ sym (holder_parts z.name g (y.up == z.name) refl) in
        marked-parts false (has (config y) g) (filled t z q)
        (cond (y.up == z.name) (shadow1_word (use_of y g) (vpage y.born)) (given_word t z.name g))
        ∙ (λ j. record { frame = q.frame; rights = q.rights; user = user j; given = given j; from = from_old g j })

    -- each old partition has the rows of the new tree
    create-rows : (v : ℕ) → rows_given t y (config y) z.name v ≡ full_rows u z v
    unfolding row_created z_found
    create-rows v =
        ap (λ w. option_map (row_given y (config y) (y.up == z.name)) (full_rows t w v)) (node_is t z.name z z_found)
        ∙ elim (cases_option (row_at z.rows v)) [
          | inl none ↦ rw (full-at t z v None none, ← full-at u z v None none)
          | inr q ↦ rw (full-at t z v (Some q.0) q.1, row_created q.0, ← full-at u z v (Some q.0) q.1)
        ]

  -- ---- the frames

  module _ (m l n : Memory) (lays : LaysOut t m) (k : Midway l t (rows_given t y (config y))) (stay : PagesStay t m l)
      (space : Space n y (λ v. None)) (rest : OthersStay y l n) where
    old_space : (z : Node) → In z (nodes t) → Space n z (full_rows u z)
    unfolding create-rows may named
    old_space z i =
        Space-same n z (rows_given t y (config y) z.name) (full_rows u z) (create-rows z i)
        (Space-stays l n z y (rows_given t y (config y) z.name) (k.each z.name z (in_found t s z i)) space.node.shape
        rest (λ f on new. newborn-fresh t p a s named may f new z i on))

    each_space : (b : ℕ) (z : Node) → find_node u b ≡ Some z → Space n z (full_rows u z)
    unfolding old_space
    each_space b z e = elim (found_in u b z e) [
      | inl root ↦ old_space z (inl root)
      | inr i ↦ elim i [
        | inl new ↦ rw new (Space-same n y (λ v. None) (full_rows u y) (λ v. sym (full-at u y v None refl)) space)
        | inr old ↦ old_space z (inr old)
      ]
    ]

    words_same : (f i : ℕ) (w : ℕ → ℕ) → u.words f ≡ Some w → i < 1024 → word_at n f i ≡ w i
    words_same f i w e i_in =
        let (off, old) = some_kept (has (config y) f) (t.words f) w e in
        rest.words f i (λ on. both_ways (has (config y) f) off (in_has f (config y) on))
        ∙ words_stay t s m l lays stay f i w old i_in

    -- the new tree is laid out
    pub create-lays : LaysOut u n
    unfolding created_sound each_space words_same
    create-lays = lays_sound u created_sound n space.node.shape
        (rest.count ∙ k.count) (λ b z e. (each_space b z e).node) words_same
        (λ i i_in. rest.words 0 i (zero_owner u created_sound y (inr (inl refl))) ∙ zero_stays t s m l lays stay i i_in)
