-- A tree in which the control of one node changes: only its descriptor is written.
use Rattle.std.proofs.Common.{◌≡◌, ◌≢◌, ℕ, ◌==◌, cond, inl, inr, Bool, true, false, List, [], ◌∷◌, map, refl, sym, ap}
use Rattle.std.proofs.Common.{ap₂, ◌∙◌, subst, eq-eqb, ne_eqb, Option, Some, None}
use Rattle.std.specs.Prelude.{filter, find, option_map}
use Rattle.std.proofs.lemmas.Bool.{cases_eq}
use Rattle.pip_base.specs.Memory.{Memory}
use Rattle.pip_model.specs.Layout.{LaysOut}
use Rattle.pip_model.specs.FullRows.{cells_of, from_word, full_rows, given_by, given_word, vpage_in_parent}
use Rattle.pip_model.specs.FullRows.{vpage_of_page, place_word}
use Rattle.pip_model.specs.Lists.{In}
use Rattle.pip_model.specs.Partitions.{HasPartition, IsHeld}
use Rattle.pip_model.specs.NodeIn.{NodeIn, OthersStay}
use Rattle.pip_model.specs.Sound.{AreLines, IsSound}
use Rattle.pip_model.specs.Tree.{Node, Tree, config, find_node, holder, holds, on_nodes, row_at}
use Rattle.pip_model.specs.Worlds.{lines_in, masked_node, with_masked, with_pending}
use Rattle.pip_model.proofs.Trees.Ancestors.{not_root}
use Rattle.pip_model.proofs.Trees.Ancestry.{root_is_one}
use Rattle.pip_model.proofs.Trees.Chains.{config_apart}
use Rattle.pip_model.proofs.Trees.Changes.{hidden_kept}
use Rattle.pip_model.proofs.Trees.Control.{masked-sound, memory, pending-sound}
use Rattle.pip_model.proofs.Frames.Laid.{full_same, laid_space}
use Rattle.pip_model.proofs.Frames.Lays.{lays_sound, pages_stay, words_stay, zero_stays}
use Rattle.pip_model.proofs.Trees.Lookup.{changed_back, find_changed, found_in, found_name, root_found, same_found}
use Rattle.pip_model.proofs.Nodes.Writes.{NodeIn-same, NodeIn-stays}

-- ---- what the tables say rests on no control

module _ (f : Node → Node) (t : Tree) (same : (x : Node) → memory (f x) ≡ memory x) where
  pub names_stay : (x : Node) → (f x).name ≡ x.name
  names_stay x = ap (λ z. z.name) (same x)

  holds_stay : (g : ℕ) (x : Node) → holds (f x) g ≡ holds x g
  holds_stay g x = ap (λ z. holds z g) (same x)

  by_page : (b : Bool) (x : Node) (new old : Option Node) → new ≡ option_map f old
      → cond b (Some (f x)) new ≡ option_map f (cond b (Some x) old)
  by_page true x new old e = refl
  by_page false x new old e = e

  by_parent : (g : ℕ) (b : Bool) (x : Node) (new old : List Node)
      → find (λ z. holds z g) new ≡ option_map f (find (λ z. holds z g) old)
      → find (λ z. holds z g) (cond b (f x ∷ new) new) ≡ option_map f (find (λ z. holds z g) (cond b (x ∷ old) old))
  by_parent g false x new old e = e
  by_parent g true x new old e = ap (λ b. cond b (Some (f x)) (find (λ z. holds z g) new)) (holds_stay g x)
      ∙ by_page (holds x g) x (find (λ z. holds z g) new) (find (λ z. holds z g) old) e

  holder_in : (p g : ℕ) (xs : List Node) → find (λ z. holds z g) (filter (λ z. z.up == p) (map f xs))
      ≡ option_map f (find (λ z. holds z g) (filter (λ z. z.up == p) xs))
  holder_in p g [] = refl
  holder_in p g (x ∷ xs) =
      ap (λ n. find (λ z. holds z g) (cond (n == p) (f x ∷ filter (λ z. z.up == p) (map f xs))
      (filter (λ z. z.up == p) (map f xs)))) (ap (λ z. z.up) (same x))
      ∙ by_parent g (x.up == p) x (filter (λ z. z.up == p) (map f xs)) (filter (λ z. z.up == p) xs) (holder_in p g xs)

  given_stay : (p g : ℕ) → given_word (on_nodes f t) p g ≡ given_word t p g
  unfolding given_word
  given_stay p g = rw (holder_in p g t.others, by_holder (holder t p g))
    where
      by_holder : (o : Option Node) → given_by (option_map f o) g ≡ given_by o g
      by_holder None = refl
      by_holder (Some y) = ap (λ z. given_by (Some z) g) (same y)

  from_stay : (x : Node) (g : ℕ) → from_word (on_nodes f t) (f x) g ≡ from_word t x g
  unfolding from_word
  from_stay x g =
      ap₂ (λ a b. cond (a == b) 0 (place_word (vpage_in_parent (find_node (on_nodes f t) (f x).up) g))) (names_stay x)
      (names_stay t.root)
      ∙ ap (λ o. cond (x.name == t.root.name) 0 (place_word (vpage_in_parent o g)))
      (ap (find_node (on_nodes f t)) (ap (λ z. z.up) (same x)) ∙ find_changed f t names_stay x.up)
      ∙ ap (λ o. cond (x.name == t.root.name) 0 (place_word o)) (of_parent (find_node t x.up))
    where
      of_parent : (o : Option Node) → vpage_in_parent (option_map f o) g ≡ vpage_in_parent o g
      of_parent None = refl
      of_parent (Some y) = ap (λ z. vpage_of_page z g) (same y)

  pub full_stay : (x : Node) (v : ℕ) → full_rows t x v ≡ full_rows (on_nodes f t) (f x) v
  unfolding given_stay from_stay
  full_stay x v = full_same t (on_nodes f t) x (f x) v (ap (λ z. row_at z.rows v) (sym (same x)))
      (λ q at. (
        sym (hidden_kept f t (λ z. ap config (same z)) q.frame),
        cc (given_stay x.name q.frame, names_stay x),
        sym (from_stay x q.frame),
      ))

  -- ---- one node is written

  module _ (s : IsSound t) (new : IsSound (on_nodes f t)) (p : ℕ) (x : Node) (found : find_node t p ≡ Some x)
      (else : (y : Node) → y.name ≢ p → f y ≡ y)
      (m n : Memory) (laid : LaysOut t m) (node : NodeIn n (f x) (cells_of (full_rows t x)))
      (stay : OthersStay x m n) where
    each_there : (a : ℕ) (y : Node) → find_node (on_nodes f t) a ≡ Some y
        → NodeIn n y (cells_of (full_rows (on_nodes f t) y))
    each_there a y there =
        let (z, z_is, y_is) = changed_back f t names_stay a y there in
        let cells : NodeIn n (f z) (cells_of (full_rows t z)) → NodeIn n y (cells_of (full_rows (on_nodes f t) y)) =
        λ k. rw y_is (NodeIn-same n (f z) (cells_of (full_rows t z)) (cells_of (full_rows (on_nodes f t) (f z)))
        (λ l v. ap (λ r. cells_of (λ w. r) l v) (full_stay z v)) k) in
        cells (elim (cases_eq a p) [
          | inl e ↦ let one : x ≡ z = same_found t p x z found (cc) in
              rw (← one) node
          | inr ne ↦
              let is_z : f z ≡ z = else z (λ e. ne (rw (← found_name t a z z_is) e)) in
              rw is_z (NodeIn-stays m n z x (cells_of (full_rows t z)) (laid_space t s m laid a z z_is).node node.shape
              stay (λ g on over. config_apart t s a p g z x z_is found ne on over))
        ])

    pub control_lays : LaysOut (on_nodes f t) n
    control_lays =
        let stays = pages_stay t s m n x (found_in t p x found) stay in
        lays_sound (on_nodes f t) new n node.shape (stay.count ∙ laid.count) each_there
        (λ g i w e i_in. words_stay t s m n laid stays g i w e i_in)
        (λ i i_in. zero_stays t s m n laid stays i i_in)

-- ---- one node by its name

module _ (t : Tree) (p : ℕ) (x : Node) (s : IsSound t) (found : find_node t p ≡ Some x)
    (m n : Memory) (laid : LaysOut t m) where
  -- the node in the frames
  pub laid_cells : NodeIn m x (cells_of (full_rows t x))
  laid_cells = (laid_space t s m laid p x found).node

  named : (x.name == p) ≡ true
  named = eq-eqb x.name p (found_name t p x found)

  -- it is masked, or unmasked
  pub masked_lays : (b : Bool) → NodeIn n (record x { masked = b }) (cells_of (full_rows t x)) × OthersStay x m n
      → IsHeld (with_masked p b t) n
  masked_lays b (node, stay) =
      let sound : IsSound (with_masked p b t) = masked-sound p b t s in (
        sound,
        control_lays (masked_node p b) t (λ z. refl) s sound p x found
            (λ z ne. rw (ne_eqb z.name p ne)) m n laid
            (rw named node) stay,
      )

  -- other lines are pending in the root
  pub pending_lays : p ≡ t.root.name → (js : List ℕ) → AreLines 0 js → NodeIn n (record x { pending = js })
      (cells_of (full_rows t x)) × OthersStay x m n → LaysOut (with_pending js t) n
  pending_lays e js is (node, stay) =
      control_lays (lines_in t.root.name js) t (λ z. refl) s (pending-sound js t is s) p x found
      (λ z ne. rw (ne_eqb z.name t.root.name (λ q. ne (q ∙ sym e)))) m n laid
      (simp (← e, named) node) stay

-- ---- the mask of the root as it is

masked_in : (n : ℕ) (b : Bool) (xs : List Node) → ((x : Node) → In x xs → x.name ≢ n) → map (masked_node n b) xs ≡ xs
masked_in n b [] apart = refl
masked_in n b (x ∷ xs) apart = ap₂ (λ z zs. z ∷ zs) (rw (ne_eqb x.name n (apart x (inl refl))))
    (masked_in n b xs (λ y i. apart y (inr i)))

pub masked_same : (t : Tree) → IsSound t → with_masked t.root.name t.root.masked t ≡ t
masked_same t s =
    let root : masked_node t.root.name t.root.masked t.root ≡ t.root =
    rw (eq-eqb t.root.name t.root.name refl) in
    λ i. record {
      frames = t.frames;
      root = root i;
      others = masked_in t.root.name t.root.masked t.others (λ x j e. not_root t s x j (sym e)) i;
      words = t.words;
    }

-- a caller other than the root leaves it
pub unmasked_other : (t : Tree) → IsSound t → (m : Memory) (p : ℕ) → p ≢ t.root.name → LaysOut t m
    → LaysOut (with_masked t.root.name (cond (p == t.root.name) false t.root.masked) t) m
unmasked_other t s m p ne laid = rw (ne_eqb p t.root.name ne) (subst (λ u. LaysOut u m) (sym (masked_same t s)) laid)

pub unmasked_root : (t : Tree) (m : Memory) (p : ℕ) → p ≡ t.root.name → LaysOut (with_masked p false t) m
    → LaysOut (with_masked t.root.name (cond (p == t.root.name) false t.root.masked) t) m
unmasked_root t m p e laid = rw (eq-eqb p t.root.name e) (subst (λ n. LaysOut (with_masked n false t) m) e laid)

-- the root is in the tree, by its name
pub root_there : (t : Tree) → IsSound t → find_node t 1 ≡ Some t.root
root_there t s = subst (λ k. find_node t k ≡ Some t.root) (root_is_one t s) (root_found t)

pub root_stands : (t : Tree) → IsSound t → (m : Memory) → LaysOut t m → HasPartition m 1
root_stands t s m laid = record { tree = t; node = t.root; sound = s; laid = laid; found = root_there t s }
