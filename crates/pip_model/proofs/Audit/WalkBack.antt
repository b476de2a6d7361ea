-- Where frames lay out a sound tree, the whole of it is read off them, up to the order of its nodes.
use Rattle.std.proofs.Common.{◌≡◌, ℕ, zero, suc, ◌+◌, ◌≤◌, ◌<◌, ◌⊎◌, inl, inr, Bool, true, false, cond, List, [], ◌∷◌}
use Rattle.std.proofs.Common.{◌++◌, map, length, refl, sym, ap, ◌∙◌, subst, arith, append_assoc, None}
use Rattle.std.specs.List.{list_any}
use Rattle.std.proofs.Math.Dec.{eqb}
use Rattle.std.proofs.lemmas.Map.Steps.{length-le_from_distinct_below}
use Rattle.pip_model.specs.Layout.{LaysOut}
use Rattle.pip_model.specs.Lists.{Distinct, In, has}
use Rattle.pip_model.specs.ReadOff.{Complete, Reading, Stopped, Visit, node_read, node_stop, reading_unless, visits}
use Rattle.pip_model.specs.ReadOff.{walk}
use Rattle.pip_model.specs.Sound.{IsRooted, IsSound}
use Rattle.pip_model.specs.Tree.{Node, Tree, config, names_of, nodes, row_pages}
use Rattle.pip_model.proofs.Trees.Ancestors.{name-config, not_root, same_name}
use Rattle.pip_model.proofs.Trees.Depth.{any_member, distinct_by_test}
use Rattle.pip_model.proofs.Trees.Lookup.{root_up}
use Rattle.pip_model.proofs.OnLists.Members.{Distinct-insert}
use Rattle.pip_model.proofs.OnLists.Members.{In-append_cases, In-append_left, In-append_right, In-map_from, has_in}
use Rattle.pip_model.proofs.OnLists.Members.{map_append}
use Rattle.pip_model.proofs.Audit.NodeBack.{node_back, node_passes}
use Rattle.pip_model.proofs.Trees.Numbers.{page_small}
use Rattle.pip_model.proofs.Audit.VisitsBack.{child_visited, visit_child, visits_differ}

pub Distinct-append : (xs ys : List ℕ) → Distinct xs → Distinct ys → ((g : ℕ) → In g xs → In g ys → ⊥)
    → Distinct (xs ++ ys)
Distinct-append [] ys d e h = e
Distinct-append (x ∷ xs) ys d e h = (
  (λ i. elim (In-append_cases x xs ys i) [ inl j ↦ d.0 j | inr j ↦ h x (inl refl) j ]),
  Distinct-append xs ys d.1 e (λ g i j. h g (inr i) j),
)

not_had : (xs : List ℕ) (x : ℕ) → (In x xs → ⊥) → has xs x ≡ false
not_had xs x n = go (has xs x) refl
  where
    go : (b : Bool) → has xs x ≡ b → b ≡ false
    go true e = absurd (n (has_in x xs e))
    go false e = refl

abbrev pages_of : List Visit → List ℕ
pages_of vs = map (λ v. v.page) vs

-- the pages that are or will be read after the root
abbrev ahead : List Visit → List Node → List ℕ
ahead vs others = pages_of vs ++ names_of others

pages_append : (vs ws : List Visit) → pages_of (vs ++ ws) ≡ pages_of vs ++ pages_of ws
pages_append vs ws = map_append (λ v. v.page) vs ws

-- the visits a, then b, and the names c, where g was before b and is before c now
once_moved : (g : ℕ) (a b c : List ℕ) → Distinct a → Distinct (g ∷ b ++ c) → ((p : ℕ) → In p a → In p (g ∷ b ++ c) → ⊥)
    → Distinct ((a ++ b) ++ g ∷ c)
once_moved g a b c d e apart =
    Distinct-insert g (a ++ b) c
    (rw (append_assoc a b c) (Distinct-append a (b ++ c) d e.1 (λ p i j. apart p i (inr j))))
    (λ i. elim (In-append_cases g (a ++ b) c i) [
      | inr j ↦ e.0 (In-append_right g b c j)
      | inl j ↦ elim (In-append_cases g a b j) [ inl k ↦ apart g k (inl refl) | inr k ↦ e.0 (In-append_left g b c k) ]
    ])

-- a page that was there before is there now
kept_moved : (g p : ℕ) (a b c : List ℕ) → In p (g ∷ b ++ c) → In p ((a ++ b) ++ g ∷ c)
kept_moved g p a b c (inl e) = In-append_right p (a ++ b) (g ∷ c) (inl e)
kept_moved g p a b c (inr i) = elim (In-append_cases p b c i) [
  | inl j ↦ In-append_left p (a ++ b) (g ∷ c) (In-append_right p a b j)
  | inr j ↦ In-append_right p (a ++ b) (g ∷ c) (inr j)
]

-- and a page that is there now was there before, or is new
moved_back : (g p : ℕ) (a b c : List ℕ) → In p ((a ++ b) ++ g ∷ c) → In p a ⊎ In p (g ∷ b ++ c)
moved_back g p a b c i = elim (In-append_cases p (a ++ b) (g ∷ c) i) [
  | inl j ↦ elim (In-append_cases p a b j) [ inl k ↦ inl k | inr k ↦ inr (inr (In-append_left p b c k)) ]
  | inr (inl e) ↦ inr (inl e)
  | inr (inr j) ↦ inr (inr (In-append_right p b c j))
]

-- one more name among those that were read
later : (q p : ℕ) (root : Node) (others : List Node) (y : Node) → In p (names_of (root ∷ others))
    → In p (names_of (root ∷ y ∷ others))
later q p root others y (inl e) = inl e
later q p root others y (inr i) = inr (inr i)

module _ (t : Tree) (s : IsSound t) (m : List (List ℕ)) (lays : LaysOut t m) where
  -- what holds at each step
  record Going (vs : List Visit) (others : List Node) : Type 0 where
    read : (z : Node) → In z others → In z t.others
    told : (v : Visit) → In v vs → (y : Node) × In y t.others × (y.name ≡ v.page)
    once : Distinct (ahead vs others)
    parents : (z : Node) → In z t.others → In z.name (ahead vs others) → In z.up (names_of (t.root ∷ others))
    closed : (z : Node) → In z t.others → In z.up (names_of (t.root ∷ others)) → In z.name (ahead vs others)
    rooted : IsRooted t.root others

  one_name : (y z : Node) → In y t.others → In z t.others → y.name ≡ z.name → y ≡ z
  one_name y z i j e = same_name t y z s (inr i) (inr j) e

  -- whose name is visited from x is a child of x
  visited_up : (x z : Node) → In x (nodes t) → In z t.others → In z.name (pages_of (visits m x)) → z.up ≡ x.name
  unfolding one_name
  visited_up x z i j h =
      let (v, k, e) = In-map_from (λ v. v.page) z.name (visits m x) h in
      let (y, l, u, n) = visit_child t s m lays x i v k in
      rw (← one_name y z l j (n ∙ sym e), u)

  begins : Going (visits m t.root) []
  begins = record {
    read = λ z i. absurd i;
    told = λ v i. let (y, j, u, e) = visit_child t s m lays t.root (inl refl) v i in (y, j, e);
    once = Distinct-append (pages_of (visits m t.root)) [] (visits_differ t s m lays t.root (inl refl)) tt (λ g i j. j);
    parents = λ z i h. inl (elim (In-append_cases z.name (pages_of (visits m t.root)) [] h)
        [ inl j ↦ visited_up t.root z (inl refl) i j | inr j ↦ absurd j ]);
    closed = λ z i h. In-append_left z.name (pages_of (visits m t.root))
        [] (child_visited t s m lays t.root (inl refl) z i (elim h [ inl e ↦ e | inr j ↦ absurd j ]));
    rooted = root_up t s;
  }

  -- the node that is visited next was not read, and no child of it is visited yet
  not_read : (v : Visit) (vs : List Visit) (others : List Node) (y : Node) → In y t.others → y.name ≡ v.page
      → Going (v ∷ vs) others → In y.name (names_of (t.root ∷ others)) → ⊥
  not_read v vs others y i n g (inl e) = not_root t s y i (sym e)
  not_read v vs others y i n g (inr j) =
      g.once.0 (In-append_right v.page (pages_of vs) (names_of others) (rw (← n) j))

  fresh : (v : Visit) (vs : List Visit) (others : List Node) (y : Node) → In y t.others → y.name ≡ v.page
      → Going (v ∷ vs) others → (p : ℕ) → In p (pages_of (visits m y)) → In p (ahead (v ∷ vs) others) → ⊥
  unfolding not_read
  fresh v vs others y i n g p j h =
      let (w, k, e) = In-map_from (λ v. v.page) p (visits m y) j in
      let (c, l, u, q) = visit_child t s m lays y (inr i) w k in
      let up : In c.up (names_of (t.root ∷ others)) =
      g.parents c l (subst (λ k. In k (ahead (v ∷ vs) others)) (e ∙ sym q) h) in
      not_read v vs others y i n g (subst (λ k. In k (names_of (t.root ∷ others))) u up)

  -- one more node
  goes_on : (v : Visit) (vs : List Visit) (others : List Node) (y : Node) → In y t.others → y.name ≡ v.page
      → Going (v ∷ vs) others → Going (visits m y ++ vs) (y ∷ others)
  unfolding not_read fresh visited_up
  goes_on v vs others y i n g =
      let pages = pages_append (visits m y) vs in
      let here : Distinct (y.name ∷ pages_of vs ++ names_of others) =
      rw n g.once in
      record {
        read = λ z j. elim j [ inl e ↦ rw e i | inr k ↦ g.read z k ];
        told = λ w j. elim (In-append_cases w (visits m y) vs j) [
          | inl k ↦ let (z, l, u, e) = visit_child t s m lays y (inr i) w k in (z, l, e)
          | inr k ↦ g.told w (inr k)
        ];
        once = rw pages (once_moved y.name (pages_of (visits m y)) (pages_of vs) (names_of others)
            (visits_differ t s m lays y (inr i)) here
            (λ p a b. fresh v vs others y i n g p a (subst (λ k. In p (k ∷ pages_of vs ++ names_of others)) n b)));
        parents = λ z j h. elim (moved_back y.name z.name (pages_of (visits m y)) (pages_of vs) (names_of others)
            (rw (← pages) h)) [
              | inl a ↦ inr (inl (visited_up y z (inr i) j a))
              | inr a ↦ later 0 z.up t.root others y
                  (g.parents z j (rw (← n) a))
            ];
        closed = λ z j h. rw pages (closing z j h);
        rooted = (not_read v vs others y i n g, g.parents y i (inl n), g.rooted);
      }
    where
      old : (z : Node) → In z.name (v.page ∷ pages_of vs ++ names_of others)
          → In z.name ((pages_of (visits m y) ++ pages_of vs) ++ y.name ∷ names_of others)
      old z a = kept_moved y.name z.name (pages_of (visits m y)) (pages_of vs) (names_of others)
          (rw n a)

      closing : (z : Node) → In z t.others → In z.up (names_of (t.root ∷ y ∷ others))
          → In z.name ((pages_of (visits m y) ++ pages_of vs) ++ y.name ∷ names_of others)
      closing z j (inl e) = old z (g.closed z j (inl e))
      closing z j (inr (inl e)) =
          In-append_left z.name (pages_of (visits m y) ++ pages_of vs) (y.name ∷ names_of others)
          (In-append_left z.name (pages_of (visits m y)) (pages_of vs) (child_visited t s m lays y (inr i) z j e))
      closing z j (inr (inr k)) = old z (g.closed z j (inr k))

  -- at the end all was read
  all_read : (others : List Node) → Going [] others → (xs : List Node) → IsRooted t.root xs
      → ((z : Node) → In z xs → In z t.others) → (z : Node) → In z xs → In z.name (names_of others)
  all_read others g [] r n z i = absurd i
  all_read others g (x ∷ xs) r n z (inr i) = all_read others g xs r.2 (λ v j. n v (inr j)) z i
  all_read others g (x ∷ xs) r n z (inl e) =
      let ih = all_read others g xs r.2 (λ v j. n v (inr j)) in
      rw e (g.closed x (n x (inl refl)) (elim r.1 [
        | inl q ↦ inl q
        | inr k ↦ let (p, l, q) =
            In-map_from (λ z. z.name) x.up xs k in inr (subst (λ k. In k (names_of others)) (sym q) (ih p l))
      ]))

  -- the names that were read are frames, so they are not more than frames
  few_read : (v : Visit) (vs : List Visit) (others : List Node) → Going (v ∷ vs) others → suc (length others) ≤ t.frames
  few_read v vs others g =
      let e = lengths (v.page ∷ names_of others) in
      rw (← named others) (length-le_from_distinct_below (v.page ∷ names_of others) t.frames
      (distinct_by_test (v.page ∷ names_of others) apart) small)
    where
      lengths : (xs : List ℕ) → length xs ≡ length xs
      lengths xs = refl

      named : (xs : List Node) → length (names_of xs) ≡ length xs
      named [] = refl
      named (x ∷ xs) = rw (named xs)

      second : (a b : List ℕ) → Distinct (a ++ b) → Distinct b
      second [] b d = d
      second (x ∷ a) b d = second a b d.1

      apart : Distinct (v.page ∷ names_of others)
      apart = (
        (λ i. g.once.0 (In-append_right v.page (pages_of vs) (names_of others) i)),
        second (pages_of vs) (names_of others) g.once.1,
      )

      frame : (z : Node) → In z t.others → z.name < t.frames
      frame z j =
          page_small t z.name s z (inr j) (In-append_left z.name (config z) (row_pages z) (name-config t s z (inr j)))

      of_member : (q : ℕ) → In q (v.page ∷ names_of others) → q < t.frames
      of_member q (inl e) = let (y, j, n) = g.told v (inl refl) in rw (e, ← n) (frame y j)
      of_member q (inr i) = let (z, j, e) = In-map_from (λ z. z.name) q others i in
          rw e (frame z (g.read z j))

      small : (q : ℕ) → list_any (eqb q) (v.page ∷ names_of others) ≡ true → q < t.frames
      small q h = of_member q (any_member q (v.page ∷ names_of others) h)

  pub record AllRead (r : Reading) : Type 0 where
    pub others : List Node
    pub complete : r ≡ Complete others
    pub rooted : IsRooted t.root others
    pub to : (z : Node) → In z others → In z t.others
    pub from : (z : Node) → In z t.others → In z others

  walks : (n : ℕ) (vs : List Visit) (others : List Node) → n + length others ≡ t.frames → Going vs others
      → AllRead (walk m t.root n vs others)
  unfolding walk one_name all_read few_read goes_on not_read
  walks zero [] others e g = finished zero others g refl
    where
      finished : (n : ℕ) (others : List Node) → Going [] others → walk m t.root n [] others ≡ Complete others
          → AllRead (walk m t.root n [] others)
      finished n others g e = record {
        others = others;
        complete = e;
        rooted = g.rooted;
        to = g.read;
        from = λ z i. let (y, j, q) = In-map_from (λ z. z.name) z.name others
            (all_read others g t.others s.parents_come_first (λ v k. k) z i) in
            rw (← one_name y z (g.read y j) i (sym q)) j;
      }
  walks (suc n) [] others e g = finished (suc n) others g refl
    where
      finished : (n : ℕ) (others : List Node) → Going [] others → walk m t.root n [] others ≡ Complete others
          → AllRead (walk m t.root n [] others)
      finished n others g e = record {
        others = others;
        complete = e;
        rooted = g.rooted;
        to = g.read;
        from = λ z i. let (y, j, q) = In-map_from (λ z. z.name) z.name others
            (all_read others g t.others s.parents_come_first (λ v k. k) z i) in
            rw (← one_name y z (g.read y j) i (sym q)) j;
      }
  walks zero (v ∷ vs) others e g = let few = few_read v vs others g in absurd (omega (arith, e, few))
  walks (suc n) (v ∷ vs) others e g =
      let (y, i, name) = g.told v (inl refl) in
      let off : has (names_of (t.root ∷ others)) v.page ≡ false = not_had (names_of (t.root ∷ others)) v.page
      (λ j. not_read v vs others y i name g (subst (λ k. In k (names_of (t.root ∷ others))) (sym name) j)) in
      let node : node_read m v.page ≡ y = ap (node_read m) (sym name) ∙ node_back t s m lays y (inr i) in
      let passes : node_stop m v.page ≡ None = ap (node_stop m) (sym name) ∙ node_passes t s m lays y (inr i) in
      let rest = walks n (visits m y ++ vs) (y ∷ others) (omega (arith, e)) (goes_on v vs others y i name g) in
      let step : walk m t.root (suc n) (v ∷ vs) others ≡ walk m t.root n (visits m y ++ vs) (y ∷ others) =
      ap (λ b. cond b (Stopped v.told) (reading_unless (node_stop m v.page)
      (walk m t.root n (visits m (node_read m v.page) ++ vs) (node_read m v.page ∷ others)))) off
      ∙ ap (λ o.
      reading_unless o (walk m t.root n (visits m (node_read m v.page) ++ vs) (node_read m v.page ∷ others))) passes
      ∙ ap (λ x. walk m t.root n (visits m x ++ vs) (x ∷ others)) node in
      subst AllRead (sym step) rest

  pub tree_walks : AllRead (walk m t.root t.frames (visits m t.root) [])
  unfolding walks begins
  tree_walks = walks t.frames (visits m t.root) [] (omega arith) begins
