-- Part 5 of soundness, by the set of what was met of the children of each parent.
use Rattle.std.proofs.Common.{◌≡◌, ◌≢◌, ℕ, ◌+◌, ◌<◌, ◌≤◌, ◌==◌, ◌&&◌, ◌||◌, ◌⊎◌, inl, inr, List, [], ◌∷◌, refl, sym, ap}
use Rattle.std.proofs.Common.{◌∙◌, subst, arith, Bool, true, false, not, eq-eqb, ne_eqb, eqb-true}
use Rattle.std.specs.Prelude.{if◌then◌else◌, slice_index}
use Rattle.std.proofs.lemmas.Bool.{cases_eq, cases_lt}
use Rattle.pip_base.specs.Memory.{Memory, word_at}
use Rattle.pip_model.specs.Lists.{In, has, repeats}
use Rattle.pip_model.specs.Parts.{part_parents_come_first, part_pages_apart, part_siblings_apart}
use Rattle.pip_model.specs.ReadOff.{node_read}
use Rattle.pip_model.specs.Sound.{IsRooted}
use Rattle.pip_model.specs.Tree.{Node, held_pages, names_of}
use Rattle.pip_model.proofs.OnLists.Members.{in_has}
use Rattle.pip_model.proofs.Audit.PartTests.{dec_distinct, tests_parents_come_first, tests_pages_apart}
use Rattle.pip_model.proofs.Audit.PartTests.{tests_siblings_apart}
use Rattle.pip_audit.specs.declared.auditor.Auditor.{Auditor}
use Rattle.pip_audit.specs.FrameSets.{are_fresh, with_all}
use Rattle.pip_audit.specs.Judging.{TellsApart, held_at_place, held_by}
use Rattle.pip_audit.specs.Reading.{AreNames, IsRead, tree_read}
use Rattle.pip_audit.proofs.EachNode.{apart_names, known_at, node_at, nodes_are, name_is, up_is}
use Rattle.pip_audit.proofs.Walks.{names_count}

-- ---- tests

or_right : (a : Bool) {b : Bool} → b ≡ true → (a || b) ≡ true
or_right true e = refl
or_right false e = e

or_left : {a : Bool} (b : Bool) → a ≡ true → (a || b) ≡ true
or_left b e = ap (λ x. x || b) e

either : (a b : Bool) → (a || b) ≡ true → (a ≡ true) ⊎ (b ≡ true)
either true b e = inl refl
either false b e = inr e

neither : (a b : Bool) → (a || b) ≡ false → b ≡ false
neither true b e = cc
neither false b e = e

untrue : (b : Bool) → (b ≡ true → ⊥) → b ≡ false
untrue true h = absurd (h refl)
untrue false h = refl

-- ---- sets and members

pub with_old : (a : ℕ → Bool) (gs : List ℕ) (f : ℕ) → a f ≡ true → with_all a gs f ≡ true
with_old a [] f e = e
with_old a (g ∷ gs) f e = with_old (λ h. h == g || a h) gs f (or_right (f == g) e)

pub with_new : (a : ℕ → Bool) (gs : List ℕ) (f : ℕ) → In f gs → with_all a gs f ≡ true
with_new a [] f i = absurd i
with_new a (g ∷ gs) f (inl q) = with_old (λ h. h == g || a h) gs f (or_left (a f) (eq-eqb f g q))
with_new a (g ∷ gs) f (inr i) = with_new (λ h. h == g || a h) gs f i

pub with_from : (a : ℕ → Bool) (gs : List ℕ) (f : ℕ) → with_all a gs f ≡ true → (a f ≡ true) ⊎ In f gs
with_from a [] f e = inl e
with_from a (g ∷ gs) f e = elim (with_from (λ h. h == g || a h) gs f e) [
  | inl q ↦ elim (either (f == g) (a f) q) [ inl s ↦ inr (inl (eqb-true f g s)) | inr t ↦ inl t ]
  | inr i ↦ inr (inr i)
]

pub fresh_out : (a : ℕ → Bool) (gs : List ℕ) → are_fresh a gs ≡ true → (g : ℕ) → In g gs → a g ≡ false
fresh_out a [] e g i = absurd i
fresh_out a (x ∷ xs) e g (inl q) = ap a q ∙ first (a x) (are_fresh (λ f. f == x || a f) xs) e
  where
    first : (p r : Bool) → (not p && r) ≡ true → p ≡ false
    first true r e = cc
    first false r e = refl
fresh_out a (x ∷ xs) e g (inr i) =
    neither (g == x) (a g) (fresh_out (λ f. f == x || a f) xs (second (a x) (are_fresh (λ f. f == x || a f) xs) e) g i)
  where
    second : (p r : Bool) → (not p && r) ≡ true → r ≡ true
    second true r e = cc
    second false r e = e

pub fresh_breaks : (a : ℕ → Bool) (gs : List ℕ) → are_fresh a gs ≡ false
    → ((g : ℕ) × In g gs × (a g ≡ true)) ⊎ (repeats gs ≡ true)
fresh_breaks a [] e = cc
fresh_breaks a (x ∷ xs) e = elim (split (a x) (are_fresh (λ f. f == x || a f) xs) e) [
  | inl q ↦ inl (x, inl refl, q)
  | inr r ↦ elim (fresh_breaks (λ f. f == x || a f) xs r) [
    | inl t ↦ elim (either (t.0 == x) (a t.0) t.2) [
      | inl s ↦ inr (or_left (repeats xs) (in_has x xs (subst (λ z. In z xs) (eqb-true t.0 x s) t.1)))
      | inr u ↦ inl (t.0, inr t.1, u)
    ]
    | inr t ↦ inr (or_right (has xs x) t)
  ]
]
  where
    split : (p r : Bool) → (not p && r) ≡ false → (p ≡ true) ⊎ (r ≡ false)
    split true r e = inl refl
    split false r e = inr e

-- ---- one child after the other

-- what is marked when those up to this place were gone through: what each of them holds (h), and that is apart
pub record SoFar (h : ℕ → List ℕ) (end : ℕ) (a : ℕ → Bool) : Type 0 where
  pub from : (g : ℕ) → a g ≡ true → (j : ℕ) × (1 ≤ j) × (j < end) × In g (h j)
  pub met : (g j : ℕ) → 1 ≤ j → j < end → In g (h j) → a g ≡ true
  pub apart : (j k : ℕ) → 1 ≤ j → j < k → k < end → (g : ℕ) → In g (h j) → In g (h k) → ⊥

module _ (h : ℕ → List ℕ) (x : ℕ) (a : ℕ → Bool) (s : SoFar h x a) (one : 1 ≤ x) where
  pub so_far_next : (b : ℕ → Bool) → are_fresh a (h x) ≡ true → ((f : ℕ) → b f ≡ with_all a (h x) f)
      → SoFar h (x + 1) b
  so_far_next b fresh new = record {
    from = λ g e. elim (with_from a (h x) g (sym (new g) ∙ e)) [
      | inl q ↦ let r = s.from g q in let less = r.2 in (r.0, r.1, omega (arith, less), r.3)
      | inr i ↦ (x, one, omega arith, i)
    ];
    met = λ g j lo hi i. elim (cases_eq j x) [
      | inl q ↦ new g ∙ with_new a (h x) g (subst (λ k. In g (h k)) q i)
      | inr ne ↦ new g ∙ with_old a (h x) g (s.met g j lo (omega (arith, hi, ne)) i)
    ];
    apart = λ j k lo less hi g p q. elim (cases_eq k x) [
      | inl e ↦ clash (sym (s.met g j lo (omega (arith, less, e)) p)
          ∙ fresh_out a (h x) fresh g (subst (λ z. In g (h z)) e q))
      | inr ne ↦ s.apart j k lo less (omega (arith, hi, ne)) g p q
    ];
  }
    where
      clash : true ≡ false → ⊥
      clash e = cc

  pub so_far_stop : are_fresh a (h x) ≡ false
      → ((j : ℕ) × (g : ℕ) × (1 ≤ j) × (j < x) × In g (h j) × In g (h x)) ⊎ (repeats (h x) ≡ true)
  so_far_stop old = elim (fresh_breaks a (h x) old) [
    | inl t ↦ let r = s.from t.0 t.2 in inl (r.0, t.0, r.1, r.2, r.3, t.1)
    | inr t ↦ inr t
  ]

-- nothing is marked
pub so_far_none : (h : ℕ → List ℕ) (a : ℕ → Bool) → ((g : ℕ) → a g ≡ false) → SoFar h 1 a
so_far_none h a none = record {
  from = λ g e. absurd (cc (none g));
  met = λ g j lo hi. absurd (omega (arith, lo, hi));
  apart = λ j k lo less hi. absurd (omega (arith, lo, less, hi));
}

-- places where nothing is held are passed
pub so_far_pass : (h : ℕ → List ℕ) (x y : ℕ) (a : ℕ → Bool) → x ≤ y → ((j : ℕ) → x ≤ j → j < y → h j ≡ []) → SoFar h x a
    → SoFar h y a
so_far_pass h x y a below none s = record {
  from = λ g e. let (j, one, less, i) = s.from g e in (j, one, omega (arith, less, below), i);
  met = λ g j lo hi i. s.met g j lo (inside g j hi i) i;
  apart = λ j k lo less hi g p q. s.apart j k lo less (inside g k hi q) g p q;
}
  where
    inside : (g j : ℕ) → j < y → In g (h j) → j < x
    inside g j hi i = elim (cases_lt j x) [
      | inl less ↦ less
      | inr more ↦ absurd (subst (In g) (none j more hi) i)
    ]

-- ---- what a child holds

pub held_child : (m : Memory) (parent f : ℕ) → word_at m f 11 ≡ parent → held_by m parent f ≡ held_pages (node_read m f)
held_child m parent f e = ap (λ b. if b then held_pages (node_read m f) else []) (eq-eqb (word_at m f 11) parent e)

pub held_stranger : (m : Memory) (parent f : ℕ) → word_at m f 11 ≢ parent → held_by m parent f ≡ []
held_stranger m parent f ne = ap (λ b. if b then held_pages (node_read m f) else []) (ne_eqb (word_at m f 11) parent ne)

child_holds : (m : Memory) (parent f g : ℕ) → In g (held_by m parent f)
    → (word_at m f 11 ≡ parent) × In g (held_pages (node_read m f))
child_holds m parent f g i = elim (cases_eq (word_at m f 11) parent) [
  | inl e ↦ (e, subst (In g) (held_child m parent f e) i)
  | inr ne ↦ absurd (subst (In g) (held_stranger m parent f ne) i)
]

child_repeats : (m : Memory) (parent f : ℕ) → repeats (held_by m parent f) ≡ true
    → repeats (held_pages (node_read m f)) ≡ true
child_repeats m parent f i = elim (cases_eq (word_at m f 11) parent) [
  | inl e ↦ ap repeats (sym (held_child m parent f e)) ∙ i
  | inr ne ↦ none (sym (ap repeats (held_stranger m parent f ne)) ∙ i)
]
  where
    none : false ≡ true → repeats (held_pages (node_read m f)) ≡ true
    none q = cc

-- ---- places of nodes

pub place_of : (names : List ℕ) (count : ℕ) (xs : List Node) → AreNames names count xs → (x : Node) → In x xs
    → (k : ℕ) × (1 ≤ k) × (k < count) × (slice_index names k ≡ x.name)
place_of names count [] h x i = absurd i
place_of names count (y ∷ ys) h x (inl q) =
    let more = h.1 in
    let below = names_count names h.0 ys h.3 in
    (h.0, omega (arith, below), omega (arith, more), h.2 ∙ ap (λ (z : Node). z.name) (sym q))
place_of names count (y ∷ ys) h x (inr i) =
    let more = h.1 in
    let r = place_of names h.0 ys h.3 x i in
    let less = r.2 in
    (r.0, r.1, omega (arith, less, more), r.3)

pub node_in : (m : Memory) (names : List ℕ) (count : ℕ) (xs : List Node) → AreNames names count xs
    → ((x : Node) → In x xs → x ≡ node_read m x.name) → (k : ℕ) → 1 ≤ k → k < count → In (node_at m names k) xs
node_in m names count [] h is k lo hi = let one = h.0 in absurd (omega (arith, lo, hi, one))
node_in m names count (x ∷ xs) h is k lo hi =
    let more = h.1 in
    elim (cases_eq k h.0) [
      | inl q ↦ inl (ap (node_read m) (ap (slice_index names) q ∙ h.2) ∙ sym (is x (inl refl)))
      | inr ne ↦ inr (node_in m names h.0 xs h.3 (λ y i. is y (inr i)) k lo (omega (arith, hi, more, ne)))
    ]

wider : (g a b : ℕ) (gs : List ℕ) → In g (a ∷ gs) → In g (a ∷ b ∷ gs)
wider g a b gs (inl q) = inl q
wider g a b gs (inr i) = inr (inr i)

parent_in : (root : Node) (xs : List Node) → IsRooted root xs → (x : Node) → In x xs → In x.up (names_of (root ∷ xs))
parent_in root [] h x i = absurd i
parent_in root (y ∷ ys) h x (inl q) =
    wider x.up root.name y.name (names_of ys) (subst (λ (z : Node). In z.up (names_of (root ∷ ys))) (sym q) h.1)
parent_in root (y ∷ ys) h x (inr i) = wider x.up root.name y.name (names_of ys) (parent_in root ys h.2 x i)

-- each parent is a node
pub parent_at : (m : Memory) (names : List ℕ) (count : ℕ) (xs : List Node) → AreNames names count xs
    → IsRooted (node_read m 1) xs → (x : Node) → In x xs → (k : ℕ) × (k < count) × (slice_index names k ≡ x.up)
parent_at m names count xs h rooted x i = known_at m names count xs h x.up
    (in_has x.up (names_of (node_read m 1 ∷ xs)) (parent_in (node_read m 1) xs rooted x i))

-- ---- part 5

-- the same of a node, by its place
held_there : (m : Memory) (names : List ℕ) (x : Node) (p k : ℕ) → x ≡ node_read m x.name → slice_index names k ≡ x.name
    → slice_index names p ≡ x.up → held_at_place m names p k ≡ held_pages x
held_there m names x p k is name up =
    let there : x ≡ node_read m (slice_index names k) = is ∙ ap (node_read m) (sym name) in
    held_child m (slice_index names p) (slice_index names k)
    (sym (up_is m (slice_index names k)) ∙ sym (ap (λ (z : Node). z.up) there) ∙ sym up)
    ∙ ap held_pages (sym there)

pub part_siblings_apart_holds : (m : Memory) (a : Auditor) (r : IsRead m a)
    → part_parents_come_first (tree_read m r.others) ≡ true
    → ((y : ℕ) → y < a.count → TellsApart m a.names.items a.count y true)
    → part_siblings_apart (tree_read m r.others) ≡ true
part_siblings_apart_holds m a r one t =
    let h = r.has_read in
    let is = nodes_are m a r.others h in
    (tests_siblings_apart (tree_read m r.others)).from (λ x y i j u ne g p q.
    let k = place_of a.names.items a.count r.others h.names x i in
    let l = place_of a.names.items a.count r.others h.names y j in
    let up = parent_at m a.names.items a.count r.others h.names
    ((tests_parents_come_first (tree_read m r.others)).to one) x i in
    let at_x = subst (In g) (sym (held_there m a.names.items x up.0 k.0 (is x i) k.3 up.2)) p in
    let at_y = subst (In g) (sym (held_there m a.names.items y up.0 l.0 (is y j) l.3 (up.2 ∙ u))) q in
    elim (cases_eq k.0 l.0) [
      | inl e ↦ ne (sym k.3 ∙ ap (slice_index a.names.items) e ∙ l.3)
      | inr far ↦ elim (cases_lt k.0 l.0) [
        | inl less ↦ t up.0 up.1 k.0 l.0 k.1 less l.2 g at_x at_y
        | inr more ↦ t up.0 up.1 l.0 k.0 l.1 (omega (arith, far, more)) k.2 g at_y at_x
      ]
    ])

pub part_siblings_apart_breaks : (m : Memory) (a : Auditor) (r : IsRead m a)
    → part_pages_apart (tree_read m r.others) ≡ true → (y : ℕ)
    → TellsApart m a.names.items a.count y false → part_siblings_apart (tree_read m r.others) ≡ false
part_siblings_apart_breaks m a r three y t =
    let h = r.has_read in
    let is = nodes_are m a r.others h in
    let names = a.names.items in
    let k = t.0 in
    let at_k = node_in m names a.count r.others h.names is k t.1 t.2 in
    untrue (part_siblings_apart (tree_read m r.others)) (λ e. elim t.3 [
      | inl c ↦
          let less = c.3 in
          let far = t.2 in
          let at_j = node_in m names a.count r.others h.names is c.0 c.2 (omega (arith, less, far)) in
          let p = child_holds m (slice_index names y) (slice_index names c.0) c.1 c.4 in
          let q = child_holds m (slice_index names y) (slice_index names k) c.1 c.5 in
          (tests_siblings_apart (tree_read m r.others)).to e (node_at m names c.0) (node_at m names k) at_j at_k
          (up_is m (slice_index names c.0) ∙ p.0 ∙ sym q.0 ∙ sym (up_is m (slice_index names k)))
          (λ s. apart_names m a r.others h c.0 k less far
          (sym (name_is m (slice_index names c.0)) ∙ s ∙ name_is m (slice_index names k)))
          c.1 p.1 q.1
      | inr c ↦
          let d = ((tests_pages_apart (tree_read m r.others)).to three (node_at m names k) (inr at_k)).pages in
          clash (repeats (held_pages (node_at m names k))) (child_repeats m (slice_index names y) (slice_index names k)
          c) ((dec_distinct (held_pages (node_at m names k))).from d)
    ])
  where
    clash : (b : Bool) → b ≡ true → not b ≡ true → ⊥
    clash true p q = cc
    clash false p q = cc
