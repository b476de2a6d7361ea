-- Two trees that agree below p, and what is the same in both.
use Rattle.std.proofs.Common.{◌≡◌, ◌≢◌, ℕ, ◌<◌, ◌==◌, ◌↔◌, inl, inr, Bool, true, false, cond, List, ◌∷◌, refl, sym, ap}
use Rattle.std.proofs.Common.{◌∙◌, subst, Option, Some, None}
use Rattle.std.specs.Prelude.{is_none, unwrap_or, option_map}
use Rattle.pip_base.specs.declared.outcome.Status.{Status}
use Rattle.pip_base.specs.declared.outcome.Status.TheVariants as S
use Rattle.pip_model.specs.Ancestors.{Above, further, parent}
use Rattle.pip_model.specs.Answers.{Answer, answer_unless, child_name, child_of, first_met, no_child, nobody, page_of}
use Rattle.pip_model.specs.Answers.{words_without}
use Rattle.pip_model.specs.Lists.{In, has}
use Rattle.pip_model.specs.Local.{IsBelow}
use Rattle.pip_model.specs.Sound.{IsSound}
use Rattle.pip_model.specs.Tree.{change_at, change_node, Node, Tree, ancestry, child_at, children, config, free, hidden}
use Rattle.pip_model.specs.Tree.{holder, names_of, node, nodes, on_nodes, page_at, row_pages, vpage, word_of}
use Rattle.pip_model.specs.Worlds.{masked_node, with_masked}
use Rattle.pip_model.proofs.Trees.ChangeNode.{change-else, change-keeps, with_child}
use Rattle.pip_model.proofs.OnLists.Members.{In-append_left, In-append_right, In-map, In-map_from, In-filter}
use Rattle.pip_model.proofs.OnLists.Members.{In-filter_from}
use Rattle.pip_model.proofs.Trees.Ancestors.{name_in, same_name, holds_up, row_above, name-config, not_both}
use Rattle.pip_model.proofs.Trees.Free.{IsName, node_found, tests_agree, hidden_from, hidden_by}
use Rattle.pip_model.proofs.Trees.Children.{child_in, named_child}
use Rattle.pip_model.proofs.Locality.Reads.{child_at_same, holder_same, free_same}
use Rattle.pip_model.proofs.Trees.Ancestry.{own_ancestry, over_ancestry, ancestry_over, ancestry_trans, ancestry_down}
use Rattle.pip_model.proofs.Trees.Ancestry.{other_in, ancestry_in, node_on, not_own_parent, named_node, child_below}

-- two trees that agree below p
pub record AgreeTrees (p : ℕ) (t u : Tree) : Type 0 where
  pub to : (x : Node) → IsBelow t p x → IsBelow u p x
  pub from : (x : Node) → IsBelow u p x → IsBelow t p x
  pub words : (g i : ℕ) → In g (row_pages (node t p)) → i < 1024 → word_of (u.words g) i ≡ word_of (t.words g) i

-- two answers that are the same, with trees that agree
pub record AgreeAnswers (p : ℕ) (a b : Answer) : Type 0 where
  pub status : a.status ≡ b.status
  pub value : a.value ≡ b.value
  pub tree : AgreeTrees p a.tree b.tree

-- two sound trees that agree below p, which both have
pub record Agreeing (p : ℕ) (t u : Tree) : Type 0 where
  pub sound : IsSound t
  pub sound' : IsSound u
  pub name : IsName t p
  pub trees : AgreeTrees p t u

above_agrees : (t u : Tree) (p : ℕ) → IsSound t → IsSound u → ((x : Node) → IsBelow t p x → IsBelow u p x)
    → (y x : Node) → Above t y x → IsBelow t p y → IsBelow t p x × Above u y x
above_agrees t u p s r to y x (parent i j e) b =
    let bx : IsBelow t p x = (inr i, ancestry_down t s x y i e p b.1) in
    (bx, parent (other_in t u s r x i (to x bx).0) (to y b).0 e)
above_agrees t u p s r to y x (further {z = z} i j e a) b =
    let h = above_agrees t u p s r to y z a b in
    let bx : IsBelow t p x = (inr i, ancestry_down t s x z i e p h.0.1) in
    (bx, further (other_in t u s r x i (to x bx).0) (to z h.0).0 e h.1)

-- no node is above itself
pub above-acyclic : (t : Tree) → IsSound t → (x : Node) → In x (nodes t) → Above t x x → ⊥
above-acyclic t s x i a = not_both t x.name s x i (name-config t s x i)
    (holds_up t x.name s x x a (In-append_left x.name (config x) (row_pages x) (name-config t s x i)))

-- ancestors by the chain of parents
pub above_is_ancestry : (t : Tree) (x y : Node) → IsSound t → In x (nodes t) → In y (nodes t)
    → Above t y x ↔ (y.name ≢ x.name) × In y.name (ancestry t x.name)
above_is_ancestry t x y s i j = (
  (λ a. (
    (λ e. above-acyclic t s x i (rw (same_name t y x s j i e) at a)),
    over_ancestry t s y x j (inr a),
  )),
  (λ h.
      let (z, k, e, o) = ancestry_over t s x i y.name h.1 in
      elim o [
        | inl d ↦ absurd (h.0 (rw (← e, d)))
        | inr a ↦ rw (← same_name t z y s k j e) a
      ]),
)

-- a child is not above its parent
pub child_not_above : (t : Tree) (p : ℕ) → IsSound t → IsName t p → (c : Node) → In c t.others → c.up ≡ p
    → In c.name (ancestry t p) → ⊥
child_not_above t p s n c i u h =
    let f = node_found t p n in
    let (z, j, e, o) = ancestry_over t s (node t p) f.0 c.name (rw f.1 h) in
    let q : z ≡ c = same_name t z c s j (inr i) e in
    elim o [
      | inl d ↦ not_own_parent t s c i (rw (u, ← f.1, ← d, q))
      | inr a ↦ above-acyclic t s c (inr i) (further i f.0 (cc (f.1)) (rw (← q) a))
    ]

pub kids_to : (t u : Tree) (p : ℕ) → IsSound t → IsSound u → IsName t p → ((x : Node) → IsBelow t p x → IsBelow u p x)
    → (x : Node) → In x (children t p) → In x (children u p)
kids_to t u p s r n to x i =
    let k = In-filter_from (λ x. x.up == p) x t.others i in
    let b = to x (child_below t p s n x i) in
    In-filter (λ x. x.up == p) x u.others (other_in t u s r x k.0 b.0) k.1

module _ (t u : Tree) (p : ℕ) (s : IsSound t) (r : IsSound u) (n : IsName t p) (a : AgreeTrees p t u) where
  pub own_below : IsBelow t p (node t p)
  own_below = let f = node_found t p n in
      (f.0, subst (λ q. In q (ancestry t (node t p).name)) f.1 (own_ancestry t s (node t p) f.0))

  pub is_name : IsName u p
  is_name = subst (λ q. In q (names_of (nodes u))) (node_found t p n).1
      (name_in (node t p) (nodes u) (a.to (node t p) own_below).0)

  pub node_same : node t p ≡ node u p
  node_same = sym (named_node u p r (node t p) (a.to (node t p) own_below).0 (node_found t p n).1)

below_to : (t u : Tree) (p : ℕ) → IsSound t → IsSound u → ((x : Node) → IsBelow t p x → IsBelow u p x) → (c : Node)
    → IsBelow t p c → (x : Node) → IsBelow t c.name x → IsBelow u c.name x
below_to t u p s r to c b x (i, l) =
    let (z, k, e, o) = ancestry_over t s x i c.name l in
    let q : z ≡ c = same_name t z c s k b.0 e in
    let bx : IsBelow t p x = (i, ancestry_trans t s x i p c.name l b.1) in (
      (to x bx).0,
      over_ancestry u r c x (to c b).0 (elim o [
        | inl d ↦ inl (cc)
        | inr v ↦ inr (above_agrees t u p s r to c x (rw (← q) v) b).1
      ]),
    )

-- where two trees agree below p, they agree below each node there
pub agree_down : (t u : Tree) (p : ℕ) → IsSound t → IsSound u → IsName t p → AgreeTrees p t u → (c : Node)
    → IsBelow t p c → AgreeTrees c.name t u
agree_down t u p s r n a c b = record {
  to = below_to t u p s r a.to c b;
  from = below_to u t p r s a.from c (a.to c b);
  words = λ g i h l. a.words g i (up g (rw (← named_node t c.name s c b.0 refl) h)) l;
}
  where
    up : (g : ℕ) → In g (row_pages c) → In g (row_pages (node t p))
    up g h =
        let (z, k, e, o) = ancestry_over t s c b.0 p b.1 in
        let q : node t p ≡ z = named_node t p s z k e in
        rw q (elim o [
          | inl d ↦ subst (λ x. In g (row_pages x)) (sym d) h
          | inr v ↦
              holds_up t g s z c v (In-append_right g (config c) (row_pages c) h)
        ])

-- the same change of each node
agree_on : (f : Node → Node) → ((x : Node) → (f x).name ≡ x.name) → ((x : Node) → (f x).up ≡ x.up)
    → (p : ℕ) (t u : Tree) → ((x : Node) → IsBelow t p x → IsBelow u p x) → (x : Node) → IsBelow (on_nodes f t) p x
    → IsBelow (on_nodes f u) p x
agree_on f names ups p t u to x (i, l) =
    let (z, j, e) = In-map_from f x (nodes t) i in
    let q : x.name ≡ z.name = cc (names z) in
    let k : In p (ancestry t z.name) = rw (← ancestry_in f names ups t.root t.others z.name)
    (subst (λ n. In p (ancestry (on_nodes f t) n)) q l) in
    let b = to z (j, k) in (
      subst (λ n. In n (nodes (on_nodes f u))) (sym e) (In-map f z (nodes u) b.0),
      rw q (subst (In p) (sym (ancestry_in f names ups u.root u.others z.name)) b.1),
    )

pub agree_changed : (f : Node → Node) → ((x : Node) → (f x).name ≡ x.name) → ((x : Node) → (f x).up ≡ x.up)
    → (p : ℕ) (t u : Tree) (v w : ℕ → Option (ℕ → ℕ)) → AgreeTrees p t u → row_pages (f (node t p))
    ≡ row_pages (node t p) → ((g i : ℕ) → In g (row_pages (node t p)) → i < 1024 → word_of (w g) i ≡ word_of (v g) i)
    → AgreeTrees p (record (on_nodes f t) { words = v }) (record (on_nodes f u) { words = w })
agree_changed f names ups p t u v w a rows h = record {
  to = agree_on f names ups p t u a.to;
  from = agree_on f names ups p u t a.from;
  words = λ g i k l. h g i (rw (← rows, ← node_on f names t p) k) l;
}

-- the pages of p are hidden in the one where they are in the other
pub hidden_below : (t u : Tree) (p : ℕ) → IsSound t → IsSound u → IsName t p → AgreeTrees p t u → (g : ℕ)
    → In g (row_pages (node t p)) → hidden t g ≡ hidden u g
hidden_below t u p s r n a g h = tests_agree (hidden t g) (hidden u g) (one t u p s r n a.to g h)
    (one u t p r s (is_name t u p s r n a) a.from g (rw (← node_same t u p s r n a) h))
  where
    one : (t u : Tree) (p : ℕ) → IsSound t → IsSound u → IsName t p → ((x : Node) → IsBelow t p x → IsBelow u p x)
        → (g : ℕ) → In g (row_pages (node t p)) → hidden t g ≡ true → hidden u g ≡ true
    one t u p s r n to g h q =
        let (z, i, k) = hidden_from t g q in
        let f = node_found t p n in
        let v = row_above t g s z (node t p) i f.0 k h in
        let l : In p (ancestry t z.name) =
        rw (← f.1) (over_ancestry t s (node t p) z f.0 (inr v)) in
        hidden_by u g z (to z (i, l)).0 k

-- where words agree, they agree when the same pages can't be read any more
pub without_same : (gs hs : List ℕ) (v w : ℕ → Option (ℕ → ℕ)) (g i : ℕ) → gs ≡ hs → word_of (w g) i ≡ word_of (v g) i
    → word_of (words_without hs w g) i ≡ word_of (words_without gs v g) i
without_same gs hs v w g i e h = rw (← e, go (has gs g))
  where
    go : (b : Bool) → word_of (cond b None (w g)) i ≡ word_of (cond b None (v g)) i
    go true = refl
    go false = h

module _ {p : ℕ} {t u : Tree} (g : Agreeing p t u) where
  pub name-same : IsName u p
  name-same = is_name t u p g.sound g.sound' g.name g.trees

  pub caller-same : node t p ≡ node u p
  caller-same = node_same t u p g.sound g.sound' g.name g.trees

  -- the two change places
  pub turned : Agreeing p u t
  turned = record {
    sound = g.sound';
    sound' = g.sound;
    name = name-same;
    trees = record {
      to = g.trees.from;
      from = g.trees.to;
      words = λ h i j b. sym (g.trees.words h i (rw caller-same j) b);
    };
  }

  kids : (x : Node) → In x (children t p) → In x (children u p)
  kids = kids_to t u p g.sound g.sound' g.name g.trees.to

  back : (x : Node) → In x (children u p) → In x (children t p)
  back = kids_to u t p g.sound' g.sound name-same g.trees.from

  pub child-same : (d : ℕ) → child_at t p d ≡ child_at u p d
  child-same d = child_at_same t u p g.sound g.sound' g.name name-same kids back d

  pub holder-same : (h : ℕ) → holder t p h ≡ holder u p h
  holder-same h = holder_same t u p g.sound g.sound' g.name name-same kids back h

  pub free-same : (v : ℕ) → free t p v ≡ free u p v
  free-same v = free_same t u p g.sound g.sound' g.name name-same kids back caller-same v

  pub child_name-same : (d : ℕ) → child_name t p d ≡ child_name u p d
  child_name-same d = rw (child-same d)

  pub child_of-same : (d : ℕ) → child_of t p d ≡ child_of u p d
  child_of-same d = rw (child-same d)

  pub page-same : (v : ℕ) → page_of t p v ≡ page_of u p v
  page-same v = rw caller-same

  -- below a child the trees agree, too
  pub agree_at_child : (d : ℕ) (c : Node) → child_at t p d ≡ Some c → Agreeing c.name t u
  agree_at_child d c k = let b = child_in t p g.sound g.name d c k in record {
    sound = g.sound;
    sound' = g.sound';
    name = name_in c (nodes t) b.0;
    trees = agree_down t u p g.sound g.sound' g.name g.trees c b;
  }

  -- refusals alike, and answers alike where there is none
  pub agree_unless : {o e : Option Status} {a b : Answer} → o ≡ e → (o ≡ None → AgreeAnswers p a b)
      → AgreeAnswers p (answer_unless t o a) (answer_unless u e b)
  agree_unless {o = None} {e = None} q k = k refl
  agree_unless {o = None} {e = Some z} q k = cc
  agree_unless {o = Some z} {e = None} q k = cc
  agree_unless {o = Some z} {e = Some y} q k = let w : z ≡ y = cc in record { status = w; value = refl; tree = g.trees }

  -- the refusals after 'no such child' count only where there is one
  pub refused-same : (off nil : Bool × Status) (d : ℕ) (xs ys : List (Bool × Status))
      → ((c : Node) → child_at t p d ≡ Some c → xs ≡ ys)
      → first_met (off ∷ nil ∷ no_child t p d ∷ xs) ≡ first_met (off ∷ nil ∷ no_child u p d ∷ ys)
  refused-same off nil d xs ys h =
      rw (child-same d, go (child_at u p d) (λ c k. h c (child-same d ∙ k)))
    where
      go : (o : Option Node) → ((c : Node) → o ≡ Some c → xs ≡ ys)
          → first_met (off ∷ nil ∷ (is_none o, S.NotChild) ∷ xs) ≡ first_met (off ∷ nil ∷ (is_none o, S.NotChild) ∷ ys)
      go None f = refl
      go (Some c) f = rw (f c refl)

  -- the same change of the same child
  pub agree_child : (f : Node → Node) → ((x : Node) → (f x).name ≡ x.name) → ((x : Node) → (f x).up ≡ x.up)
      → (d : ℕ) → is_none (child_at t p d) ≡ false → (v w : ℕ → Option (ℕ → ℕ))
      → ((h i : ℕ) → In h (row_pages (node t p)) → i < 1024 → word_of (w h) i ≡ word_of (v h) i)
      → AgreeTrees p (with_child t p d f v) (with_child u p d f w)
  agree_child f names ups d e v w h =
      let (c, k) = named_child t p d e in
      let own : p ≢ c.name = λ q. not_own_parent t g.sound c k.child (k.up ∙ q) in
      let same = change-else c.name f (node t p) (λ q. own (sym (node_found t p g.name).1 ∙ q)) in
      let keep_names = change-keeps c.name f (λ z. z.name) names in
      let keep_ups = change-keeps c.name f (λ z. z.up) ups in
      let is = agree_changed (change_at c.name f) keep_names keep_ups p t u v w g.trees (rw same) h in
      let changed : ℕ → ℕ → Type 0 =
      λ q r. AgreeTrees p (record (change_node q f t) { words = v }) (record (change_node r f u) { words = w }) in
      rw (← child_name-same d) (subst (λ q. changed q q) (sym k.name) is)

  -- vcli, vsti
  pub mask-agrees : (b : Bool) → AgreeTrees p (with_masked p b t) (with_masked p b u)
  mask-agrees b =
      agree_changed (masked_node p b) (λ x. refl) (λ x. refl) p t u t.words u.words g.trees refl g.trees.words
