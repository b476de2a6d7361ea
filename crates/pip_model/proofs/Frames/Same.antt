-- Two sound trees with the same words are the same.
use Rattle.std.proofs.Common.{◌≡◌, ℕ, zero, suc, ◌+◌, ◌-◌, ◌*◌, ◌/◌, ◌%◌, ◌^◌, ◌≤◌, ◌<◌, ◌==◌, ◌&&◌, inl, inr, Bool}
use Rattle.std.proofs.Common.{true, false, not, cond, List, [], ◌∷◌, map, length, refl, sym, ap, ap₂, ◌∙◌, subst, arith}
use Rattle.std.proofs.Common.{Option, Some, None}
use Rattle.std.specs.Prelude.{is_some, flat_map, slice_index, slice_index_or, sum_by, find}
use Rattle.std.proofs.lemmas.List.{same_lists, get_or_default}
use Rattle.std.proofs.lemmas.List.Sums.{sum_by-cons}
use Rattle.std.proofs.lemmas.Bool.{cases_eq, cases_lt, eq-eqb, eqb-true}
use Rattle.pip_base.specs.declared.types.Pair.{Pair}
use Rattle.pip_base.specs.Memory.{Memory}
use Rattle.pip_model.specs.Boot.{boot_root, own}
use Rattle.pip_model.specs.Layout.{AreSame, HasSameLayout, LaysOut, layout, owned_word}
use Rattle.pip_model.specs.NodeWords.{ListPage, RolePage, TablePage, descriptor_word, flag, next_list_page, list_roles}
use Rattle.pip_model.specs.NodeWords.{list_word, no_table, page_word, role_word, roles, slot_words, slots, table_roles}
use Rattle.pip_model.specs.declared.level.Level.TheVariants.{Mmu}
use Rattle.pip_model.specs.Lists.{In, Rising, has}
use Rattle.pip_model.specs.Sound.{AreLines, IsSound}
use Rattle.pip_model.specs.Tree.{Node, Row, Table, Tree, config, hidden, lists, nodes, row_at, row_pages, word_of}
use Rattle.pip_model.proofs.OnLists.Members.{In-append_right, same_at_key, has_in}
use Rattle.pip_model.proofs.Trees.Free.{tests_agree, hidden_from, hidden_by}
use Rattle.pip_model.proofs.Trees.Numbers.{page_small}
use Rattle.pip_model.proofs.Frames.ReadBack.{roles_distinct, table_role}
use Rattle.pip_model.proofs.Frames.Twins.{role-same, descriptor-same, base_equal, table_twin, rows-same, same_sides}
use Rattle.pip_model.proofs.Frames.Twins.{twin_in}

-- a member by its index
pub index_in : {A : Type 0} (xs : List A) (k : ℕ) (d : A) → k < length xs → In (slice_index_or xs k d) xs
index_in [] k d h = absurd (omega arith)
index_in (x ∷ xs) zero d h = inl refl
index_in (x ∷ xs) (suc k) d h = inr (index_in xs k d (omega arith))

-- lists of one length, the same at each index that they have
list_same : {A : Type 0} (xs ys : List A) (d : A) → length xs ≡ length ys
    → ((k : ℕ) → k < length xs → slice_index_or xs k d ≡ slice_index_or ys k d) → xs ≡ ys
list_same xs ys d l h = same_lists xs ys l
    (λ k e below. get_or_default xs k e d below ∙ (h k below ∙ get_or_default ys k d e (omega arith)))

-- rising lines are known by their bits
unfoldable pub bits : ℕ → List ℕ → ℕ
bits low [] = 0
bits low (j ∷ js) = 2 ^ (j - low) + bits low js

pub bits_sum : (js : List ℕ) → sum_by (λ j. 2 ^ j) js ≡ bits 0 js
unfolding bits
bits_sum [] = refl
bits_sum (j ∷ js) = sum_by-cons (λ j. 2 ^ j) j js ∙ (let e : j ≡ j - 0 = omega arith in
    ap₂ (λ m n. 2 ^ m + n) e (bits_sum js))

pub pow_step : (j low : ℕ) → suc low ≤ j → 2 ^ (j - low) ≡ 2 * 2 ^ (j - suc low)
pow_step j low h = let e : j - low ≡ suc (j - suc low) = omega arith in rw (e, pow_suc (j - suc low))
  where
    pow_suc : (n : ℕ) → 2 ^ suc n ≡ 2 * 2 ^ n
    pow_suc n = omega arith

pub bits_double : (low more : ℕ) (js : List ℕ) → suc low ≤ more → AreLines more js → bits low js ≡ 2 * bits (suc low) js
unfolding bits
bits_double low more [] h l = refl
bits_double low more (j ∷ js) h l =
    omega (arith, pow_step j low (omega arith), bits_double low (suc j) js (omega arith) l.2)

pow_pos : (n : ℕ) → 1 ≤ 2 ^ n
pow_pos zero = omega arith
pow_pos (suc n) = omega (arith, pow_pos n)

lines_step : (low : ℕ) (js ks : List ℕ) → ((js ks : List ℕ) → AreLines (suc low) js → AreLines (suc low) ks
    → bits (suc low) js ≡ bits (suc low) ks → js ≡ ks) → AreLines low js → AreLines low ks → bits low js ≡ bits low ks
    → js ≡ ks
unfolding bits
lines_step low [] [] ih l m e = refl
lines_step low [] (k ∷ ks) ih l m e = absurd (omega (arith, pow_pos (k - low), e))
lines_step low (j ∷ js) [] ih l m e = absurd (omega (arith, pow_pos (j - low), e))
lines_step low (j ∷ js) (k ∷ ks) ih l m e = elim (cases_eq j low) [
  | inl a ↦ elim (cases_eq k low) [
    | inl b ↦
        let p : 2 ^ (j - low) ≡ 1 = rw (zero_less j low a) in
        let q : 2 ^ (k - low) ≡ 1 = rw (zero_less k low b) in
        let f = bits_double low (suc j) js (omega arith) l.2 in
        let g = bits_double low (suc k) ks (omega arith) m.2 in
        let t = ih js ks (rw (← a) l.2) (rw (← b) m.2)
        (omega arith) in
        λ i. (a ∙ sym b) i ∷ t i
    | inr b ↦
        let lo = m.0 in
        let p : 2 ^ (j - low) ≡ 1 = rw (zero_less j low a) in
        let f = bits_double low (suc j) js (omega (arith, a)) l.2 in
        let g = bits_double low k (k ∷ ks) (omega (arith, b, lo)) (below k, m.1, m.2) in
        absurd (omega (arith, p, f, g, e))
  ]
  | inr a ↦ elim (cases_eq k low) [
    | inl b ↦
        let lo = l.0 in
        let p : 2 ^ (k - low) ≡ 1 = ap (λ n. 2 ^ n) (zero_less k low b) in
        let f = bits_double low (suc k) ks (omega (arith, b)) m.2 in
        let g = bits_double low j (j ∷ js) (omega (arith, a, lo)) (below j, l.1, l.2) in
        absurd (omega (arith, p, f, g, e))
    | inr b ↦
        let lo = l.0 in
        let mo = m.0 in
        let f = bits_double low j (j ∷ js) (omega (arith, a, lo)) (below j, l.1, l.2) in
        let g = bits_double low k (k ∷ ks) (omega (arith, b, mo)) (below k, m.1, m.2) in
        ih (j ∷ js) (k ∷ ks) (omega (arith, a, lo), l.1, l.2) (omega (arith, b, mo), m.1, m.2) (omega (arith, f, g, e))
  ]
]
  where
    zero_less : (j low : ℕ) → j ≡ low → j - low ≡ 0
    zero_less j low a = omega arith

    below : (k : ℕ) → k ≤ k
    below k = omega arith

lines_same : (fuel low : ℕ) (js ks : List ℕ) → low + fuel ≡ 16 → AreLines low js → AreLines low ks
    → bits low js ≡ bits low ks → js ≡ ks
lines_same zero low [] [] e l m h = refl
lines_same zero low (j ∷ js) ks e l m h = absurd (omega (arith, e))
lines_same zero low [] (k ∷ ks) e l m h = absurd (omega (arith, e))
lines_same (suc fuel) low js ks e l m h =
    lines_step low js ks (λ js ks. lines_same fuel (suc low) js ks (omega arith)) l m h

sum_same : (js ks : List ℕ) → AreLines 0 js → AreLines 0 ks → sum_by (λ j. 2 ^ j) js ≡ sum_by (λ j. 2 ^ j) ks → js ≡ ks
sum_same js ks l m e = lines_same 16 0 js ks refl l m (rw (← bits_sum js, e, bits_sum ks))

flags : (a b : Bool) → flag a 1 ≡ flag b 1 → a ≡ b
flags true true e = refl
flags true false e = cc
flags false true e = cc
flags false false e = refl

-- rows that rise and are the same map are the same list
skip : (low v : ℕ) (r : Row) (o : Option Row) → low ≤ r.at → v < low → (b : Bool) → (r.at == v) ≡ b → o ≡ None
    → cond b (Some r) o ≡ None
skip low v r o k l true e h = absurd (grind (arith, k, l, e))
skip low v r o k l false e h = h

below_none : (low v : ℕ) (rs : List Row) → Rising low (map (λ r. r.at) rs) → v < low → row_at rs v ≡ None
below_none low v [] h l = refl
below_none low v (r ∷ rs) h l = let k = h.0 in
    skip low v r (row_at rs v) h.0 l (r.at == v) refl (below_none (r.at + 1) v rs h.1 (omega arith))

first_row : (r : Row) (rs : List Row) → row_at (r ∷ rs) r.at ≡ Some r
first_row r rs = let e = eq-eqb r.at r.at refl in rw e refl

pub rows_equal : (low : ℕ) (xs ys : List Row) → Rising low (map (λ r. r.at) xs) → Rising low (map (λ r. r.at) ys)
    → ((v : ℕ) → row_at xs v ≡ row_at ys v) → xs ≡ ys
rows_equal low [] [] h k e = refl
rows_equal low [] (y ∷ ys) h k e = let q = e y.at ∙ first_row y ys in cc
rows_equal low (x ∷ xs) [] h k e = let q = sym (first_row x xs) ∙ e x.at in cc
rows_equal low (x ∷ xs) (y ∷ ys) h k e = go (x.at == y.at) refl (λ z. rows_equal (x.at + 1) xs ys h.1
    (rw z k.1) (λ v. tails z v (x.at == v) refl))
  where
    low_x : y.at + 1 ≤ x.at → Rising (y.at + 1) (map (λ r. r.at) (x ∷ xs))
    low_x l = (l, h.1)

    low_y : x.at + 1 ≤ y.at → Rising (x.at + 1) (map (λ r. r.at) (y ∷ ys))
    low_y l = (l, k.1)

    tails : x.at ≡ y.at → (v : ℕ) → (b : Bool) → (x.at == v) ≡ b → row_at xs v ≡ row_at ys v
    tails z v true q = let n : x.at ≡ v = eqb-true x.at v q in
        cc (below_none (x.at + 1) v xs h.1 (omega (arith, n)), below_none (y.at + 1) v ys k.1 (omega (arith, n, z)))
    tails z v false q = let p : (y.at == v) ≡ false = rw (← z, q) in
        cc (e v)

    go : (b : Bool) → (x.at == y.at) ≡ b → (x.at ≡ y.at → xs ≡ ys) → x ∷ xs ≡ y ∷ ys
    go true q f = let z : x.at ≡ y.at = eqb-true x.at y.at q in
        let s : Some x ≡ Some y = cc (first_row x xs, e x.at, first_row y ys) in
        let w : x ≡ y = cc in ap₂ (λ a b. a ∷ b) w (f z)
    go false q f = elim (cases_lt x.at y.at) [
      | inl l ↦ let s = sym (first_row x xs) ∙ e x.at
          ∙ below_none (x.at + 1) x.at (y ∷ ys) (low_y (omega arith)) (omega arith) in cc
      | inr l ↦ let m : y.at + 1 ≤ x.at = grind (arith, l, q) in
          let s = sym (first_row y ys) ∙ sym (e y.at) ∙ below_none (y.at + 1) y.at (x ∷ xs) (low_x m) (omega arith) in
          cc
    ]

-- list page k of a node
list_page : Node → ℕ → ℕ
list_page x zero = x.base.list.frame
list_page x (suc k) = (next_list_page x.more k).frame

list_in : (k j : ℕ) (gs : List Pair) → j < length gs
    → In (record { frame = (next_list_page gs j).frame; role = ListPage (k + j) }) (list_roles k gs)
list_in k j [] h = absurd (omega arith)
list_in k zero (g ∷ gs) h = let z : k + 0 ≡ k = omega arith in
    inl (λ i. record { frame = g.frame; role = ListPage (z i) })
list_in k (suc j) (g ∷ gs) h = let z : k + 1 + j ≡ k + suc j = omega arith in
    inr (rw z at (list_in (k + 1) j gs (omega arith)))

list_role : (x : Node) (k : ℕ) → k ≤ length x.more → In (record { frame = list_page x k; role = ListPage k }) (roles x)
unfolding list_page
list_role x zero h = inr (inr (inr (inr (inl refl))))
list_role x (suc k) h = inr (inr (inr (inr (inr (In-append_right _ (flat_map table_roles x.tables) (list_roles 1 x.more)
    (subst (λ n. In (record { frame = (next_list_page x.more k).frame; role = ListPage n }) (list_roles 1 x.more))
    (omega arith) (list_in 1 k x.more (omega arith))))))))

-- a word of slot k is in list page k / 170
pub slot_word : (z : Node) (k m : ℕ) → m < 6
    → slice_index (slot_words (slots z.tables k)) m ≡ list_word z (k / 170) (2 + 6 * (k % 170) + m)
unfolding page_word
slot_word z k m l =
    let n : 170 * (k / 170) + (2 + 6 * (k % 170) + m - 2) / 6 ≡ k = omega arith in
    let o : (2 + 6 * (k % 170) + m - 2) % 6 ≡ m = omega arith in
    sym (mid (2 + 6 * (k % 170) + m) (omega arith) (omega arith)
    ∙ ap₂ (λ a b. slice_index (slot_words (slots z.tables a)) b) n o)
  where
    mid : (c : ℕ) → 2 ≤ c → c < 1022 → list_word z (k / 170) c
        ≡ slice_index (slot_words (slots z.tables (170 * (k / 170) + (c - 2) / 6))) ((c - 2) % 6)
    mid c a b = grind (arith, a, b)

module _ (t u : Tree) (s : IsSound t) (r : IsSound u) (w : HasSameLayout t u) (x y : Node) (i : In x (nodes t))
    (j : In y (nodes u)) (e : x.name ≡ y.name) where
  base_is : x.base ≡ y.base
  base_is = (base_equal t u s r w x y i j e).0

  tables_long : length x.tables ≡ length y.tables
  tables_long = (base_equal t u s r w x y i j e).2

  more_long : length x.more ≡ length y.more
  more_long = rw ((s.tables x i).listed, tables_long, sym (r.tables y j).listed)

  -- the words of list page k, where it is the same page in both
  list_words : (k : ℕ) → k ≤ length x.more → list_page x k ≡ list_page y k → (m : ℕ) → m < 1024
      → list_word x k m ≡ list_word y k m
  unfolding role_word
  list_words k h q m l = role-same t u s r w x y i j m l (record { frame = list_page x k; role = ListPage k })
      (record { frame = list_page y k; role = ListPage k }) (list_role x k h) (list_role y k (let z = more_long in
      omega (arith, z, h))) q

  next_same : (k : ℕ) → k < length x.more → list_page x k ≡ list_page y k
      → next_list_page x.more k ≡ next_list_page y.more k
  unfolding page_word
  next_same k h q =
      let p : (next_list_page x.more k).frame ≡ (next_list_page y.more k).frame =
      list_words k (omega arith) q 0 (omega arith) in
      let v : (next_list_page x.more k).va ≡ (next_list_page y.more k).va =
      list_words k (omega arith) q 1 (omega arith) in
      λ i. record { va = v i; frame = p i }

  page_same : (k : ℕ) → k ≤ length x.more → list_page x k ≡ list_page y k
  unfolding list_page
  page_same zero h = rw base_is
  page_same (suc k) h = cc (next_same k (omega arith) (page_same k (omega arith)))

  pub more_same : x.more ≡ y.more
  more_same = list_same x.more y.more (own 0) more_long (λ k h. next_same k h (page_same k (omega arith)))

  -- the six words of slot k
  slot_same : (k m : ℕ) → k < length x.tables → m < 6
      → slice_index (slot_words (slots x.tables k)) m ≡ slice_index (slot_words (slots y.tables k)) m
  slot_same k m h l =
      let z = (s.tables x i).listed in
      let a : k / 170 ≤ length x.more = omega arith in
      slot_word x k m l ∙ list_words (k / 170) a (page_same (k / 170) a) (2 + 6 * (k % 170) + m) (omega arith)
      ∙ sym (slot_word y k m l)

  index_same : (b c : Table) → In b x.tables → In c y.tables → b.mmu.frame ≡ c.mmu.frame → b.index ≡ c.index
  index_same b c k l p =
      let (d, m, ix, q) = table_twin t u s r w x y i j e b k in
      let layouts-same : ◌≡◌ {A = RolePage} (record { frame = d.mmu.frame; role = TablePage Mmu d.index })
      (record { frame = c.mmu.frame; role = TablePage Mmu c.index }) = same_at_key (λ q. q.frame) _ _ (roles y)
      (roles_distinct u y r j) (table_role Mmu y d m) (table_role Mmu y c l) (q Mmu ∙ p) in
      cc (index_of d c layouts-same)
    where
      index_of : (d c : Table) → ◌≡◌ {A = RolePage} (record { frame = d.mmu.frame; role = TablePage Mmu d.index })
          (record { frame = c.mmu.frame; role = TablePage Mmu c.index }) → d.index ≡ c.index
      index_of d c q = let h = ap (λ q. q.role) q in cc

  table_same : (k : ℕ) → k < length x.tables → slice_index_or x.tables k no_table ≡ slice_index_or y.tables k no_table
  unfolding slots
  table_same k h =
      let b = slice_index_or x.tables k no_table in
      let c = slice_index_or y.tables k no_table in
      let z = tables_long in
      let w0 : b.mmu.va ≡ c.mmu.va = slot_same k 0 h (omega arith) in
      let w1 : b.mmu.frame ≡ c.mmu.frame = slot_same k 1 h (omega arith) in
      let w2 : b.shadow1.va ≡ c.shadow1.va = slot_same k 2 h (omega arith) in
      let w3 : b.shadow1.frame ≡ c.shadow1.frame = slot_same k 3 h (omega arith) in
      let w4 : b.shadow2.va ≡ c.shadow2.va = slot_same k 4 h (omega arith) in
      let w5 : b.shadow2.frame ≡ c.shadow2.frame = slot_same k 5 h (omega arith) in
      let ix =
      index_same b c (index_in x.tables k no_table h) (index_in y.tables k no_table (omega arith)) w1 in
      λ i. record {
        index = ix i;
        mmu = record { va = w0 i; frame = w1 i };
        shadow1 = record { va = w2 i; frame = w3 i };
        shadow2 = record { va = w4 i; frame = w5 i };
      }

  pub tables_same : x.tables ≡ y.tables
  tables_same = list_same x.tables y.tables no_table tables_long table_same

  word_same : (k : ℕ) → k < 1024 → descriptor_word x k ≡ descriptor_word y k
  word_same = descriptor-same t u s r w x y i j e

  mask_same : x.masked ≡ y.masked
  mask_same = flags x.masked y.masked (word_same 14 (omega arith))

  lines_sum : sum_by (λ j. 2 ^ j) x.pending ≡ sum_by (λ j. 2 ^ j) y.pending
  lines_sum = word_same 15 (omega arith)

  lines_are : (t : Tree) → IsSound t → (x : Node) → In x (nodes t) → AreLines 0 x.pending
  lines_are t s x (inl e) = rw e s.lines
  lines_are t s x (inr i) = rw (s.no_lines_but_the_root x i) tt

  pub pending_same : x.pending ≡ y.pending
  pending_same = sum_same x.pending y.pending (lines_are t s x i) (lines_are u r y j) lines_sum

  born_is : (t : Tree) → IsSound t → (x : Node) → In x (nodes t) → x.born ≡ x.base.descriptor.va
  born_is t s x (inl e) = ap (λ z. z.born) e ∙ ap (λ z. z.born) s.boot_root.same
      ∙ sym (ap (λ z. z.base.descriptor.va) s.boot_root.same) ∙ sym (ap (λ z. z.base.descriptor.va) e)
  born_is t s x (inr i) = (s.named_by_descriptor x i).born

  pub node_same : x ≡ y
  node_same =
      let b = base_is in
      let p = (base_equal t u s r w x y i j e).1 in
      let n = e in
      let o : x.born ≡ y.born = rw (born_is t s x i, b, ← born_is u r y j) in
      let ts = tables_same in
      let ms = more_same in
      let rs = rows_equal 0 x.rows y.rows (s.pages_apart x i).places (r.pages_apart y j).places
      (rows-same t u s r w x y i j e) in
      let f = mask_same in
      let l = pending_same in
      λ i. record {
        name = n i;
        up = p i;
        born = o i;
        base = b i;
        tables = ts i;
        more = ms i;
        rows = rs i;
        masked = f i;
        pending = l i;
      }

module _ (t u : Tree) (s : IsSound t) (r : IsSound u) (w : HasSameLayout t u) where
  to : (x : Node) → In x (nodes t) → In x (nodes u)
  to x i = let (y, j, e) = twin_in t u s r w t.others s.parents_come_first (λ v l. l) x i in
      subst (λ z. In z (nodes u)) (sym (node_same t u s r w x y i j (sym e))) j

  from : (x : Node) → In x (nodes u) → In x (nodes t)
  from y j = let (x, i, e) = twin_in u t r s (same_sides t u w) u.others r.parents_come_first (λ v l. l) y j in
      subst (λ z. In z (nodes t)) (node_same t u s r w x y i j e) i

  hidden_same : (g : ℕ) → hidden t g ≡ hidden u g
  hidden_same g = tests_agree (hidden t g) (hidden u g)
      (λ q. let (x, i, h) = hidden_from t g q in hidden_by u g x (to x i) h)
      (λ q. let (y, j, h) = hidden_from u g q in hidden_by t g y (from y j) h)

  root_rows : row_pages t.root ≡ row_pages u.root
  root_rows =
      ap row_pages s.boot_root.same ∙ ap (λ n. row_pages (boot_root n)) w.frames ∙ sym (cc (r.boot_root.same))

  pages : (g : ℕ) → is_some (t.words g) ≡ is_some (u.words g)
  pages g = rw (s.words g, ap₂ (λ l h. has l g && not h) root_rows (hidden_same g), ← r.words g)

  words : (g i : ℕ) → i < 1024 → word_of (t.words g) i ≡ word_of (u.words g) i
  unfolding layout
  words g i l = go (t.words g) (u.words g) refl refl
    where
      small : is_some (t.words g) ≡ true → g < t.frames
      small e = page_small t g s t.root (inl refl) (In-append_right g (config t.root) (row_pages t.root)
          (has_in g (row_pages t.root) (left (has (row_pages t.root) g) (not (hidden t g)) (rw (← s.words g) e))))
        where
          left : (a b : Bool) → (a && b) ≡ true → a ≡ true
          left a b e = grind arith

      go : (a b : Option (ℕ → ℕ)) → t.words g ≡ a → u.words g ≡ b → word_of (t.words g) i ≡ word_of (u.words g) i
      go None None e f = cc
      go (Some a) None e f = let p = pages g in
          let m : ◌≡◌ {A = Bool} true false = cc in absurd (grind (arith, m))
      go None (Some b) e f = let p = pages g in
          let m : ◌≡◌ {A = Bool} false true = cc in absurd (grind (arith, m))
      go (Some a) (Some b) e f =
          rw (← shown t (ap is_some e), w.word g i (small (ap is_some e)) l, shown u (ap is_some f))
        where
          shown : (t : Tree) → is_some (t.words g) ≡ true → layout t g i ≡ word_of (t.words g) i
          shown t q =
              rw q

  pub layouts-same : AreSame t u
  layouts-same = record {
    frames = w.frames;
    root = node_same t u s r w t.root u.root (inl refl) (inl refl)
        (ap (λ z. z.name) s.boot_root.same ∙ sym (ap (λ z. z.name) r.boot_root.same));
    to = to;
    from = from;
    pages = pages;
    words = words;
  }

-- a memory lays out one tree at most
pub frames-same : (t u : Tree) (m : Memory) → IsSound t → IsSound u → LaysOut t m → LaysOut u m → AreSame t u
frames-same t u m s r a b =
    let p = a.count in
    let q = b.count in
    let n : t.frames ≡ u.frames = omega arith in
    layouts-same t u s r
    (record { frames = n; word = λ f i l k. cc (a.word f i l k, b.word f i (omega (arith, n, l)) k) })
