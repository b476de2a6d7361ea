-- Part 6 of soundness, by the rights that the rows of a parent give each page.
use Rattle.std.proofs.Common.{◌≡◌, ℕ, zero, suc, ◌+◌, ◌/◌, ◌%◌, ◌^◌, ◌<◌, ◌==◌, ◌&&◌, List, ◌∷◌, length, refl}
use Rattle.std.proofs.Common.{sym, ap, ap₂, ◌∙◌, arith, Option, Some, None, Bool, true, false, cond, eq-eqb}
use Rattle.std.proofs.Common.{eqb-true}
use Rattle.std.specs.Prelude.{if◌then◌else◌, nat_le, nat_lt, option_map, slice_index}
use Rattle.std.specs.Int.Bits.{and_self, bit_and}
use Rattle.std.specs.List.{list_all}
use Rattle.std.proofs.lemmas.Grind.{numeral_and}
use Rattle.std.proofs.lemmas.Nat.{and_assoc, and_comm}
use Rattle.pip_base.specs.Memory.{Memory, word_at}
use Rattle.pip_model.specs.Parts.{are_among, can_read, gives_no_more, implies}
use Rattle.pip_model.specs.ReadOff.{gather, is_leaf, leaf_is_read, leaf_stop, node_read, node_stop, row_of_word}
use Rattle.pip_model.specs.ReadOff.{row_read, stop_unless, with_first}
use Rattle.pip_model.specs.Tree.{Row, Table, dir, table_at}
use Rattle.pip_audit.specs.declared.auditor.Auditor.{Auditor}
use Rattle.pip_audit.specs.declared.tables.Triple.{Triple}
use Rattle.pip_audit.specs.Judging.{AreRights, is_given}
use Rattle.pip_audit.specs.Reading.{IsRead}
use Rattle.pip_audit.specs.Tables.{tables_in, triple_of}
use Rattle.pip_audit.proofs.EachNode.{both, node_there, nodes_are, others_true}
use Rattle.pip_audit.proofs.Loads.{table_leaves}
use Rattle.pip_audit.proofs.PartLaws.{gather_true, rows_are}
use Rattle.pip_audit.proofs.Rows.{no_row, row_by_word}

-- ---- rights among others

same_tests : (p q : Bool) → (p ≡ true → q ≡ true) → (q ≡ true → p ≡ true) → p ≡ q
same_tests true q to from = sym (to refl)
same_tests false true to from = from refl
same_tests false false to from = refl

absorb : (a b : ℕ) → bit_and (bit_and a b) a ≡ bit_and a b
absorb a b = and_comm (bit_and a b) a ∙ sym (and_assoc b a a) ∙ ap (λ z. bit_and z b) (and_self a)

among_left : (r a b : ℕ) → bit_and r (bit_and a b) ≡ r → bit_and r a ≡ r
among_left r a b e =
    ap (λ z. bit_and z a) (sym e)
    ∙ and_assoc a r (bit_and a b)
    ∙ ap (bit_and r) (absorb a b)
    ∙ e

among_right : (r a b : ℕ) → bit_and r (bit_and a b) ≡ r → bit_and r b ≡ r
among_right r a b e = among_left r b a (ap (bit_and r) (and_comm b a) ∙ e)

among_and : (r a b : ℕ) → bit_and r a ≡ r → bit_and r b ≡ r → bit_and r (bit_and a b) ≡ r
among_and r a b p q = sym (and_assoc b r a) ∙ ap (λ z. bit_and z b) p ∙ q

among_both : (r a b : ℕ) → are_among r (bit_and a b) ≡ (are_among r a && are_among r b)
among_both r a b = same_tests (are_among r (bit_and a b)) (are_among r a && are_among r b)
    (λ e. let h = eqb-true (bit_and r (bit_and a b)) r e in
    both (eq-eqb (bit_and r a) r (among_left r a b h)) (eq-eqb (bit_and r b) r (among_right r a b h)))
    (λ e. eq-eqb (bit_and r (bit_and a b)) r (among_and r a b (eqb-true (bit_and r a) r
    (front (are_among r a) (are_among r b) e)) (eqb-true (bit_and r b) r (back (are_among r a) (are_among r b) e))))
  where
    front : (p q : Bool) → (p && q) ≡ true → p ≡ true
    front true q e = refl
    front false q e = cc

    back : (p q : Bool) → (p && q) ≡ true → q ≡ true
    back true q e = e
    back false q e = cc

-- all rights are among 7
among_seven : (r : ℕ) → r < 8 → are_among r 7 ≡ true
among_seven zero h = refl
among_seven (suc zero) h = refl
among_seven (suc (suc zero)) h = refl
among_seven (suc (suc (suc zero))) h = refl
among_seven (suc (suc (suc (suc zero)))) h = refl
among_seven (suc (suc (suc (suc (suc zero))))) h = refl
among_seven (suc (suc (suc (suc (suc (suc zero)))))) h = refl
among_seven (suc (suc (suc (suc (suc (suc (suc zero))))))) h = refl
among_seven (suc (suc (suc (suc (suc (suc (suc (suc r)))))))) h = absurd (omega (arith, h))

-- ---- the rights that rows give, row by row

-- what a row says of these rights to a page
abbrev pub allows : ℕ → ℕ → Row → Bool
allows r g s = implies (g == s.frame) (are_among r s.rights)

-- what all rows say is what is held so far, and what the rows from here on say
abbrev pub AreSoFar : (ℕ → ℕ) → List Row → List Row → Type 0
AreSoFar held all rows = (r g : ℕ) → r < 8
    → list_all (allows r g) all ≡ (are_among r (held g) && list_all (allows r g) rows)

pub none_so_far : (held : ℕ → ℕ) (all rows : List Row) → all ≡ rows → ((g : ℕ) → held g ≡ 7) → AreSoFar held all rows
none_so_far held all rows e seven = λ r g low. ap (list_all (allows r g)) e
    ∙ ap (λ b. b && list_all (allows r g) rows) (sym (ap (are_among r) (seven g) ∙ among_seven r low))

pub one_more : (held new : ℕ → ℕ) (all rows rest : List Row) (s : Row) → rows ≡ s ∷ rest → ((f : ℕ) → new f
    ≡ (if f == s.frame then bit_and (held f) s.rights else held f)) → AreSoFar held all rows → AreSoFar new all rest
one_more held new all rows rest s e is so_far = λ r g low.
    so_far r g low
    ∙ ap (λ rs. are_among r (held g) && list_all (allows r g) rs) e
    ∙ turn (g == s.frame) r (held g) (list_all (allows r g) rest)
    ∙ ap (λ w. are_among r w && list_all (allows r g) rest) (sym (is g))
  where
    turn : (b : Bool) (r h : ℕ) (z : Bool) → (are_among r h && (implies b (are_among r s.rights) && z))
        ≡ (are_among r (if b then bit_and h s.rights else h) && z)
    turn true r h z = assoc (are_among r h) (are_among r s.rights) z ∙ ap (λ x. x && z) (sym (among_both r h s.rights))
      where
        assoc : (x y w : Bool) → (x && (y && w)) ≡ ((x && y) && w)
        assoc true y w = refl
        assoc false y w = refl
    turn false r h z = refl

-- ---- a row by its word

row_word : (v w : ℕ) (r : Row) → row_of_word v w ≡ Some r → ((w == 0) ≡ false) × (r.rights ≡ w / 4 % 8)
row_word v w r = go (w == 0)
  where
    go : (b : Bool)
        → ◌≡◌ {A = Option Row} (cond b None (Some (record { at = v; frame = w / 4096; rights = w / 4 % 8 }))) (Some r)
        → (b ≡ false) × (r.rights ≡ w / 4 % 8)
    go true e = cc
    go false e = (refl, cc)

rights_small : (m : Memory) (ts : List Table) (v : ℕ) (r : Row) → row_read m ts v ≡ Some r → r.rights < 8
unfolding row_read
rights_small m ts v r e = let k = (row_word v _ r e).1 in omega (arith, k)

can_be_read : (m : Memory) (f i v : ℕ) (r : Row) → leaf_stop m f i ≡ None → row_of_word v (word_at m f i) ≡ Some r
    → are_among 1 r.rights ≡ true
unfolding leaf_stop
can_be_read m f i v r none e =
    let w = word_at m f i in
    let k = row_word v w r e in
    let leaf : is_leaf w ≡ true = go (leaf_is_read (length m) w)
    (ap (λ b. cond b (nat_le 0 0) (is_leaf w && nat_lt (w / 4096) (length m))) k.0) none in
    let bit : w / 4 % 2 ≡ 1 = eqb-true (w / 4 % 2) 1 (second (w % 2 == 1) _ (second (nat_lt (w % 4096) 32) _ leaf)) in
    let rights = k.1 in
    let odd : r.rights % 2 ≡ 1 = omega (arith, rights, bit) in
    eq-eqb (bit_and 1 r.rights) 1 (numeral_and 0 r.rights refl ∙ odd)
  where
    second : (a b : Bool) → (a && b) ≡ true → b ≡ true
    second true b e = e
    second false b e = cc

    first : (a b : Bool) → (a && b) ≡ true → a ≡ true
    first true b e = refl
    first false b e = cc

    go : (b : Bool) → b ≡ (is_leaf (word_at m f i) && nat_lt (word_at m f i / 4096) (length m))
        → stop_unless b f i ≡ None → is_leaf (word_at m f i) ≡ true
    go true q n = first (is_leaf (word_at m f i)) (nat_lt (word_at m f i / 4096) (length m)) (sym q)
    go false q n = cc

row_can_be_read : (m : Memory) (f v : ℕ) (r : Row) → node_stop m f ≡ None → row_read m (tables_in m f) v ≡ Some r
    → are_among 1 r.rights ≡ true
row_can_be_read m f v r none e = go (option_map triple_of (table_at (tables_in m f) (dir v))) refl
  where
    go : (o : Option Triple) → option_map triple_of (table_at (tables_in m f) (dir v)) ≡ o → are_among 1 r.rights ≡ true
    go None q = never (sym (no_row m (tables_in m f) v q) ∙ e)
      where
        never : None ≡ Some r → are_among 1 r.rights ≡ true
        never n = cc
    go (Some b) q = can_be_read m b.mmu (v % 1024) v r (table_leaves m f (dir v) (v % 1024) b none q (omega arith))
        (sym (row_by_word m (tables_in m f) v b q) ∙ e)

-- each row of a node that was read has READ
node_can_read : (m : Memory) (f : ℕ) → node_stop m f ≡ None → can_read (node_read m f) ≡ true
node_can_read m f none =
    ap (list_all (λ (r : Row). are_among 1 r.rights)) (rows_are m f)
    ∙ gather_true (λ (r : Row). are_among 1 r.rights) (row_read m (tables_in m f)) 0
    (2 ^ 20) (λ v r lo hi e. row_can_be_read m f v r none e)

-- ---- one child

gather_same : (p q : Row → Bool) (f : ℕ → Option Row) (from n : ℕ) → ((v : ℕ) (r : Row) → f v ≡ Some r → p r ≡ q r)
    → list_all p (gather f from n) ≡ list_all q (gather f from n)
unfolding gather
gather_same p q f from zero h = refl
gather_same p q f from (suc n) h = go (f from) refl (gather_same p q f (from + 1) n h)
  where
    go : (o : Option Row) → f from ≡ o → list_all p (gather f (from + 1) n) ≡ list_all q (gather f (from + 1) n)
        → list_all p (with_first o (gather f (from + 1) n)) ≡ list_all q (with_first o (gather f (from + 1) n))
    go None e rest = rest
    go (Some r) e rest = ap₂ (λ a b. a && b) (h from r e) rest

pub given_is : (m : Memory) (y f : ℕ) (held : ℕ → ℕ) → AreRights held (node_read m y).rows
    → list_all (is_given held) (node_read m f).rows ≡ gives_no_more (node_read m y) (node_read m f)
given_is m y f held h =
    let all : Row → Bool =
    λ r. list_all (λ (s : Row). implies (r.frame == s.frame) (are_among r.rights s.rights)) (node_read m y).rows in
    ap (list_all (is_given held)) (rows_are m f)
    ∙ gather_same (is_given held) all (row_read m (tables_in m f)) 0
    (2 ^ 20) (λ v r e. h r.rights r.frame (rights_small m (tables_in m f) v r e))
    ∙ sym (ap (list_all all) (rows_are m f))

-- ---- every node

pub all_can_read : (m : Memory) (a : Auditor) (r : IsRead m a) → list_all can_read (node_read m 1 ∷ r.others) ≡ true
all_can_read m a r =
    let h = r.has_read in
    both (node_can_read m 1 h.root) (others_true m a.names.items can_read a.count r.others h.names (nodes_are m a
    r.others h) (λ k lo hi. node_can_read m (slice_index a.names.items k) (node_there m a r.others h k hi)))
