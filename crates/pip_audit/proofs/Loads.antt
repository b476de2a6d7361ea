-- The tables of a node, taken slot by slot from the last to the first.
use Rattle.std.proofs.Common.{◌≡◌, ℕ, zero, suc, ◌+◌, ◌*◌, ◌/◌, ◌%◌, ◌-◌, ◌<◌, ◌≤◌, ◌==◌, ◌||◌, List, [], ◌∷◌, map}
use Rattle.std.proofs.Common.{length, refl, sym, ap, ap₂, ◌∙◌, subst, arith, Option, Some, None, Bool, true, false}
use Rattle.std.proofs.Common.{cond}
use Rattle.std.specs.Prelude.{is_some, nat_le, option_map}
use Rattle.std.proofs.lemmas.Bool.Decides.{nat_tests}
use Rattle.pip_base.specs.Memory.{Memory, word_at}
use Rattle.pip_model.specs.Lists.{has, repeats}
use Rattle.pip_model.specs.ReadOff.{base_read, base_stop, count_stop, first, leaf_stop, values_from, more_stop}
use Rattle.pip_model.specs.ReadOff.{node_read, node_stop, or_first, place_of_table, slot_start, slot_stop_at}
use Rattle.pip_model.specs.ReadOff.{stop_at_frame, stop_unless, table_from, table_read, table_stop, tables_read}
use Rattle.pip_model.specs.Tree.{Table, lists, table_at}
use Rattle.pip_model.proofs.Audit.AuditLaw.{first_none_back}
use Rattle.pip_audit.specs.declared.tables.Tables.{Tables}
use Rattle.pip_audit.specs.declared.tables.Triple.{Triple}
use Rattle.pip_audit.specs.Links.{list_read, page_after, slot_of}
use Rattle.pip_audit.specs.Tables.{HasTableRoom, IsOf, held_at, tables_in, triple_of, triple_with}
use Rattle.pip_audit.proofs.Links.{both_none, link_inside, slot_is, slot_list}
use Rattle.pip_audit.proofs.TableWords.{last_stop, table_is, table_of, tables_of}

-- ---- the place of a table

abbrev pub Where : {A : Type 0} → (ℕ → Option A) → ℕ → ℕ → A → Type 0
Where f from n a = (k : ℕ) × (from ≤ k) × (k < from + n) × (f k ≡ Some a)

pub first_where : {A : Type 0} (f : ℕ → Option A) (from n : ℕ) (a : A) → first f from n ≡ Some a → Where f from n a
unfolding first
first_where f from zero a e = cc
first_where {A = A} f from (suc n) a e = go (f from) refl (first_where f (from + 1) n a) e
  where
    go : (o : Option A) → f from ≡ o → (first f (from + 1) n ≡ Some a → Where f (from + 1) n a)
        → or_first o (first f (from + 1) n) ≡ Some a → Where f from (suc n) a
    go None q later e =
        let r = later e in
        let lo = r.1 in let hi = r.2 in
        (r.0, omega (arith, lo), omega (arith, hi), r.3)
    go (Some b) q later e = (from, omega arith, omega arith, q ∙ e)

pub place_small : (m : Memory) (f g i : ℕ) → place_of_table m f g ≡ Some i → i < 1024
unfolding place_of_table
place_small m f g i e =
    let r = first_where (λ k. cond (word_at m f k == g * 4096 + 1) (Some k) None) 0 1024 i e in
    let hi = r.2 in
    let same = go (word_at m f r.0 == g * 4096 + 1) r.0 r.3 in
    omega (arith, hi, same)
  where
    go : (b : Bool) (k : ℕ) → cond b (Some k) None ≡ Some i → k ≡ i
    go true k e = cc
    go false k e = cc

-- ---- a slot that doesn't stop

pub record IsSlot (m : Memory) (directory page i : ℕ) : Type 0 where
  pub mmu : word_at m page (i + 1) < length m
  pub has : is_some (place_of_table m directory (word_at m page (i + 1))) ≡ true
  pub shadow1 : word_at m page (i + 3) < length m
  pub shadow2 : word_at m page (i + 5) < length m

pub slot_frames : (m : Memory) (directory page i : ℕ) → slot_stop_at m directory page i ≡ None
    → IsSlot m directory page i
slot_frames m d p i e =
    let a = both_none (stop_at_frame m p (i + 1)) _ e in
    let b = both_none (stop_unless (is_some (place_of_table m d (word_at m p (i + 1)))) p (i + 1)) _ a.1 in
    let c = both_none (stop_at_frame m p (i + 3)) (stop_at_frame m p (i + 5)) b.1 in
    record {
      mmu = link_inside m p (i + 1) a.0;
      has = holds (is_some (place_of_table m d (word_at m p (i + 1)))) b.0;
      shadow1 = link_inside m p (i + 3) c.0;
      shadow2 = link_inside m p (i + 5) c.1;
    }
  where
    holds : (b : Bool) → stop_unless b p (i + 1) ≡ None → b ≡ true
    holds true e = refl
    holds false e = cc

-- ---- a descriptor that doesn't stop

pub record Passes (m : Memory) (f c : ℕ) : Type 0 where
  pub base : base_stop m f ≡ None
  pub few : c ≤ 1024
  pub more : more_stop m (word_at m f 9) (lists c - 1) ≡ None
  pub slots : first (slot_of m f c) 0 c ≡ None
  pub tables : first (table_stop m (tables_of m f c)) 0 c ≡ None

pub passes : (m : Memory) (f c : ℕ) → c ≡ word_at m f 12 → node_stop m f ≡ None → Passes m f c
unfolding node_stop
passes m f c q e =
    let a = both_none (base_stop m f) _ e in
    let b = both_none (count_stop m f) _ a.1 in
    let few : c ≤ 1024 = subst (λ k. k ≤ 1024) (sym q) (small (nat_le (word_at m f 12) 1024) refl b.0) in
    let d = both_none (more_stop m (word_at m f 9) (lists (word_at m f 12) - 1)) _ b.1 in
    let more : more_stop m (word_at m f 9) (lists c - 1) ≡ None =
    subst (λ k. more_stop m (word_at m f 9) (lists k - 1) ≡ None) (sym q) d.0 in
    let slot : first (slot_of m f c) 0 c ≡ None = subst (λ k. first (slot_of m f k) 0 k ≡ None) (sym q)
    (both_none (first (slot_of m f (word_at m f 12)) 0 (word_at m f 12)) _ d.1).0 in
    record {
      base = a.0;
      few = few;
      more = more;
      slots = slot;
      tables = sym (last_stop m f c q few a.0 more slot) ∙ e;
    }
  where
    small : (b : Bool) → nat_le (word_at m f 12) 1024 ≡ b → stop_unless b f 12 ≡ None → word_at m f 12 ≤ 1024
    small true q e = grind (arith, nat_tests, q)
    small false q e = cc

-- ---- the last tables

abbrev pub last_tables : Memory → ℕ → ℕ → ℕ → List Table
last_tables m f c k = values_from (table_read m (base_read m f) (list_read m f c)) (c - k) k

pub last_none : (m : Memory) (f c d : ℕ) → option_map triple_of (table_at (last_tables m f c 0) d) ≡ None
unfolding values_from
last_none m f c d = refl

pub last_apart : (m : Memory) (f c : ℕ) → repeats (map (λ (t : Table). t.index) (last_tables m f c 0)) ≡ false
unfolding values_from
last_apart m f c = refl

last_more : (m : Memory) (f c k : ℕ) → k < c
    → last_tables m f c (k + 1) ≡ table_read m (base_read m f) (list_read m f c) (c - 1 - k) ∷ last_tables m f c k
unfolding values_from
last_more m f c k h =
    let g = table_read m (base_read m f) (list_read m f c) in
    let s : k + 1 ≡ suc k = omega arith in
    let a : c - (k + 1) ≡ c - 1 - k = omega arith in
    let b : c - (k + 1) + 1 ≡ c - k = omega (arith, h) in
    ap (values_from g (c - (k + 1))) s ∙ ap₂ (λ t ts. t ∷ ts) (ap g a) (ap (λ i. values_from g i k) b)

pub slot_table : (m : Memory) (f c j directory page : ℕ) → j < c → directory ≡ word_at m f 3
    → page ≡ page_after m (word_at m f 9) (j / 170)
    → table_from m directory page (2 + 6 * (j % 170)) ≡ table_read m (base_read m f) (list_read m f c) j
unfolding table_read
slot_table m f c j directory page h d p = ap (λ a. table_from m a page (slot_start j)) d
    ∙ ap (λ b. table_from m (word_at m f 3) b (slot_start j)) (p ∙ sym (slot_list m f c j h))

with_one : (b : Table) (ts : List Table) (held : ℕ → Option Triple) (d : ℕ)
    → held d ≡ option_map triple_of (table_at ts d) → triple_with b held d ≡ option_map triple_of (table_at (b ∷ ts) d)
with_one b ts held d e = go (b.index == d)
  where
    go : (z : Bool) → cond z (Some (triple_of b)) (held d) ≡ option_map triple_of (cond z (Some b) (table_at ts d))
    go true = refl
    go false = e

pub has_index : (ts : List Table) (d : ℕ)
    → has (map (λ (t : Table). t.index) ts) d ≡ is_some (option_map triple_of (table_at ts d))
has_index [] d = refl
has_index (t ∷ ts) d = ap (λ b. (t.index == d) || b) (has_index ts d) ∙ go (t.index == d)
  where
    go : (z : Bool) → (z || is_some (option_map triple_of (table_at ts d)))
        ≡ is_some (option_map triple_of (cond z (Some t) (table_at ts d)))
    go true = refl
    go false = refl

-- one slot more
pub slot_more : (m : Memory) (f c k : ℕ) (b : Table) (held : ℕ → Option Triple) (d : ℕ) → k < c
    → b ≡ table_read m (base_read m f) (list_read m f c) (c - 1 - k)
    → held d ≡ option_map triple_of (table_at (last_tables m f c k) d)
    → triple_with b held d ≡ option_map triple_of (table_at (last_tables m f c (k + 1)) d)
slot_more m f c k b held d h q e =
    with_one b (last_tables m f c k) held d e
    ∙ ap (λ t. option_map triple_of (table_at (t ∷ last_tables m f c k) d)) q
    ∙ ap (λ ts. option_map triple_of (table_at ts d)) (sym (last_more m f c k h))

pub repeats_more : (m : Memory) (f c k : ℕ) (b : Table) (o : Option Triple) (r : Bool) → k < c
    → b ≡ table_read m (base_read m f) (list_read m f c) (c - 1 - k)
    → o ≡ option_map triple_of (table_at (last_tables m f c k) b.index)
    → r ≡ repeats (map (λ (t : Table). t.index) (last_tables m f c k))
    → (is_some o || r) ≡ repeats (map (λ (t : Table). t.index) (last_tables m f c (k + 1)))
repeats_more m f c k b o r h q e w =
    let ts = last_tables m f c k in
    ap₂ (λ x y. x || y) (ap is_some e ∙ sym (has_index ts b.index)) w
    ∙ ap (λ t. repeats (map (λ (u : Table). u.index) (t ∷ ts))) q
    ∙ ap (λ us. repeats (map (λ (u : Table). u.index) us)) (sym (last_more m f c k h))

-- all of them
pub all_tables : (m : Memory) (f c k : ℕ) → k ≡ c → c ≡ word_at m f 12 → last_tables m f c k ≡ tables_in m f
unfolding node_read
all_tables m f c k e q =
    let z : c - c ≡ 0 = omega arith in
    ap (last_tables m f c) e ∙ ap (λ i. values_from (table_read m (base_read m f) (list_read m f c)) i c) z
    ∙ ap (λ n. tables_read m (base_read m f) (list_read m f n) n) q

-- ---- which slot a table is from

abbrev Found : (ℕ → Table) → ℕ → ℕ → Triple → Type 0
Found f from n b = (j : ℕ) × (from ≤ j) × (j < from + n) × (triple_of (f j) ≡ b)

found_in : (f : ℕ → Table) (from n d : ℕ) (b : Triple) → option_map triple_of (table_at (values_from f from n) d)
    ≡ Some b
    → Found f from n b
unfolding values_from
found_in f from zero d b e = cc
found_in f from (suc n) d b e = go ((f from).index == d) (found_in f (from + 1) n d b) e
  where
    inside : (t : Triple) → Some t ≡ Some b → t ≡ b
    inside t q = cc

    go : (z : Bool) → (option_map triple_of (table_at (values_from f (from + 1) n) d) ≡ Some b → Found f (from + 1) n b)
        → option_map triple_of (cond z (Some (f from)) (table_at (values_from f (from + 1) n) d)) ≡ Some b
        → Found f from (suc n) b
    go true later e = (from, omega arith, omega arith, inside (triple_of (f from)) e)
    go false later e =
        let r = later e in
        let lo = r.1 in let hi = r.2 in
        (r.0, omega (arith, lo), omega (arith, hi), r.3)

pub record IsTriple (m : Memory) (b : Triple) : Type 0 where
  pub mmu : b.mmu < length m
  pub shadow1 : b.shadow1 < length m
  pub shadow2 : b.shadow2 < length m
  pub leaves : (i : ℕ) → i < 1024 → leaf_stop m b.mmu i ≡ None

slot_triple : (m : Memory) (f c j : ℕ) → Passes m f c → j < c
    → IsTriple m (triple_of (table_read m (base_read m f) (list_read m f c) j))
unfolding table_read
slot_triple m f c j p h =
    let page = page_after m (word_at m f 9) (j / 170) in
    let none : slot_of m f c j ≡ None =
    first_none_back (slot_of m f c) 0 c p.slots j (omega arith) (omega (arith, h)) in
    let s =
    slot_frames m (word_at m f 3) page (slot_start j) (slot_is m f c j (word_at m f 3) page h refl refl ∙ none) in
    let same = slot_list m f c j h in
    let a : slot_start j + 2 + 1 ≡ slot_start j + 3 = omega arith in
    let b : slot_start j + 4 + 1 ≡ slot_start j + 5 = omega arith in
    let t : table_of m f c j ≡ None = sym (table_is m f c j h)
    ∙ first_none_back (table_stop m (tables_of m f c)) 0 c p.tables j (omega arith) (omega (arith, h)) in
    let at = ap (λ q. word_at m q (slot_start j + 1)) same in
    record {
      mmu = subst (λ q. q < length m) (sym at) s.mmu;
      shadow1 = subst (λ q. word_at m q (slot_start j + 2 + 1) < length m) (sym same)
          (subst (λ i. word_at m page i < length m) (sym a) s.shadow1);
      shadow2 = subst (λ q. word_at m q (slot_start j + 4 + 1) < length m) (sym same)
          (subst (λ i. word_at m page i < length m) (sym b) s.shadow2);
      leaves = λ i hi. ap (λ q. leaf_stop m q i) at ∙ first_none_back (leaf_stop m
          (word_at m page (slot_start j + 1))) 0 1024 t i (omega arith) (omega (arith, hi));
    }

pub taken : (m : Memory) (t : Tables) (c k : ℕ) → t.part < length m → node_stop m t.part ≡ None → HasTableRoom
    (length m) t
    → k ≡ c → c ≡ word_at m t.part 12
    → ((d : ℕ) → held_at t d ≡ option_map triple_of (table_at (last_tables m t.part c k) d))
    → t.repeats ≡ repeats (map (λ (u : Table). u.index) (last_tables m t.part c k))
    → IsOf m t
taken m t c k part none room e q held again =
    let p = passes m t.part c q none in
    let all = all_tables m t.part c k e q in
    let triple : (d : ℕ) (b : Triple) → held_at t d ≡ Some b → IsTriple m b = λ d b s.
    let r = found_in (table_read m (base_read m t.part) (list_read m t.part c)) (c - k) k d b (sym (held d) ∙ s) in
    let hi = r.2 in
    subst (IsTriple m) r.3 (slot_triple m t.part c r.0 p (omega (arith, hi, e))) in
    record {
      part = part;
      passes = none;
      room = room;
      of = λ d h. held d ∙ ap (λ ts. option_map triple_of (table_at ts d)) all;
      mmu = λ d b s. (triple d b s).mmu;
      shadow1 = λ d b s. (triple d b s).shadow1;
      shadow2 = λ d b s. (triple d b s).shadow2;
      leaves = λ d i b s h. (triple d b s).leaves i h;
      repeats = again ∙ ap (λ ts. repeats (map (λ (u : Table). u.index) ts)) all;
    }

-- the words of a node's MMU tables are rows, or 0
pub table_leaves : (m : Memory) (f d i : ℕ) (b : Triple) → node_stop m f ≡ None
    → option_map triple_of (table_at (tables_in m f) d) ≡ Some b → i < 1024 → leaf_stop m b.mmu i ≡ None
table_leaves m f d i b none e h =
    let c = word_at m f 12 in
    let r = found_in (table_read m (base_read m f) (list_read m f c)) (c - c) c d b
    (ap (λ ts. option_map triple_of (table_at ts d)) (all_tables m f c c refl refl) ∙ e) in
    let hi = r.2 in
    (subst (IsTriple m) r.3 (slot_triple m f c r.0 (passes m f c refl none) (omega (arith, hi)))).leaves i h
