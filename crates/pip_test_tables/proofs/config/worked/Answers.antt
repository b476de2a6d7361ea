use Rattle.std.proofs.Common.{arith, ◌≡◌, ℕ, ◌+◌, ◌≤◌, ◌++◌, ◌∷◌, [], List, length, replicate, refl, ap, sym, subst}
use Rattle.std.proofs.Common.{◌∙◌}
use Rattle.std.specs.Prelude.{slice_set}
use Rattle.std.proofs.lemmas.List.{length-append, length-set}
use Rattle.pip_base.specs.declared.types.Pair.{Pair}
use Rattle.pip_base.specs.Memory.{IsMemory, Memory, word_at, zeros}
use Rattle.pip_base.proofs.Memory.{IsMemory-replicate_zeros, length-replicate_zeros, word_at-replicate_zeros}
use Rattle.pip_model.specs.Tree.{Table, lists}
use Rattle.pip_config.specs.Lists.{HasList, IsFresh, ListIn, ListStays, list_frame}
use Rattle.pip_config.proofs.Links.{empty_list}
use Rattle.pip_config.proofs.Nodes.{last_split}
use Rattle.pip_test_tables.proofs.config.worked.Goals as goal

module _ (m : Memory) (first : ℕ) (empty : m ≡ replicate 16 (zeros 1024)) (first_is : first ≡ 5) where
  shape : IsMemory m
  shape = subst IsMemory (sym empty) (IsMemory-replicate_zeros 16)

  count : length m ≡ 16
  count = ap length empty ∙ length-replicate_zeros 16

  zero : (f i : ℕ) → word_at m f i ≡ 0
  zero f i = ap (λ k. word_at k f i) empty ∙ word_at-replicate_zeros 16 f i

  start : ListIn m first [] []
  start = empty_list m first shape (let n = count in omega arith) (λ i h. zero first i)

  fresh : (f : ℕ) → f ≡ 6 → IsFresh m first [] f
  fresh f e = record {
    inside = let n = count in omega arith;
    further = λ k h same. let z : k ≡ 0 = omega arith in
        let at : f ≡ first = same ∙ ap (list_frame first []) z in omega arith;
    zeros = λ i h. zero f i;
  }

-- n slots in further pages
abbrev Has : Memory → ℕ → ℕ → ℕ → Type 0
Has m first n pages = (h : HasList m first n) × (length h.more ≡ pages)

removed : (m n : Memory) (first k : ℕ) → Has m first (k + 1) 1
    → ((more : List Pair) (ts : List Table) (t : Table) → ListIn m first more (ts ++ t ∷ []) → length ts + 1 ≡ k + 1
    → ListIn n first more (slice_set ts 0 t) × ListStays first more m n) → Has n first k 1
removed m n first k (h, one) clause = go h.tables h.is_in h.count
  where
    go : (ts : List Table) → ListIn m first h.more ts → length ts ≡ k + 1 → Has n first k 1
    go [] list count = absurd (omega arith)
    go (t ∷ ts) list count =
        let (us, u, e) = last_split t ts in
        let a = length-append us (u ∷ []) in
        let b = ap length e in
        let s = length-set us 0 u in
        let whole : ListIn m first h.more (us ++ u ∷ []) = subst (ListIn m first h.more) e list in (
          record {
            more = h.more;
            tables = slice_set us 0 u;
            is_in = (clause h.more us u whole (omega arith)).0;
            count = omega arith;
          },
          one,
        )

popped : (m n : Memory) (first k : ℕ) → k ≤ 170 → Has m first k 1
    → ((more : List Pair) (p : Pair) (ts : List Table) → ListIn m first (more ++ p ∷ []) ts → length more + 2 ≡ 2
    → lists (length ts) ≤ length more + 1 → ListIn n first more ts × ListStays first more m n) → HasList n first k
popped m n first k few (h, one) clause = go h.more h.is_in one
  where
    go : (more : List Pair) → ListIn m first more h.tables → length more ≡ 1 → HasList n first k
    go [] list count = absurd (omega arith)
    go (p ∷ []) list count = let c = h.count in record {
      more = [];
      tables = h.tables;
      is_in = (clause [] p h.tables list (omega arith) (omega arith)).0;
      count = h.count;
    }
    go (p ∷ q ∷ more) list count = absurd (omega arith)

pub append_page-requires : goal.append_page-requires
append_page-requires g c = record {
  more = [];
  tables = [];
  is_in =
      start (g.M.Frames.memory c.args.mem.now) c.new-first.result c.requires.empty c.new-first.ensures;
  count = refl;
}

pub push_all-requires-clause-list : goal.push_all-requires-clause-list
push_all-requires-clause-list g c =
    let m = g.M.Frames.memory c.args.mem.now in
    let put = c.append_page.ensures.list [] [] (start m c.new-first.result c.requires.empty c.new-first.ensures) refl
    (fresh m c.new-first.result c.requires.empty c.new-first.ensures c.new.result c.new.ensures) in
    (record { more = _; tables = []; is_in = put.0; count = refl }, refl)

pub three_places-places_after-requires : goal.three_places-places_after-requires
three_places-places_after-requires g c =
    (removed _ _ c.new-first.result 170 c.push_all.ensures c.swap_remove.ensures.list).0

pub slot_at-moved-requires-clause-list : goal.slot_at-moved-requires-clause-list
slot_at-moved-requires-clause-list g c =
    (removed _ _ c.new-first.result 170 c.push_all.ensures c.swap_remove.ensures.list).0

pub pop_page-page-requires-clause-list : goal.pop_page-page-requires-clause-list
pop_page-page-requires-clause-list g c =
    let (h, one) = removed _ _ c.new-first.result 170 c.push_all.ensures c.swap_remove.ensures.list in
    record { more = h.more; tables = h.tables; is_in = h.is_in; count = omega arith }

pub slot_at-still-requires-clause-list : goal.slot_at-still-requires-clause-list
slot_at-still-requires-clause-list g c =
    popped _ _ c.new-first.result 170 (omega arith)
    (removed _ _ c.new-first.result 170 c.push_all.ensures c.swap_remove.ensures.list) c.pop_page-page.ensures.list
