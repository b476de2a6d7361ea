-- A partition with fewer than five pages to read and write makes no child.
use Rattle.std.proofs.Common.{◌≡◌, ℕ, suc, ◌≤◌, ◌==◌, ◌⊎◌, inl, inr, true, false, not}
use Rattle.std.proofs.Common.{List, [], ◌∷◌, map, length, refl, subst, arith, eqb-true, Option, Some}
use Rattle.std.proofs.Common.{None}
use Rattle.std.specs.Prelude.{bit_and, option_map, unwrap_or}
use Rattle.std.specs.List.{list_any}
use Rattle.pip_base.specs.declared.outcome.Status.TheVariants as S
use Rattle.pip_model.specs.Accepted.{MayCreate}
use Rattle.pip_model.specs.Answers.{list_of, writable}
use Rattle.pip_model.specs.CreatePartition.{create_refusals}
use Rattle.pip_model.specs.Lists.{Distinct, In}
use Rattle.pip_model.specs.Tree.{Row, Tree, node, row_at, vpage}
use Rattle.pip_model.proofs.Calls.Create.{may_create}
use Rattle.pip_model.proofs.OnLists.Members.{Distinct-map, In-filter, In-map, In-map_from, any_none, find_in}
use Rattle.pip_model.proofs.Trees.Free.{not_false, passed}
use Rattle.pip_guests.specs.Exits.{FewPagesCreateNone, writable_rows}

-- without one member
remove : (x : ℕ) (ys : List ℕ) → In x ys
    → (zs : List ℕ) × (length ys ≡ suc (length zs)) × ((g : ℕ) → In g ys → (g ≡ x) ⊎ In g zs)
remove x [] i = absurd i
remove x (y ∷ ys) (inl e) = (
  ys,
  refl,
  λ g i. elim i [
    | inl f ↦ inl (cc)
    | inr j ↦ inr j
  ],
)
remove x (y ∷ ys) (inr i) =
    let (zs, l, f) = remove x ys i in (
      y ∷ zs,
      rw l,
      λ g j. elim j [
        | inl e ↦ inr (inl e)
        | inr k ↦ elim (f g k) [
          | inl e ↦ inl e
          | inr m ↦ inr (inr m)
        ]
      ],
    )

-- members that differ are as many as those of a list that has them, or fewer
fewer : (xs ys : List ℕ) → Distinct xs → ((g : ℕ) → In g xs → In g ys) → length xs ≤ length ys
fewer [] ys d sub = omega arith
fewer (x ∷ xs) ys d sub =
    let (zs, l, f) = remove x ys (sub x (inl refl)) in
    omega (
      arith,
      fewer xs zs d.1 (λ g i. elim (f g (sub g (inr i)))
          [ inl e ↦ absurd (d.0 (subst (λ z. In z xs) e i)) | inr m ↦ m ]),
    )

count_map : (rs : List Row) → length (map (λ r. r.at) rs) ≡ length rs
count_map [] = refl
count_map (r ∷ rs) = rw (count_map rs)

-- where a vpage is writable there is such a row
has_row : (t : Tree) (p v : ℕ) → writable t p v ≡ true → In v (map (λ r. r.at) (writable_rows t p))
has_row t p v w = by (row_at (node t p).rows v) refl w
  where
    by : (o : Option Row) → row_at (node t p).rows v ≡ o
        → (bit_and 3 (unwrap_or (option_map (λ r. r.rights) o) 0) == 3) ≡ true
        → In v (map (λ r. r.at) (writable_rows t p))
    by None e h = cc
    by (Some r) e h =
        let f = find_in (λ r. r.at == v) r (node t p).rows e in
        rw (← eqb-true r.at v f.1) (In-map (λ r. r.at) r (writable_rows t p)
        (In-filter (λ r. bit_and 3 r.rights == 3) r (node t p).rows f.0 h))

pub few_pages_create_none : FewPagesCreateNone
few_pages_create_none t p few a e =
    let cs = create_refusals t p a in
    let m : MayCreate t p a = may_create t p a e in
    let right : list_any (λ x. not (writable t p (vpage x))) (list_of a) ≡ false = passed cs e S.NoRight in
    let d : Distinct (map vpage (list_of a)) = Distinct-map vpage (list_of a) m.differ (λ x y i j q.
    omega (arith, (m.usable x i).aligned, (m.usable y j).aligned)) in
    let l : length (map vpage (list_of a)) ≤ length (map (λ r. r.at) (writable_rows t p)) =
    fewer (map vpage (list_of a)) (map (λ r. r.at) (writable_rows t p)) d (λ g i.
    let (x, k, q) = In-map_from vpage g (list_of a) i in
    rw q (has_row t p (vpage x) (not_false _ (any_none (λ x. not (writable t p (vpage x))) x (list_of a) right k)))) in
    let n = count_map (writable_rows t p) in
    absurd (omega arith)
