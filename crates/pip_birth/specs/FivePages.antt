-- The conditions of createPartition, over the five addresses and over the rows at them.
use Rattle.std.specs.Prelude.{◌≡◌, ℕ, Bool, true, not, List, [], ◌∷◌, Option, Some, None, is_none}
use Rattle.std.specs.List.{list_any}
use Rattle.pip_base.specs.declared.outcome.Status.{Status}
use Rattle.pip_base.specs.declared.outcome.Status.TheVariants as S
use Rattle.pip_base.specs.declared.types.Pair.{Pair}
use Rattle.pip_model.specs.Answers.{is_mapped, some_null, some_unaligned, writable}
use Rattle.pip_model.specs.FullRows.{FullRow}
use Rattle.pip_model.specs.Lists.{repeats}
use Rattle.pip_model.specs.Tree.{Tree, free, vpage}
use Rattle.pip_space.specs.Rows.{full_of}
use Rattle.pip_space.specs.declared.row.Row.{Row}
use Rattle.pip_kern.specs.Tested.{is_ungiven, is_writable}

-- ---- the model's, in three parts

-- of the addresses alone
abbrev pub five_address_tests : List ℕ → List (Bool × Status)
five_address_tests xs = some_unaligned xs ∷ some_null xs ∷ (repeats xs, S.Repeated) ∷ []

-- whether p has no row at one of them
abbrev pub some_unmapped : Tree → ℕ → List ℕ → Bool × Status
some_unmapped t p xs = (list_any (λ x. not (is_mapped t p (vpage x))) xs, S.NotMapped)

-- of p's rows there
abbrev pub five_page_tests : Tree → ℕ → List ℕ → List (Bool × Status)
five_page_tests t p xs =
    (list_any (λ x. not (free t p (vpage x))) xs, S.NotFree)
    ∷ (list_any (λ x. not (writable t p (vpage x))) xs, S.NoRight)
    ∷ []

-- ---- by the rows that were looked up

-- the tests of p's rows at five addresses: each page is free, and can be read and written
abbrev pub five_row_tests : List Row → List (Bool × Status)
five_row_tests rs =
    (list_any (λ r. not (is_ungiven (full_of r))) rs, S.NotFree)
    ∷ (list_any (λ r. not (is_writable (full_of r))) rs, S.NoRight)
    ∷ []

-- these are the rows at the addresses
abbrev pub AreRows : (ℕ → Option FullRow) → List ℕ → List Row → Type 0
AreRows rows [] [] = Unit {0}
AreRows rows (a ∷ xs) (r ∷ rs) = (rows (vpage a) ≡ Some (full_of r)) × AreRows rows xs rs
AreRows rows [] (r ∷ rs) = ⊥
AreRows rows (a ∷ xs) [] = ⊥

-- the rows at the addresses, or none where one of them has no row
abbrev pub RowsAnswer : (ℕ → Option FullRow) → List ℕ → Option (List Row) → Type 0
RowsAnswer rows xs (Some rs) = AreRows rows xs rs
RowsAnswer rows xs None = list_any (λ a. is_none (rows (vpage a))) xs ≡ true

-- the addresses with the pages of the rows
abbrev pub pairs_of : List ℕ → List Row → List Pair
pairs_of (a ∷ xs) (r ∷ rs) = record { va = a; frame = r.frame } ∷ pairs_of xs rs
pairs_of [] rs = []
pairs_of (a ∷ xs) [] = []
