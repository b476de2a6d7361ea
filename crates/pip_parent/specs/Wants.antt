-- What a child is to have, and how many pages that takes.
use Rattle.std.specs.Prelude.{◌≡◌, ℕ, zero, suc, ◌+◌, ◌-◌, ◌*◌, ◌<◌, ◌==◌, ◌||◌, nat_lt, Bool, true, false, not}
use Rattle.std.specs.Prelude.{if◌then◌else◌, List, length, Option, Some, None, slice_index_or, bit_and}
use Rattle.pip_model.specs.Tree.{dir, vpage, is_place, lists}
use Rattle.pip_parent.specs.declared.wants.Want.{Want}

-- want i; i is below their number wherever this is said
abbrev pub want_at : List Want → ℕ → Want
want_at ws i = slice_index_or ws i (record { va = 0; rights = 0 })

-- the directory index of a want's address
abbrev pub dir_of : Want → ℕ
dir_of w = dir (vpage w.va)

-- one of the wants before i is such
abbrev pub earlier : (Want → Bool) → List Want → ℕ → Bool
earlier f ws zero = false
earlier f ws (suc i) = earlier f ws i || f (want_at ws i)

-- want i is the first of its directory index
abbrev pub opens : List Want → ℕ → Bool
opens ws i = not (earlier (λ w. dir_of w == dir_of (want_at ws i)) ws i)

-- how many different directory indexes the wants before i have
abbrev pub opened_before : List Want → ℕ → ℕ
opened_before ws zero = 0
opened_before ws (suc i) = opened_before ws i + (if opens ws i then 1 else 0)

-- how many pages the child and the wants before i take
abbrev pub pages_used : List Want → ℕ → ℕ
pages_used ws i = 5 + i + 3 * opened_before ws i + lists (opened_before ws i) - 1

-- how many pages of the pool the child and all its wants take
abbrev pub need : List Want → ℕ
need ws = pages_used ws (length ws)

-- the place in the pool of the page for want i
abbrev pub place : List Want → ℕ → ℕ
place ws i = 5 + i + 3 * opened_before ws (suc i) + lists (opened_before ws (suc i)) - 1

-- the address is 0 or no place, or the rights lack READ or are above 7
abbrev pub is_malformed : Want → Bool
is_malformed w = w.va == 0 || (not (is_place w.va) || (not (bit_and 1 w.rights == 1) || nat_lt 7 w.rights))

-- no child can have it, or its address is that of an earlier want
abbrev pub is_bad : List Want → ℕ → Bool
is_bad ws i = is_malformed (want_at ws i) || earlier (λ w. w.va == (want_at ws i).va) ws i

-- the first such want, or none
abbrev pub FirstBad : List Want → Option ℕ → Type 0
FirstBad ws None = (i : ℕ) → i < length ws → is_bad ws i ≡ false
FirstBad ws (Some i) = (i < length ws) × (is_bad ws i ≡ true) × ((j : ℕ) → j < i → is_bad ws j ≡ false)
