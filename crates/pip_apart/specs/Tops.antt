-- Which guests a world has: the children of the root below which something runs, and the processors of each.
use Rattle.std.specs.Prelude.{ℕ, zero, suc, ◌+◌, ◌==◌, ◌&&◌, Bool, true, false, not, cond, List, [], ◌∷◌, ◌++◌, find}
use Rattle.std.specs.Prelude.{length, Option, Some, None, is_none, option_map}
use Rattle.pip_base.specs.declared.types.Access.TheVariants.{Load}
use Rattle.pip_base.specs.declared.types.Size.TheVariants.{Word}
use Rattle.pip_model.specs.Lists.{has}
use Rattle.pip_model.specs.Reach.{reach, word_reached}
use Rattle.pip_model.specs.Tree.{Node, Row, Tree, chain, holder, row_at, vpage}
use Rattle.pip_model.specs.Worlds.{World, runs_on}
use Rattle.pip_model.specs.declared.processors.Occupant.{Occupant}
use Rattle.pip_apart.specs.Company.{entry_at, runs_below}

-- ---- guests

-- a child of the root
abbrev pub is_top : Tree → Node → Bool
is_top t x = x.up == t.root.name && not (x.name == t.root.name)

-- the child of the root that p is, or is below
abbrev pub top_of : Tree → ℕ → Option ℕ
top_of t p = option_map (λ x. x.name) (find (is_top t) (chain t p))

-- and that of what runs on a processor
abbrev pub top_by : Tree → Option Occupant → Option ℕ
top_by t None = None
top_by t (Some r) = top_of t r.name

-- the guest on a processor, if one is there
abbrev pub top_at : World → ℕ → Option ℕ
top_at w cpu = top_by w.tree (runs_on w cpu)

-- one more guest, if it is none of those before
abbrev pub with_top : List ℕ → Option ℕ → List ℕ
with_top ps None = ps
with_top ps (Some p) = cond (has ps p) ps (ps ++ p ∷ [])

-- the guests on the first n processors, in the order of the first processor of each
abbrev pub tops_before : World → ℕ → List ℕ
tops_before w zero = []
tops_before w (suc n) = with_top (tops_before w n) (top_at w n)

-- the guests of a world
abbrev pub tops : World → List ℕ
tops w = tops_before w (length w.cpus)

-- those of the first n numbers for which this is so
abbrev pub all_before : (ℕ → Bool) → ℕ → List ℕ
all_before f zero = []
all_before f (suc n) = cond (f n) (all_before f n ++ n ∷ []) (all_before f n)

-- the processors on which a guest runs
abbrev pub processors_of : World → ℕ → List ℕ
processors_of w p = all_before (runs_below w p) (length w.cpus)

-- ---- what may not be

-- the first value, if there is one, else the second
abbrev pub first_some : Option ℕ → Option ℕ → Option ℕ
first_some (Some k) o = Some k
first_some None o = o

-- the first of the first n numbers for which this is so
abbrev pub first_before : (ℕ → Bool) → ℕ → Option ℕ
first_before f zero = None
first_before f (suc n) = first_some (first_before f n) (cond (f n) (Some n) None)

-- what runs is the root
abbrev pub names_root : Tree → Option Occupant → Bool
names_root t None = false
names_root t (Some r) = r.name == t.root.name

-- the first processor on which the root runs, if there is one
abbrev pub root_on : World → Option ℕ
root_on w = first_before (λ cpu. names_root w.tree (runs_on w cpu)) (length w.cpus)

-- a child of the root has the page of this row
abbrev pub is_lent : Tree → Option Row → Bool
is_lent t None = false
is_lent t (Some r) = not (is_none (holder t t.root.name r.frame))

-- a word that was read is not 0
abbrev pub is_set : Option ℕ → Bool
is_set None = false
is_set (Some a) = not (a == 0)

-- the root might take this line: a child has the page of the entry, or the root reads another word than 0 there
abbrev pub might_take : Tree → ℕ → Bool
might_take t line = cond (is_lent t (row_at t.root.rows (vpage (entry_at (32 + line))))) true
    (is_set (word_reached t (reach t t.root.name (entry_at (32 + line)) Load Word)))

-- the first line that the root might take, if there is one
abbrev pub first_taken : Tree → Option ℕ
first_taken t = first_before (might_take t) 16
