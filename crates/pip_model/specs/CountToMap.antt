-- countToMap: how many pages a child of p needs so that it has a table for an address.
use Rattle.std.specs.Prelude.{ℕ, ◌+◌, ◌-◌, Bool, if◌then◌else◌, List, [], ◌∷◌, length}
use Rattle.pip_base.specs.declared.outcome.Status.{Status}
use Rattle.pip_model.specs.Tree.{Node, Tree, lists, has_table, vpage}
use Rattle.pip_model.specs.Answers.{Answer, accept, first_met, answer_unless, some_unaligned, some_null, no_child}
use Rattle.pip_model.specs.Answers.{child_of}

-- three tables, and a list page where one more slot needs it
abbrev pub pages_needed : Node → ℕ → ℕ
pages_needed x v = if has_table x v then 0 else 3 + lists (length x.tables + 1) - lists (length x.tables)

-- what countToMap refuses, and prepare before it looks at pages
abbrev pub count_refusals : Tree → ℕ → ℕ → ℕ → List (Bool × Status)
count_refusals t p d cv = some_unaligned (d ∷ cv ∷ []) ∷ some_null (d ∷ cv ∷ []) ∷ no_child t p d ∷ []

-- countToMap: how many pages the child at d needs before it can have a row at address cv
abbrev pub count_to_map : Tree → ℕ → ℕ → ℕ → Answer
count_to_map t p d cv =
    answer_unless t (first_met (count_refusals t p d cv)) (accept (pages_needed (child_of t p d) (vpage cv)) t)
