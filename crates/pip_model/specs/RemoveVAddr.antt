-- removeVAddr: p takes a page back that it lent to a child.
use Rattle.std.specs.Prelude.{ℕ, Bool, not, ◌==◌, List, [], ◌∷◌, filter, is_none}
use Rattle.pip_base.specs.declared.outcome.Status.{Status}
use Rattle.pip_base.specs.declared.outcome.Status.TheVariants as S
use Rattle.pip_model.specs.Tree.{Node, Tree, change_node, row_at, free, vpage}
use Rattle.pip_model.specs.Answers.{Answer, accept, first_met, answer_unless, some_unaligned, some_null, no_child}
use Rattle.pip_model.specs.Answers.{child_of, child_name}

-- why removeVAddr refuses to take back the row at address cv of the child at d, in the order of the tests
abbrev pub remove_refusals : Tree → ℕ → ℕ → ℕ → List (Bool × Status)
remove_refusals t p d cv =
    some_unaligned (d ∷ cv ∷ [])
    ∷ some_null (d ∷ cv ∷ [])
    ∷ no_child t p d
    ∷ (is_none (row_at (child_of t p d).rows (vpage cv)), S.Absent)
    ∷ (not (free t (child_name t p d) (vpage cv)), S.LentOn)
    ∷ []

-- a node without its row at v
abbrev pub without_row : ℕ → Node → Node
without_row v x = record x { rows = filter (λ r. not (r.at == v)) x.rows }

-- the tree in which c has lost its row at vpage v
abbrev pub tree_without_row : Tree → ℕ → ℕ → Tree
tree_without_row t c v = change_node c (without_row v) t

-- removeVAddr: the child at d loses its row at address cv
abbrev pub remove_vaddr : Tree → ℕ → ℕ → ℕ → Answer
remove_vaddr t p d cv =
    answer_unless t (first_met (remove_refusals t p d cv)) (accept 0 (tree_without_row t (child_name t p d) (vpage cv)))
