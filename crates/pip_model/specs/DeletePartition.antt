-- deletePartition: a child of p goes, with its whole subtree.
use Rattle.std.specs.Prelude.{ℕ, Bool, not, List, [], ◌∷◌, filter, flat_map}
use Rattle.std.specs.List.{list_any}
use Rattle.pip_base.specs.declared.outcome.Status.{Status}
use Rattle.pip_base.specs.declared.outcome.Status.TheVariants as S
use Rattle.pip_model.specs.Lists.{has}
use Rattle.pip_model.specs.Tree.{Node, Tree, config, ancestry, below}
use Rattle.pip_model.specs.Answers.{Answer, accept, first_met, answer_unless, some_unaligned, some_null, no_child}
use Rattle.pip_model.specs.Answers.{child_name, words_cleared}

-- one of these nodes is among the names that run on processors
abbrev pub some_run : List ℕ → List Node → Bool
some_run running xs = list_any (λ x. has running x.name) xs

-- why deletePartition refuses to delete the child at d, in the order of the tests
abbrev pub delete_refusals : Tree → List ℕ → ℕ → ℕ → List (Bool × Status)
delete_refusals t running p d =
    some_unaligned (d ∷ [])
    ∷ some_null (d ∷ [])
    ∷ no_child t p d
    ∷ (some_run running (below t (child_name t p d)), S.Running)
    ∷ []

-- what was configuration of the subtree of c is zero, and can be read again
abbrev pub tree_without_subtree : Tree → ℕ → Tree
tree_without_subtree t c = record t {
  others = filter (λ x. not (has (ancestry t x.name) c)) t.others;
  words = words_cleared (flat_map config (below t c)) t.words;
}

-- deletePartition: the child at d goes with all below it, and their configuration is cleared
abbrev pub delete_partition : Tree → List ℕ → ℕ → ℕ → Answer
delete_partition t running p d =
    answer_unless t (first_met (delete_refusals t running p d)) (accept 0 (tree_without_subtree t (child_name t p d)))
