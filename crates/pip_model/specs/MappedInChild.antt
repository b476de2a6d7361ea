-- mappedInChild: which child of p holds the page at an address.
use Rattle.std.specs.Prelude.{ℕ, Bool, not, List, [], ◌∷◌, Option, Some, None}
use Rattle.pip_base.specs.declared.outcome.Status.{Status}
use Rattle.pip_base.specs.declared.outcome.Status.TheVariants as S
use Rattle.pip_model.specs.Tree.{Node, Tree, holder, vpage}
use Rattle.pip_model.specs.Answers.{Answer, accept, first_met, answer_unless, some_unaligned, some_null, is_mapped}
use Rattle.pip_model.specs.Answers.{page_of}

-- why mappedInChild refuses p's address v, in the order of the tests
abbrev pub find_refusals : Tree → ℕ → ℕ → List (Bool × Status)
find_refusals t p v = some_unaligned (v ∷ []) ∷ some_null (v ∷ []) ∷ (not (is_mapped t p (vpage v)), S.NotMapped) ∷ []

-- the address of the child's descriptor, 0 where no child holds the page
abbrev pub holder_born : Option Node → ℕ
holder_born None = 0
holder_born (Some x) = x.born

-- mappedInChild: the address of the child that holds p's page at v; 0 where no child holds it
abbrev pub mapped_in_child : Tree → ℕ → ℕ → Answer
mapped_in_child t p v =
    answer_unless t (first_met (find_refusals t p v)) (accept (holder_born (holder t p (page_of t p v))) t)
