-- createPartition: five pages of p become the base of a new child.
use Rattle.std.specs.Prelude.{ℕ, Bool, false, not, List, [], ◌∷◌}
use Rattle.std.specs.List.{list_any}
use Rattle.pip_base.specs.declared.outcome.Status.{Status}
use Rattle.pip_base.specs.declared.outcome.Status.TheVariants as S
use Rattle.pip_model.specs.Lists.{repeats}
use Rattle.pip_model.specs.Tree.{Node, Tree, config, free, vpage}
use Rattle.pip_model.specs.Answers.{Answer, accept, first_met, answer_unless, Five, list_of, some_unaligned, some_null}
use Rattle.pip_model.specs.Answers.{is_mapped, writable, page_of, pair_at, words_without}

-- why createPartition refuses p's five pages, in the order of the tests
abbrev pub create_refusals : Tree → ℕ → Five → List (Bool × Status)
create_refusals t p a =
    some_unaligned (list_of a)
    ∷ some_null (list_of a)
    ∷ (repeats (list_of a), S.Repeated)
    ∷ (list_any (λ x. not (is_mapped t p (vpage x))) (list_of a), S.NotMapped)
    ∷ (list_any (λ x. not (free t p (vpage x))) (list_of a), S.NotFree)
    ∷ (list_any (λ x. not (writable t p (vpage x))) (list_of a), S.NoRight)
    ∷ []

-- the node of a new child of p: its five pages and nothing else
abbrev pub newborn : Tree → ℕ → Five → Node
newborn t p a = record {
  name = page_of t p a.x0;
  up = p;
  born = a.x0;
  base = record {
    descriptor = pair_at t p a.x0;
    mmu = pair_at t p a.x1;
    shadow1 = pair_at t p a.x2;
    shadow2 = pair_at t p a.x3;
    list = pair_at t p a.x4;
  };
  tables = [];
  more = [];
  rows = [];
  masked = false;
  pending = [];
}

-- the five pages can't be read any more
abbrev pub tree_with_newborn : Tree → ℕ → Five → Tree
tree_with_newborn t p a = record t {
  others = newborn t p a ∷ t.others;
  words = words_without (config (newborn t p a)) t.words;
}

-- createPartition: p gives five pages, and has one more child, without tables and rows
abbrev pub create_partition : Tree → ℕ → Five → Answer
create_partition t p a = answer_unless t (first_met (create_refusals t p a)) (accept 0 (tree_with_newborn t p a))
