-- The chain of pages that prepare follows: its tests, page by page, and what it answers.
use Rattle.std.specs.Prelude.{◌≡◌, ℕ, not, Bool, List, [], ◌∷◌, Result, MatchResult}
use Rattle.pip_base.specs.declared.outcome.Status.{Status}
use Rattle.pip_base.specs.declared.outcome.Status.TheVariants as S
use Rattle.pip_base.specs.declared.types.Pair.{Pair}
use Rattle.pip_model.specs.Answers.{some_null, some_unaligned}
use Rattle.pip_model.specs.FullRows.{FullRow}
use Rattle.pip_model.specs.Lists.{has}
use Rattle.pip_model.specs.Prepare.{Pages, Refused, page_chain}
use Rattle.pip_model.specs.Tree.{Tree}
use Rattle.pip_space.specs.Tables.{page_list}
use Rattle.pip_kern.specs.Tested.{is_ungiven, is_writable}
use Rattle.pip_grow.specs.declared.chain.TablePages.{TablePages}

-- of a page's address alone; seen are those before it
abbrev pub address_tests : List ℕ → ℕ → List (Bool × Status)
address_tests seen a = some_unaligned (a ∷ []) ∷ some_null (a ∷ []) ∷ (has seen a, S.Repeated) ∷ []

-- of the caller's row there
abbrev pub row_tests : FullRow → List (Bool × Status)
row_tests r = (not (is_ungiven r), S.NotFree) ∷ (not (is_writable r), S.NoRight) ∷ []

-- the pages in the order of the chain
abbrev pub chain_pages : TablePages → List Pair
chain_pages g = g.mmu ∷ g.shadow1 ∷ g.shadow2 ∷ page_list g.list

-- these are the pages of a chain from an address on, in their number, or this is what refuses it
abbrev pub ChainAnswer : Tree → ℕ → ℕ → ℕ → Result TablePages Status → Type 0
ChainAnswer t p k first r =
    MatchResult r (λ g. page_chain t p k [] first ≡ Pages (chain_pages g)) (λ s. page_chain t p k [] first ≡ Refused s)
