-- prepare: pages of p become a child's tables for an address. The pages are a chain: word 0 of each
-- is the address of the next, and word 0 of the last is not looked at.
use Rattle.std.specs.Prelude.{ℕ, zero, suc, Bool, not, List, [], ◌∷◌, ◌++◌, Option, Some, None}
use Rattle.pip_base.specs.declared.types.Pair.{Pair}
use Rattle.pip_base.specs.declared.outcome.Status.{Status}
use Rattle.pip_base.specs.declared.outcome.Status.TheVariants as S
use Rattle.pip_model.specs.Lists.{has}
use Rattle.pip_model.specs.Tree.{Table, Node, Tree, change_node, free, dir, vpage, word_of}
use Rattle.pip_model.specs.Answers.{Answer, refuse, accept, first_met, answer_unless, some_unaligned, some_null}
use Rattle.pip_model.specs.Answers.{child_of, child_name, is_mapped, writable, page_of, pair_at, pair_frames}
use Rattle.pip_model.specs.Answers.{words_without}
use Rattle.pip_model.specs.CountToMap.{pages_needed, count_refusals}

-- the first refusal of the first page that has one, or all the pages
pub data PageChain : Type 0 where
  Refused : Status → PageChain
  Pages : List Pair → PageChain

-- the address that word 0 of p's page at an address holds
abbrev pub next_in_chain : Tree → ℕ → ℕ → ℕ
next_in_chain t p a = word_of (t.words (page_of t p a)) 0

-- what refuses the page at a; seen are the addresses before it
abbrev pub page_refusals : Tree → ℕ → List ℕ → ℕ → List (Bool × Status)
page_refusals t p seen a =
    some_unaligned (a ∷ [])
    ∷ some_null (a ∷ [])
    ∷ (has seen a, S.Repeated)
    ∷ (not (is_mapped t p (vpage a)), S.NotMapped)
    ∷ (not (free t p (vpage a)), S.NotFree)
    ∷ (not (writable t p (vpage a)), S.NoRight)
    ∷ []

-- a page in front of a chain of pages
abbrev pub put_first : Pair → PageChain → PageChain
put_first g (Refused s) = Refused s
put_first g (Pages gs) = Pages (g ∷ gs)

-- a page in front of a chain, unless the page itself is refused
abbrev pub go_on : Option Status → Pair → PageChain → PageChain
go_on (Some s) g c = Refused s
go_on None g c = put_first g c

-- a number of pages from an address on
abbrev pub page_chain : Tree → ℕ → ℕ → List ℕ → ℕ → PageChain
page_chain t p zero seen a = Pages []
page_chain t p (suc k) seen a =
    go_on (first_met (page_refusals t p seen a)) (pair_at t p a) (page_chain t p k (a ∷ seen) (next_in_chain t p a))

-- a node with this table as its last, and these list pages after the others
abbrev pub with_table : Table → List Pair → Node → Node
with_table b gs x = record x { tables = x.tables ++ b ∷ []; more = x.more ++ gs }

-- the first three pages are the table's, a fourth is a list page; none of them can be read any more
abbrev pub tree_with_table : Tree → ℕ → ℕ → List Pair → Tree
tree_with_table t c i (g0 ∷ g1 ∷ g2 ∷ gs) =
    record (change_node c (with_table (record { index = i; mmu = g0; shadow1 = g1; shadow2 = g2 }) gs) t) {
      words = words_without (pair_frames (g0 ∷ g1 ∷ g2 ∷ gs)) t.words;
    }
tree_with_table t c i _ = t

-- what prepare answers, by the chain of k pages that it was given
abbrev pub prepare_with : Tree → ℕ → ℕ → ℕ → PageChain → Answer
prepare_with t c v k (Refused s) = refuse t s
prepare_with t c v k (Pages gs) = accept k (tree_with_table t c (dir v) gs)

-- where the child needs no page, the chain has none, and the tree stays
abbrev pub prepare : Tree → ℕ → ℕ → ℕ → ℕ → Answer
prepare t p d cv first =
    answer_unless t (first_met (count_refusals t p d cv))
    (let k = pages_needed (child_of t p d) (vpage cv) in
    prepare_with t (child_name t p d) (vpage cv) k (page_chain t p k [] first))
