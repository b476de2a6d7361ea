-- What a call on memory answers, and the conditions that calls share. p is the partition that calls.
-- Where a call is accepted, p has the rows and the child that it names: the values that stand for
-- 'none' below (0, or a node of nobody) are then not read.
use Rattle.std.specs.Prelude.{ℕ, Bool, not, ◌==◌, if◌then◌else◌, List, [], ◌∷◌, map, Option, Some, None, is_some}
use Rattle.std.specs.Prelude.{is_none, bit_and, unwrap_or, option_map, false, slice_index}
use Rattle.std.specs.List.{list_any}
use Rattle.pip_base.specs.declared.types.Pair.{Pair}
use Rattle.pip_base.specs.declared.outcome.Status.{Status}
use Rattle.pip_base.specs.declared.outcome.Status.TheVariants as S
use Rattle.pip_model.specs.Lists.{has}
use Rattle.pip_model.specs.Tree.{Node, Tree, node, row_at, page_at, child_at, vpage, is_place}
use Rattle.pip_model.specs.Boot.{own, zero_words}

-- a status, a value, and the tree after the call
pub record Answer : Type 0 where
  pub status : Status
  pub value : ℕ
  pub tree : Tree

-- a refusal has the value 0 and leaves the tree
abbrev pub refuse : Tree → Status → Answer
refuse t s = record { status = s; value = 0; tree = t }

-- an accepted call
abbrev pub accept : ℕ → Tree → Answer
accept value t = record { status = S.Ok; value = value; tree = t }

-- Conditions come in the order in which they are tested, each with its status. The first that is met
abbrev pub first_met : List (Bool × Status) → Option Status
first_met [] = None
first_met (c ∷ cs) = if c.0 then Some c.1 else first_met cs

-- the answer, or a refusal where a condition is met
abbrev pub answer_unless : Tree → Option Status → Answer → Answer
answer_unless t None a = a
answer_unless t (Some s) a = refuse t s

-- five words: what a call is given
pub record Five : Type 0 where
  pub x0 : ℕ
  pub x1 : ℕ
  pub x2 : ℕ
  pub x3 : ℕ
  pub x4 : ℕ

-- the five words at the front of a list
abbrev pub five_of : List ℕ → Five
five_of xs = record {
  x0 = slice_index xs 0;
  x1 = slice_index xs 1;
  x2 = slice_index xs 2;
  x3 = slice_index xs 3;
  x4 = slice_index xs 4;
}

-- the five words as a list
abbrev pub list_of : Five → List ℕ
list_of a = a.x0 ∷ a.x1 ∷ a.x2 ∷ a.x3 ∷ a.x4 ∷ []

-- an address among these is no place where a page begins, which the call refuses
abbrev pub some_unaligned : List ℕ → Bool × Status
some_unaligned xs = (list_any (λ a. not (is_place a)) xs, S.NotAligned)

-- an address among these is 0, which the call refuses
abbrev pub some_null : List ℕ → Bool × Status
some_null xs = (list_any (λ a. a == 0) xs, S.NullPage)

-- p has no child at address d, which the call refuses
abbrev pub no_child : Tree → ℕ → ℕ → Bool × Status
no_child t p d = (is_none (child_at t p d), S.NotChild)

-- a node of nobody
abbrev pub nobody : Node
nobody = record {
  name = 0;
  up = 0;
  born = 0;
  base = record { descriptor = own 0; mmu = own 0; shadow1 = own 0; shadow2 = own 0; list = own 0 };
  tables = [];
  more = [];
  rows = [];
  masked = false;
  pending = [];
}

-- the child whose descriptor p has at d
abbrev pub child_of : Tree → ℕ → ℕ → Node
child_of t p d = unwrap_or (child_at t p d) nobody

-- the name of the child whose descriptor p has at d
abbrev pub child_name : Tree → ℕ → ℕ → ℕ
child_name t p d = unwrap_or (option_map (λ x. x.name) (child_at t p d)) 0

-- p has a row at vpage v
abbrev pub is_mapped : Tree → ℕ → ℕ → Bool
is_mapped t p v = is_some (row_at (node t p).rows v)

-- the rights of p's row at vpage v
abbrev pub rights_at : Tree → ℕ → ℕ → ℕ
rights_at t p v = unwrap_or (option_map (λ r. r.rights) (row_at (node t p).rows v)) 0

-- p may read and write its page at vpage v
abbrev pub writable : Tree → ℕ → ℕ → Bool
writable t p v = bit_and 3 (rights_at t p v) == 3

-- the page of p's row at an address
abbrev pub page_of : Tree → ℕ → ℕ → ℕ
page_of t p a = unwrap_or (page_at (node t p) (vpage a)) 0

-- an address of p, paired with the page that p has there
abbrev pub pair_at : Tree → ℕ → ℕ → Pair
pair_at t p a = record { va = a; frame = page_of t p a }

-- the pages of these pairs
abbrev pub pair_frames : List Pair → List ℕ
pair_frames gs = map (λ g. g.frame) gs

-- the words of memory once these pages can't be read any more
abbrev pub words_without : List ℕ → (ℕ → Option (ℕ → ℕ)) → ℕ → Option (ℕ → ℕ)
words_without gs words g = if has gs g then None else words g

-- the words of memory once these pages can be read and are zero
abbrev pub words_cleared : List ℕ → (ℕ → Option (ℕ → ℕ)) → ℕ → Option (ℕ → ℕ)
words_cleared gs words g = if has gs g then Some zero_words else words g
