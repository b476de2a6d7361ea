-- Words in the entries of a handler table, by what a partition does with them.
use Rattle.std.specs.Prelude.{◌≡◌, ℕ, ◌+◌, ◌==◌, ◌&&◌, ◌||◌, not, if◌then◌else◌, Bool, true, false, List, [], ◌∷◌}
use Rattle.std.specs.Prelude.{Option, Some, None, is_none, option_map}
use Rattle.pip_base.specs.declared.types.Size.{Size}
use Rattle.pip_base.specs.declared.types.Size.TheVariants.{Byte, Word}
use Rattle.pip_model.specs.Answers.{nobody}
use Rattle.pip_model.specs.Handlers.{block_at, store_at}
use Rattle.pip_model.specs.Lists.{In, has}
use Rattle.pip_model.specs.Reach.{Faulted, Place, Reached}
use Rattle.pip_model.specs.Tree.{Row, Tree, hidden, node}
use Rattle.pip_guests.specs.Outside.{EntryMisses, seen_but}
use Rattle.pip_guests.specs.Sights.{IsSight, Sight, each_from}

-- the class of a word x by which a partition has a block, by where this can be saved to: nowhere; in words that are
-- left out; or elsewhere, and then x is alone
abbrev pub place_class : (ℕ → ℕ → Bool) → ℕ → Reached → ℕ
place_class blind x (Faulted f) = 1
place_class blind x (Place g i) = if each_from (λ j. blind g j) 17 i then 2 else 3 + x

-- that of any word: there is one more, of those by which it has none
abbrev pub block_class : (ℕ → ℕ → Bool) → Tree → ℕ → ℕ → Option ℕ → ℕ
block_class blind t p x None = 0
block_class blind t p x (Some a) = place_class blind x (store_at t p (Some a))

-- the class of a word in an entry of p's handler table
abbrev pub word_class : (ℕ → ℕ → Bool) → Tree → ℕ → ℕ → ℕ
word_class blind t p x = block_class blind t p x (block_at t p (Some x))

-- what is seen of an entry, if the word is one, or of another word
abbrev pub by_class : Option (ℕ → ℕ) → ℕ → ℕ → ℕ
by_class None n x = n
by_class (Some f) n x = f x

-- all words are seen, but for those that are left out, and for entries, of which their class is seen
abbrev pub seen_by : (ℕ → ℕ → Bool) → (ℕ → ℕ → Option (ℕ → ℕ)) → ℕ → ℕ → ℕ → ℕ
seen_by blind entries g i x = by_class (entries g i) (seen_but blind g i x) x

-- where the classes are those of p in this tree, p reads its entry so
abbrev pub EntriesHaveClasses : Type 0
EntriesHaveClasses = (own : List ℕ) (blind : ℕ → ℕ → Bool) (entries : ℕ → ℕ → Option (ℕ → ℕ)) (t : Tree) (p g i : ℕ)
    (f : ℕ → ℕ) → In p own → ((h j : ℕ) → blind h j ≡ true → entries h j ≡ None) → entries g i ≡ Some f
    → ((x : ℕ) → f x ≡ word_class blind t p x) → EntryMisses own (seen_by blind entries) t p (Place g i)

-- ---- the test

-- Which words are entries of handler tables that are read by their class is said by the rows of their partition.
-- a tree in which these are the rows of a partition
abbrev pub rows_tree : List Row → Tree
rows_tree rows = record { frames = 0; root = record nobody { rows = rows }; others = []; words = λ g. None }

-- a row is another one, whose page isn't hidden
abbrev pub row_fits : Tree → Row → Row → Bool
row_fits t r s = (r.at == s.at && (r.frame == s.frame && r.rights == s.rights))
    && not (hidden t s.frame || 0 == s.frame)

-- so it is with each of two lists
abbrev pub rows_fit : Tree → List Row → List Row → Bool
rows_fit t [] [] = true
rows_fit t (r ∷ rs) (s ∷ ss) = row_fits t r s && rows_fit t rs ss
rows_fit t _ _ = false

-- p has these rows, and none of their pages is hidden
abbrev pub fits_rows : Tree → ℕ → List Row → Bool
fits_rows t p rows = rows_fit t (node t p).rows rows

-- these words are left out: but for entries
abbrev pub free_of : (ℕ → ℕ → Bool) → (ℕ → ℕ → Option (List Row)) → ℕ → ℕ → Bool
free_of blind kept g i = is_none (kept g i) && blind g i

-- what is seen of words, if some are left out, and some are entries
abbrev pub class_look : (ℕ → ℕ → Bool) → (ℕ → ℕ → Option (List Row)) → ℕ → ℕ → ℕ → ℕ
class_look blind kept = seen_by (free_of blind kept)
    (λ g i. option_map (λ rows. word_class (free_of blind kept) (rows_tree rows) 0) (kept g i))

-- the test of the entry of p there
abbrev pub entry_fits : List ℕ → (ℕ → ℕ → Bool) → Tree → ℕ → ℕ → ℕ → Option (List Row) → Bool
entry_fits own blind t p g i None = not (blind g i)
entry_fits own blind t p g i (Some rows) = has own p && fits_rows t p rows

-- a store leaves nothing of what was there
abbrev pub is_of_word : Size → Bool
is_of_word Word = true
is_of_word Byte = false

-- the tests of words, if some are left out, and some are entries
abbrev pub class_sight : List ℕ → (ℕ → ℕ → Bool) → (ℕ → ℕ → Option (List Row)) → Sight
class_sight own blind kept = record {
  seen = λ g i. is_none (kept g i) && not (blind g i);
  blind = free_of blind kept;
  entry = λ t p g i. entry_fits own blind t p g i (kept g i);
  stores = λ z g i. is_of_word z || is_none (kept g i);
}

-- they say so
abbrev pub ClassesAreSights : Type 0
ClassesAreSights = (own : List ℕ) (blind : ℕ → ℕ → Bool) (kept : ℕ → ℕ → Option (List Row))
    → IsSight own (class_look blind kept) (class_sight own blind kept)
