-- The words that the shadows have for each page, as an auditor holds them.
use Rattle.std.specs.Prelude.{◌≡◌, ℕ, ◌==◌, ◌&&◌, if◌then◌else◌, List, Some, slice_index}
use Rattle.pip_base.specs.Memory.{Memory}
use Rattle.pip_base.specs.Words.{as_configuration, as_descriptor, as_lent, shadow1_word}
use Rattle.pip_model.specs.FullRows.{given_by, given_word, vpage_of_page, place_word}
use Rattle.pip_model.specs.Lists.{has}
use Rattle.pip_model.specs.ReadOff.{node_read}
use Rattle.pip_model.specs.Tree.{Node, config, holds, row_pages, vpage}
use Rattle.pip_audit.specs.declared.auditor.Auditor.{Auditor}
use Rattle.pip_audit.specs.declared.frame_words.FrameWords.{FrameWords}
use Rattle.pip_audit.specs.FrameWords.{word_held}
use Rattle.pip_audit.specs.Reading.{IsRead, tree_read}

-- words that are held, with another for one page
abbrev pub held_with : ℕ → ℕ → (ℕ → ℕ) → ℕ → ℕ
held_with g word held f = if f == g then word else held f

-- a word that is held, or another where it is 0
abbrev pub held_or : ℕ → ℕ → ℕ
held_or word held = if held == 0 then word else held

-- a page has this word now
abbrev pub Holds : ℕ → ℕ → FrameWords → FrameWords → Type 0
Holds g word old new = (f : ℕ) → word_held new f ≡ held_with g word (word_held old) f

-- ---- first shadows

-- the word of a child's page in the parent's first shadows: the descriptor's own, or another's by what it is for
abbrev pub word_as : ℕ → Node → ℕ → ℕ
word_as kind x g = shadow1_word (if x.name == g then as_descriptor else kind) (vpage x.born)

-- words that are held, with others for these pages
abbrev pub held_over : (ℕ → ℕ) → List ℕ → (ℕ → ℕ) → ℕ → ℕ
held_over word gs held g = if has gs g then word g else held g

-- the words of these pages of a child's are held now
abbrev pub GivesPages : ℕ → Node → List ℕ → FrameWords → FrameWords → Type 0
GivesPages kind x gs old new = (g : ℕ) → word_held new g ≡ held_over (word_as kind x) gs (word_held old) g

-- the words of the pages of a child's rows are held now, as lent
abbrev pub GivesRows : Memory → ℕ → FrameWords → FrameWords → Type 0
GivesRows m part old new = GivesPages as_lent (node_read m part) (row_pages (node_read m part)) old new

-- the words of the pages of a child's configuration are held now, as configuration
abbrev pub GivesConfig : Memory → ℕ → FrameWords → FrameWords → Type 0
GivesConfig m part old new = GivesPages as_configuration (node_read m part) (config (node_read m part)) old new

-- words that are held, with those of all that a node holds, if it is a child of this parent
abbrev pub given_over : ℕ → Node → (ℕ → ℕ) → ℕ → ℕ
given_over parent x held g = if x.up == parent && holds x g then given_by (Some x) g else held g

-- those of all that node x holds are
abbrev pub GivesChild : Memory → ℕ → ℕ → Auditor → Auditor → Type 0
GivesChild m parent x old new = (g : ℕ) → word_held new.words.given g
    ≡ given_over parent (node_read m (slice_index old.names.items x)) (word_held old.words.given) g

-- each page has the word that the first shadows of the node at place y have for it
abbrev pub GivesAll : Memory → ℕ → Auditor → Auditor → Type 0
GivesAll m y old new = (r : IsRead m old) (g : ℕ) → word_held new.words.given g
    ≡ given_word (tree_read m r.others) (slice_index old.names.items y) g

-- ---- second shadows

-- each page has the word that the second shadows of the children of the node at a frame have for it
abbrev pub PlacesRows : Memory → ℕ → FrameWords → Type 0
PlacesRows m part s = (g : ℕ) → word_held s g ≡ place_word (vpage_of_page (node_read m part) g)
