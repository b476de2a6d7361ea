-- Words that are left out, as lists.
use Rattle.std.specs.Prelude.{ℕ, ◌%◌, ◌==◌, ◌&&◌, nat_le, not, Bool, List, filter, find, length, map, Option, Some}
use Rattle.std.specs.Prelude.{None, option_map}
use Rattle.std.specs.List.{list_any}
use Rattle.pip_away.specs.declared.blind.Blind.{Blind}
use Rattle.pip_away.specs.declared.blind.TableEntry.{TableEntry}
use Rattle.pip_away.specs.declared.blind.OwnRow.{OwnRow}
use Rattle.pip_away.specs.declared.blind.PageWord.{PageWord}
use Rattle.pip_away.specs.declared.handlers.TableWord.{TableWord}
use Rattle.pip_model.specs.FullRows.{FullRow}
use Rattle.pip_model.specs.Lists.{has}
use Rattle.pip_model.specs.Reach.{Faulted, Place, Reached}
use Rattle.pip_model.specs.Tree.{Row, Tree, word_of}
use Rattle.pip_guests.specs.Entries.{class_look, class_sight}
use Rattle.pip_guests.specs.Sights.{Sight}

-- this word of a page is one of these
abbrev pub is_seen_word : List PageWord → ℕ → ℕ → Bool
is_seen_word seen g i = list_any (λ s. s.page == g && s.index == i) seen

-- partitions whose programs may be any, and the words that are left out, as lists; and entries of their handler tables
-- of which the class is seen, with the rows by which it is one
pub record LeftOut : Type 0 where
  pub own : List ℕ
  pub pages : List ℕ
  pub seen : List PageWord
  pub entries : List TableEntry
  pub rows : List OwnRow

-- those that are named
abbrev pub left_out : Blind → LeftOut
left_out b = record {
  own = b.own.items;
  pages = b.pages.items;
  seen = b.seen.items;
  entries = b.entries.items;
  rows = b.rows.items;
}

-- the words of the pages are left out, but for those that are seen
abbrev pub is_left_out : LeftOut → ℕ → ℕ → Bool
is_left_out o g i = has o.pages g && not (is_seen_word o.seen g i)

-- the rows of a partition
abbrev pub own_rows : List OwnRow → ℕ → List Row
own_rows rows p =
    map (λ r. record { at = r.at; frame = r.page; rights = r.rights }) (filter (λ r. r.name == p) rows)

-- a row of the tables is this one, and its page isn't hidden
abbrev pub is_row : ℕ → FullRow → OwnRow → Bool
is_row v r own = (r.user && (v == own.at && r.frame == own.page)) && r.rights == own.rights

-- a partition has its handler table in this page
abbrev pub is_table : List OwnRow → ℕ → ℕ → Bool
is_table rows p g = list_any (λ r. r.name == p && (r.at == 0xfffff && r.page == g)) rows

-- the partition of which a word is an entry whose class is seen
abbrev pub entry_owner : LeftOut → ℕ → ℕ → Option ℕ
entry_owner o g i =
    option_map (λ e. e.name) (find (λ e. e.vector == i && is_table o.rows e.name g) o.entries)

-- its rows
abbrev pub kept_of : LeftOut → ℕ → ℕ → Option (List Row)
kept_of o g i = option_map (own_rows o.rows) (entry_owner o g i)

-- the tests of words
abbrev pub sight_in : LeftOut → Sight
sight_in o = class_sight o.own (is_left_out o) (kept_of o)

-- by what is named
abbrev pub sight_of : Blind → Sight
sight_of b = sight_in (left_out b)

-- what is seen of words
abbrev pub look_of : LeftOut → ℕ → ℕ → ℕ → ℕ
look_of o = class_look (is_left_out o) (kept_of o)

-- one of the lists isn't empty
abbrev pub leaves_out : LeftOut → Bool
leaves_out o = not (length o.own == 0 && (length o.pages == 0 && (length o.seen == 0
    && (length o.entries == 0 && length o.rows == 0))))

-- a word of a handler table, where it is reached
abbrev pub table_word : Tree → Reached → Option TableWord
table_word t (Place g i) = Some (record { page = g; index = i; word = word_of (t.words g) i })
table_word t (Faulted f) = None

-- a block can begin at an address
abbrev pub can_begin : ℕ → Bool
can_begin a = a % 4 == 0 && nat_le (a % 4096) 4028
