-- A node with a second list page, computed from the definitions.
use Rattle.std.specs.Prelude.{◌≡◌, refl, ℕ, ◌*◌, true, [], ◌∷◌, length}
use Rattle.pip_base.specs.declared.types.Pair.{Pair}
use Rattle.pip_model.specs.Answers.{nobody}
use Rattle.pip_model.specs.Boot.{boot_table, own}
use Rattle.pip_model.specs.Booting.{tables_begin}
use Rattle.pip_model.specs.Collect.{falls, returned_pages, swap_out, table_for, without_table}
use Rattle.pip_model.specs.CountToMap.{pages_needed}
use Rattle.pip_model.specs.NodeWords.{page_word, slots}
use Rattle.pip_model.specs.Prepare.{with_table}
use Rattle.pip_model.specs.Tree.{Node, Table, lists}

-- 170 tables fill the first page, and 340 the second
filled_pages : lists 0 ∷ lists 170 ∷ lists 171 ∷ lists 340 ∷ lists 341 ∷ [] ≡ 1 ∷ 1 ∷ 2 ∷ 2 ∷ 3 ∷ []
filled_pages = refl

abbrev second : Pair
second = record { va = 0x00500000; frame = 40 }

-- the first page leads to the second, and the second to none
first_leads_on : (s : ℕ → Table) → page_word (second ∷ []) s 0 0 ∷ page_word (second ∷ []) s 0 1
    ∷ page_word (second ∷ []) s 1 0 ∷ page_word (second ∷ []) s 1 1 ∷ [] ≡ 40 ∷ 0x00500000 ∷ 0 ∷ 0 ∷ []
unfolding page_word
first_leads_on s = refl

-- slot 169 is the last of the first page, slot 170 the first of the second
slot_at_the_edge : (s : ℕ → Table) → page_word (second ∷ []) s 0 1016 ∷ page_word (second ∷ []) s 0 1021
    ∷ page_word (second ∷ []) s 1 2 ∷ page_word (second ∷ []) s 1 7 ∷ []
    ≡ (s 169).mmu.va ∷ (s 169).shadow2.frame ∷ (s 170).mmu.va ∷ (s 170).shadow2.frame ∷ []
unfolding page_word
slot_at_the_edge s = refl

-- the table of an index goes, and the last takes its slot
last_takes_the_slot : swap_out 1 (tables_begin 4 0 10) ≡ boot_table 0 10 ∷ boot_table 3 19 ∷ boot_table 2 16 ∷ []
last_takes_the_slot = refl

-- a node of 170 tables needs a list page with the next, and gives it back with the first that goes
abbrev full : Node
full = record nobody { tables = tables_begin 170 0 100 }

abbrev grown : Node
grown = with_table (boot_table 170 610) (second ∷ []) full

four_pages_are_needed : pages_needed full (1024 * 170) ≡ 4
four_pages_are_needed = refl

list_page_goes : falls grown ≡ true
list_page_goes = refl

four_pages_come_back : returned_pages grown (table_for grown 0) ≡ own 100 ∷ own 101 ∷ own 102 ∷ second ∷ []
four_pages_come_back = refl

one_page_is_left : (without_table 0 grown).more ≡ []
one_page_is_left = refl

last_stands_first : slots (without_table 0 grown).tables 0 ≡ boot_table 170 610
unfolding slots
last_stands_first = refl

first_is_full_again : length (without_table 0 grown).tables ≡ 170
first_is_full_again = refl
