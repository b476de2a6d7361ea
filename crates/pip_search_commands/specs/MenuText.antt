-- The menu of `against`: lines of text, each of which says that partitions may do a deed, or asks whether a label can
-- come again, or whether it comes, or says which words are left out of what the others may read.
use Rattle.std.specs.Prelude.{ℕ, ◌+◌, ◌==◌, ◌&&◌, nat_le, nat_lt, Bool, if◌then◌else◌, List, [], ◌∷◌, ◌++◌, length}
use Rattle.std.specs.Prelude.{Option, Some, None, Result, Ok, Err, codes, decimal, option_and_then, option_map}
use Rattle.std.specs.Str.{bytes_eq}
use Rattle.pip_away.specs.Blind.{LeftOut}
use Rattle.pip_base.specs.declared.types.Size.TheVariants.{Byte, Word}
use Rattle.pip_every.specs.declared.menus.Deed.{Deed}
use Rattle.pip_every.specs.declared.menus.Deed.TheVariants as D
use Rattle.pip_every.specs.declared.menus.May.{May}
use Rattle.pip_model.specs.Grammar.{lines_of, number_of, phrase, words_of}
use Rattle.pip_model.specs.Text.{line_text}
use Rattle.pip_model.specs.declared.script.ScriptLine.{ScriptLine}
use Rattle.pip_model.specs.declared.script.ScriptLine.TheVariants as L
use Rattle.pip_script.specs.Words.{after_word, first_word}
use Rattle.pip_search_commands.specs.declared.commands.against.freedom.Freedom.{Freedom}
use Rattle.pip_search_commands.specs.declared.commands.against.freedom.Freedom.TheVariants as F
use Rattle.pip_search_commands.specs.declared.commands.against.menu_line.MenuKind.{MenuKind}
use Rattle.pip_search_commands.specs.declared.commands.against.menu_line.MenuKind.TheVariants as K
use Rattle.pip_search_commands.specs.declared.commands.against.menu_line.Question.{Question}
use Rattle.pip_search_commands.specs.declared.commands.against.menu_line.Question.TheVariants as Q
use Rattle.pip_search_commands.specs.declared.commands.against.menu.MenuFault.{MenuFault}

-- ---- a line

-- the deed that a line of a script is, whatever its processor
abbrev pub line_deed : ScriptLine → Option Deed
line_deed (L.Load cpu va size) = Some (D.Load va size)
line_deed (L.Store cpu va Word word) = Some (D.StoreWord va word)
line_deed (L.Store cpu va Byte word) = Some (D.StoreByte va word)
line_deed (L.Trap cpu vector a b) = Some (D.Trap vector a b)
line_deed (L.Call cpu number args) = Some (D.Call number args)
line_deed _ = None

-- the deed that words say: with a processor after the first of them, they are a line of a script for one processor
abbrev pub deed_of : List (List ℕ) → Option Deed
deed_of [] = None
deed_of (word ∷ operands) = option_and_then line_deed (phrase 1 (word ∷ codes "0" ∷ operands))

-- whom a word means: each partition but the root, or the one of this name
abbrev pub who_of : List ℕ → Option (Option ℕ)
who_of word = if bytes_eq word (codes "each") then Some None else option_map Some (number_of word)

-- who may do what, where both are said
abbrev pub may_of : Option (Option ℕ) → Option Deed → Result May MenuKind
may_of None deed = Err K.Who
may_of (Some who) None = Err K.What
may_of (Some who) (Some deed) = Ok (record { name = who; deed = deed })

-- what the words of a line say
abbrev pub said_by : List (List ℕ) → Result May MenuKind
said_by [] = Err K.Who
said_by (who ∷ what) = may_of (who_of who) (deed_of what)

-- one deed
abbrev pub one_deed : Result May MenuKind → Result (Option May) MenuKind
one_deed (Ok may) = Ok (Some may)
one_deed (Err kind) = Err kind

-- what a line says that asks of no label: an empty one, and a remark, say nothing
abbrev pub said_of : List ℕ → Result (Option May) MenuKind
said_of [] = Ok None
said_of (b ∷ bs) = if b == 35 then Ok None else one_deed (said_by (words_of (b ∷ bs)))

-- what a line can say: nothing, a deed, a label of which it asks, or what is left out
pub data Said : Type 0 where
  Nothing : Said
  Does : May → Said
  Asks : Question → List ℕ → Said
  Frees : Freedom → Said

-- at most a deed
abbrev pub one_said : Result (Option May) MenuKind → Result Said MenuKind
one_said (Ok None) = Ok Nothing
one_said (Ok (Some may)) = Ok (Does may)
one_said (Err kind) = Err kind

-- what is asked of a label, by the word before it
abbrev pub question_of : List ℕ → Option Question
question_of word =
    if bytes_eq word (codes "again") then Some Q.Again
    else if bytes_eq word (codes "comes") then Some Q.Comes
    else None

-- the label of a question, by what follows its word: a space, and the label as it stands
abbrev pub label_said : List ℕ → Result (List ℕ) MenuKind
label_said [] = Err K.What
label_said (space ∷ []) = Err K.What
label_said (space ∷ (b ∷ bs)) = Ok (b ∷ bs)

-- with its question
abbrev pub asked_of : Question → Result (List ℕ) MenuKind → Result Said MenuKind
asked_of q (Ok label) = Ok (Asks q label)
asked_of q (Err kind) = Err kind

-- the number that follows a word, up to the end of the line
abbrev pub last_number : List ℕ → Option ℕ
last_number [] = None
last_number (space ∷ text) = number_of text

-- a number that follows a space, and what follows it
abbrev pub number_after : List ℕ → Option (ℕ × List ℕ)
number_after [] = None
number_after (space ∷ text) = option_map (λ n. (n, after_word text)) (number_of (first_word text))

-- with one more, up to the end of the line
abbrev pub with_last : Option (ℕ × List ℕ) → Option (ℕ × ℕ)
with_last None = None
with_last (Some (n, rest)) = option_map (λ m. (n, m)) (last_number rest)

-- the two numbers that follow a word
abbrev pub two_numbers : List ℕ → Option (ℕ × ℕ)
two_numbers rest = with_last (number_after rest)

-- a word of a page
abbrev pub seen_in : Option (ℕ × ℕ) → Option Freedom
seen_in None = None
seen_in (Some (page, index)) =
    if nat_lt index 1024 then Some (F.Seen (record { page = page; index = index })) else None

-- an entry of a partition's handler table
abbrev pub entry_in : Option (ℕ × ℕ) → Option Freedom
entry_in None = None
entry_in (Some (name, vector)) = Some (F.Entry (record { name = name; vector = vector }))

-- a row of a partition, by its page and its rights
abbrev pub row_in : ℕ → ℕ → Option (ℕ × ℕ) → Option Freedom
row_in name at None = None
row_in name at (Some (page, rights)) =
    Some (F.Row (record { name = name; at = at; page = page; rights = rights }))

-- by the virtual page, and what follows it
abbrev pub row_at_page : ℕ → Option (ℕ × List ℕ) → Option Freedom
row_at_page name None = None
row_at_page name (Some (at, rest)) = row_in name at (two_numbers rest)

-- by the partition, and what follows it
abbrev pub row_said : Option (ℕ × List ℕ) → Option Freedom
row_said None = None
row_said (Some (name, rest)) = row_at_page name (number_after rest)

-- what is left out or seen, by the word before it
abbrev pub freedom_of : List ℕ → List ℕ → Option (Option Freedom)
freedom_of word rest =
    if bytes_eq word (codes "any") then Some (option_map F.Program (last_number rest))
    else if bytes_eq word (codes "free") then Some (option_map F.Page (last_number rest))
    else if bytes_eq word (codes "seen") then Some (seen_in (two_numbers rest))
    else if bytes_eq word (codes "entry") then Some (entry_in (two_numbers rest))
    else if bytes_eq word (codes "row") then Some (row_said (number_after rest))
    else None

-- what a line says that asks of no label: where its first word leaves something out, that, if it is one
abbrev pub freed_or : Option (Option Freedom) → List ℕ → Result Said MenuKind
freed_or None line = one_said (said_of line)
freed_or (Some None) line = Err K.What
freed_or (Some (Some freedom)) line = Ok (Frees freedom)

-- what a line says, by the question that its first word is, if it is one
abbrev pub said_with : Option Question → List ℕ → Result Said MenuKind
said_with None line = freed_or (freedom_of (first_word line) (after_word line)) line
said_with (Some q) line = asked_of q (label_said (after_word line))

-- what a line says, whose first word says so where it asks of a label
abbrev pub any_said : List ℕ → Result Said MenuKind
any_said line = said_with (question_of (first_word line)) line

-- a line has at most 120 bytes
abbrev pub line_said : List ℕ → Result Said MenuKind
line_said line = if nat_le (length line) 120 then any_said line else Err K.Long

-- ---- the lines

-- what the lines of a menu say: the deeds of partitions, the labels of which it is asked whether they can come again,
-- those of which it is asked whether they come, and the words that are left out
pub record MenuSaid : Type 0 where
  pub may : List May
  pub again : List (List ℕ)
  pub comes : List (List ℕ)
  pub out : LeftOut

-- nothing
abbrev pub no_menu : MenuSaid
no_menu = record {
  may = [];
  again = [];
  comes = [];
  out = record { own = []; pages = []; seen = []; entries = []; rows = [] };
}

-- with a label of a question
abbrev pub with_question : Question → List ℕ → MenuSaid → MenuSaid
with_question Q.Again label menu = record menu { again = menu.again ++ label ∷ [] }
with_question Q.Comes label menu = record menu { comes = menu.comes ++ label ∷ [] }

-- with one more that is left out or seen
abbrev pub with_freedom : Freedom → LeftOut → LeftOut
with_freedom (F.Program name) out = record out { own = out.own ++ name ∷ [] }
with_freedom (F.Page page) out = record out { pages = out.pages ++ page ∷ [] }
with_freedom (F.Seen word) out = record out { seen = out.seen ++ word ∷ [] }
with_freedom (F.Entry entry) out = record out { entries = out.entries ++ entry ∷ [] }
with_freedom (F.Row row) out = record out { rows = out.rows ++ row ∷ [] }

-- there is room for it: 64 partitions, 256 pages, 256 words that are seen, 256 entries, and 256 rows
abbrev pub can_add : Freedom → LeftOut → Bool
can_add (F.Program name) out = nat_lt (length out.own) 64
can_add (F.Page page) out = nat_lt (length out.pages) 256
can_add (F.Seen word) out = nat_lt (length out.seen) 256
can_add (F.Entry entry) out = nat_lt (length out.entries) 256
can_add (F.Row row) out = nat_lt (length out.rows) 256

-- what is said up to line n and with it. A menu has at most 65,536 lines, 1024 deeds, and 16 labels in all
abbrev pub with_line : ℕ → MenuSaid → Result Said MenuKind → Result MenuSaid MenuKind
with_line n menu (Err kind) = Err kind
with_line n menu (Ok Nothing) = if nat_le n 65536 then Ok menu else Err K.Many
with_line n menu (Ok (Does may)) =
    if nat_le n 65536 && nat_lt (length menu.may) 1024 then Ok (record menu { may = menu.may ++ may ∷ [] })
    else Err K.Many
with_line n menu (Ok (Asks q label)) =
    if nat_le n 65536 && nat_lt (length menu.again + length menu.comes) 16 then Ok (with_question q label menu)
    else Err K.Many
with_line n menu (Ok (Frees freedom)) =
    if nat_le n 65536 && can_add freedom menu.out then Ok (record menu { out = with_freedom freedom menu.out })
    else Err K.Many

-- what comes of line n, and then of the further ones
abbrev pub goes_on_after : ℕ → Result MenuSaid MenuKind → (MenuSaid → Result MenuSaid MenuFault)
    → Result MenuSaid MenuFault
goes_on_after n (Ok menu) further = further menu
goes_on_after n (Err kind) further = Err (record { line = n; kind = kind })

-- the menu that lines are, of which the first has number n and comes after this; or the first bad line
abbrev pub menu_from : ℕ → MenuSaid → List (List ℕ) → Result MenuSaid MenuFault
menu_from n menu [] = Ok menu
menu_from n menu (line ∷ lines) =
    goes_on_after n (with_line n menu (line_said line)) (λ more. menu_from (n + 1) more lines)

-- the menu that a text is, or its first bad line
abbrev pub menu_of : List ℕ → Result MenuSaid MenuFault
menu_of bytes = menu_from 1 no_menu (lines_of bytes)

-- ---- the line that names a bad one

-- the word for what is wrong with it
abbrev pub menu_kind : MenuKind → List ℕ
menu_kind K.Long = codes "long"
menu_kind K.Who = codes "who"
menu_kind K.What = codes "what"
menu_kind K.Many = codes "many"

-- the line that names a bad one, by its number
abbrev pub bad_menu_line : MenuFault → List ℕ
bad_menu_line fault = line_text (codes "bad line " ++ decimal fault.line ++ codes " " ++ menu_kind fault.kind)
