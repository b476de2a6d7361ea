-- The words of the command line.
use Rattle.std.specs.Prelude.{ℕ, ◌*◌, Bool, ◌&&◌, ◌==◌, nat_le, nat_lt, if◌then◌else◌, List, [], ◌∷◌, length, Option}
use Rattle.std.specs.Prelude.{None, Some, codes, option_and_then}
use Rattle.std.specs.List.{after_first, before_first}
use Rattle.std.specs.Str.{bytes_eq}
use Rattle.pip_model.specs.Grammar.{number_of}
use Rattle.arrayvec.specs.ArrayVec.{ArrayVec}
use Rattle.pip_slots.specs.Images.{in_turn, round_steps}
use Rattle.pip_slots.specs.declared.time_slot.RoundSlot.{RoundSlot}
use Rattle.pip_search_commands.specs.declared.start.Start.{Start}
use Rattle.pip_lab_commands.specs.declared.words.LabCommand.{LabCommand}
use Rattle.pip_lab_commands.specs.declared.words.LabCommand.TheVariants as C

-- the commands of one word
abbrev pub lab_single_word : List ℕ → Option LabCommand
lab_single_word word =
    if bytes_eq word (codes "part") then Some (C.Part 0)
    else if bytes_eq word (codes "merge") then Some C.Merge
    else None

-- `part` takes the turns before which no line comes, at most 10,000,000
abbrev pub part_words : Option ℕ → Option LabCommand
part_words (Some from) = if nat_le from 10000000 then Some (C.Part from) else None
part_words None = None

-- where a search begins that has no `after`: no steps are made, so that the seed is none's
abbrev pub from_first : Start
from_first = record { count = 0; seed = 1 }

-- `every` and `against` take how many states there is room for, 1 to 100,000,000, the turns before which no line comes,
-- at most 10,000,000, and how many choices are made at most, 1 to 10,000,000, if there is a bound
abbrev pub search_words : (ℕ → ℕ → Option ℕ → Start → LabCommand) → Option ℕ → Option ℕ → Option ℕ → Option LabCommand
search_words command (Some states) (Some from) depth =
    if (nat_le 1 states && nat_le states 100000000) && nat_le from 10000000 then Some
    (command states from depth from_first) else None
search_words command _ _ depth = None

-- `apart` takes how many states there is room for, as `every` does, the steps, at most 10,000,000, and a seed, which is
-- not 0
abbrev pub apart_words : Option ℕ → Option ℕ → Option ℕ → Option LabCommand
apart_words (Some states) (Some count) (Some seed) =
    if (nat_le 1 states && nat_le states 100000000) && (nat_le count 10000000 && nat_le 1 seed) then Some
    (C.Apart states count seed) else None
apart_words _ _ _ = None

-- turns before the first line, or states and nothing else
abbrev pub lab_two_words : List ℕ → Option ℕ → Option LabCommand
lab_two_words word number =
    if bytes_eq word (codes "part") then part_words number
    else if bytes_eq word (codes "every") then search_words C.Every number (Some 0) None
    else if bytes_eq word (codes "against") then search_words C.Against number (Some 0) None
    else None

-- slots as a round has them
abbrev pub as_round : List RoundSlot → ArrayVec RoundSlot
as_round round = record { items = round }

-- `slots` takes a number of children, 1 to 8, and at most 10,000,000 rounds, which have at most that many steps
abbrev pub slots_words : ℕ → ℕ → ArrayVec RoundSlot → Option LabCommand
slots_words n c round =
    if (nat_le 1 n && nat_le n 8) && (nat_le c 10000000 && nat_le (c * round_steps round.items) 10000000) then Some
    (C.Slots n c round) else None

-- a round in which each child has a slot of that many turns in turn, at most 10,000,000
abbrev pub turn_words : Option ℕ → Option ℕ → Option ℕ → Option LabCommand
turn_words (Some n) (Some turns) (Some c) =
    if nat_le n 8 && nat_le turns 10000000 then slots_words n c (as_round (in_turn n turns)) else None
turn_words _ _ _ = None

-- `every` and `against` take the turns before the first line
abbrev pub lab_three_words : List ℕ → Option ℕ → Option ℕ → Option LabCommand
lab_three_words word states from =
    if bytes_eq word (codes "every") then search_words C.Every states from None
    else if bytes_eq word (codes "against") then search_words C.Against states from None
    else None

-- a bound for choices
abbrev pub is_depth : ℕ → Bool
is_depth depth = nat_le 1 depth && nat_le depth 10000000

-- children with their slots, guests after steps, or `every` or `against` with a bound for choices
abbrev pub four_words : List ℕ → Option ℕ → Option ℕ → Option ℕ → Option LabCommand
four_words word first second (Some third) =
    if bytes_eq word (codes "slots") then turn_words first second (Some third)
    else if bytes_eq word (codes "apart") then apart_words first second (Some third)
    else if bytes_eq word (codes "every") && is_depth third then search_words C.Every first second (Some third)
    else if bytes_eq word (codes "against") && is_depth third then search_words C.Against first second (Some third)
    else None
four_words word first second None = None

-- the commands of one word to four
abbrev pub fixed_command : List (List ℕ) → Option LabCommand
fixed_command (word ∷ []) = lab_single_word word
fixed_command (word ∷ number ∷ []) = lab_two_words word (number_of number)
fixed_command (word ∷ count ∷ seed ∷ []) = lab_three_words word (number_of count) (number_of seed)
fixed_command (word ∷ first ∷ second ∷ third ∷ []) =
    four_words word (number_of first) (number_of second) (number_of third)
fixed_command _ = None

-- a slot of a child below n, with at most 10,000,000 turns
abbrev pub numbered_slot : ℕ → Option ℕ → Option ℕ → Option RoundSlot
numbered_slot n (Some k) (Some turns) = if nat_lt k n && nat_le turns 10000000 then Some
    (record { child = k; turns = turns }) else None
numbered_slot n _ _ = None

-- the number of the child, a colon, and its turns
abbrev pub slot_in : ℕ → List ℕ → Option RoundSlot
slot_in n word =
    numbered_slot n (number_of (before_first (λ b. b == 58) word)) (number_of (after_first (λ b. b == 58) word))

-- a slot in front of the others, where all are slots
abbrev pub cons_slot : Option RoundSlot → Option (List RoundSlot) → Option (List RoundSlot)
cons_slot (Some x) (Some xs) = Some (x ∷ xs)
cons_slot _ _ = None

-- all the words are slots
abbrev pub slots_in : ℕ → List (List ℕ) → Option (List RoundSlot)
slots_in n [] = Some []
slots_in n (word ∷ words) = cons_slot (slot_in n word) (slots_in n words)

-- with the slots that words write
abbrev pub given_slots : Option ℕ → Option ℕ → List (List ℕ) → Option LabCommand
given_slots (Some n) (Some c) words = option_and_then (λ round. slots_words n c (as_round round)) (slots_in n words)
given_slots _ _ words = None

-- there are 1 to 64 slots of a round
abbrev pub rounds_command : List ℕ → Option ℕ → Option ℕ → List (List ℕ) → Option LabCommand
rounds_command word n c slots = if bytes_eq word (codes "slots")
    && (nat_le 1 (length slots) && nat_le (length slots) 64) then given_slots n c slots else None

-- `slots` may take the number of children, the rounds, and the slots of a round
abbrev pub given_command : List (List ℕ) → Option LabCommand
given_command (word ∷ n ∷ c ∷ slots) = rounds_command word (number_of n) (number_of c) slots
given_command _ = None

-- the same search from there on, if it is one
abbrev pub starts_at : LabCommand → Start → Option LabCommand
starts_at (C.Every states from depth other) start = Some (C.Every states from depth start)
starts_at (C.Against states from depth other) start = Some (C.Against states from depth start)
starts_at _ start = None

-- a search may begin after at most 10,000,000 steps, by a seed that is not 0
abbrev pub start_words : Option LabCommand → Option ℕ → Option ℕ → Option LabCommand
start_words search (Some count) (Some seed) = if nat_le count 10000000 && nat_le 1 seed then option_and_then
    (λ command. starts_at command (record { count = count; seed = seed })) search else None
start_words search _ _ = None

-- a search, the word `after`, the steps and their seed
abbrev pub after_command : Option LabCommand → List ℕ → Option ℕ → Option ℕ → Option LabCommand
after_command search word count seed =
    if bytes_eq word (codes "after") then start_words search count seed else None

-- a search after steps has five words to seven
abbrev pub later_command : List (List ℕ) → Option LabCommand
later_command (word ∷ states ∷ after ∷ count ∷ seed ∷ []) =
    after_command (lab_two_words word (number_of states)) after (number_of count) (number_of seed)
later_command (word ∷ states ∷ from ∷ after ∷ count ∷ seed ∷ []) =
    after_command (lab_three_words word (number_of states) (number_of from)) after (number_of count) (number_of seed)
later_command (word ∷ states ∷ from ∷ depth ∷ after ∷ count ∷ seed ∷ []) =
    after_command (four_words word (number_of states) (number_of from) (number_of depth)) after (number_of count)
    (number_of seed)
later_command _ = None

-- the first that is there
abbrev pub first_command : Option LabCommand → Option LabCommand → Option LabCommand
first_command (Some command) other = Some command
first_command None other = other

-- the command that the words ask for, if they are of one of the forms
abbrev pub lab_command_of : List (List ℕ) → Option LabCommand
lab_command_of words = first_command (fixed_command words) (first_command (later_command words) (given_command words))

-- the usage line
abbrev pub lab_usage : List ℕ
lab_usage = codes "usage: pip-lab slots N TURNS ROUNDS | slots N ROUNDS K:TURNS .. | every STATES [FROM [DEPTH]] [after STEPS SEED] | against STATES [FROM [DEPTH]] [after STEPS SEED] | apart STATES STEPS SEED | part [FROM] | merge"
