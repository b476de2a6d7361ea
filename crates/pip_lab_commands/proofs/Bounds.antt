-- The numbers in the words of the command line are within their bounds.
use Rattle.std.proofs.Common.{ℕ, ◌≤◌, ◌<◌, ◌*◌, ◌^◌, ◌&&◌, Bool, List, [], ◌∷◌, Option}
use Rattle.std.proofs.Common.{None, Some, arith, length}
use Rattle.std.specs.Prelude.{codes, nat_le, nat_lt, option_and_then}
use Rattle.std.specs.List.{AllByRecursion}
use Rattle.std.specs.Str.{bytes_eq}
use Rattle.std.proofs.lemmas.Bool.{leb-true, ltb-true}
use Rattle.pip_model.specs.Grammar.{number_of}
use Rattle.pip_slots.specs.Images.{in_turn, round_steps}
use Rattle.pip_slots.specs.declared.time_slot.RoundSlot.{RoundSlot}
use Rattle.pip_slots.proofs.Rounds.{turn_children}
use Rattle.pip_command_contracts.proofs.Within.{AreWithin, both, first_or, tested}
use Rattle.pip_lab_commands.specs.Words.{after_command, apart_words, as_round, lab_command_of, cons_slot, first_command}
use Rattle.pip_lab_commands.specs.Words.{fixed_command, four_words, from_first, given_command, given_slots, is_depth}
use Rattle.pip_lab_commands.specs.Words.{later_command, numbered_slot, part_words, search_words, lab_single_word}
use Rattle.pip_lab_commands.specs.Words.{slots_in}
use Rattle.pip_lab_commands.specs.Words.{slots_words, start_words, starts_at, lab_three_words, turn_words}
use Rattle.pip_lab_commands.specs.Words.{lab_two_words}
use Rattle.pip_search_commands.specs.declared.start.Start.{Start}
use Rattle.pip_lab_commands.specs.declared.words.LabCommand.{LabCommand}
use Rattle.pip_lab_commands.specs.declared.words.LabCommand.TheVariants as C

abbrev pub IsWithin : LabCommand → Type 0
IsWithin (C.Slots n rounds round) =
    (1 ≤ n) × (n ≤ 8) × (rounds * round_steps round.items < 2 ^ 32) × AllByRecursion (λ x. x.child < n) round.items
IsWithin (C.Every states from depth start) = (1 ≤ states) × (1 ≤ start.seed)
IsWithin (C.Against states from depth start) = (1 ≤ states) × (1 ≤ start.seed)
IsWithin (C.Apart states count seed) = (1 ≤ states) × (1 ≤ seed)
IsWithin _ = Unit {0}

module _ (command : ℕ → ℕ → Option ℕ → Start → LabCommand) (some : (n from : ℕ) (depth : Option ℕ) → 1 ≤ n
    → IsWithin (command n from depth from_first)) where
  search_within : (a b depth : Option ℕ) → AreWithin IsWithin (search_words command a b depth)
  search_within None b depth = tt
  search_within (Some n) None depth = tt
  search_within (Some n) (Some from) depth =
      tested IsWithin ((nat_le 1 n && nat_le n 100000000) && nat_le from 10000000)
      (Some (command n from depth from_first)) (λ e.
      let (x, y) = both (nat_le 1 n && nat_le n 100000000) (nat_le from 10000000) e in
      some n from depth (leb-true 1 n (both (nat_le 1 n) (nat_le n 100000000) x).0))

every_within : (a b depth : Option ℕ) → AreWithin IsWithin (search_words C.Every a b depth)
every_within = search_within C.Every (λ n from depth h. (h, omega arith))

against_within : (a b depth : Option ℕ) → AreWithin IsWithin (search_words C.Against a b depth)
against_within = search_within C.Against (λ n from depth h. (h, omega arith))

three_within : (word : List ℕ) (a b : Option ℕ) → AreWithin IsWithin (lab_three_words word a b)
three_within word a b =
    first_or IsWithin (bytes_eq word (codes "every")) (search_words C.Every a b None) _ (every_within a b None)
    (first_or IsWithin (bytes_eq word (codes "against")) (search_words C.Against a b None) None
    (against_within a b None) tt)

part_within : (a : Option ℕ) → AreWithin IsWithin (part_words a)
part_within None = tt
part_within (Some n) = first_or IsWithin (nat_le n 10000000) (Some (C.Part n)) None tt tt

two_within : (word : List ℕ) (a : Option ℕ) → AreWithin IsWithin (lab_two_words word a)
two_within word a =
    first_or IsWithin (bytes_eq word (codes "part")) (part_words a) _ (part_within a)
    (first_or IsWithin (bytes_eq word (codes "every")) (search_words C.Every a (Some 0) None) _
    (every_within a (Some 0) None)
    (first_or IsWithin (bytes_eq word (codes "against")) (search_words C.Against a (Some 0) None) None
    (against_within a (Some 0) None) tt))

slots_within : (n c : ℕ) (xs : List RoundSlot) → AllByRecursion (λ x. x.child < n) xs
    → AreWithin IsWithin (slots_words n c (as_round xs))
slots_within n c xs h =
    tested IsWithin ((nat_le 1 n && nat_le n 8) && (nat_le c 10000000 && few))
    (Some (C.Slots n c (as_round xs))) (λ e.
    let (x, y) = both (nat_le 1 n && nat_le n 8) (nat_le c 10000000 && few) e in
    let (least, most) = both (nat_le 1 n) (nat_le n 8) x in
    let within = leb-true (c * round_steps xs) 10000000 (both (nat_le c 10000000) few y).1 in
    (leb-true 1 n least, leb-true n 8 most, omega (arith, within), h))
  where
    few : Bool
    few = nat_le (c * round_steps xs) 10000000

turn_within : (a b c : Option ℕ) → AreWithin IsWithin (turn_words a b c)
turn_within None b c = tt
turn_within (Some n) None c = tt
turn_within (Some n) (Some turns) None = tt
turn_within (Some n) (Some turns) (Some c) = first_or IsWithin (nat_le n 8 && nat_le turns 10000000)
    (slots_words n c (as_round (in_turn n turns))) None (slots_within n c (in_turn n turns) (turn_children n turns)) tt

apart_within : (a b c : Option ℕ) → AreWithin IsWithin (apart_words a b c)
apart_within None b c = tt
apart_within (Some n) None c = tt
apart_within (Some n) (Some count) None = tt
apart_within (Some n) (Some count) (Some seed) = tested IsWithin (room && steps) (Some (C.Apart n count seed)) (λ e.
    let (x, y) = both room steps e in (
      leb-true 1 n (both (nat_le 1 n) (nat_le n 100000000) x).0,
      leb-true 1 seed (both (nat_le count 10000000) (nat_le 1 seed) y).1,
    ))
  where
    room : Bool
    room = nat_le 1 n && nat_le n 100000000

    steps : Bool
    steps = nat_le count 10000000 && nat_le 1 seed

four_within : (word : List ℕ) (a b c : Option ℕ) → AreWithin IsWithin (four_words word a b c)
four_within word a b None = tt
four_within word a b (Some third) =
    first_or IsWithin (bytes_eq word (codes "slots")) (turn_words a b (Some third)) _ (turn_within a b (Some third))
    (first_or IsWithin (bytes_eq word (codes "apart")) (apart_words a b (Some third)) _ (apart_within a b (Some third))
    (first_or IsWithin (bytes_eq word (codes "every") && is_depth third) (search_words C.Every a b (Some third)) _
    (every_within a b (Some third))
    (first_or IsWithin (bytes_eq word (codes "against") && is_depth third) (search_words C.Against a b (Some third))
    None
    (against_within a b (Some third)) tt)))

single_within : (word : List ℕ) → AreWithin IsWithin (lab_single_word word)
single_within word =
    first_or IsWithin (bytes_eq word (codes "part")) (Some (C.Part 0)) _ tt
    (first_or IsWithin (bytes_eq word (codes "merge")) (Some C.Merge) None tt tt)

fixed_within : (words : List (List ℕ)) → AreWithin IsWithin (fixed_command words)
fixed_within [] = tt
fixed_within (word ∷ []) = single_within word
fixed_within (word ∷ number ∷ []) = two_within word (number_of number)
fixed_within (word ∷ count ∷ seed ∷ []) = three_within word (number_of count) (number_of seed)
fixed_within (word ∷ first ∷ second ∷ third ∷ []) =
    four_within word (number_of first) (number_of second) (number_of third)
fixed_within (word ∷ first ∷ second ∷ third ∷ more ∷ words) = tt

-- ---- a search after steps

started_within : (c : LabCommand) (start : Start) → IsWithin c → 1 ≤ start.seed → AreWithin IsWithin (starts_at c start)
started_within (C.Every states from depth other) start h some = (h.0, some)
started_within (C.Against states from depth other) start h some = (h.0, some)
started_within _ start h some = tt

start_within : (search : Option LabCommand) (a b : Option ℕ) → AreWithin IsWithin search
    → AreWithin IsWithin (start_words search a b)
start_within search None b h = tt
start_within search (Some count) None h = tt
start_within None (Some count) (Some seed) h = tested IsWithin (nat_le count 10000000 && nat_le 1 seed) None (λ e. tt)
start_within (Some c) (Some count) (Some seed) h = tested IsWithin (nat_le count 10000000 && nat_le 1 seed)
    (starts_at c (record { count = count; seed = seed })) (λ e.
    started_within c (record { count = count; seed = seed }) h
    (leb-true 1 seed (both (nat_le count 10000000) (nat_le 1 seed) e).1))

after_within : (search : Option LabCommand) (word : List ℕ) (a b : Option ℕ) → AreWithin IsWithin search
    → AreWithin IsWithin (after_command search word a b)
after_within search word a b h =
    first_or IsWithin (bytes_eq word (codes "after")) (start_words search a b) None (start_within search a b h) tt

later_within : (words : List (List ℕ)) → AreWithin IsWithin (later_command words)
later_within [] = tt
later_within (a ∷ []) = tt
later_within (a ∷ b ∷ []) = tt
later_within (a ∷ b ∷ c ∷ []) = tt
later_within (a ∷ b ∷ c ∷ d ∷ []) = tt
later_within (word ∷ states ∷ after ∷ count ∷ seed ∷ []) =
    after_within (lab_two_words word (number_of states)) after (number_of count) (number_of seed)
    (two_within word (number_of states))
later_within (word ∷ states ∷ from ∷ after ∷ count ∷ seed ∷ []) =
    after_within (lab_three_words word (number_of states) (number_of from)) after (number_of count) (number_of seed)
    (three_within word (number_of states) (number_of from))
later_within (word ∷ states ∷ from ∷ depth ∷ after ∷ count ∷ seed ∷ []) =
    after_within (four_words word (number_of states) (number_of from) (number_of depth)) after (number_of count)
    (number_of seed) (four_within word (number_of states) (number_of from) (number_of depth))
later_within (a ∷ b ∷ c ∷ d ∷ e ∷ f ∷ g ∷ h ∷ words) = tt

-- ---- the slots of a round

-- each slot is that of a child below n
abbrev AreOf : ℕ → List RoundSlot → Type 0
AreOf n xs = AllByRecursion (λ x. x.child < n) xs

numbered_of : (n : ℕ) (a b : Option ℕ) → AreWithin (λ x. x.child < n) (numbered_slot n a b)
numbered_of n None b = tt
numbered_of n (Some k) None = tt
numbered_of n (Some k) (Some turns) = tested (λ x. x.child < n) (nat_lt k n && nat_le turns 10000000)
    (Some (record { child = k; turns = turns }))
    (λ e. ltb-true k n (both (nat_lt k n) (nat_le turns 10000000) e).0)

cons_of : (n : ℕ) (x : Option RoundSlot) (xs : Option (List RoundSlot)) → AreWithin (λ y. y.child < n) x
    → AreWithin (AreOf n) xs
    → AreWithin (AreOf n) (cons_slot x xs)
cons_of n None xs h k = tt
cons_of n (Some x) None h k = tt
cons_of n (Some x) (Some xs) h k = (h, k)

all_of : (n : ℕ) (words : List (List ℕ)) → AreWithin (AreOf n) (slots_in n words)
all_of n [] = tt
all_of n (word ∷ words) = cons_of n _ (slots_in n words) (numbered_of n _ _) (all_of n words)

rounds_within : (n c : ℕ) (xs : Option (List RoundSlot)) → AreWithin (AreOf n) xs
    → AreWithin IsWithin (option_and_then (λ round. slots_words n c (as_round round)) xs)
rounds_within n c None h = tt
rounds_within n c (Some xs) h = slots_within n c xs h

slots_given : (a b : Option ℕ) (words : List (List ℕ)) → AreWithin IsWithin (given_slots a b words)
slots_given None b words = tt
slots_given (Some n) None words = tt
slots_given (Some n) (Some c) words = rounds_within n c (slots_in n words) (all_of n words)

given_within : (words : List (List ℕ)) → AreWithin IsWithin (given_command words)
given_within [] = tt
given_within (word ∷ []) = tt
given_within (word ∷ n ∷ []) = tt
given_within (word ∷ n ∷ c ∷ slots) =
    first_or IsWithin (bytes_eq word (codes "slots") && (nat_le 1 (length slots) && nat_le (length slots) 64)) _ None
    (slots_given (number_of n) (number_of c) slots) tt

some_within : (a b : Option LabCommand) → AreWithin IsWithin a → AreWithin IsWithin b
    → AreWithin IsWithin (first_command a b)
some_within None b h i = i
some_within (Some a) b h i = h

pub command_within : (words : List (List ℕ)) → AreWithin IsWithin (lab_command_of words)
command_within words =
    some_within (fixed_command words) _ (fixed_within words)
    (some_within (later_command words) (given_command words) (later_within words) (given_within words))
