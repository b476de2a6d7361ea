-- The numbers in the words of the command line are within their bounds.
use Rattle.std.proofs.Common.{ℕ, ◌≤◌, ◌&&◌, List, [], ◌∷◌, Option, None, Some}
use Rattle.std.specs.Prelude.{codes, nat_le}
use Rattle.std.specs.Str.{bytes_eq}
use Rattle.std.proofs.lemmas.Bool.{leb-true}
use Rattle.pip_model.specs.Grammar.{number_of}
use Rattle.pip_command_contracts.proofs.Within.{AreWithin, both, first_or, tested}
use Rattle.pip_commands.specs.Words.{audit_words, command_of, counted_command, native_words, single_word, three_words}
use Rattle.pip_commands.specs.declared.words.Command.{Command}
use Rattle.pip_commands.specs.declared.words.Command.TheVariants as C

abbrev pub IsWithin : Command → Type 0
IsWithin (C.Run count seed) = 1 ≤ seed
IsWithin (C.Tree count seed) = 1 ≤ seed
IsWithin (C.Core count seed) = 1 ≤ seed
IsWithin (C.Soak count seed) = (count ≤ 1000000) × (1 ≤ seed)
IsWithin (C.Native n count) = (1 ≤ n) × (n ≤ 8)
IsWithin (C.Audit frames) = (16 ≤ frames) × (frames ≤ 4096)
IsWithin _ = Unit {0}

counted_within : (make : ℕ → ℕ → Command) (most : ℕ) (a b : Option ℕ)
    → ((n s : ℕ) → n ≤ most → 1 ≤ s → IsWithin (make n s)) → AreWithin IsWithin (counted_command make most a b)
counted_within make most None b h = tt
counted_within make most (Some n) None h = tt
counted_within make most (Some n) (Some s) h = tested IsWithin (nat_le n most && nat_le 1 s) (Some (make n s)) (λ e.
    let (x, y) = both (nat_le n most) (nat_le 1 s) e in
    h n s (leb-true n most x) (leb-true 1 s y))

native_within : (a b : Option ℕ) → AreWithin IsWithin (native_words a b)
native_within None b = tt
native_within (Some n) None = tt
native_within (Some n) (Some count) =
    tested IsWithin ((nat_le 1 n && nat_le n 8) && nat_le count 10000000) (Some (C.Native n count)) (λ e.
    let x = both (nat_le 1 n && nat_le n 8) (nat_le count 10000000) e in
    let (least, most) = both (nat_le 1 n) (nat_le n 8) x.0 in
    (leb-true 1 n least, leb-true n 8 most))

three_within : (word : List ℕ) (a b : Option ℕ) → AreWithin IsWithin (three_words word a b)
three_within word a b =
    first_or IsWithin (bytes_eq word (codes "native")) (native_words a b) _ (native_within a b)
    (first_or IsWithin (bytes_eq word (codes "run")) (counted_command C.Run 10000000 a b) _
    (counted_within C.Run 10000000 a b (λ n s h k. k))
    (first_or IsWithin (bytes_eq word (codes "tree")) (counted_command C.Tree 10000000 a b) _
    (counted_within C.Tree 10000000 a b (λ n s h k. k))
    (first_or IsWithin (bytes_eq word (codes "core")) (counted_command C.Core 10000000 a b) _
    (counted_within C.Core 10000000 a b (λ n s h k. k))
    (first_or IsWithin (bytes_eq word (codes "soak")) (counted_command C.Soak 1000000 a b) None
    (counted_within C.Soak 1000000 a b (λ n s h k. (h, k))) tt))))

audit_within : (a : Option ℕ) → AreWithin IsWithin (audit_words a)
audit_within None = tt
audit_within (Some n) = tested IsWithin (nat_le 16 n && nat_le n 4096) (Some (C.Audit n)) (λ e.
    let (x, y) = both (nat_le 16 n) (nat_le n 4096) e in
    (leb-true 16 n x, leb-true n 4096 y))

single_within : (word : List ℕ) → AreWithin IsWithin (single_word word)
single_within word =
    first_or IsWithin (bytes_eq word (codes "script")) (Some C.Script) _ tt
    (first_or IsWithin (bytes_eq word (codes "asm")) (Some C.Assemble) _ tt
    (first_or IsWithin (bytes_eq word (codes "dis")) (Some C.Disassemble) None tt tt))

pub command_within : (words : List (List ℕ)) → AreWithin IsWithin (command_of words)
command_within [] = tt
command_within (word ∷ []) = single_within word
command_within (word ∷ number ∷ []) =
    first_or IsWithin (bytes_eq word (codes "audit")) (audit_words (number_of number)) None
    (audit_within (number_of number)) tt
command_within (word ∷ count ∷ seed ∷ []) = three_within word (number_of count) (number_of seed)
command_within (word ∷ a ∷ b ∷ c ∷ words) = tt
