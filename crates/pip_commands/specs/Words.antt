-- The words of the command line.
use Rattle.std.specs.Prelude.{ℕ, ◌&&◌, nat_le, if◌then◌else◌, List, [], ◌∷◌, Option, None, Some, codes}
use Rattle.std.specs.Str.{bytes_eq}
use Rattle.pip_model.specs.Grammar.{number_of}
use Rattle.pip_commands.specs.declared.words.Command.{Command}
use Rattle.pip_commands.specs.declared.words.Command.TheVariants as C

-- the commands of one word
abbrev pub single_word : List ℕ → Option Command
single_word word =
    if bytes_eq word (codes "script") then Some C.Script
    else if bytes_eq word (codes "asm") then Some C.Assemble
    else if bytes_eq word (codes "dis") then Some C.Disassemble
    else None

-- `audit` takes a number of frames, 16 to 4096
abbrev pub audit_words : Option ℕ → Option Command
audit_words (Some frames) = if nat_le 16 frames && nat_le frames 4096 then Some (C.Audit frames) else None
audit_words None = None

-- a frame count
abbrev pub two_words : List ℕ → Option ℕ → Option Command
two_words word number = if bytes_eq word (codes "audit") then audit_words number else None

-- a number of steps or events, at most that many, and a seed, which is not 0
abbrev pub counted_command : (ℕ → ℕ → Command) → ℕ → Option ℕ → Option ℕ → Option Command
counted_command command most (Some count) (Some seed) = if nat_le count most && nat_le 1 seed then Some
    (command count seed)
    else None
counted_command command most _ _ = None

-- `native` takes a number of children, 1 to 8, and the steps
abbrev pub native_words : Option ℕ → Option ℕ → Option Command
native_words (Some n) (Some count) = if (nat_le 1 n && nat_le n 8) && nat_le count 10000000 then Some (C.Native n count)
    else None
native_words _ _ = None

-- `run`, `tree` and `core` take the steps of a run, `soak` takes its events
abbrev pub three_words : List ℕ → Option ℕ → Option ℕ → Option Command
three_words word count seed =
    if bytes_eq word (codes "native") then native_words count seed
    else if bytes_eq word (codes "run") then counted_command C.Run 10000000 count seed
    else if bytes_eq word (codes "tree") then counted_command C.Tree 10000000 count seed
    else if bytes_eq word (codes "core") then counted_command C.Core 10000000 count seed
    else if bytes_eq word (codes "soak") then counted_command C.Soak 1000000 count seed
    else None

-- the command that the words ask for, if they are of one of the forms
abbrev pub command_of : List (List ℕ) → Option Command
command_of (word ∷ []) = single_word word
command_of (word ∷ number ∷ []) = two_words word (number_of number)
command_of (word ∷ count ∷ seed ∷ []) = three_words word (number_of count) (number_of seed)
command_of _ = None

-- the usage line
abbrev pub usage : List ℕ
usage = codes "usage: pip script | run STEPS SEED | asm | dis | tree STEPS SEED | core STEPS SEED | soak COUNT SEED | native N STEPS | audit FRAMES"
