-- Scripts from bytes to bytes: the text of the answers.
use Rattle.std.specs.Prelude.{ℕ, ◌+◌, ◌/◌, ◌%◌, ◌^◌, nat_lt, if◌then◌else◌, List, [], ◌∷◌, ◌++◌, length, Option, Some}
use Rattle.std.specs.Prelude.{None, codes, decimal}
use Rattle.pip_base.specs.declared.outcome.Outcome.{Outcome}
use Rattle.pip_base.specs.declared.outcome.Outcome.TheVariants as O
use Rattle.pip_base.specs.Status.{status_number}
use Rattle.pip_model.specs.declared.script.ScriptLine.{ScriptLine}
use Rattle.pip_model.specs.Grammar.{lines_of, line_meaning}
use Rattle.pip_model.specs.declared.script.Said.{Said}
use Rattle.pip_model.specs.declared.script.Said.TheVariants.{Booted, Came, Peeked, Shown}
use Rattle.pip_model.specs.Script.{Verdict, quiet, says, bad, verdict_on}
use Rattle.pip_model.specs.Worlds.{World}

-- 0 to 9 and a to f
abbrev pub hex_digit : ℕ → ℕ
hex_digit d = if nat_lt d 10 then 48 + d else 87 + d

-- the eight hexadecimal digits of a word
abbrev pub word_digits : ℕ → List ℕ
word_digits w =
    hex_digit (w / 2 ^ 28 % 16) ∷ hex_digit (w / 2 ^ 24 % 16) ∷ hex_digit (w / 2 ^ 20 % 16)
    ∷ hex_digit (w / 2 ^ 16 % 16)
    ∷ hex_digit (w / 2 ^ 12 % 16) ∷ hex_digit (w / 2 ^ 8 % 16) ∷ hex_digit (w / 2 ^ 4 % 16) ∷ hex_digit (w % 16)
    ∷ []

-- a word: `0x` and its digits
abbrev pub word_text : ℕ → List ℕ
word_text w = 48 ∷ 120 ∷ word_digits w

-- the text of an outcome
abbrev pub outcome_text : Outcome → List ℕ
outcome_text (O.Word w) = word_text w
outcome_text O.Done = codes "done"
outcome_text (O.Reply s v) = codes "reply " ++ decimal (status_number s) ++ codes " " ++ word_text v
outcome_text (O.Switched from to vector) =
    codes "switch " ++ decimal from ++ codes " " ++ decimal to ++ codes " " ++ decimal vector
outcome_text (O.Parked from vector) = codes "park " ++ decimal from ++ codes " " ++ decimal vector
outcome_text O.Idle = codes "idle"

-- a word as text, or another text where there is none
abbrev pub word_or : List ℕ → Option ℕ → List ℕ
word_or text None = text
word_or text (Some w) = word_text w

-- the text of a line's answer
abbrev pub said_text : Said → List ℕ
said_text (Booted n c) = codes "boot " ++ decimal n ++ codes " " ++ decimal c
said_text (Came o) = outcome_text o
said_text (Peeked o) = word_or (codes "none") o
said_text (Shown o) = word_or (codes "idle") o

-- a line with its newline
abbrev pub line_text : List ℕ → List ℕ
line_text bs = bs ++ 10 ∷ []

-- how a script ends: with its last line, or at a bad one
pub data Ending : Type 0 where
  finished : Ending
  bad_at : ℕ → Ending

-- the text of lines, how they end, and the world that they lead to
pub record Transcript : Type 0 where
  pub text : List ℕ
  pub ending : Ending
  pub world : Option World

-- a text before all the others
abbrev pub text_before : List ℕ → Transcript → Transcript
text_before text t = record t { text = text ++ t.text }

-- the number of processors; none before the boot line
abbrev pub cpus_of : Option World → ℕ
cpus_of None = 0
cpus_of (Some w) = length w.cpus

-- a line that is not in the grammar is bad
abbrev pub verdict_or_bad : Option World → Option ScriptLine → Verdict
verdict_or_bad w None = bad
verdict_or_bad w (Some line) = verdict_on w line

-- the verdict on a line of a script, which may be in the grammar or not
abbrev pub judge : Option World → List ℕ → Verdict
judge w line = verdict_or_bad w (line_meaning (cpus_of w) line)

-- line n, and then what the further lines give in the world after it
abbrev pub transcript_of_line : Option World → ℕ → Verdict → (Option World → Transcript) → Transcript
transcript_of_line w n quiet rest = rest w
transcript_of_line w n (says s v) rest = text_before (line_text (said_text s)) (rest (Some v))
transcript_of_line w n bad rest =
    record { text = line_text (codes "bad line " ++ decimal n); ending = bad_at n; world = w }

-- lines of which the first has number n
abbrev pub transcript_from : Option World → ℕ → List (List ℕ) → Transcript
transcript_from w n [] = record { text = []; ending = finished; world = w }
transcript_from w n (line ∷ lines) = transcript_of_line w n (judge w line) (λ v. transcript_from v (n + 1) lines)

-- what a script writes, how it ends, and its last world
abbrev pub transcript : List ℕ → Transcript
transcript bytes = transcript_from None 1 (lines_of bytes)

-- the text that a script writes
abbrev pub script_text : List ℕ → List ℕ
script_text bytes = (transcript bytes).text

-- the last world of a script; there is one where it has a boot line
abbrev pub script_world : List ℕ → Option World
script_world bytes = (transcript bytes).world
