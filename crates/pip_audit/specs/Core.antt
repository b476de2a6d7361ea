-- The text of a raw memory: lines of frames and of groups of eight words, and a last line. It is the text of a memory,
-- or has a first bad line.
use Rattle.std.specs.Prelude.{ℕ, ◌+◌, ◌%◌, Bool, true, false, not, ◌==◌, ◌&&◌, nat_lt, nat_le, if◌then◌else◌, List, []}
use Rattle.std.specs.Prelude.{◌∷◌, replicate, Option, Some, None}
use Rattle.std.specs.List.{list_any, slice_split}
use Rattle.pip_base.specs.Memory.{Memory, put_words, zeros}
use Rattle.pip_audit.specs.declared.core_text.line.CoreLine.{CoreLine}
use Rattle.pip_audit.specs.declared.core_text.line.CoreLine.TheVariants as L
use Rattle.pip_audit.specs.Lines.{core_line}

-- what was read: the frame that was named last, the group that was named last in it, and the words
pub record CoreState : Type 0 where
  pub frame : Option ℕ
  pub group : Option ℕ
  pub memory : Memory

-- what a text is: its first bad line, or the memory that it writes down
pub data CoreText : Type 0 where
  BadAt : (line : ℕ) → CoreText
  Whole : (memory : Memory) → CoreText

-- above what was named last, if anything was
abbrev pub above : Option ℕ → ℕ → Bool
above None i = true
above (Some j) i = nat_lt j i

-- the frame that was named last has a group, if one was named
abbrev pub is_closed : Option ℕ → Option ℕ → Bool
is_closed None group = true
is_closed (Some f) None = false
is_closed (Some f) (Some i) = true

-- frame f of n may be named next
abbrev pub takes_frame : ℕ → Option ℕ → Option ℕ → ℕ → Bool
takes_frame n frame group f = is_closed frame group && (above frame f && nat_lt f n)

-- a group from index i on may stand next in its frame
abbrev pub takes_group : Option ℕ → ℕ → List ℕ → Bool
takes_group group i ws = (i % 8 == 0 && nat_le i 1016) && (above group i && list_any (λ w. not (w == 0)) ws)

-- what a line does: it may not stand there, reading goes on, or it is the last
pub data CoreStep : Type 0 where
  Bad : CoreStep
  Goes : (state : CoreState) → CoreStep
  Ends : (memory : Memory) → CoreStep

-- a line that names a frame: it comes after the frame that was named last
abbrev pub on_frame : ℕ → CoreState → ℕ → CoreStep
on_frame n s f =
    if takes_frame n s.frame s.group f then Goes (record { frame = Some f; group = None; memory = s.memory }) else Bad

-- a line of eight words: a frame was named, and the group comes after the last one of that frame
abbrev pub on_group : Option ℕ → CoreState → ℕ → List ℕ → CoreStep
on_group None s i ws = Bad
on_group (Some f) s i ws = if takes_group s.group i ws
    then Goes (record { frame = Some f; group = Some i; memory = put_words s.memory f i ws }) else Bad

-- the last line, with a number of steps
abbrev pub on_end : CoreState → ℕ → CoreStep
on_end s t = if is_closed s.frame s.group && nat_le t 10000000 then Ends s.memory else Bad

-- what a line does; one that isn't in the grammar is bad
abbrev pub core_step : ℕ → CoreState → Option CoreLine → CoreStep
core_step n s None = Bad
core_step n s (Some (L.Frame f)) = on_frame n s f
core_step n s (Some (L.Group i ws)) = on_group s.frame s i ws
core_step n s (Some (L.End t)) = on_end s t

-- after the last newline stands nothing
abbrev pub is_nothing : List (List ℕ) → Bool
is_nothing ([] ∷ []) = true
is_nothing _ = false

-- what comes of a step at line k: whether nothing comes after it, and how the lines after it are read
abbrev pub after_step : CoreStep → ℕ → Bool → (CoreState → CoreText) → CoreText
after_step Bad k last go = BadAt k
after_step (Goes s) k last go = go s
after_step (Ends m) k last go = if last then Whole m else BadAt (k + 1)

-- the lines, of which the first has number k; what follows the last newline is no line
unfoldable pub core_from : ℕ → ℕ → CoreState → List (List ℕ) → CoreText
core_from n k s [] = BadAt k
core_from n k s (rest ∷ []) = BadAt k
core_from n k s (line ∷ next ∷ lines) = after_step (core_step n s (core_line line)) k
    (is_nothing (next ∷ lines)) (λ u. core_from n (k + 1) u (next ∷ lines))

-- what bytes are from line k on
abbrev pub core_after : ℕ → ℕ → CoreState → List ℕ → CoreText
core_after n k s bytes = core_from n k s (slice_split (λ b. b == 10) bytes)

-- nothing was read yet of a memory of n frames
abbrev pub at_first : ℕ → CoreState
at_first n = record { frame = None; group = None; memory = replicate n (zeros 1024) }

-- what bytes are as the text of a memory of n frames
abbrev pub core_text : ℕ → List ℕ → CoreText
core_text n bytes = core_after n 1 (at_first n) bytes
