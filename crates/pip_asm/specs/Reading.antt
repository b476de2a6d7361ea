-- What the lines of a text leave, and what is answered.
use Rattle.std.specs.Prelude.{◌≡◌, ◌≤◌, ◌+◌, ◌*◌, ℕ, List, [], ◌∷◌, ◌++◌, length, Option, Result, Ok, Err}
use Rattle.pip_model.specs.declared.assembly.AsmKind.{AsmKind}
use Rattle.pip_model.specs.Assembly.{LineFault, AssemblyState, and_then, first_pass, head_words, padding, second_pass}
use Rattle.pip_model.specs.Images.{bytes_of, magic}
use Rattle.pip_model.specs.declared.assembly.Stage.TheVariants.{InPage}
use Rattle.pip_asm.specs.Emitted.{IsInBounds, StartsWith, first_head, prefix, said}
use Rattle.pip_asm.specs.Marks.{AreMarks}
use Rattle.pip_asm.specs.Names.{IsKept, address_of_name}
use Rattle.pip_asm.specs.declared.reading.AsmError.{AsmError}
use Rattle.pip_asm.specs.declared.reading.AsmError.TheVariants as E
use Rattle.pip_asm.specs.declared.reading.Passed.{Passed}
use Rattle.pip_asm.specs.declared.reading.AsmLineError.{AsmLineError}
use Rattle.pip_asm.specs.declared.reading.AsmLineError.TheVariants as S

-- the state that a program's stands for
abbrev pub state_of : Passed → AssemblyState
state_of p = record {
  stage = p.stage;
  frames = p.frames;
  cpus = p.cpus;
  least = p.least;
  plans = p.plans.items;
  pages = p.pages.items;
  at = p.at;
  size = p.size;
  names = address_of_name p.names;
}

-- the numbers of a state are in their ranges, its pages have their marks, and the head is written with the first of
-- them
pub record IsProperState (p : Passed) : Type 0 where
  pub size : p.size ≤ 1024
  pub least : p.least ≤ 16
  pub plans : length p.plans.items ≤ p.least
  pub frames : (16 ≤ p.frames) × (p.frames ≤ 4096)
  pub marks : AreMarks p.marks.items p.pages.items
  pub names : IsKept p.names
  pub written : IsInBounds p.written
  pub front : StartsWith p.stage (first_head p.frames p.cpus p.plans.items) p.written

-- a line is refused with the kind that it has
abbrev pub StopIs : {A : Type 0} → Result A AsmKind → AsmLineError → Type 0
StopIs r (S.Kind k) = r ≡ Err k
StopIs r S.Memory = Unit {0}

-- a text is refused with the fault that it has
abbrev pub Refused : {A : Type 0} → Result A LineFault → AsmError → Type 0
Refused r (E.Line n k) = r ≡ Err (record { line = n; kind = k })
Refused r E.Memory = Unit {0}

-- a line was taken, whatever follows it
abbrev pub TakesLine : AssemblyState → ℕ → List ℕ → Result (Unit {0}) AsmError → AssemblyState → Type 0
TakesLine s n l (Ok u) t = (ls : List (List ℕ)) → first_pass s n (l ∷ ls) ≡ first_pass t (n + 1) ls
TakesLine s n l (Err e) t = (ls : List (List ℕ)) → Refused (first_pass s n (l ∷ ls)) e

-- the bytes of all pages by these names, where the lines that are left have them too
abbrev pub bytes_said : (List ℕ → Option ℕ) → Passed → ℕ → List (List ℕ) → Result (List ℕ) LineFault
bytes_said names p n ls = and_then (said names p.written) (λ bs. prefix bs (second_pass names p.stage p.at p.size n ls))

-- they are what they were before the line
abbrev pub KeepsBytes : Passed → ℕ → List ℕ → Passed → Type 0
KeepsBytes s n l t = (names : List ℕ → Option ℕ) (ls : List (List ℕ))
    → bytes_said names s n (l ∷ ls) ≡ bytes_said names t (n + 1) ls

-- and after the last line
abbrev pub bytes_ended : (List ℕ → Option ℕ) → Passed → Result (List ℕ) LineFault
bytes_ended names p = and_then (said names p.written) (λ bs. Ok (bs ++ bytes_of (padding p.stage p.size)))

-- the head of the image
abbrev pub head_of : AssemblyState → List ℕ
head_of s = magic ++ bytes_of (head_words s)

-- a page more
abbrev pub open_page : AssemblyState → ℕ → AssemblyState
open_page s v = record s { stage = InPage; pages = s.pages ++ v ∷ []; at = v * 4096; size = 0 }
