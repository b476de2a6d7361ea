-- That `apart` has one answer to an image, and what it says of all runs if its last line is `apart yes`.
use Rattle.std.specs.Prelude.{◌≡◌, ◌≢◌, ℕ, ◌+◌, ◌<◌, true, List, [], ◌∷◌, ◌++◌, length, None, Ok, codes, decimal}
use Rattle.std.specs.List.{AllByRecursion}
use Rattle.pip_apart.specs.Texts.{apart_line}
use Rattle.pip_asm.specs.Laws.{AreBytes}
use Rattle.pip_base.specs.declared.types.Plan.{Plan}
use Rattle.pip_audit.specs.CoreRead.{AreWholeLines}
use Rattle.pip_guests.specs.Programs.{Slot, next_world, ready, turn_of}
use Rattle.pip_model.specs.Acts.{text_of}
use Rattle.pip_model.specs.Images.{Image, image}
use Rattle.pip_model.specs.Run.{end_line, image_world, run_text, steps, trace_image_line}
use Rattle.pip_model.specs.RunTexts.{stepped_world}
use Rattle.pip_model.specs.Worlds.{World}
use Rattle.pip_every.specs.Texts.{inner}
use Rattle.pip_search_commands.specs.SearchDues.{IsFoundApart}
use Rattle.pip_command_contracts.specs.EndsBy.{Response, plainly}
use Rattle.pip_search_commands.specs.EveryLaw.{IsLineAt}
use Rattle.pip_search_commands.specs.RunLaw.{AreLinesOf}

-- what is known of an image's guests has one text, by the words of the command line
abbrev pub ApartSaysOnce : Type 0
ApartSaysOnce = (states count seed : ℕ) (i : Image) (v u : Response) → IsFoundApart states count seed i v
    → IsFoundApart states count seed i u → v ≡ u

-- ---- lines of a text

-- the last line of a text is `apart yes`
abbrev pub SaysYes : List ℕ → Type 0
SaysYes text = (front : List ℕ) × (text ≡ front ++ apart_line true)

-- a line of a text is what a label shows at some step, and then a way
pub record HasLineOf (text label : List ℕ) : Type 0 where
  pub before : List ℕ
  pub step : ℕ
  pub way : List ℕ
  pub after : List ℕ
  pub begins : AreWholeLines before
  pub whole : text ≡ before ++ ((decimal step ++ inner label ++ codes ":" ++ way ++ codes "\n") ++ after)

-- a line at step t is nothing, or is, but for its step, a line of a text
pub record IsNamedAt (text : List ℕ) (t : ℕ) (line : List ℕ) : Type 0 where
  pub label : List ℕ
  pub same : IsLineAt t label line
  pub named : label ≢ [] → HasLineOf text label

-- so is what each of these slots shows, one after another, with the lines raised that are due
abbrev pub SlotsAreNamed : List ℕ → List Plan → World → List Slot → Type 0
SlotsAreNamed text plans w [] = Unit {0}
SlotsAreNamed text plans w (s ∷ ss) = IsNamedAt text s.step (text_of (turn_of (ready plans w s) s))
    × SlotsAreNamed text plans (next_world plans w s) ss

-- ---- the laws

-- where the last line is `apart yes` the text names all that can come after those steps, whatever the order in which
-- processors take turns, and whatever lines are raised when
abbrev pub YesNamesAll : Type 0
YesNamesAll = (states count seed : ℕ) (i : Image) (text : List ℕ) (plans : List Plan) (ss : List Slot)
    → IsFoundApart states count seed i (plainly 0 text None) → SaysYes text → AllByRecursion (λ p. p.line < 16) plans
    → SlotsAreNamed text plans (stepped_world i count seed) ss

-- a run of the image by that seed, cut into what it shows up to those steps, and n steps more, whose lines are named
pub record GoesOnNamed (text : List ℕ) (i : Image) (count seed n : ℕ) : Type 0 where
  pub lines : List ℕ
  pub whole : run_text i (count + n) seed ≡ trace_image_line i.frames i.cpus (length i.plans) (length i.pages)
      ++ ((text_of (steps (image_world i) i.plans seed i.cpus count 0) ++ lines) ++ end_line (count + n))
  pub named : AreLinesOf (HasLineOf text) count n lines

-- and so it names all lines of each longer run
abbrev pub YesNamesRuns : Type 0
YesNamesRuns = (input : List ℕ) (states count seed n : ℕ) (i : Image) (text : List ℕ) → AreBytes input
    → image input ≡ Ok i → IsFoundApart states count seed i (plainly 0 text None) → SaysYes text
    → GoesOnNamed text i count seed n
