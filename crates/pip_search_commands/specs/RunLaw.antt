-- That what a run does, by any seed and with lines at any steps, is among the choices of `every`; and what a search
-- says of it, however it ended.
use Rattle.std.specs.Prelude.{◌≡◌, ◌≢◌, ℕ, zero, suc, ◌+◌, ◌-◌, ◌<◌, ◌≤◌, List, [], ◌∷◌, ◌++◌, length, Option, Some}
use Rattle.std.specs.Prelude.{if◌then◌else◌, false, nat_lt, slice_get, slice_index, Ok}
use Rattle.std.specs.List.{AllByRecursion}
use Rattle.pip_base.specs.Memory.{Memory}
use Rattle.pip_base.specs.declared.types.Plan.{Plan}
use Rattle.pip_every.specs.Keys.{model_of}
use Rattle.pip_every.specs.Moments.{Moment, Scope, choice_acts, moment_at}
use Rattle.pip_model.specs.Acts.{Act, Makes, after_acts, events_made, text_of}
use Rattle.pip_model.specs.Events as E
use Rattle.pip_asm.specs.Laws.{AreBytes}
use Rattle.pip_model.specs.Due.{is_due}
use Rattle.pip_model.specs.Images.{Image, image}
use Rattle.pip_model.specs.Lists.{In}
use Rattle.pip_model.specs.Run.{end_line, image_world, raises, run_text, steps, trace_image_line}
use Rattle.pip_model.specs.Turn.{turn}
use Rattle.pip_model.specs.Worlds.{World}
use Rattle.pip_search.specs.Reached.{AreChoices, IsCovered}
use Rattle.pip_search.specs.Summary.{IsShownOn, Witness}
use Rattle.pip_search.specs.Systems.{after_choices}
use Rattle.pip_search.specs.declared.searching.Extent.TheVariants.{Closed}
use Rattle.pip_search_commands.specs.MenuText.{no_menu}
use Rattle.pip_search_commands.specs.SearchDues.{IsSearchedAgainst, begun_moment, begun_world, image_scope}
use Rattle.pip_command_contracts.specs.EndsBy.{Response}
use Rattle.pip_search_commands.specs.EveryLaw.{IsLineAt}
use Rattle.pip_command_contracts.specs.Planned.{lines_planned}
use Rattle.pip_search_commands.specs.declared.start.Start.{Start}

-- ---- acts as choices

-- a plan is due at none of that many steps from step t on
abbrev pub IsQuietIn : ℕ → ℕ → Plan → Type 0
IsQuietIn t from p = (s : ℕ) → t ≤ s → s < t + from → is_due p s ≡ false

-- plans that raise these lines alone, and none in that many steps from step t on
abbrev pub ArePlansFrom : List ℕ → ℕ → ℕ → List Plan → Type 0
ArePlansFrom lines t from plans = AllByRecursion (λ p. In p.line lines × IsQuietIn t from p) plans

-- what choices do one after another, the last of which stands first
abbrev pub acts_chosen : Memory → Scope → Moment → List ℕ → List Act
acts_chosen first g m [] = []
acts_chosen first g m (c ∷ cs) = acts_chosen first g m cs ++ choice_acts g (after_choices (model_of first g) m cs) c

-- how many lines plans raise in n steps from step t on
abbrev pub lines_raised : List Plan → ℕ → ℕ → ℕ
lines_raised plans zero t = 0
lines_raised plans (suc n) t = length (raises plans t) + lines_raised plans n (t + 1)

-- n steps from step t on are that many choices: a turn each, and the lines that are raised
abbrev pub choices_in : List Plan → ℕ → ℕ → ℕ
choices_in plans t n = n + lines_raised plans n t

-- that many choices from a moment on make the same events as these acts, and lead to the world after them
pub record AreChosen (first : Memory) (g : Scope) (m : Moment) (number : ℕ) (acts : List Act) : Type 0 where
  pub choices : List ℕ
  pub count : length choices ≡ number
  pub can : AreChoices (model_of first g) choices
  pub events : events_made acts ≡ events_made (acts_chosen first g m choices)
  pub world : after_acts m.world acts ≡ (after_choices (model_of first g) m choices).world

-- ---- texts, step by step

-- a text begins with nothing, or with the line at step t of a label of which P holds; of what comes after it Q holds
pub record BeginsAtStep (P : List ℕ → Type 0) (t : ℕ) (Q : List ℕ → Type 0) (text : List ℕ) : Type 0 where
  pub label : List ℕ
  pub line : List ℕ
  pub rest : List ℕ
  pub whole : text ≡ line ++ rest
  pub same : IsLineAt t label line
  pub known : label ≢ [] → P label
  pub goes_on : Q rest

-- a text is that of n steps from step t on: each shows nothing, or a label of which P holds
abbrev pub AreLinesOf : (List ℕ → Type 0) → ℕ → ℕ → List ℕ → Type 0
AreLinesOf P t zero text = text ≡ []
AreLinesOf P t (suc n) text = BeginsAtStep P t (AreLinesOf P (t + 1) n) text

-- ---- the laws

-- some choices from a moment on show a label
abbrev pub CanCome : Memory → Scope → Moment → List ℕ → Type 0
CanCome first g m label = (cs : List ℕ) × IsShownOn (model_of first g) m label cs

-- that many choices, or fewer, show it
abbrev pub CanComeBy : Memory → Scope → Moment → ℕ → List ℕ → Type 0
CanComeBy first g m number label =
    (cs : List ℕ) × (length cs ≤ number) × IsShownOn (model_of first g) m label cs

-- n steps after those with which a search begins, by any schedule and plans
abbrev pub steps_from : Image → Start → List Plan → ℕ → ℕ → List Act
steps_from i start plans seed n = steps (begun_world i start) plans seed i.cpus n start.count

-- what any number of steps do after those with which a search begins, by any seed and with any plans of the image's
-- lines that raise none in the first `from` of these steps, choices do, one for each turn and one for each line that is
-- raised; and what they write are, step by step, lines that no more choices show. (The frames are only those with which
-- keys of moments compare.)
abbrev pub RunsAreChoices : Type 0
RunsAreChoices = (input : List ℕ) (i : Image) (from : ℕ) (start : Start) (plans : List Plan) (seed n : ℕ)
    (first : Memory) → AreBytes input → image input ≡ Ok i
    → ArePlansFrom (lines_planned i.plans) start.count from plans
    → AreChosen first (image_scope i from) (begun_moment i start) (choices_in plans start.count n)
    (steps_from i start plans seed n)
    × AreLinesOf (CanComeBy first (image_scope i from) (begun_moment i start) (choices_in plans start.count n))
    start.count n (text_of (steps_from i start plans seed n))

-- how many of these choices are turns
abbrev pub turns_made_by : ℕ → List ℕ → ℕ
turns_made_by cpus [] = 0
turns_made_by cpus (c ∷ cs) = if nat_lt c cpus then suc (turns_made_by cpus cs) else turns_made_by cpus cs

-- no line is raised before that many turns, each counted alone, also that of a processor that runs nothing. The last
-- choice stands first
abbrev pub KeepsTime : Scope → List ℕ → Type 0
KeepsTime g [] = Unit {0}
KeepsTime g (c ∷ cs) = (g.cpus ≤ c → g.from ≤ turns_made_by g.cpus cs) × KeepsTime g cs

-- what a choice does in a world, whatever the time
abbrev pub acts_in : Scope → World → ℕ → List Act
acts_in g w k = if nat_lt k g.cpus then turn w k 0 else Makes (E.Raise (slice_index g.lines (k - g.cpus))) ∷ []

-- the world after choices
abbrev pub world_in : Scope → World → List ℕ → World
world_in g w [] = w
world_in g w (c ∷ cs) = after_acts (world_in g w cs) (acts_in g (world_in g w cs) c)

-- a label is shown by turns and raises that keep the time
pub record IsShownInTime (g : Scope) (w : World) (label : List ℕ) : Type 0 where
  pub last : ℕ
  pub before : List ℕ
  pub can : AllByRecursion (λ c. c < g.cpus + length g.lines) (last ∷ before)
  pub keeps : KeepsTime g (last ∷ before)
  pub shows : label ≡ text_of (acts_in g (world_in g w before) last)

-- the other way: what choices show is shown by turns and raises that keep the time. So it does no harm that an idle
-- turn stands for all that are left
abbrev pub ChoicesKeepTime : Type 0
ChoicesKeepTime = (g : Scope) (w : World) (first : Memory) (label : List ℕ) → label ≢ []
    → CanCome first g (moment_at w) label → IsShownInTime g w label

-- a label is among those that a search names
pub record IsNamedBy (ws : List Witness) (label : List ℕ) : Type 0 where
  pub place : ℕ
  pub witness : Witness
  pub at : slice_get ws place ≡ Some witness
  pub same : witness.label ≡ label

-- a trace is its first line, the steps before a search, those from there on, and its last line. If none are before, an
-- image with other plans has the same steps from there on
abbrev pub TracesGoOn : Type 0
TracesGoOn = (i : Image) (start : Start) (n : ℕ) → run_text i (start.count + n) start.seed
    ≡ trace_image_line i.frames i.cpus (length i.plans) (length i.pages)
    ++ ((text_of (steps (image_world i) i.plans start.seed i.cpus start.count 0)
    ++ text_of (steps_from i start i.plans start.seed n)) ++ end_line (start.count + n))

-- however `every` ends on an image, it names each line of steps whose choices it covers, by any seed and with any plans
-- of the image's lines that raise none in the first `from` of these steps: where it ends with `within` or `stopped`, of
-- no more turns and lines than its last line says
abbrev pub CoveredNamesRuns : Type 0
CoveredNamesRuns = (states from : ℕ) (most : Option ℕ) (start : Start) (i : Image) (v : Response)
    (s : IsSearchedAgainst no_menu states from most start i v) (plans : List Plan) (seed n : ℕ)
    → ArePlansFrom (lines_planned i.plans) start.count from plans
    → IsCovered s.verdict (choices_in plans start.count n)
    → AreLinesOf (IsNamedBy s.found) start.count n (text_of (steps_from i start plans seed n))

-- where it closes, so it is of any number of steps
abbrev pub ClosedNamesRuns : Type 0
ClosedNamesRuns = (states from depth : ℕ) (most : Option ℕ) (start : Start) (i : Image) (v : Response)
    (s : IsSearchedAgainst no_menu states from most start i v) → s.verdict ≡ Closed depth → (plans : List Plan) (seed n
    : ℕ)
    → ArePlansFrom (lines_planned i.plans) start.count from plans
    → AreLinesOf (IsNamedBy s.found) start.count n (text_of (steps_from i start plans seed n))
