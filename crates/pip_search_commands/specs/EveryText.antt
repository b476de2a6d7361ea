-- The texts of `every` and of `against`.
use Rattle.std.specs.Prelude.{ℕ, suc, ◌==◌, List, [], ◌∷◌, ◌++◌, length, map, flat_map, codes, decimal}
use Rattle.std.specs.Prelude.{◌-◌, if◌then◌else◌, nat_lt, slice_index, Option, Some, None}
use Rattle.std.specs.List.{zip}
use Rattle.arrayvec.specs.ArrayVec.{ArrayVec}
use Rattle.pip_command_contracts.specs.Planned.{lines_planned}
use Rattle.pip_every.specs.declared.again.Again.{Again}
use Rattle.pip_every.specs.declared.again.Again.TheVariants.{Can, Lost, Unknown}
use Rattle.pip_every.specs.declared.away.Away.{Away}
use Rattle.pip_every.specs.declared.away.Away.TheVariants as A
use Rattle.pip_every.specs.declared.comes.Comes.{Comes}
use Rattle.pip_every.specs.declared.comes.Comes.TheVariants as C
use Rattle.pip_model.specs.Images.{Image}
use Rattle.pip_model.specs.Run.{trace_image_line}
use Rattle.pip_search.specs.Summary.{Witness}
use Rattle.pip_search.specs.declared.searching.Extent.{Extent}
use Rattle.pip_search.specs.declared.ways.Run.{Run}
use Rattle.pip_search_commands.specs.MenuText.{MenuSaid}
use Rattle.pip_every.specs.Texts.{search_text, spaced_run}

-- the first line of a trace, then a line for each label that can come, with its way, then how the search ended
abbrev pub every_text : Image → List Witness → ℕ → Extent → List ℕ
every_text i ws count verdict = trace_image_line i.frames i.cpus (length i.plans) (length i.pages)
    ++ search_text i.cpus (lines_planned i.plans) ws count verdict

-- ---- what is said of labels that may come again

-- the bytes of labels
abbrev pub label_bytes : List (ArrayVec ℕ) → List (List ℕ)
label_bytes labels = map (λ l. l.items) labels

-- what is said of a label, after a colon
abbrev pub said_words : ℕ → List ℕ → Again → List ℕ
said_words cpus lines Can = codes ": yes\n"
said_words cpus lines (Lost way) = codes ": no" ++ flat_map (spaced_run cpus lines) way.items ++ codes "\n"
said_words cpus lines Unknown = codes ": unknown\n"

-- the line of a label
abbrev pub said_line : ℕ → List ℕ → List ℕ → Again → List ℕ
said_line cpus lines label said = codes "again " ++ label ++ said_words cpus lines said

-- the lines of all labels
abbrev pub again_text : ℕ → List ℕ → List (List ℕ) → List Again → List ℕ
again_text cpus lines labels said = flat_map (λ p. said_line cpus lines p.0 p.1) (zip labels said)

-- ---- what is said of labels that may come

-- a choice that has a class: the processor whose turn it is, or the line that is raised
abbrev pub classed_text : ℕ → List ℕ → ℕ → List ℕ
classed_text cpus lines k =
    if nat_lt k cpus then decimal k else codes "raise" ++ decimal (slice_index lines (k - cpus))

-- how many windows of class 0, which is any choice, if there are some
abbrev pub any_words : ℕ → List ℕ
any_words n = if n == 0 then [] else codes " " ++ decimal n ++ codes " of any"

-- how many windows of class k there are: of the choice whose class it is
abbrev pub windows_words : ℕ → List ℕ → ℕ → ℕ → List ℕ
windows_words cpus lines k n =
    if k == 0 then any_words n
    else (if k == 1 then codes " " else codes ", ") ++ decimal n ++ codes " of " ++ classed_text cpus lines (k - 1)

-- of each class from class k on
abbrev pub counts_words : ℕ → List ℕ → ℕ → List ℕ → List ℕ
counts_words cpus lines k [] = []
counts_words cpus lines k (n ∷ ns) = windows_words cpus lines k n ++ counts_words cpus lines (suc k) ns

-- within how many windows of each class a label comes
abbrev pub must_words : ℕ → List ℕ → List ℕ → List ℕ
must_words cpus lines counts = codes ": within" ++ counts_words cpus lines 0 counts ++ codes "\n"

-- by which way, and then which round over and over, it is avoided
abbrev pub avoided_words : ℕ → List ℕ → List Run → List Run → List ℕ
avoided_words cpus lines way round = (codes ": no" ++ flat_map (spaced_run cpus lines) way)
    ++ ((codes " :" ++ flat_map (spaced_run cpus lines) round) ++ codes "\n")

-- what is said of a label, after a colon
abbrev pub coming_words : ℕ → List ℕ → Comes → List ℕ
coming_words cpus lines (C.Must counts) = must_words cpus lines counts.items
coming_words cpus lines (C.Avoided way round) = avoided_words cpus lines way.items round.items
coming_words cpus lines C.Unknown = codes ": unknown\n"

-- the line of a label
abbrev pub coming_line : ℕ → List ℕ → List ℕ → Comes → List ℕ
coming_line cpus lines label said = codes "comes " ++ label ++ coming_words cpus lines said

-- the lines of all labels
abbrev pub comes_text : ℕ → List ℕ → List (List ℕ) → List Comes → List ℕ
comes_text cpus lines labels said = flat_map (λ p. coming_line cpus lines p.0 p.1) (zip labels said)

-- ---- whether all that is outside looks away

-- the processor, which ends the line
abbrev pub on_processor : ℕ → List ℕ
on_processor cpu = codes " : " ++ decimal cpu ++ codes "\n"

-- after which way what a processor does sees a word that is left out
abbrev pub seen_words : ℕ → List ℕ → List Run → ℕ → List ℕ
seen_words cpus lines way cpu =
    (codes "away no" ++ flat_map (spaced_run cpus lines) way) ++ on_processor cpu

-- the line that says it
abbrev pub away_words : ℕ → List ℕ → Away → List ℕ
away_words cpus lines A.Yes = codes "away yes\n"
away_words cpus lines (A.No way cpu) = seen_words cpus lines way.items cpu
away_words cpus lines A.Unknown = codes "away unknown\n"

-- if it was asked
abbrev pub away_text : ℕ → List ℕ → Option Away → List ℕ
away_text cpus lines None = []
away_text cpus lines (Some said) = away_words cpus lines said

-- ---- all together

-- the text of `every`, and a line for each label of which a menu asks whether it can come again
abbrev pub again_front : Image → List Witness → ℕ → Extent → List (List ℕ) → List Again → List ℕ
again_front i ws count verdict labels said =
    every_text i ws count verdict ++ again_text i.cpus (lines_planned i.plans) labels said

-- then one for each of which it asks whether it comes, and the one of whether all outside looks away
abbrev pub against_text : Image → List Witness → ℕ → Extent → MenuSaid → List Again → List Comes → Option Away
    → List ℕ
against_text i ws count verdict menu again comes away = again_front i ws count verdict menu.again again
    ++ (comes_text i.cpus (lines_planned i.plans) menu.comes comes ++ away_text i.cpus (lines_planned i.plans) away)
