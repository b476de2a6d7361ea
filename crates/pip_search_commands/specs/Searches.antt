-- What a search of an image finds, and how it ends.
use Rattle.std.specs.Prelude.{◌≡◌, ℕ, ◌⊎◌, List, ◌++◌, length, map, Option, None}
use Rattle.pip_base.specs.Memory.{Memory}
use Rattle.pip_every.specs.Again.{AreSaid}
use Rattle.pip_every.specs.Away.{IsAwayReply}
use Rattle.pip_every.specs.Comes.{AreComing, own_classes}
use Rattle.pip_base.specs.declared.types.Plan.{Plan}
use Rattle.pip_every.specs.Menus.{Menu, menu_model, usual_choices}
use Rattle.pip_every.specs.Moments.{moment_at}
use Rattle.pip_image.specs.declared.header.Header.{Header}
use Rattle.pip_io.specs.Taken.{Keeps}
use Rattle.pip_io.specs.Histories.{Writing}
use Rattle.pip_model.specs.Acts.{after_acts}
use Rattle.pip_model.specs.Booted.{IsBooted}
use Rattle.pip_model.specs.Images.{Image}
use Rattle.pip_model.specs.Run.{steps, trace_image_line}
use Rattle.pip_model.specs.Worlds.{World, boot_world_with}
use Rattle.pip_search.specs.Summary.{IsTold}
use Rattle.pip_search.specs.Ways.{AreTraced, witnesses_of}
use Rattle.pip_every.specs.Texts.{search_text}
use Rattle.pip_every.specs.Told.{runs_to}
use Rattle.pip_search_commands.specs.SearchDues.{most_choices}
use Rattle.pip_command_contracts.specs.EndsBy.{Response, plainly}
use Rattle.pip_command_contracts.specs.Planned.{lines_planned}
use Rattle.pip_search_commands.specs.EveryText.{again_text, away_text, comes_text}
use Rattle.pip_search_commands.specs.MenuText.{MenuSaid}
use Rattle.pip_command_contracts.specs.Streams.{EndsLine}
use Rattle.pip_search_commands.specs.declared.start.Start.{Start}
use Rattle.pip_search_commands.specs.declared.commands.every.searching.Told.{Told}

-- the text of what was found from frames with this header
abbrev pub found_text : Header → Told → List ℕ
found_text h t = trace_image_line h.frames h.cpus (length h.plans.items) h.pages
    ++ search_text h.cpus (lines_planned h.plans.items)
    (witnesses_of t.verdict t.search.visits.items t.search.found.items)
    (length t.search.visits.items) t.verdict

-- of what is said of the labels of a menu
abbrev pub answers_text : Header → Told → MenuSaid → List ℕ
answers_text h t menu = again_text h.cpus (lines_planned h.plans.items) menu.again t.replies.again.items
    ++ comes_text h.cpus (lines_planned h.plans.items) menu.comes t.replies.comes.items

-- of both, and of whether all outside looks away
abbrev pub told_text : Header → Told → MenuSaid → List ℕ
told_text h t menu = found_text h t
    ++ (answers_text h t menu ++ away_text h.cpus (lines_planned h.plans.items) t.replies.away)

-- something is said of each label
pub record HasReplies (t : Told) (menu : MenuSaid) : Type 0 where
  pub again : length t.replies.again.items ≡ length menu.again
  pub comes : length t.replies.comes.items ≡ length menu.comes

-- the ways are those of the labels
pub record HasWays (t : Told) : Type 0 where
  pub ways : map (λ way. way.items) t.ways.items ≡ runs_to t.search.visits.items t.search.found.items
  pub traced : AreTraced t.search.visits.items t.search.found.items

-- the world after steps of a machine that boots
abbrev pub world_after : (ℕ → ℕ → ℕ) → ℕ → ℕ → List Plan → ℕ → ℕ → World
world_after words n cpus plans count seed =
    after_acts (boot_world_with words n cpus) (steps (boot_world_with words n cpus) plans seed cpus count 0)

-- what is searched over frames with this header
abbrev pub header_menu : MenuSaid → ℕ → Header → Menu
header_menu menu from h = record {
  scope = record { cpus = h.cpus; lines = lines_planned h.plans.items; from = from };
  may = menu.may;
}

-- what was found is what can happen from some steps on over frames with this header, whatever partitions do of a menu;
-- and what is said of the menu's labels, and of the words that it leaves out, is so
abbrev pub IsToldFrom : MenuSaid → ℕ → ℕ → Option ℕ → Start → Header → Memory → Told → Type 0
IsToldFrom menu states from depth start h first t = (n : ℕ) (words : ℕ → ℕ → ℕ) → IsBooted n words first →
    IsTold (menu_model first (header_menu menu from h))
    (moment_at (world_after words n h.cpus h.plans.items start.count start.seed)) (most_choices depth) states
    (witnesses_of t.verdict t.search.visits.items t.search.found.items) (length t.search.visits.items) t.verdict
    × (AreSaid (menu_model first (header_menu menu from h)) (usual_choices (header_menu menu from h))
    (moment_at (world_after words n h.cpus h.plans.items start.count start.seed)) menu.again t.verdict
    t.replies.again.items
    × (AreComing (menu_model first (header_menu menu from h)) (own_classes (usual_choices (header_menu menu from h)))
    (moment_at (world_after words n h.cpus h.plans.items start.count start.seed)) menu.comes t.verdict
    t.replies.comes.items
    × IsAwayReply first menu.out (header_menu menu from h)
    (moment_at (world_after words n h.cpus h.plans.items start.count start.seed)) t.verdict t.replies.away))

-- an answer to an image was written, or a part of it, where a write failed; or there was no memory
abbrev pub EndsWithFound : (Image → Response → Type 0) → Image → ℕ → Writing → Writing → Type 0
EndsWithFound P i status before after =
    ((text : List ℕ) × (P i (plainly 0 text None) × EndsLine 0 text status before after))
    ⊎ ((status ≡ 5) × Keeps before.written after.written)
