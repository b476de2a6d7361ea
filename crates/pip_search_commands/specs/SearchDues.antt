-- What is due of the commands that search what can happen to an image.
use Rattle.std.specs.Prelude.{◌≡◌, ℕ, ◌^◌, ◌⊎◌, false, List, [], ◌++◌}
use Rattle.std.specs.Prelude.{◌-◌, Option, None, Result, Ok, Err, unwrap_or}
use Rattle.std.specs.Io.KnownBytes.{IsAtEnd}
use Rattle.pip_apart.specs.Found.{IsKnownAt, Known}
use Rattle.pip_base.specs.Memory.{Memory}
use Rattle.pip_image.specs.Reading.{EndsAtMost, IsFaultWithin}
use Rattle.pip_every.specs.Again.{AreSaid}
use Rattle.pip_every.specs.Away.{IsAwayReply}
use Rattle.pip_every.specs.Comes.{AreComing, own_classes}
use Rattle.pip_every.specs.Menus.{Menu, menu_model, usual_choices}
use Rattle.pip_every.specs.Moments.{Moment, Scope, moment_at}
use Rattle.pip_every.specs.declared.again.Again.{Again}
use Rattle.pip_every.specs.declared.away.Away.{Away}
use Rattle.pip_every.specs.declared.comes.Comes.{Comes}
use Rattle.pip_every.specs.declared.menus.May.{May}
use Rattle.pip_model.specs.Booted.{IsBooted}
use Rattle.pip_model.specs.Images.{Image, image_parts, image_word}
use Rattle.pip_model.specs.RunTexts.{stepped_world}
use Rattle.pip_model.specs.Worlds.{World}
use Rattle.pip_search.specs.Summary.{IsTold, Witness}
use Rattle.pip_search.specs.declared.searching.Extent.{Extent}
use Rattle.pip_search_commands.specs.ApartText.{apart_text}
use Rattle.pip_command_contracts.specs.EndsBy.{Due, Response, plainly}
use Rattle.pip_command_contracts.specs.Planned.{lines_planned}
use Rattle.pip_search_commands.specs.EveryText.{against_text}
use Rattle.pip_search_commands.specs.MenuReading.{BeginsMenu}
use Rattle.pip_search_commands.specs.MenuText.{MenuSaid, bad_menu_line, menu_of, no_menu}
use Rattle.pip_search_commands.specs.declared.commands.against.menu.MenuFault.{MenuFault}
use Rattle.pip_search_commands.specs.declared.start.Start.{Start}
use Rattle.pip_command_contracts.specs.ImageDues.{BeginsImage, IsFaultAnswer, IsFaulty, IsHeaderText, searching_due}

-- what is searched of an image: no line comes before that many turns
abbrev pub image_scope : Image → ℕ → Scope
image_scope i from = record { cpus = i.cpus; lines = lines_planned i.plans; from = from }

-- how many choices are made at most. Without a bound it is a number that no search comes to
abbrev pub most_choices : Option ℕ → ℕ
most_choices depth = unwrap_or depth (2 ^ 32 - 1)

-- the world at which a search begins: that after its first steps
abbrev pub begun_world : Image → Start → World
begun_world i start = stepped_world i start.count start.seed

-- and the moment
abbrev pub begun_moment : Image → Start → Moment
begun_moment i start = moment_at (begun_world i start)

-- an image is searched with the menu that these deeds are
abbrev pub image_menu : Image → ℕ → List May → Menu
image_menu i from may = record { scope = image_scope i from; may = may }

-- the text of all that can happen to an image from some steps of a run on, whatever partitions do of a menu, of whether
-- its labels can come again, wherever any choices lead, by those without the deeds, of whether others come, where
-- choices are fair to each processor and each line, and of whether all that is outside looks away from the words that
-- the menu leaves out
pub record IsSearchedAgainst (menu : MenuSaid) (states from : ℕ) (depth : Option ℕ) (start : Start) (i : Image)
    (v : Response) : Type 0
  where
    pub first : Memory
    pub booted : IsBooted i.frames (image_word i.frames i.pages) first
    pub found : List Witness
    pub count : ℕ
    pub verdict : Extent
    pub told : IsTold (menu_model first (image_menu i from menu.may)) (begun_moment i start) (most_choices depth) states
        found count verdict
    pub again : List Again
    pub said : AreSaid (menu_model first (image_menu i from menu.may)) (usual_choices (image_menu i from menu.may))
        (begun_moment i start) menu.again verdict again
    pub comes : List Comes
    pub coming : AreComing (menu_model first (image_menu i from menu.may))
        (own_classes (usual_choices (image_menu i from menu.may))) (begun_moment i start) menu.comes verdict comes
    pub away : Option Away
    pub looks : IsAwayReply first menu.out (image_menu i from menu.may) (begun_moment i start) verdict away
    pub text : v ≡ plainly 0 (against_text i found count verdict menu again comes away) None

-- `every` searches an image with an empty menu
abbrev pub every_due : ℕ → ℕ → Option ℕ → Start → Due
every_due states from depth start = searching_due (IsSearchedAgainst no_menu states from depth start)

-- what is known of an image's guests after this many steps by the schedule of a seed, and its text. Each guest was
-- searched alone, with room for so many states
pub record IsFoundApart (states count seed : ℕ) (i : Image) (v : Response) : Type 0 where
  pub known : Known
  pub found : IsKnownAt (stepped_world i count seed) (most_choices None) states known
  pub text : v ≡ plainly 0 (apart_text i known) None

-- `apart`: each guest is searched alone after these steps
abbrev pub apart_due : ℕ → ℕ → ℕ → Due
apart_due states count seed = searching_due (IsFoundApart states count seed)

-- that text, or the line that names the first bad line of the menu
abbrev pub IsMenuAnswer : ℕ → ℕ → Option ℕ → Start → Image → Result MenuSaid MenuFault → Response → Type 0
IsMenuAnswer states from depth start i (Ok menu) v = IsSearchedAgainst menu states from depth start i v
IsMenuAnswer states from depth start i (Err fault) v = v ≡ plainly 2 (bad_menu_line fault) None

-- an image is followed by a menu, or has a fault
abbrev pub IsAgainstAnswer : ℕ → ℕ → Option ℕ → Start → List ℕ → Response → Type 0
IsAgainstAnswer states from depth start input v = IsFaultAnswer input v
    ⊎ ((b : BeginsImage input) × IsMenuAnswer states from depth start b.parsed (menu_of b.after) v)

-- after an image comes a bad line, whatever follows these bytes
pub record HasBadMenu (bytes : List ℕ) : Type 0 where
  pub begins : BeginsImage bytes
  pub fault : MenuFault
  pub fixed : (rest : List ℕ) → menu_of (begins.after ++ rest) ≡ Err fault

-- these bytes are an image and the whole menu, and the input ends with them
abbrev pub IsWholeMenu : List ℕ → Option (List ℕ) → Type 0
IsWholeMenu bytes left =
    IsAtEnd left × ((b : BeginsImage bytes) × ((menu : MenuSaid) × (menu_of b.after ≡ Ok menu)))

-- `against` stops at the first fault of the image or bad line of the menu, and writes nothing before the search has
-- ended. It asks for memory after the header, and again when all was read
abbrev pub against_due : ℕ → ℕ → Option ℕ → Start → Due
against_due states from depth start = record {
  answer = IsAgainstAnswer states from depth start;
  enough = λ bytes. ((f : IsFaulty bytes) × IsFaultWithin f.fault) ⊎ HasBadMenu bytes;
  so_far = λ bytes text.
      (EndsAtMost (image_parts bytes).fault ⊎ ((b : BeginsImage bytes) × BeginsMenu b.after)) × (text ≡ []);
  midway = λ bytes front last. ⊥;
  asks = λ bytes left. IsHeaderText bytes ⊎ IsWholeMenu bytes left;
  limit = None;
  unread = λ status. false;
}
