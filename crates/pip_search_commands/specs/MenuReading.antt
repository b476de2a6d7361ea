-- What reading a menu takes from its source.
use Rattle.std.specs.Prelude.{◌≡◌, ℕ, ◌≤◌, ◌⊎◌, List, ◌++◌, length, Option, Ok, Err}
use Rattle.std.specs.Io.KnownBytes.{Consumes, IsAtEnd}
use Rattle.pip_away.specs.Blind.{left_out}
use Rattle.pip_audit.specs.CoreRead.{AreWholeLines}
use Rattle.pip_script.specs.Lines.{HasNoNewline}
use Rattle.pip_io.specs.Causes.{RoseByOne}
use Rattle.pip_search_commands.specs.EveryText.{label_bytes}
use Rattle.pip_search_commands.specs.MenuText.{MenuSaid, menu_of}
use Rattle.pip_search_commands.specs.declared.commands.against.menu.MenuFault.{MenuFault}
use Rattle.pip_search_commands.specs.declared.commands.against.menu.MenuStop.{MenuStop}
use Rattle.pip_search_commands.specs.declared.commands.against.menu.MenuStop.TheVariants.{Bad, Unread}
use Rattle.pip_search_commands.specs.declared.commands.against.menu.ReadMenu.{ReadMenu}

-- these bytes are good lines of a menu, and a rest that is no line yet and not too long for one
pub record BeginsMenu (bytes : List ℕ) : Type 0 where
  pub lines : List ℕ
  pub rest : List ℕ
  pub all : bytes ≡ lines ++ rest
  pub whole : AreWholeLines lines
  pub plain : HasNoNewline rest
  pub short : length rest ≤ 120
  pub good : (menu : MenuSaid) × (menu_of lines ≡ Ok menu)

-- what a menu says that was read
abbrev pub menu_said : ReadMenu → MenuSaid
menu_said menu = record {
  may = menu.may.items;
  again = label_bytes menu.asked.again.items;
  comes = label_bytes menu.asked.comes.items;
  out = left_out menu.asked.blind;
}

-- all that the source had is a menu that says this
pub record TakesMenu (left left' : Option (List ℕ)) (menu : MenuSaid) : Type 0 where
  pub bytes : List ℕ
  pub taken : Consumes left left' bytes
  pub ended : IsAtEnd left'
  pub is : menu_of bytes ≡ Ok menu

-- this is the first bad line of these bytes, whatever follows them, or where the input ends with them
abbrev pub IsBadMenuLine : List ℕ → Option (List ℕ) → MenuFault → Type 0
IsBadMenuLine bytes left' fault =
    ((rest : List ℕ) → menu_of (bytes ++ rest) ≡ Err fault) ⊎ ((menu_of bytes ≡ Err fault) × IsAtEnd left')

-- bytes with this bad line were taken
pub record TakesBadLine (left left' : Option (List ℕ)) (fault : MenuFault) : Type 0 where
  pub bytes : List ℕ
  pub taken : Consumes left left' bytes
  pub is : IsBadMenuLine bytes left' fault

-- good lines were taken, and a part of one
pub record TakesGoodLines (left left' : Option (List ℕ)) : Type 0 where
  pub bytes : List ℕ
  pub taken : Consumes left left' bytes
  pub begins : BeginsMenu bytes

-- why no menu was read. The numbers count failed reads
abbrev pub StopsMenu : Option (List ℕ) → Option (List ℕ) → ℕ → ℕ → MenuStop → Type 0
StopsMenu left left' before now (Bad fault) = TakesBadLine left left' fault × (now ≡ before)
StopsMenu left left' before now Unread = TakesGoodLines left left' × RoseByOne before now
