-- What an explorer searches.
use Rattle.pip_every.specs.declared.journals.first.First.{Ghosts}
use Rattle.pip_every.specs.Choosing.{machine_menu}
use Rattle.pip_every.specs.Menus.{Menu}
use Rattle.pip_every.specs.declared.explorer.Explorer.{Explorer}

-- by its machine, its lines and its menu
abbrev pub explored : {F L : Type 0} {first : Ghosts F} → Explorer F L first → Menu
explored e = machine_menu e.machine e.lines.items e.from e.may.items
