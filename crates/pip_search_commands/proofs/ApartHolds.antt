-- What the text of `apart` says of each guest.
use Rattle.std.specs.Prelude.{None}
use Rattle.pip_apart.proofs.Known.{known_guests_hold}
use Rattle.pip_model.specs.RunTexts.{stepped_world}
use Rattle.pip_search_commands.specs.ApartHolds.{YesGuestsHold}
use Rattle.pip_search_commands.specs.SearchDues.{most_choices}
use Rattle.pip_search_commands.proofs.ApartNames.{holds}

pub yes_guests_hold : YesGuestsHold
yes_guests_hold states count seed i text plans ss f says below p is =
    known_guests_hold (stepped_world i count seed) (most_choices None) states f.known plans ss f.found
    (holds states count seed i text f says) below p is
