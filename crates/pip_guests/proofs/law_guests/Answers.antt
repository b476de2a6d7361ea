use Rattle.pip_guests.proofs.Together.{guests_depend_on_themselves, guests_leave_others_alone, guests_run_as_alone}
use Rattle.pip_guests.proofs.Together.{others_do_not_matter_to_guests}
use Rattle.pip_guests.proofs.Elsewhere.{others_leave_guests_alone}
use Rattle.pip_guests.proofs.Known.{events_are_known}
use Rattle.pip_guests.proofs.Leaving.{guests_are_left_alike}
use Rattle.pip_guests.proofs.law_guests.Goals as goal

pub returns : goal.returns
returns c = record {
  others = guests_leave_others_alone;
  depends = guests_depend_on_themselves;
  left = guests_are_left_alike;
  apart = others_leave_guests_alone;
  all = events_are_known;
  lists = others_do_not_matter_to_guests;
  alone = guests_run_as_alone;
}
