use Rattle.pip_guests.proofs.Confined.{masks_are_unseen}
use Rattle.pip_guests.proofs.Entries.{classes_are_sights, entries_have_classes}
use Rattle.pip_guests.proofs.Refusing.{refused_is_unseen}
use Rattle.pip_guests.proofs.Moved.{outside_depends_on_outside}
use Rattle.pip_guests.proofs.Nothing.{nothing_left_out}
use Rattle.pip_guests.proofs.Staying.{unseen_is_unseen}
use Rattle.pip_guests.proofs.Testing.{sights_pass}
use Rattle.pip_guests.proofs.Turning.{turns_depend_on_outside}
use Rattle.pip_guests.proofs.outside.law_outside.Goals as goal

pub returns : goal.returns
returns c = record {
  depends = outside_depends_on_outside;
  turns = turns_depend_on_outside;
  unseen = unseen_is_unseen;
  refused = refused_is_unseen;
  masks = masks_are_unseen;
  nothing = nothing_left_out;
  entries = entries_have_classes;
  tested = sights_pass;
  classes = classes_are_sights;
}
