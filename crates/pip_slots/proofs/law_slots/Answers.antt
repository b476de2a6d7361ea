use Rattle.pip_slots.proofs.Images.{images_begin, images_separate, images_separate_rounds, images_separate_slots}
use Rattle.pip_slots.proofs.Slots.{slots_separate}
use Rattle.pip_slots.proofs.law_slots.Goals as goal

pub returns : goal.returns
returns c = record {
  separate = slots_separate;
  images = images_separate;
  slots = images_separate_slots;
  rounds = images_separate_rounds;
  begins = images_begin;
}
