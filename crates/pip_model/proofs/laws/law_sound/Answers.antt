use Rattle.pip_model.proofs.Events.Soundness.{boot_world-sound_with, event-sound, moments-sound}
use Rattle.pip_model.proofs.Trees.Numbers.{node-numbers}
use Rattle.pip_model.proofs.laws.law_sound.Goals as goal

pub returns : goal.returns
returns c = record {
  boot = boot_world-sound_with;
  event = event-sound;
  run = moments-sound;
  numbers = λ t x s i. node-numbers t s x i;
}
