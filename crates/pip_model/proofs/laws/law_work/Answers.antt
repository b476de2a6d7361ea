use Rattle.pip_model.proofs.Events.Working.{chain_few, config_few, event_most, events_most, frames_stay}
use Rattle.pip_model.proofs.Events.Working.{turn_most}
use Rattle.pip_model.proofs.laws.law_work.Goals as goal

pub returns : goal.returns
returns c = record {
  frames = frames_stay;
  trees = λ t p s. (chain_few t s p, config_few t s p);
  event = λ w e s. event_most w s e;
  run = events_most;
  turn = λ w cpu t s. turn_most t cpu w s;
}
