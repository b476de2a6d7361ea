use Rattle.pip_guests.proofs.Limits.{asks_is_not_inside, outcomes_of_inside, parked_is_not_inside, polls_are_not_apart}
use Rattle.pip_guests.proofs.AncestorPremises.{calls_matter, faults_matter, places_matter, stores_matter}
use Rattle.pip_guests.proofs.AncestorPremises.{targets_matter}
use Rattle.pip_guests.proofs.law_limits.Goals as goal

pub returns : goal.returns
returns c = record {
  inside = outcomes_of_inside;
  parked = parked_is_not_inside;
  asks = asks_is_not_inside;
  polls = polls_are_not_apart;
  calls = calls_matter;
  targets = targets_matter;
  places = places_matter;
  stores = stores_matter;
  faults = faults_matter;
}
