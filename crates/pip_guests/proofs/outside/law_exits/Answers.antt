use Rattle.pip_guests.proofs.Confined.{confined_alike, confined_stays_or_exits, sound_confines}
use Rattle.pip_guests.proofs.Few.{few_pages_create_none}
use Rattle.pip_guests.proofs.Refusing.{fetch_faults_are_traps, load_faults_are_traps, store_faults_are_traps}
use Rattle.pip_guests.proofs.Refusing.{untaken_words_do_not_matter}
use Rattle.pip_guests.proofs.outside.law_exits.Goals as goal

pub returns : goal.returns
returns c = record {
  loads = load_faults_are_traps;
  stores = store_faults_are_traps;
  fetches = fetch_faults_are_traps;
  untaken = untaken_words_do_not_matter;
  confined = confined_stays_or_exits;
  alike = confined_alike;
  sound = sound_confines;
  few = few_pages_create_none;
}
