use Rattle.pip_any.proofs.Listed.{calls_are_on_menu, fetch_faults_are_on_menu, load_faults_are_on_menu}
use Rattle.pip_any.proofs.Listed.{masks_read_none, store_faults_are_on_menu, stores_are_on_menu, traps_are_on_menu}
use Rattle.pip_any.proofs.Listed.{untaken_are_on_menu}
use Rattle.pip_any.proofs.Listed.{yields_are_on_menu, yields_read_three}
use Rattle.pip_any.proofs.law_menus.Goals as goal

pub returns : goal.returns
returns c = record {
  traps = traps_are_on_menu;
  untaken = untaken_are_on_menu;
  loads = load_faults_are_on_menu;
  stores = store_faults_are_on_menu;
  fetches = fetch_faults_are_on_menu;
  calls = calls_are_on_menu;
  yields = yields_read_three;
  masks = masks_read_none;
  saves = yields_are_on_menu;
  words = stores_are_on_menu;
}
