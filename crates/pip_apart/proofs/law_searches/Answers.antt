use Rattle.pip_apart.proofs.Kept.{inside_turns_ask_not, kept_turns_stay}
use Rattle.pip_apart.proofs.Searched.{marked_guests_leave, searched_guests_stay, searches_add}
use Rattle.pip_apart.proofs.law_searches.Goals as goal

pub returns : goal.returns
returns c = record {
  kept = kept_turns_stay;
  asks = inside_turns_ask_not;
  stay = searched_guests_stay;
  leave = marked_guests_leave;
  add = searches_add;
}
