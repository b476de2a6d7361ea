-- Keys that are asked and found.
use Rattle.std.proofs.Common.{ℕ, List}
use Rattle.pip_search.specs.Certificates.{HasStop, IsInSome}
use Rattle.pip_search.specs.Merging.{ListsMerge}
use Rattle.pip_search.proofs.Certified.{has_later}

pub lists_merge : ListsMerge
lists_merge start ps keys asked listed first answered = record {
  start_is = of_some start 0 first;
  asked = λ j k p x at e.
      let t = listed.asked_are j k p x at e in of_some x.key x.depth (answered t.place x t.at);
}
  where
    of_some : (key : List ℕ) (n : ℕ) → HasStop keys key n → IsInSome ps key n
    of_some key n h =
        let i = listed.keys_are h.place h.stop h.at in
        record {
          place = i.place;
          part = i.part;
          at = i.at;
          has = rw (← h.same) (has_later i.part.keys h.stop.key h.stop.depth n h.soon i.has);
        }
