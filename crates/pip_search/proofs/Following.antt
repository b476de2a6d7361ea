-- Ways, by choices one after the other.
use Rattle.std.proofs.Common.{◌≡◌, ℕ, ◌+◌, ◌<◌, List, [], ◌∷◌, ◌++◌, length, take, reverse, get_or, sym, subst}
use Rattle.std.proofs.Common.{All, ap, arith, suc, ◌∙◌}
use Rattle.std.proofs.Math.Seq.{take-suc}
use Rattle.std.proofs.lemmas.List.{length-reverse, reverse-append}
use Rattle.std.proofs.lemmas.List.Elements.{All-get_or, All-tail}
use Rattle.pip_search.specs.Parts.{IsReachedFrom, stop_at}
use Rattle.pip_search.specs.Reached.{AreChoices}
use Rattle.pip_search.specs.Systems.{IsKey, LeadsAlong, LeadsOn, Model, after_way}

-- where one choice more leads
pub after_more : (m : Model) (s : m.State) (way : List ℕ) (i : ℕ) → i < length way
    → after_way m s (take (i + 1) way) ≡ m.act (after_way m s (take i way)) (get_or way i 0)
after_more m s way i lt =
    let c = get_or way i 0 in
    let more : take (i + 1) way ≡ take i way ++ c ∷ [] =
    ap (λ n. take n way) (let e : i + 1 ≡ suc i = omega arith in e) ∙ take-suc way i 0 lt in
    rw (more, reverse-append (take i way) (c ∷ []))

pub along_more : (m : Model) (key way here next shown : List ℕ) (i : ℕ) → i < length way
    → LeadsAlong m key (take i way) here → LeadsOn m here (get_or way i 0) next shown
    → LeadsAlong m key (take (i + 1) way) next
along_more m key way here next shown i lt along on s k = subst (m.stands next) (sym (after_more m s way i lt))
    (on (after_way m s (take i way)) (along s k)).0

-- a key at the end of a way stands for a state
pub key_along : (m : Model) (key way last : List ℕ) → LeadsAlong m key way last → IsKey m key → IsKey m last
key_along m key way last along (s, k) = (after_way m s way, along s k)

-- ---- a way as choices, the last of which stands first

can_end : (m : Model) (cs : List ℕ) (c : ℕ) → AreChoices m cs → c < m.choices → AreChoices m (cs ++ c ∷ [])
can_end m [] c all can = (can, tt)
can_end m (d ∷ cs) c (first, all) can = (first, can_end m cs c all can)

can_reverse : (m : Model) (way : List ℕ) → All (λ c. c < m.choices) way → AreChoices m (reverse way)
can_reverse m [] all = tt
can_reverse m (c ∷ way) all = rw (reverse-append (c ∷ []) way)
    (can_end m (reverse way) c (can_reverse m way (All-tail (λ d. d < m.choices) c way all))
    (All-get_or (λ d. d < m.choices) (c ∷ way) 0 c (omega arith) all))

-- as many choices lead where a way does
pub reached_along : (m : Model) (start way last : List ℕ) → All (λ c. c < m.choices) way
    → LeadsAlong m start way last → IsReachedFrom m start (stop_at last (length way))
reached_along m start way last all along s k = record {
  choices = reverse way;
  can = can_reverse m way all;
  count = length-reverse way;
  stands = along s k;
}
