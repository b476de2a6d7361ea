use Rattle.std.proofs.Common.{◌≡◌, ◌==◌, length, not}
use Rattle.std.specs.List.{list_any}
use Rattle.pip_audit.proofs.core_text.place.has_word.Given as goal

abbrev pub invariant-loop-rest : goal.invariant-loop-rest
invariant-loop-rest l = list_any (λ w. not (w == 0)) l.rest ≡ list_any (λ w. not (w == 0)) l.words

abbrev pub decreases-loop-rest : goal.decreases-loop-rest
decreases-loop-rest l = length l.rest
