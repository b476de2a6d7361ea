use Rattle.std.proofs.Common.{◌≡◌, drop}
use Rattle.std.specs.Prelude.{map}
use Rattle.pip_certificates.specs.Sums.{labels_sum, sum_after}
use Rattle.pip_search.specs.Keys.{labels}
use Rattle.pip_every.specs.Texts.{inner}
use Rattle.pip_certificates.proofs.checking.found_sum.Given as goal

abbrev pub invariant-loop-each : goal.invariant-loop-each
invariant-loop-each l =
    sum_after l.sum (map inner (labels (drop l.each-index l.found))) ≡ labels_sum (map inner (labels l.found))
