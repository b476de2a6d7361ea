use Rattle.std.proofs.Common.{◌≡◌, drop}
use Rattle.pip_certificates.specs.PartAbout.{summed}
use Rattle.pip_certificates.proofs.about.sum_words.Given as goal

abbrev pub invariant-loop-word : goal.invariant-loop-word
invariant-loop-word l = summed l.sum (drop l.word-index l.words) ≡ summed l.fn.start l.words
