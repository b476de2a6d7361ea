use Rattle.std.proofs.Common.{ℕ, length}
use Rattle.pip_model.specs.Grammar.{words_of}
use Rattle.pip_script.proofs.Phrases.{Reads}
use Rattle.pip_script.proofs.TextWords.{words_after}
use Rattle.pip_script.proofs.lines.split_phrase.Given as goal

abbrev pub invariant-loop-rest : goal.invariant-loop-rest
invariant-loop-rest l = (cpus : ℕ) → Reads cpus l.name l.numbers.items (words_after l.rest) (words_of l.line)

abbrev pub decreases-loop-rest : goal.decreases-loop-rest
decreases-loop-rest l = length l.rest
