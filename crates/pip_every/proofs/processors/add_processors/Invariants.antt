use Rattle.std.proofs.Common.{◌≡◌, ◌++◌, drop}
use Rattle.pip_every.specs.Keys.{processor_words}
use Rattle.pip_every.proofs.processors.add_processors.Given as goal

-- with the words of the processors that are left they are all
abbrev pub invariant-loop-runs : goal.invariant-loop-runs
invariant-loop-runs l =
    l.to.items ++ processor_words (drop l.runs-index l.cpus) ≡ l.initial.to.items ++ processor_words l.cpus
