use Rattle.std.proofs.Common.{◌≡◌, take}
use Rattle.pip_io.specs.Taken.{Appends}
use Rattle.pip_search_commands.specs.EveryText.{counts_words}
use Rattle.pip_search_commands.proofs.commands.against.comes.write_counts.Given as goal

-- the windows of the classes before this one were written
abbrev pub invariant-loop-class : goal.invariant-loop-class
invariant-loop-class g l = record {
  wrote : Appends (g.K.Sink.history l.fn.sink).written (g.K.Sink.history l.sink).written
      (counts_words l.fn.cpus l.fn.lines 0 (take l.class l.fn.counts));
  no_faults : (g.K.Sink.history l.sink).faults ≡ (g.K.Sink.history l.fn.sink).faults;
}
