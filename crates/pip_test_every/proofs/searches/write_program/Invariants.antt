use Rattle.std.proofs.Common.{◌≡◌, length}
use Rattle.pip_model.specs.Booted.{HasBooted}
use Rattle.pip_test_every.proofs.searches.write_program.Given as goal

-- the frames have booted with the words so far
abbrev pub invariant-loop-i : goal.invariant-loop-i
invariant-loop-i g l = record {
  booted : HasBooted (g.M.Frames.memory l.mem);
  count : length (g.M.Frames.memory l.mem) ≡ 16;
}
