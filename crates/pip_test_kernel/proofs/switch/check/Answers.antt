use Rattle.std.proofs.Common.{arith, length}
use Rattle.pip_model.specs.Boot.{zero_words}
use Rattle.pip_test_kernel.proofs.switch.check.Goals as goal

pub new-machine-requires-clause-booted : goal.new-machine-requires-clause-booted
new-machine-requires-clause-booted g c =
    let b = g.met.M.Frames.bounds c.args.frames in
    record {
      frames = length (g.M.Frames.memory c.args.frames);
      words = λ f. zero_words;
      booted = record { least = b.0; most = b.1; small = λ f i low. omega arith; laid = c.boot.ensures.layout };
    }
