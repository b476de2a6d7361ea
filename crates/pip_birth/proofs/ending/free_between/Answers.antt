use Rattle.std.proofs.Common.{subst}
use Rattle.pip_base.specs.Memory.{frame_at}
use Rattle.pip_birth.specs.Freeing.{AreFreedTo}
use Rattle.pip_birth.proofs.ending.free_between.Goals as goal

pub returns-clause-freed : goal.returns-clause-freed
returns-clause-freed g c =
    let m = g.M.Frames.memory c.args.mem.now in
    record {
      words = c.free_open.new.given;
      freed = rw (← c.pair-given.ensures.read) (subst
          (λ ws. AreFreedTo c.pair-given.result.0.now c.args.born c.args.k ws c.free_open.result c.free_open.new.given)
          c.pair-given.ensures.write c.free_open.ensures);
      written = g.met.M.Frames.puts c.args.mem.now c.args.shadow c.free_open.new.given;
    }
