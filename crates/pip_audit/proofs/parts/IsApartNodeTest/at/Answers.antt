use Rattle.std.proofs.Common.{sym}
use Rattle.std.specs.Prelude.{slice_index}
use Rattle.pip_audit.specs.FrameSets.{contains}
use Rattle.pip_audit.proofs.Apart.{apart_is}
use Rattle.pip_audit.proofs.parts.IsApartNodeTest.at.Goals as goal

pub returns-clause-says : goal.returns-clause-says
returns-clause-says g c =
    sym (apart_is (g.M.Frames.memory c.args.mem.now) (slice_index c.args.a.now.names.items c.args.x)
    (contains c.clear.new.self) c.meet_held.result c.clear.ensures.none c.meet_held.ensures.fresh)
