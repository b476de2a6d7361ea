use Rattle.std.proofs.Common.{[]}
use Rattle.std.proofs.KnownBytes.{Consumes-nil}
use Rattle.pip_image.proofs.ReadParts.{end_open}
use Rattle.pip_image.proofs.reader.JointReader.end.Goals as goal

pub read-requires-clause-allowed : goal.read-requires-clause-allowed
read-requires-clause-allowed g c =
    c.requires.paced [] _ (Consumes-nil _) (end_open c.args.self.now.place c.requires.plans c.requires.pages)
