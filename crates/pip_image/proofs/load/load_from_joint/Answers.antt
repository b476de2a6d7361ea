use Rattle.pip_image.specs.Coming.{coming}
use Rattle.pip_io.proofs.Pacing.{paced_after}
use Rattle.pip_image.specs.Pacing.{IsFaultless, IsPartless}
use Rattle.pip_image.proofs.Steps.{faultless_after}
use Rattle.pip_image.proofs.Loaded.{loads_to_end}
use Rattle.pip_image.proofs.load.load_from_joint.Goals as goal

pub returns-in-Ok-clause-loaded : goal.returns-in-Ok-clause-loaded
returns-in-Ok-clause-loaded g c =
    loads_to_end c.args.head.now.frames (coming c.args.reader.now.place) (coming c.load_pages.new.reader.place) _ _ _
    _ _ _ _ _ c.end.result c.in-Ok.ensures.no_faults c.in-Ok.ensures.loaded c.end.ensures.reads

pub end-requires-clause-paced : goal.end-requires-clause-paced
end-requires-clause-paced g c =
    let took = c.in-Ok.ensures.loaded.took in
    let paced = paced_after g.S.Source.allows (IsFaultless (coming c.args.reader.now.place))
    (IsPartless (coming c.load_pages.new.reader.place)) _ _ _ _ (g.K.Sink.history c.args.joint.now.sink.now) took.bytes
    c.in-Ok.ensures.no_faults took.taken
    (λ bytes is. faultless_after (coming c.args.reader.now.place) (coming c.load_pages.new.reader.place) _ _ _ took
    bytes is.1) c.requires.paced in
    rw c.in-Ok.ensures.sink paced
