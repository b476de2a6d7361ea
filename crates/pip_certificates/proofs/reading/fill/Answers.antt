use Rattle.std.proofs.Common.{rules, arith, ◌<◌, length, take, subst, sym}
use Rattle.std.proofs.lemmas.List.{length-take-le}
use Rattle.std.proofs.KnownBytes.{Consumes-trans}
use Rattle.std.proofs.lemmas.Slice.{overwrites}
use Rattle.pip_certificates.proofs.Buffers.{take_filled}
use Rattle.pip_certificates.proofs.reading.fill.Goals as goal
use Rattle.pip_io.specs.Moments.{beside}

pub loop-taken-preserved : goal.loop-taken-preserved
loop-taken-preserved g c = record {
  name = search rules;
  sink = search rules;
  size = search (rules, overwrites);
  some = search (rules, overwrites);
  is_open = search rules;
  no_faults = search rules;
  taken = rw (take_filled c.loop-taken.taken c.in-Ok.count _ c.loop-taken.buf c.read.new.buf
      c.loop-taken.invariant.some c.in-Ok.ensures.bound.0)
      (Consumes-trans _ _ _ _ _ c.loop-taken.invariant.taken c.in-Ok.ensures.bytes.0);
}

pub read-requires-clause-allowed : goal.read-requires-clause-allowed
read-requires-clause-allowed g c =
    let was = c.loop-taken.invariant in
    let some = was.some in
    let size = was.size in
    let front = length-take-le c.loop-taken.taken c.loop-taken.buf some in
    let few : length (take c.loop-taken.taken c.loop-taken.buf) < length c.args.buf.now = search (rules, arith) in
    rw was.sink (subst (λ n. g.S.Source.allows (beside (g.S.Source.history c.loop-taken.joint.source.now).left n
    (g.K.Sink.history c.args.joint.now.sink.now))) (sym was.no_faults)
    (c.requires.paced (take c.loop-taken.taken c.loop-taken.buf) _ was.taken few))
