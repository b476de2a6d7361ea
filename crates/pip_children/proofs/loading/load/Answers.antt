use Rattle.std.proofs.Common.{◌∙◌, ◌++◌, ap, subst}
use Rattle.pip_image.specs.Coming.{coming, header_parts}
use Rattle.pip_image.specs.Reading.{Refuses}
use Rattle.pip_image.proofs.Steps.{after_parts}
use Rattle.pip_model.specs.Images.{image_parts}
use Rattle.pip_command_contracts.specs.Loading.{StoppedAfter}
use Rattle.pip_command_contracts.specs.declared.loading.LoadError.TheVariants as R
use Rattle.pip_command_contracts.proofs.Begins.{lacks_memory, pages_paced}
use Rattle.pip_children.proofs.Shortness.{unshort_header, unshort_lacking, unshort_roomy, unshort_told}
use Rattle.pip_children.proofs.loading.load.Goals as goal

pub returns-in-Err-clause-loads : goal.returns-in-Err-clause-loads
returns-in-Err-clause-loads g c =
    let reads = c.in-Err.ensures.reads in
    record { parts = reads.0; refused = reads.1; unshort = unshort_header c.args.n reads.0 _ _ _ _ _ reads.1 reads.2 }

pub returns-then-head-n-clause-loads : goal.returns-then-head-n-clause-loads
returns-then-head-n-clause-loads g c =
    let head = c.in-Ok.ensures in
    let l = lacks_memory c.in-Ok.head c.header.new.self.place _ _ head.place head.plans head.reads in (
      record {
        read = record { bytes = l.0.bytes; read = l.0.read; header = l.0.header; same = l.1 };
        few = c.if-head-n.true;
      },
      head.no_faults,
    )

pub returns-in-Err-Image-clause-loads : goal.returns-in-Err-Image-clause-loads
returns-in-Err-Image-clause-loads g c =
    let head = c.in-Ok.ensures in
    let x : StoppedAfter c.in-Ok.head (R.Image c.in-Err-Image.fault)
    (g.S.Source.history c.args.joint.now.source.now).left
    (g.S.Source.history c.load_after.new.joint.source.now).left
    (g.S.Source.history c.header.new.joint.source.now).faults
    (g.S.Source.history c.load_after.new.joint.source.now).faults =
    subst (λ stop. StoppedAfter c.in-Ok.head stop (g.S.Source.history c.args.joint.now.source.now).left
    (g.S.Source.history c.load_after.new.joint.source.now).left
    (g.S.Source.history c.header.new.joint.source.now).faults
    (g.S.Source.history c.load_after.new.joint.source.now).faults) c.in-Err-Image.field-0-is
    (c.in-Err-Image.ensures.loads _ head.reads) in
    let refused : Refuses image_parts (header_parts c.in-Ok.head ++ x.0)
    (g.S.Source.history c.args.joint.now.source.now).left
    (g.S.Source.history c.load_after.new.joint.source.now).left (g.S.Source.history c.args.joint.now.source.now).faults
    (g.S.Source.history c.load_after.new.joint.source.now).faults c.in-Err-Image.fault =
    subst (λ n. Refuses image_parts (header_parts c.in-Ok.head ++ x.0)
    (g.S.Source.history c.args.joint.now.source.now).left (g.S.Source.history c.load_after.new.joint.source.now).left n
    (g.S.Source.history c.load_after.new.joint.source.now).faults
    c.in-Err-Image.fault) head.no_faults x.1 in
    record {
      parts = header_parts c.in-Ok.head ++ x.0;
      refused = refused;
      unshort = unshort_roomy c.args.n c.in-Ok.head x.0 _ _ _ _ _ refused c.if-head-n.false;
    }

pub returns-in-Err-Memory-clause-loads : goal.returns-in-Err-Memory-clause-loads
returns-in-Err-Memory-clause-loads g c =
    let head = c.in-Ok.ensures in
    let x : StoppedAfter c.in-Ok.head R.Memory (g.S.Source.history c.args.joint.now.source.now).left
    (g.S.Source.history c.load_after.new.joint.source.now).left
    (g.S.Source.history c.header.new.joint.source.now).faults
    (g.S.Source.history c.load_after.new.joint.source.now).faults =
    subst (λ stop. StoppedAfter c.in-Ok.head stop (g.S.Source.history c.args.joint.now.source.now).left
    (g.S.Source.history c.load_after.new.joint.source.now).left
    (g.S.Source.history c.header.new.joint.source.now).faults
    (g.S.Source.history c.load_after.new.joint.source.now).faults) c.in-Err-Memory.field-0-is
    (c.in-Err-Memory.ensures.loads _ head.reads) in (
      record {
        frames = c.in-Ok.head.frames;
        read = record { bytes = x.0.bytes; read = x.0.read; header = x.0.header; same = x.1 };
        roomy = c.if-head-n.false;
      },
      x.2 ∙ head.no_faults,
    )

pub header-requires-clause-paced : goal.header-requires-clause-paced
header-requires-clause-paced g c =
    λ bytes left taken is. c.requires.paced bytes left taken (is.1, unshort_lacking c.args.n bytes is.0)

pub load_after-requires-clause-paced : goal.load_after-requires-clause-paced
load_after-requires-clause-paced g c =
    let head = c.in-Ok.ensures in
    let next = coming c.header.new.self.place in
    pages_paced g.S.Source.allows g.K.Sink.history (ap (λ s. s.now) head.sink) head.no_faults head.reads (λ bytes is. (
      is,
      unshort_told c.args.n c.in-Ok.head (next bytes).parts (head.reads.bytes ++ bytes)
          (ap (λ t. t.parts) (head.reads.is bytes) ∙ after_parts (header_parts c.in-Ok.head) (next bytes))
          c.if-head-n.false,
    )) c.requires.paced
