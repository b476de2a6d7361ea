use Rattle.std.proofs.Common.{ap}
use Rattle.pip_command_contracts.proofs.Begins.{pages_paced, stops, weaker}
use Rattle.pip_command_contracts.specs.declared.loading.LoadError.TheVariants as T
use Rattle.pip_command_contracts.proofs.begun.load.Goals as goal

pub returns-in_err-head-clause-loads : goal.returns-in_err-head-clause-loads
returns-in_err-head-clause-loads g c =
    let reads = c.in_err-head.ensures.reads in
    stops c.from_residual.result _ _ (T.Image c.in_err-head.field-0.0) c.from_residual.ensures.1 (reads.0, reads.1)

pub returns-in_err-mem-clause-loads : goal.returns-in_err-mem-clause-loads
returns-in_err-mem-clause-loads g c =
    let head = c.in_ok-head.ensures in
    stops c.from_residual-in_err-mem.result _ _ c.in_err-mem.field-0.0 c.from_residual-in_err-mem.ensures.1
    (weaker c.in_ok-head.head _ _ _ _ _ head.no_faults c.in_err-mem.field-0.0 (c.in_err-mem.ensures.loads _ head.reads))

pub returns-clause-loads : goal.returns-clause-loads
returns-clause-loads g c = c.in_ok-mem.ensures.loads _ c.in_ok-head.ensures.reads

pub header-requires-clause-paced : goal.header-requires-clause-paced
header-requires-clause-paced g c = λ bytes left taken is. c.requires.paced bytes left taken is.1

pub load_frames-requires-clause-paced : goal.load_frames-requires-clause-paced
load_frames-requires-clause-paced g c =
    let head = c.in_ok-head.ensures in
    pages_paced g.S.Source.allows g.K.Sink.history (ap (λ s. s.now) head.sink) head.no_faults head.reads
    (λ bytes is. is) c.requires.paced
