use Rattle.std.proofs.Common.{ap}
use Rattle.pip_command_contracts.proofs.Begins.{pages_paced, stopped_after, stops}
use Rattle.pip_command_contracts.specs.declared.loading.LoadError.TheVariants as T
use Rattle.pip_command_contracts.proofs.loading.load.Goals as goal

pub returns-in_err-head-clause-loads : goal.returns-in_err-head-clause-loads
returns-in_err-head-clause-loads g c =
    let reads = c.in_err-head.ensures.reads in
    stops c.from_residual.result _ _ (T.Image c.in_err-head.field-0.0) c.from_residual.ensures.1 (reads.0, reads.1)

pub returns-clause-loads : goal.returns-clause-loads
returns-clause-loads g c =
    let head = c.in_ok-head.ensures in
    stopped_after c.load_after.result c.in_ok-head.head _ _ _ _ _ _ head.no_faults
    (c.load_after.ensures.loads _ head.reads)

pub header-requires-clause-paced : goal.header-requires-clause-paced
header-requires-clause-paced g c = λ bytes left taken is. c.requires.paced bytes left taken is.1

pub load_after-requires-clause-paced : goal.load_after-requires-clause-paced
load_after-requires-clause-paced g c =
    let head = c.in_ok-head.ensures in
    pages_paced g.S.Source.allows g.K.Sink.history (ap (λ s. s.now) head.sink) head.no_faults head.reads
    (λ bytes is. is) c.requires.paced
