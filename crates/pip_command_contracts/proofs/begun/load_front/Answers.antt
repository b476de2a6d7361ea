use Rattle.std.proofs.Common.{ap}
use Rattle.pip_command_contracts.specs.declared.loading.LoadError.TheVariants as T
use Rattle.pip_command_contracts.proofs.Begins.{are_zeros}
use Rattle.pip_command_contracts.proofs.Begins.{front_booted, lacks_memory, loads_front, page_fault, pages_paced, stops}
use Rattle.pip_command_contracts.proofs.begun.load_front.Goals as goal

pub returns-in_err-head-clause-loads : goal.returns-in_err-head-clause-loads
returns-in_err-head-clause-loads g c =
    let reads = c.in_err-head.ensures.reads in
    stops c.from_residual.result _ _ (T.Image c.in_err-head.field-0.0) c.from_residual.ensures.1 (reads.0, reads.1)

pub returns-in_err-head-clause-inside : goal.returns-in_err-head-clause-inside
returns-in_err-head-clause-inside g c =
    stops c.from_residual.result _ _ (T.Image c.in_err-head.field-0.0) c.from_residual.ensures.1
    c.in_err-head.ensures.inside

pub returns-in_err-mem-clause-loads : goal.returns-in_err-mem-clause-loads
returns-in_err-mem-clause-loads g c =
    let head = c.in_ok-head.ensures in
    stops c.from_residual-in_err-mem.result _ _ T.Memory c.from_residual-in_err-mem.ensures.1
    ((lacks_memory c.in_ok-head.head c.header.new.self.place _ _ head.place head.plans head.reads).0, head.no_faults)

pub returns-in_err-mem-clause-inside : goal.returns-in_err-mem-clause-inside
returns-in_err-mem-clause-inside g c =
    stops c.from_residual-in_err-mem.result _ _ T.Memory c.from_residual-in_err-mem.ensures.1 tt

pub returns-in_err-load_pages-clause-loads : goal.returns-in_err-load_pages-clause-loads
returns-in_err-load_pages-clause-loads g c =
    let head = c.in_ok-head.ensures in
    let fault = page_fault c.in_ok-head.head c.header.new.self.place _ _ head.place head.plans head.reads _ _ _ _ _ _
    head.no_faults c.in_err-load_pages.ensures.loaded in
    stops c.from_residual-in_err-load_pages.result _ _ (T.Image c.in_err-load_pages.field-0.0)
    c.from_residual-in_err-load_pages.ensures.1 (_, fault.1)

pub returns-in_err-load_pages-clause-inside : goal.returns-in_err-load_pages-clause-inside
returns-in_err-load_pages-clause-inside g c =
    stops c.from_residual-in_err-load_pages.result _ _ (T.Image c.in_err-load_pages.field-0.0)
    c.from_residual-in_err-load_pages.ensures.1 c.in_err-load_pages.ensures.inside

pub returns-clause-loads : goal.returns-clause-loads
returns-clause-loads g c =
    let head = c.in_ok-head.ensures in
    let pages = c.in_ok-load_pages.ensures in
    loads_front c.in_ok-head.head c.header.new.self.place _ _ head.place head.plans head.reads
    c.load_pages.new.reader.place _ _ _ head.limits pages.plans pages.pages pages.loaded

pub returns-clause-booted : goal.returns-clause-booted
returns-clause-booted g c =
    let head = c.in_ok-head.ensures in
    let pages = c.in_ok-load_pages.ensures in
    front_booted _ _ _ _ (loads_front c.in_ok-head.head c.header.new.self.place _ _ head.place head.plans head.reads
    c.load_pages.new.reader.place _ _ _ head.limits pages.plans pages.pages pages.loaded)

pub header-requires-clause-paced : goal.header-requires-clause-paced
header-requires-clause-paced g c = λ bytes left taken is. c.requires.paced bytes left taken is.1

pub load_pages-requires-clause-paced : goal.load_pages-requires-clause-paced
load_pages-requires-clause-paced g c =
    let head = c.in_ok-head.ensures in
    pages_paced g.S.Source.allows g.K.Sink.history (ap (λ s. s.now) head.sink) head.no_faults head.reads
    (λ bytes is. is) c.requires.paced

pub boot_zeros-requires : goal.boot_zeros-requires
boot_zeros-requires g c = are_zeros _ c.in_ok-head.head.frames c.in_ok-mem.ensures
