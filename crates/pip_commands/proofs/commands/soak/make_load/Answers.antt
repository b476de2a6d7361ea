use Rattle.std.proofs.Common.{refl, ap, sym, subst}
use Rattle.pip_io.specs.Taken.{Appends, SendsPart}
use Rattle.pip_io.proofs.Taken.{Keeps-refl}
use Rattle.pip_model.specs.Partitions.{HasPartition}
use Rattle.pip_model.specs.Soak.{soak_world}
use Rattle.pip_model.specs.Worlds.{boot_world}
use Rattle.pip_commands.proofs.Reports.{has_root}
use Rattle.pip_commands.proofs.Soaked.{load_cut, load_done, load_lacks, text_of}
use Rattle.pip_commands.proofs.commands.soak.make_load.Goals as goal

pub totals-totals-requires : goal.totals-totals-requires
totals-totals-requires g c =
    let stands = c.soak_load-counts.ensures.worlds (boot_world 64 2) c.in-Ok.ensures.stands in
    subst (λ m. HasPartition m 1) (sym c.mem.ensures)
    (has_root c.soak_load-counts.new.port (soak_world c.args.count c.args.seed) stands)

pub returns-in_default : goal.returns-in_default
returns-in_default g c =
    let written = (g.K.Sink.history c.args.sink.now).written in
    let faults = (g.K.Sink.history c.args.sink.now).faults in
    record {
      ends = λ left reads. load_lacks c.args.count c.args.seed c.with_status.result.status
          c.with_status.result.machine written
          written faults faults
          c.requires.none (λ not. c.requires.none) left reads (ap (λ e. e.machine) c.with_status.ensures)
          (ap (λ e. e.status) c.with_status.ensures) (Keeps-refl written) refl;
    }

pub returns-in-Ok-write_load : goal.returns-in-Ok-write_load
returns-in-Ok-write_load g c =
    let stands = c.soak_load-counts.ensures.worlds (boot_world 64 2) c.in-Ok.ensures.stands in
    let counts = c.soak_load-counts.ensures.counts (boot_world 64 2) c.in-Ok.ensures.stands in
    let text = text_of c.soak_load-counts.new.port c.args.count c.args.seed stands c.soak_load-counts.result counts _
    c.mem.ensures c.totals-totals.result c.totals-totals.ensures in
    record {
      ends = λ left reads. load_done c.args.count c.args.seed 0 _ (g.K.Sink.history c.args.sink.now).written
          (g.K.Sink.history c.write_load.new.sink).written
          (g.K.Sink.history c.args.sink.now).faults (g.K.Sink.history c.write_load.new.sink).faults c.requires.none
          (λ not. c.in-Ok-write_load.ensures.none) left reads refl
          (subst (Appends (g.K.Sink.history c.args.sink.now).written
          (g.K.Sink.history c.write_load.new.sink).written) text
          c.in-Ok-write_load.ensures.whole) stands c.in-Ok-write_load.ensures.cause.no_faults;
    }

pub returns : goal.returns
returns g c =
    let stands = c.soak_load-counts.ensures.worlds (boot_world 64 2) c.in-Ok.ensures.stands in
    let counts = c.soak_load-counts.ensures.counts (boot_world 64 2) c.in-Ok.ensures.stands in
    let text = text_of c.soak_load-counts.new.port c.args.count c.args.seed stands c.soak_load-counts.result counts _
    c.mem.ensures c.totals-totals.result c.totals-totals.ensures in
    record {
      ends = λ left reads.
          load_cut c.args.count c.args.seed c.with_status-in-Err.result.status c.with_status-in-Err.result.machine
          (g.K.Sink.history c.args.sink.now).written (g.K.Sink.history c.write_load.new.sink).written
          (g.K.Sink.history c.args.sink.now).faults (g.K.Sink.history c.write_load.new.sink).faults c.requires.none
          (λ not. absurd (not (ap (λ e. e.status) c.with_status-in-Err.ensures))) left reads
          (ap (λ e. e.machine) c.with_status-in-Err.ensures) (ap (λ e. e.status) c.with_status-in-Err.ensures)
          (subst (SendsPart (g.K.Sink.history c.args.sink.now).written
          (g.K.Sink.history c.write_load.new.sink).written) text
          c.in-Err.ensures.part) c.in-Err.ensures.cause.failed;
    }
