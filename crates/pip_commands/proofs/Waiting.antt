-- Where a command waits: at first nothing was read.
use Rattle.std.specs.Prelude.{◌≡◌, refl, ℕ, []}
use Rattle.std.proofs.Common.{ap, sym, arith, inl}
use Rattle.pip_audit.specs.Core.{at_first}
use Rattle.pip_audit.specs.CoreRead.{BeginsLines}
use Rattle.pip_audit.proofs.FirstBad.{can_end}
use Rattle.pip_model.specs.DisText.{parts_lines, text_of_lines}
use Rattle.pip_commands.specs.Dues.{asm_due, audit_due, dis_due, run_due}
use Rattle.pip_commands.specs.Dues.{script_due}
use Rattle.pip_command_contracts.specs.Pacing.{Waits}
use Rattle.pip_command_contracts.specs.Streams.{Streams}
use Rattle.pip_commands.specs.declared.commands.run.report.Report.{Report}
use Rattle.pip_command_contracts.proofs.Waiting.{no_fault, nothing_told, waits_first}

-- and begins the text of a memory
begins_none : (n : ℕ) → BeginsLines n []
begins_none n =
    let s = at_first n in
    let c = can_end n 1 s.frame s.group s.memory in
    record {
      lines = [];
      part = [];
      all = refl;
      whole = inl refl;
      plain = refl;
      short = omega arith;
      good = (c.rest, c.memory, c.is);
    }

module _ (a : Streams) (none : a.written.buffered ≡ []) where
  pub script_waits : Waits script_due a a
  script_waits = waits_first a none script_due (record {
    lines = [];
    rest = [];
    all = refl;
    whole = inl refl;
    plain = refl;
    short = omega arith;
    good = refl;
    same = refl;
  }) (omega arith)

  pub asm_waits : Waits asm_due a a
  asm_waits = waits_first a none asm_due refl (omega arith)

  pub dis_waits : Waits dis_due a a
  dis_waits =
      waits_first a none dis_due (no_fault, sym (ap (λ t. text_of_lines (parts_lines t.parts)) nothing_told)) tt

  pub run_waits : (r : Report) (count seed : ℕ) → Waits (run_due r count seed) a a
  run_waits r count seed = waits_first a none (run_due r count seed) (no_fault, refl) tt

  pub audit_waits : (n : ℕ) → Waits (audit_due n) a a
  audit_waits n = waits_first a none (audit_due n) (begins_none n, refl) tt
