use Rattle.std.proofs.Common.{rules, refl, ◌≢◌, Some, ap, sym, subst, ◌∙◌}
use Rattle.pip_command_contracts.specs.EndsBy.{EndsBy}
use Rattle.pip_commands.specs.Progress.{TurnDoes, status_of}
use Rattle.pip_commands.specs.Dues.{script_due}
use Rattle.pip_command_contracts.specs.Streams.{Streams}
use Rattle.pip_commands.specs.declared.commands.script.turn.End.TheVariants.{Finished}
use Rattle.pip_io.specs.Moments.{joined}
use Rattle.pip_commands.proofs.Waiting.{script_waits}
use Rattle.pip_commands.proofs.Whole.{begins_run, lines_wait, runs_on, script_ends, script_finished}
use Rattle.pip_commands.proofs.commands.script.run_lines.Goals as goal

pub loop-number-init : goal.loop-number-init
loop-number-init g c = record {
  run = begins_run c.new-input.result (joined g.S.Source.history g.K.Sink.history c.args.joint.now)
      c.new-input.ensures.bytes
      c.new-input.ensures.room;
  name = refl;
  sink_name = refl;
  is_open = c.requires.paced.is_open (script_waits (joined g.S.Source.history g.K.Sink.history c.args.joint.now)
      c.requires.paced.none);
}

pub loop-number-preserved : goal.loop-number-preserved
loop-number-preserved g c = record {
  run = runs_on _ _ _ _ _ _ _ _ c.loop-number.invariant.run c.in-None.ensures.does;
  name = search rules;
  sink_name = search rules;
  is_open = search rules;
}

pub returns-in-Some-Finished-clause-ends : goal.returns-in-Some-Finished-clause-ends
returns-in-Some-Finished-clause-ends g c =
    let a = joined g.S.Source.history g.K.Sink.history c.args.joint.now in
    let b = joined g.S.Source.history g.K.Sink.history c.loop-number.joint in
    let d = joined g.S.Source.history g.K.Sink.history c.take_turn.new.joint in
    let turn = subst (λ e. TurnDoes (Some e) c.loop-number.machine c.take_turn.new.machine c.loop-number.number
    c.loop-number.input c.take_turn.new.input b d) c.in-Some-Finished.field-0-is c.in-Some-Finished.ensures.does in
    script_finished a b d c.loop-number.input c.take_turn.new.input c.loop-number.machine c.take_turn.new.machine
    c.loop-number.number c.loop-number.invariant.run
    (c.in-Some-Finished.ensures.none (λ is. let f = c.in-Some-Finished.field-0-is in cc)) turn

pub returns-in-Some-clause-ends : goal.returns-in-Some-clause-ends
returns-in-Some-clause-ends g c =
    let a = joined g.S.Source.history g.K.Sink.history c.args.joint.now in
    let b = joined g.S.Source.history g.K.Sink.history c.loop-number.joint in
    let d = joined g.S.Source.history g.K.Sink.history c.take_turn.new.joint in
    let other : c.in-Some.end ≢ Finished = search rules in
    subst (λ m. EndsBy script_due c.with_status.result.status m a d) (sym (ap (λ e. e.machine) c.with_status.ensures))
    (script_ends c.in-Some.end a b d c.loop-number.input c.take_turn.new.input c.loop-number.machine
    c.take_turn.new.machine c.loop-number.number _ c.loop-number.invariant.run c.requires.paced.none
    (λ not. c.in-Some.ensures.none (λ is.
    not (ap (λ e. e.status) c.with_status.ensures ∙ c.status.ensures ∙ ap status_of is))) other
    (ap (λ e. e.status) c.with_status.ensures ∙ c.status.ensures) c.in-Some.ensures.does)

pub take_turn-requires-clause-paced : goal.take_turn-requires-clause-paced
take_turn-requires-clause-paced g c = λ out kept none bytes left taken is.
    let a = joined g.S.Source.history g.K.Sink.history c.args.joint.now in
    let b = joined g.S.Source.history g.K.Sink.history c.loop-number.joint in
    let now : Streams = record { left = left; written = out; reads = b.reads; writes = b.writes } in
    c.requires.paced.allows now (lines_wait a b now c.loop-number.input c.loop-number.machine c.loop-number.number
    c.loop-number.invariant.run none kept (record { reads = refl; writes = refl }) bytes taken is)
