use Rattle.std.proofs.Common.{◌∙◌, rules, sym}
use Rattle.pip_away.specs.Blind.{sight_of}
use Rattle.pip_away.proofs.Turning.{turn_idle, turn_moved, turn_off, turn_on}
use Rattle.pip_away.proofs.turns.turn_looks_away.Goals as goal

pub returns-then-not-poll_looks_away-clause-away : goal.returns-then-not-poll_looks_away-clause-away
returns-then-not-poll_looks_away-clause-away g c w s =
    turn_off c.args.blind.now.own.items (sight_of c.args.blind.now) w c.args.cpu (sym (c.poll_looks_away.ensures w
    s) ∙ c.if-not-poll_looks_away.true)

pub returns-in-Switched-clause-away : goal.returns-in-Switched-clause-away
returns-in-Switched-clause-away g c w s =
    turn_moved c.args.blind.now.own.items (sight_of c.args.blind.now) w c.args.cpu (sym (c.poll_looks_away.ensures w
    s) ∙ c.if-not-poll_looks_away.false) _
    (c.poll.ensures.event w s).0 _ _ _ c.in-Switched.is

pub returns-in-Idle-clause-away : goal.returns-in-Idle-clause-away
returns-in-Idle-clause-away g c w s =
    turn_idle c.args.blind.now.own.items (sight_of c.args.blind.now) w c.args.cpu (sym (c.poll_looks_away.ensures w
    s) ∙ c.if-not-poll_looks_away.false) _
    (c.poll.ensures.event w s).0 c.in-Idle.is

pub instruction_looks_away-requires : goal.instruction_looks_away-requires
instruction_looks_away-requires g c = let (w, s) = c.requires.stands in
    record { cpu = search rules; stands = (_, (c.poll.ensures.event w s).1) }

pub returns-in_default : goal.returns-in_default
returns-in_default g c = record {
  count = search rules;
  away = λ w s. c.instruction_looks_away.ensures.away _ (c.poll.ensures.event w s).1
      ∙ turn_on c.args.blind.now.own.items (sight_of c.args.blind.now) w c.args.cpu (sym (c.poll_looks_away.ensures
      w s) ∙ c.if-not-poll_looks_away.false) _
      (c.poll.ensures.event w s).0 c.in_default.not-Switched c.in_default.not-Idle;
}
