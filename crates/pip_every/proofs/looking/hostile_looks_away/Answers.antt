use Rattle.std.proofs.Common.{◌∙◌, ap, not, sym}
use Rattle.pip_away.specs.Blind.{sight_of}
use Rattle.pip_every.specs.Away.{is_vain}
use Rattle.pip_every.proofs.OnStates.{by_deeds, by_poll, large, not_done, poll_off}
use Rattle.pip_every.proofs.looking.hostile_looks_away.Goals as goal

pub returns-then-not-poll_looks_away-clause-away : goal.returns-then-not-poll_looks_away-clause-away
returns-then-not-poll_looks_away-clause-away g c w s =
    poll_off c.args.blind.now.own.items (sight_of c.args.blind.now) c.args.menu.now w c.args.cpu
    (rw (← c.poll_looks_away.ensures w s) c.if-not-poll_looks_away.true)

pub returns-then-not-is_confined-clause-away : goal.returns-then-not-is_confined-clause-away
returns-then-not-is_confined-clause-away g c w s =
    large c.args.blind.now.own.items (sight_of c.args.blind.now) c.args.menu.now w c.args.cpu
    (rw (← c.poll_looks_away.ensures w s) c.if-not-poll_looks_away.false)
    (rw (← c.is_confined.ensures w s) c.if-not-is_confined.true)

pub returns-then-deeds_look_away-clause-away : goal.returns-then-deeds_look_away-clause-away
returns-then-deeds_look_away-clause-away g c w s =
    by_deeds c.args.blind.now.own.items (sight_of c.args.blind.now) c.args.menu.now w c.args.cpu
    (rw (← c.poll_looks_away.ensures w s) c.if-not-poll_looks_away.false)
    (rw (← c.is_confined.ensures w s) c.if-not-is_confined.false)
    (rw (← c.deeds_look_away.ensures w s) c.if-deeds_look_away.true)

pub returns-in-Done-clause-away : goal.returns-in-Done-clause-away
returns-in-Done-clause-away g c w s =
    ap not (ap is_vain (sym c.in-Done.is ∙ (c.poll.ensures.event w s).0))
    ∙ by_poll c.args.blind.now.own.items (sight_of c.args.blind.now) c.args.menu.now w c.args.cpu
    (rw (← c.poll_looks_away.ensures w s) c.if-not-poll_looks_away.false)
    (rw (← c.is_confined.ensures w s) c.if-not-is_confined.false)
    (rw (← c.deeds_look_away.ensures w s) c.if-deeds_look_away.false)

pub returns-in_default-clause-away : goal.returns-in_default-clause-away
returns-in_default-clause-away g c w s =
    ap not (sym (not_done c.poll.result c.in_default.not-Done) ∙ ap is_vain (c.poll.ensures.event w s).0)
    ∙ by_poll c.args.blind.now.own.items (sight_of c.args.blind.now) c.args.menu.now w c.args.cpu
    (rw (← c.poll_looks_away.ensures w s) c.if-not-poll_looks_away.false)
    (rw (← c.is_confined.ensures w s) c.if-not-is_confined.false)
    (rw (← c.deeds_look_away.ensures w s) c.if-deeds_look_away.false)
