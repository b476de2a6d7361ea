use Rattle.std.proofs.Common.{not}
use Rattle.pip_model.specs.Acts.{after_acts}
use Rattle.pip_model.specs.Turn.{turn}
use Rattle.pip_apart.proofs.Turned.{all_true, first_false, second_false, turned}
use Rattle.pip_apart.proofs.guest.Guest.take_turn.Goals as goal

pub runs_guest-after-requires-clause-stands : goal.runs_guest-after-requires-clause-stands
runs_guest-after-requires-clause-stands g c =
    let (w, s) = c.requires.stands in (
      after_acts w (turn w c.args.cpu 0),
      (c.in-Ok.ensures.acts w (rw c.runs_guest-before.ensures.machine s)).world,
    )

pub returns-then-not-asks-clause-turned : goal.returns-then-not-asks-clause-turned
returns-then-not-asks-clause-turned g c w s =
    turned w c.args.self.now.top c.args.cpu c.args.asks c.runs_guest-before.result c.runs_guest-after.result
    c.runs_guest-after.result c.turn.new.port c.runs_guest-after.new.self.machine
    c.runs_guest-before.new.self.label.bytes.items c.turn.new.sink.bytes.items
    c.runs_guest-after.new.self.label.bytes.items
    (c.in-Ok.ensures.acts w (rw c.runs_guest-before.ensures.machine s))
    (rw (c.runs_guest-before.ensures.label, c.clear.ensures)) c.runs_guest-after.ensures.machine
    (rw c.runs_guest-after.ensures.label) (c.runs_guest-before.ensures.runs w s)
    (λ v k. rw (c.runs_guest-after.ensures.runs v k, c.runs_guest-before.ensures.top))
    (all_true c.runs_guest-before.result (not c.args.asks) c.runs_guest-after.result c.if-before.true
    (rw c.if-not-asks.true))

pub returns-else-not-asks-clause-turned : goal.returns-else-not-asks-clause-turned
returns-else-not-asks-clause-turned g c w s =
    turned w c.args.self.now.top c.args.cpu c.args.asks c.runs_guest-before.result c.runs_guest-after.result
    (not c.args.asks) c.turn.new.port c.runs_guest-after.new.self.machine
    c.runs_guest-before.new.self.label.bytes.items c.turn.new.sink.bytes.items
    c.runs_guest-after.new.self.label.bytes.items
    (c.in-Ok.ensures.acts w (rw c.runs_guest-before.ensures.machine s))
    (rw (c.runs_guest-before.ensures.label, c.clear.ensures)) c.runs_guest-after.ensures.machine
    (rw c.runs_guest-after.ensures.label) (c.runs_guest-before.ensures.runs w s)
    (λ v k. rw (c.runs_guest-after.ensures.runs v k, c.runs_guest-before.ensures.top))
    (second_false c.runs_guest-before.result (not c.args.asks) c.runs_guest-after.result c.if-before.true
    (rw c.if-not-asks.false))

pub returns-else-before-clause-turned : goal.returns-else-before-clause-turned
returns-else-before-clause-turned g c w s =
    turned w c.args.self.now.top c.args.cpu c.args.asks c.runs_guest-before.result c.runs_guest-after.result
    c.runs_guest-before.result c.turn.new.port c.runs_guest-after.new.self.machine
    c.runs_guest-before.new.self.label.bytes.items c.turn.new.sink.bytes.items
    c.runs_guest-after.new.self.label.bytes.items
    (c.in-Ok.ensures.acts w (rw c.runs_guest-before.ensures.machine s))
    (rw (c.runs_guest-before.ensures.label, c.clear.ensures)) c.runs_guest-after.ensures.machine
    (rw c.runs_guest-after.ensures.label) (c.runs_guest-before.ensures.runs w s)
    (λ v k. rw (c.runs_guest-after.ensures.runs v k, c.runs_guest-before.ensures.top))
    (first_false c.runs_guest-before.result (not c.args.asks) c.runs_guest-after.result c.if-before.false)
