use Rattle.std.proofs.Common.{arith, sym}
use Rattle.std.proofs.lemmas.Option.{slice_get-get_or}
use Rattle.pip_away.specs.Blind.{sight_of}
use Rattle.pip_away.proofs.Reading.{drop_all}
use Rattle.pip_every.proofs.OnStates.{deed_passes, deed_reads}
use Rattle.pip_every.proofs.looking.deeds_look_away.Goals as goal

pub returns-then-not-may_looks_away : goal.returns-then-not-may_looks_away
returns-then-not-may_looks_away g c w s =
    deed_reads c.args.blind.now.own.items (sight_of c.args.blind.now) w c.args.cpu c.args.menu.now c.loop-k.k _
    (slice_get-get_or c.args.menu.now c.loop-k.k _ c.loop-k-test.true)
    c.may_looks_away.result (c.may_looks_away.ensures w s) (c.loop-k.invariant w s) c.if-not-may_looks_away.true

pub loop-k-preserved : goal.loop-k-preserved
loop-k-preserved g c w s =
    deed_passes c.args.blind.now.own.items (sight_of c.args.blind.now) w c.args.cpu c.args.menu.now c.loop-k.k _
    (slice_get-get_or c.args.menu.now c.loop-k.k _ c.loop-k-test.true)
    c.may_looks_away.result (c.may_looks_away.ensures w s) (c.loop-k.invariant w s) c.if-not-may_looks_away.false

pub returns : goal.returns
returns g c w s = sym (rw (c.loop-k.invariant w s, drop_all c.args.menu.now c.loop-k.k (omega arith)))
