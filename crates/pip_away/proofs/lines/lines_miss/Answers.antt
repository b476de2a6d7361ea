use Rattle.std.proofs.Common.{◌∙◌, arith, sym}
use Rattle.pip_away.specs.Blind.{sight_of}
use Rattle.pip_away.proofs.Pending.{before_next, is_pending, lines_all, lines_one, pending_low}
use Rattle.pip_away.proofs.lines.lines_miss.Goals as goal

pub returns-then-not-line_misses : goal.returns-then-not-line_misses
returns-then-not-line_misses g c t s laid =
    let (i, off) = is_pending t.root.pending c.loop-line.line _ (sym c.if-not-line_misses.true
    ∙ c.line_misses.ensures t t.root.pending s laid s.lines (c.pending-bits.ensures.lines t s laid)) in
    lines_one c.args.blind.now.own.items (sight_of c.args.blind.now) t t.root.pending c.loop-line.line i off

pub loop-line-preserved : goal.loop-line-preserved
loop-line-preserved g c t s laid =
    before_next c.args.blind.now.own.items (sight_of c.args.blind.now) t t.root.pending c.loop-line.line
    (c.loop-line.invariant t s laid)
    (sym c.if-not-line_misses.false
    ∙ c.line_misses.ensures t t.root.pending s laid s.lines (c.pending-bits.ensures.lines t s laid))

pub returns : goal.returns
returns g c t s laid =
    lines_all c.args.blind.now.own.items (sight_of c.args.blind.now) t t.root.pending
    (λ j i. c.loop-line.invariant t s laid j i (let low = pending_low 0 t.root.pending s.lines j i in omega (
      arith,
      low,
    )))
