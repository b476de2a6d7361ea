use Rattle.pip_apart.proofs.Machines.{asks_none}
use Rattle.pip_apart.proofs.guest.Guest.asks.Goals as goal

pub returns-then-ctx-ne0-clause-asks : goal.returns-then-ctx-ne0-clause-asks
returns-then-ctx-ne0-clause-asks g c w s =
    asks_none c.args.self.now.top w c.args.cpu c.in-Some-ctx.ctx.now (rw (← c.ctx.ensures w s, c.in-Some-ctx.is))
    c.if-ctx-ne0.true
