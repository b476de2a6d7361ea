use Rattle.pip_every.proofs.looking.vector_looks_away.Goals as goal

pub returns : goal.returns
returns g c w a b s = rw (c.trap_looks_away.ensures w a b s, c.from.ensures)
