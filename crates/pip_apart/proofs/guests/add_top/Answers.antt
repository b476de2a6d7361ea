use Rattle.pip_apart.proofs.Children.{there_already}
use Rattle.pip_apart.proofs.guests.add_top.Goals as goal

pub returns-else-not-contains-clause-tops : goal.returns-else-not-contains-clause-tops
returns-else-not-contains-clause-tops c =
    there_already c.args.tops.now.items c.args.top c.in-Some.top c.contains.result c.in-Some.is
    (rw (c.contains.ensures.value, c.deref.ensures.0)) c.if-not-contains.false
