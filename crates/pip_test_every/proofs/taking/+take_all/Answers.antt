use Rattle.pip_test_every.proofs.Events.{taken_at}
use Rattle.pip_test_every.proofs.taking.+take_all.Goals as goal

pub returns-in-len1-up-clause-takes : goal.returns-in-len1-up-clause-takes
returns-in-len1-up-clause-takes g t c =
    taken_at c.args.machine.now c.take_one.new.machine c.take_all.new.machine c.take_one.result _ c.args.list.now
    c.in-len1-up.len_at_least c.take_one.ensures.takes c.take_all.ensures.takes
