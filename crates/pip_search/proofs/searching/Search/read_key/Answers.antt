use Rattle.pip_search.proofs.Steps.{at_hand}
use Rattle.pip_search.proofs.searching.Search.read_key.Goals as goal

pub returns : goal.returns
returns c = at_hand c.args.self.now c.args.place c.deref.result.now c.unpack.new.key.items
    (rw (c.in_ok-read.ensures, ← c.deref.ensures.value)) c.in_ok-unpack.ensures
