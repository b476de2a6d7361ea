use Rattle.std.proofs.Common.{rules}
use Rattle.pip_search.specs.Packing.{word_with}
use Rattle.pip_search.proofs.packing.joined.Goals as goal

pub returns : goal.returns
unfolding word_with
returns c = search rules
