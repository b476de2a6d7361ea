-- The first word is a partition's name, or 0.
use Rattle.pip_every.proofs.Words.{can_name, none_runs, some_runs}
use Rattle.pip_every.proofs.processors.first_name.Goals as goal

pub new-requires : goal.new-requires
new-requires c = let b = c.requires.1 in can_name c.args.words.now c.if-words-eq0.false c.requires.0 b.0 b.1

pub returns-then-words-eq0 : goal.returns-then-words-eq0
returns-then-words-eq0 c o rest b = none_runs c.args.words.now c.if-words-eq0.true o rest b

pub returns : goal.returns
returns c o rest b = some_runs c.args.words.now c.new.result c.if-words-eq0.false c.new.ensures o rest b
