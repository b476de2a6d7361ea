use Rattle.std.proofs.Common.{◌∙◌, sym}
use Rattle.pip_away.specs.Blind.{sight_of}
use Rattle.pip_away.proofs.Turning.{fetch_off, fetch_other, fetch_word}
use Rattle.pip_away.proofs.turns.instruction_looks_away.Goals as goal

pub returns-then-not-fetch_looks_away-clause-away : goal.returns-then-not-fetch_looks_away-clause-away
returns-then-not-fetch_looks_away-clause-away g c w s =
    fetch_off c.args.blind.now.own.items (sight_of c.args.blind.now) w c.args.cpu (sym (c.fetch_looks_away.ensures w
    s) ∙ c.if-not-fetch_looks_away.true)

pub word_looks_away-requires-clause-stands : goal.word_looks_away-requires-clause-stands
word_looks_away-requires-clause-stands g c = let (w, s) = c.requires.stands in (_, (c.fetch.ensures.event w s).1)

pub returns-in-Word-clause-away : goal.returns-in-Word-clause-away
returns-in-Word-clause-away g c w s = c.word_looks_away.ensures.away _ (c.fetch.ensures.event w s).1
    ∙ fetch_word c.args.blind.now.own.items (sight_of c.args.blind.now) w c.args.cpu (sym
    (c.fetch_looks_away.ensures w s) ∙ c.if-not-fetch_looks_away.false) _
    (c.fetch.ensures.event w s).0 _ c.in-Word.is

pub returns-in_default-clause-away : goal.returns-in_default-clause-away
returns-in_default-clause-away g c w s =
    fetch_other c.args.blind.now.own.items (sight_of c.args.blind.now) w c.args.cpu (sym (c.fetch_looks_away.ensures
    w s) ∙ c.if-not-fetch_looks_away.false) _
    (c.fetch.ensures.event w s).0 c.in_default.not-Word
