use Rattle.std.proofs.Common.{◌∙◌, sym}
use Rattle.pip_away.specs.Blind.{sight_of}
use Rattle.pip_every.proofs.OnStates.{load_answered, load_faults}
use Rattle.pip_every.proofs.looking.deed_looks_away.Goals as goal

pub returns-then-load_answers : goal.returns-then-load_answers
returns-then-load_answers g c w s = load_answered c.args.blind.now.own.items (sight_of c.args.blind.now) w
    c.args.cpu c.args.deed.now _ _ c.in-Load.is
    c.load_answers.result (c.load_answers.ensures w s) c.if-load_answers.true

pub returns-else-load_answers : goal.returns-else-load_answers
returns-else-load_answers g c w s = c.load_looks_away.ensures w s
    ∙ load_faults c.args.blind.now.own.items (sight_of c.args.blind.now) w c.args.cpu c.args.deed.now _ _ c.in-Load.is
    c.load_answers.result (c.load_answers.ensures w s) c.if-load_answers.false

pub returns-in-StoreWord : goal.returns-in-StoreWord
returns-in-StoreWord g c w s = c.store_looks_away.ensures w 0 s ∙ sym (rw c.in-StoreWord.is)

pub returns-in-StoreByte : goal.returns-in-StoreByte
returns-in-StoreByte g c w s = c.store_looks_away-in-StoreByte.ensures w 0 s ∙ sym (rw c.in-StoreByte.is)

pub returns-in-Call : goal.returns-in-Call
returns-in-Call g c w s = c.call_looks_away.ensures w s ∙ sym (rw c.in-Call.is)

pub returns-in-Trap : goal.returns-in-Trap
returns-in-Trap g c w s = c.vector_looks_away.ensures w 0 0 s ∙ sym (rw c.in-Trap.is)
