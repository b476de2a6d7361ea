use Rattle.std.proofs.Common.{refl, ◌∷◌, []}
use Rattle.std.proofs.lemmas.Result.{on_ok_weaker}
use Rattle.pip_asm.proofs.Filling.{words_add}
use Rattle.pip_asm.proofs.emit.Written.word.Goals as goal

pub returns : goal.returns
returns c = on_ok_weaker c.push_word.result (λ e. words_add c.args.self.now
    (record { bytes = c.push_word.new.bytes; head = c.args.self.now.head; notes = c.args.self.now.notes })
    (c.args.word ∷ []) c.requires refl refl e) c.push_word.ensures
