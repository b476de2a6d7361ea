use Rattle.std.proofs.Common.{refl, ℕ, replicate}
use Rattle.std.proofs.lemmas.Result.{on_ok_weaker}
use Rattle.pip_asm.proofs.Filling.{words_add}
use Rattle.pip_asm.proofs.emit.Written.zeros.Goals as goal

pub returns : goal.returns
returns c = on_ok_weaker c.push_zeros.result (λ e. words_add c.args.self.now
    (record { bytes = c.push_zeros.new.bytes; head = c.args.self.now.head; notes = c.args.self.now.notes })
    (replicate {A = ℕ} c.args.count 0) c.requires refl refl e) c.push_zeros.ensures
