use Rattle.pip_base.proofs.Memory.{IsMemory-replicate_zeros}
use Rattle.pip_every.proofs.later.words_later.Goals as goal

pub note_words-requires : goal.note_words-requires
note_words-requires g c = record { shape = rw c.in_ok-later.ensures (IsMemory-replicate_zeros _) }
