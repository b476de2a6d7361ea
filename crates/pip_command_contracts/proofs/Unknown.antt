-- How the program ends where the words are no form.
use Rattle.std.proofs.Common.{◌≡◌, ◌≢◌, ℕ, inl, Option, None, List, [], refl, arith}
use Rattle.std.proofs.KnownBytes.{Consumes-nil}
use Rattle.pip_io.specs.Taken.{Taken}
use Rattle.pip_io.specs.Histories.{writing}
use Rattle.pip_switch.specs.Standing.{State}
use Rattle.pip_command_contracts.specs.EndsBy.{EndsBy}
use Rattle.pip_command_contracts.specs.Streams.{EndsLine, beside}
use Rattle.pip_command_contracts.proofs.Endings.{by_plain}
use Rattle.pip_command_contracts.specs.Usage.{unknown_due}

-- the line was written, or a part of it
pub usage_ends : (usage : List ℕ) (code : ℕ) (p : Option State) (left : Option (List ℕ)) (reads : ℕ)
    (before after : Taken) (writes writes' : ℕ)
    → before.buffered ≡ [] → p ≡ None → (code ≢ 4 → writes' ≡ writes) → (code ≢ 4 → after.buffered ≡ [])
    → EndsLine 1 usage code (writing before writes) (writing after writes')
    → EndsBy (unknown_due usage) code p (beside left reads (writing before writes))
    (beside left reads (writing after writes'))
usage_ends usage code p left reads before after writes writes' start none no_faults flushed told =
    by_plain (unknown_due usage) code p (beside left reads (writing before writes))
    (beside left reads (writing after writes'))
    (record { reads = λ not. refl; writes = no_faults }) flushed (λ e. (refl, refl)) [] (Consumes-nil left) none start 1
    usage
    (inl (omega arith)) (record { is = refl; decided = inl tt }) told
