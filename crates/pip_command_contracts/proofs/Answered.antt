-- That every input is answered, whatever is due of it.
use Rattle.std.proofs.Common.{◌≡◌, ℕ, zero, suc, ◌+◌, ◌⊎◌, ◌≤◌, inl}
use Rattle.std.proofs.Common.{inr, Option, None, Some, List, [], ◌∷◌, ◌++◌, length}
use Rattle.std.proofs.Common.{refl, ap, ◌∙◌, subst, length-append, arith}
use Rattle.std.specs.Option.{IsSomeAnd}
use Rattle.std.specs.Io.KnownBytes.{Consumes}
use Rattle.pip_io.specs.Causes.{RoseByOne}
use Rattle.pip_switch.specs.Standing.{State}
use Rattle.pip_command_contracts.specs.Answered.{AreInputsAnswered}
use Rattle.pip_command_contracts.specs.EndsBy.{Due, EndsBy, IsOfAnswer, IsWithin}
use Rattle.pip_command_contracts.specs.Streams.{Streams}

-- a status is that of an answer, or one of four
which : (code : ℕ) → IsOfAnswer code ⊎ (code ≡ 3) ⊎ (code ≡ 4) ⊎ (code ≡ 5) ⊎ (code ≡ 6)
which zero = inl (inl (omega arith))
which (suc zero) = inl (inl (omega arith))
which (suc (suc zero)) = inl (inl (omega arith))
which (suc (suc (suc zero))) = inr (inl refl)
which (suc (suc (suc (suc zero)))) = inr (inr (inl refl))
which (suc (suc (suc (suc (suc zero))))) = inr (inr (inr (inl refl)))
which (suc (suc (suc (suc (suc (suc zero)))))) = inr (inr (inr (inr refl)))
which (suc (suc (suc (suc (suc (suc (suc n))))))) = inl (inr (omega arith))

-- a told input within a limit has no byte beyond it
not_past : (l l' : Option (List ℕ)) (bytes : List ℕ) (beyond most : ℕ) → Consumes l l' (bytes ++ beyond ∷ [])
    → most ≡ length bytes → IsSomeAnd l (λ input. length input ≤ most) → ⊥
not_past None l' bytes beyond most read is good = absurd good
not_past (Some xs) None bytes beyond most read is good = absurd read
not_past (Some xs) (Some ys) bytes beyond most read is good =
    let whole : length xs ≡ length (bytes ++ beyond ∷ []) + length ys = ap length read ∙ length-append
    (bytes ++ beyond ∷ []) ys in
    let more : length (bytes ++ beyond ∷ []) ≡ length bytes + 1 = length-append bytes (beyond ∷ []) in
    let z : ⊥ = omega (arith, whole, more, is, good) in z

pub answered : (d : Due) (code : ℕ) (p : Option State) (a b : Streams) → EndsBy d code p a b
    → IsSomeAnd a.left (IsWithin d.limit) → (RoseByOne a.reads b.reads → ⊥) → (RoseByOne a.writes b.writes → ⊥)
    → IsOfAnswer code ⊎ (code ≡ 5)
answered d code p a b h good reads writes = elim (which code) [
  | inl o ↦ inl o
  | inr (inl e) ↦ absurd (reads (h.read_fault e).1)
  | inr (inr (inl e)) ↦ absurd (writes (h.write_fault e).1)
  | inr (inr (inr (inl e))) ↦ inr e
  | inr (inr (inr (inr e))) ↦ let x = h.limit e in
      absurd (not_past a.left b.left x.first x.beyond (length x.first) (subst (Consumes a.left b.left) x.all h.read)
      refl
      (subst (λ l. IsSomeAnd a.left (IsWithin l)) x.limit good))
]

pub inputs_are_answered : {C : Type 0} (due_of : C → Due) → AreInputsAnswered due_of
inputs_are_answered due_of c code p a b h good reads writes = answered (due_of c) code p a b h good reads writes
