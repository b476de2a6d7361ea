-- The program's table and the model's.
use Rattle.std.specs.Prelude.{◌≡◌, refl, ℕ, ◌-◌, ◌<◌, ◌==◌, Bool, true, false, cond, List, length, map, Some, None}
use Rattle.std.specs.Prelude.{option_map, slice_get, ◌⊎◌, get_or}
use Rattle.std.proofs.Common.{ap, sym, ◌∙◌, arith, inl, inr}
use Rattle.std.proofs.lemmas.Bool.Decides.{nat_tests}
use Rattle.std.proofs.lemmas.Option.{slice_get-map, slice_get-get_or}
use Rattle.pip_model.specs.InstrWords.{opcodes, opcode_at}
use Rattle.pip_isa.proofs.Laws.{no_row}
use Rattle.pip_isa.specs.Table.{opcode_row_seen, row_of}
use Rattle.pip_isa.specs.declared.table.Opcode.{Opcode}

-- ---- rows by their numbers

by_test : (op : ℕ) (b : Bool) → op == 0 ≡ b → (op ≡ 0 → ⊥)
    → cond b None (slice_get opcodes (op - 1)) ≡ slice_get opcodes (op - 1)
by_test op true e n = absurd (n (grind (arith, nat_tests, e)))
by_test op false e n = refl

row_in : (op : ℕ) (rows : List Opcode) → (op ≡ 0 → ⊥) → map opcode_row_seen rows ≡ map row_of opcodes
    → option_map opcode_row_seen (slice_get rows (op - 1)) ≡ option_map row_of (opcode_at op)
row_in op rows n e = sym (slice_get-map opcode_row_seen rows (op - 1)) ∙ ap (λ xs. slice_get xs (op - 1)) e
    ∙ slice_get-map row_of opcodes (op - 1) ∙ ap (option_map row_of) (sym (by_test op (op == 0) refl n))

pub row_at : (op : ℕ) (rows : List Opcode) (d : Opcode) → (op ≡ 0 → ⊥) → op - 1 < length rows → map opcode_row_seen rows
    ≡ map row_of opcodes → Some (opcode_row_seen (get_or rows (op - 1) d)) ≡ option_map row_of (opcode_at op)
row_at op rows d n low e = ap (option_map opcode_row_seen) (sym (slice_get-get_or rows (op - 1) d low)) ∙ row_in op
    rows n e

pub no_row_at : (op : ℕ) → (op ≡ 0) ⊎ (length opcodes < op) → None ≡ option_map row_of (opcode_at op)
no_row_at op (inl z) = sym (ap (λ k. option_map row_of (opcode_at k)) z)
no_row_at op (inr h) = sym (ap (option_map row_of) (no_row op (λ x. omega (arith, x, h)) (λ x. omega (arith, x, h))))
