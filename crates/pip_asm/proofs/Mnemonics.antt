-- An instruction by its mnemonic.
use Rattle.std.specs.Prelude.{◌≡◌, refl, ℕ, ◌+◌, List, Option, Some, None, option_map, Err}
use Rattle.std.specs.List.{position}
use Rattle.std.specs.Str.{bytes_eq}
use Rattle.std.proofs.Common.{ap, sym, ◌∙◌, arith}
use Rattle.pip_isa.specs.Table.{OpcodeRow, row_of}
use Rattle.pip_model.specs.AsmLines.{held}
use Rattle.pip_model.specs.AsmWords.{by_form, by_place, by_row, instruction}
use Rattle.pip_model.specs.InstrWords.{Opcode, opcodes, opcode_at}
use Rattle.pip_model.specs.declared.assembly.AsmKind.TheVariants as K

no_place : (m : List ℕ) (xs : List (List ℕ)) (o : Option ℕ) → None ≡ option_map (λ k. k + 1) o
    → by_place m xs o ≡ Err K.Unknown
no_place m xs None e = refl
no_place m xs (Some k) e = absurd (grind (arith, e))

pub no_mnemonic : (m : List ℕ) (xs : List (List ℕ)) → None
    ≡ option_map (λ k. k + 1) (position (λ o. bytes_eq m o.name) opcodes) → Err K.Unknown ≡ held (instruction m xs)
no_mnemonic m xs e = sym (ap held (no_place m xs (position (λ o. bytes_eq m o.name) opcodes) e))

at_place : (op : ℕ) (m : List ℕ) (xs : List (List ℕ)) (o : Option ℕ) → Some op ≡ option_map (λ k. k + 1) o
    → by_place m xs o ≡ by_row op m xs (opcode_at op)
at_place op m xs None e = absurd (grind (arith, e))
at_place op m xs (Some k) e = let s : k + 1 ≡ op = grind (arith, e) in ap (λ n. by_row n m xs (opcode_at n)) s

no_row : (op : ℕ) (m : List ℕ) (xs : List (List ℕ)) (o : Option Opcode) → None ≡ option_map row_of o
    → by_row op m xs o ≡ Err K.Unknown
no_row op m xs None e = refl
no_row op m xs (Some o) e = absurd (grind (arith, e))

at_row : (op : ℕ) (m : List ℕ) (xs : List (List ℕ)) (o : Option Opcode) (r : OpcodeRow) → Some r ≡ option_map row_of o
    → by_row op m xs o ≡ by_form op m r.form xs
at_row op m xs None r e = absurd (grind (arith, e))
at_row op m xs (Some o) r e = let s : r ≡ row_of o = grind (arith, e) in ap (λ q. by_form op m q.form xs) (sym s)

pub no_opcode : (op : ℕ) (m : List ℕ) (xs : List (List ℕ))
    → Some op ≡ option_map (λ k. k + 1) (position (λ o. bytes_eq m o.name) opcodes)
    → None ≡ option_map row_of (opcode_at op) → Err K.Unknown ≡ held (instruction m xs)
no_opcode op m xs e f =
    sym (ap held (at_place op m xs (position (λ o. bytes_eq m o.name) opcodes) e ∙ no_row op m xs (opcode_at op) f))

pub by_opcode : (op : ℕ) (m : List ℕ) (xs : List (List ℕ)) (r : OpcodeRow)
    → Some op ≡ option_map (λ k. k + 1) (position (λ o. bytes_eq m o.name) opcodes)
    → Some r ≡ option_map row_of (opcode_at op) → held (by_form op m r.form xs) ≡ held (instruction m xs)
by_opcode op m xs r e f =
    sym (ap held (at_place op m xs (position (λ o. bytes_eq m o.name) opcodes) e ∙ at_row op m xs (opcode_at op) r f))
