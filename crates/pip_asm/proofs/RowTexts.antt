-- Words that are instructions, and the texts of their rows.
use Rattle.std.specs.Prelude.{◌≡◌, refl, ℕ, ◌≤◌, Bool, true, false, cond, codes, List, [], ◌∷◌, ◌++◌, length, Option}
use Rattle.std.specs.Prelude.{Some, None, is_some, option_map}
use Rattle.std.proofs.Common.{ap, sym, subst, ◌∙◌, append_assoc, arith}
use Rattle.std.proofs.lemmas.List.{append-nil}
use Rattle.pip_isa.proofs.Rows.{short_name}
use Rattle.pip_isa.specs.Table.{OpcodeRow, row_of}
use Rattle.pip_model.specs.InstrRead.{instr_of, read_row}
use Rattle.pip_model.specs.InstrText.{instr_text, operands_text, mnemonic_text, word_said}
use Rattle.pip_model.specs.Text.{word_text}
use Rattle.pip_model.specs.InstrWords.{Opcode, fits, fits_row, is_instruction, opcode_at, opcode_of}
use Rattle.pip_model.specs.declared.instr.Instr.{Instr}

chosen : (b : Bool) (i : Instr) → is_some (cond b (Some i) None) ≡ b
chosen true i = refl
chosen false i = refl

by_row : (w : ℕ) (o : Option Opcode) → is_some (read_row w o) ≡ fits_row w o
by_row w None = refl
by_row w (Some o) = chosen (fits w o.form) (o.reads w)

is_read : (w : ℕ) → is_some (instr_of w) ≡ is_instruction w
is_read w = by_row w (opcode_at (opcode_of w))

-- ---- the row of an opcode, as the program has it

row_is : (op : ℕ) (r : OpcodeRow) (o : Option Opcode) → opcode_at op ≡ o → Some r ≡ option_map row_of o
    → (p : Opcode) × (opcode_at op ≡ Some p) × (r ≡ row_of p)
row_is op r None at e = absurd (grind (arith, e))
row_is op r (Some p) at e = (p, at, grind (arith, e))

no_text : (w : ℕ) → None ≡ option_map row_of (opcode_at (opcode_of w)) → [] ≡ instr_text w
no_text w e = go (opcode_at (opcode_of w)) e
  where
    go : (o : Option Opcode) → None ≡ option_map row_of o → [] ≡ mnemonic_text w o
    go None e = refl
    go (Some o) e = absurd (grind (arith, e))

pub name_fits : (op : ℕ) (r : OpcodeRow) → Some r ≡ option_map row_of (opcode_at op) → length r.name ≤ 4
name_fits op r e = let p = row_is op r (opcode_at op) refl e in
    subst (λ q. length q.name ≤ 4) (sym p.2) (short_name op p.0 p.1)

pub none_appended : (w : ℕ) (old : List ℕ) → None ≡ option_map row_of (opcode_at (opcode_of w))
    → old ≡ old ++ instr_text w
none_appended w old e = sym (append-nil old) ∙ ap (λ t. old ++ t) (no_text w e)

pub row_appended : (w : ℕ) (r : OpcodeRow) (old b c : List ℕ) → Some r ≡ option_map row_of (opcode_at (opcode_of w))
    → b ≡ old ++ (r.name ++ 32 ∷ []) → c ≡ b ++ operands_text r.form w → c ≡ old ++ instr_text w
row_appended w r old b c e f g =
    let p = row_is (opcode_of w) r (opcode_at (opcode_of w)) refl e in
    g
    ∙ ap (λ t. t ++ operands_text r.form w) f
    ∙ append_assoc old (r.name ++ 32 ∷ []) (operands_text r.form w)
    ∙ ap (λ t. old ++ t) (append_assoc r.name (32 ∷ []) (operands_text r.form w)
    ∙ ap (λ q. q.name ++ 32 ∷ operands_text q.form w) p.2 ∙ sym (ap (mnemonic_text w) p.1))

-- the text of a word that is an instruction, and of one that is none
pub said_instruction : (w : ℕ) → is_some (instr_of w) ≡ true → word_said w ≡ instr_text w
said_instruction w e = ap (λ i. cond i (instr_text w) (codes ".word " ++ word_text w)) (sym (is_read w) ∙ e)

pub said_data : (w : ℕ) → is_some (instr_of w) ≡ false → word_said w ≡ codes ".word " ++ word_text w
said_data w e = ap (λ i. cond i (instr_text w) (codes ".word " ++ word_text w)) (sym (is_read w) ∙ e)
