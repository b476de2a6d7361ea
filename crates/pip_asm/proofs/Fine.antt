-- The lines of instructions have no newline, are short, and are no remarks.
use Rattle.std.specs.Prelude.{◌≡◌, refl, ℕ, zero, suc, ◌+◌, ◌<◌, ◌≤◌, ◌^◌, ◌==◌, Bool, true, false, not, nat_le, ◌&&◌}
use Rattle.std.specs.Prelude.{List, [], ◌∷◌}
use Rattle.std.specs.Prelude.{◌++◌, length, decimal, ℤ, pos, negsuc, Some}
use Rattle.std.specs.List.{list_all}
use Rattle.std.specs.Str.{all_ascii_digits}
use Rattle.std.proofs.Common.{arith, length-append}
use Rattle.std.proofs.lemmas.Bool.Decides.{nat_tests}
use Rattle.std.proofs.lemmas.Fmt.{digits_decimal, length-decimal-le}
use Rattle.pip_model.specs.InstrText.{reg_text, signed_text, before, operands_text, mnemonic_text}
use Rattle.pip_model.specs.InstrRead.{IsSigned16}
use Rattle.pip_model.specs.InstrWords.{Opcode, immediate, opcode_at, reg_a, reg_b, reg_c, signed_immediate}
use Rattle.pip_model.specs.declared.form.Form.{Form}
use Rattle.pip_model.specs.declared.form.Form.TheVariants as F
use Rattle.pip_isa.proofs.Rows.{half, ra, rb, rc, row_passes, short}
use Rattle.pip_model.proofs.Texts.Numbers.{own}

-- a byte is no newline
abbrev pub is_inner : ℕ → Bool
is_inner b = not (b == 10)

abbrev pub is_clean : List ℕ → Bool
is_clean bs = list_all is_inner bs

-- at most n bytes, and no newline
pub record Fine (n : ℕ) (bs : List ℕ) : Type 0 where
  pub clean : is_clean bs ≡ true
  pub short : length bs ≤ n

clean_append : (a b : List ℕ) → is_clean a ≡ true → is_clean b ≡ true → is_clean (a ++ b) ≡ true
clean_append [] b h k = k
clean_append (x ∷ a) b h k = grind (arith, clean_append a b, h, k)

pub fine_join : (m n : ℕ) (a b : List ℕ) → Fine m a → Fine n b → Fine (m + n) (a ++ b)
fine_join m n a b f g = let s = f.short in let t = g.short in let e = length-append a b in
    record { clean = clean_append a b f.clean g.clean; short = omega arith }

pub fine_more : (m n : ℕ) (a : List ℕ) → m ≤ n → Fine m a → Fine n a
fine_more m n a h f = let s = f.short in record { clean = f.clean; short = omega arith }

digits_clean : (bs : List ℕ) → all_ascii_digits bs ≡ true → is_clean bs ≡ true
digits_clean [] a = refl
digits_clean (d ∷ ds) a = grind (arith, nat_tests, a, digits_clean ds)

pub fine_decimal : (k n : ℕ) → 0 < k → n < 10 ^ k → n < 2 ^ 64 → Fine k (decimal n)
fine_decimal k n p h w = record {
  clean = digits_clean (decimal n) (digits_decimal own n (omega arith));
  short = length-decimal-le k n p h w;
}

pub fine_half : (n : ℕ) → n < 65536 → Fine 5 (decimal n)
fine_half n h = fine_decimal 5 n (omega arith) (omega arith) (omega arith)

pub fine_signed : (z : ℤ) → IsSigned16 z → Fine 6 (signed_text z)
fine_signed (pos n) h = fine_more 5 6 _ (omega arith) (fine_half n (omega arith))
fine_signed (negsuc n) h = fine_join 1 5 (45 ∷ []) (decimal (suc n)) (record { clean = refl; short = omega arith })
    (fine_half (suc n) (omega arith))

pub fine_reg : (a : ℕ) → a < 16 → Fine 3 (reg_text a)
fine_reg zero h = record { clean = refl; short = omega arith }
fine_reg (suc zero) h = record { clean = refl; short = omega arith }
fine_reg (suc (suc zero)) h = record { clean = refl; short = omega arith }
fine_reg (suc (suc (suc zero))) h = record { clean = refl; short = omega arith }
fine_reg (suc (suc (suc (suc zero)))) h = record { clean = refl; short = omega arith }
fine_reg (suc (suc (suc (suc (suc zero))))) h = record { clean = refl; short = omega arith }
fine_reg (suc (suc (suc (suc (suc (suc zero)))))) h = record { clean = refl; short = omega arith }
fine_reg (suc (suc (suc (suc (suc (suc (suc zero))))))) h = record { clean = refl; short = omega arith }
fine_reg (suc (suc (suc (suc (suc (suc (suc (suc zero)))))))) h = record { clean = refl; short = omega arith }
fine_reg (suc (suc (suc (suc (suc (suc (suc (suc (suc zero))))))))) h = record { clean = refl; short = omega arith }
fine_reg (suc (suc (suc (suc (suc (suc (suc (suc (suc (suc zero)))))))))) h =
    record { clean = refl; short = omega arith }
fine_reg (suc (suc (suc (suc (suc (suc (suc (suc (suc (suc (suc zero))))))))))) h =
    record { clean = refl; short = omega arith }
fine_reg (suc (suc (suc (suc (suc (suc (suc (suc (suc (suc (suc (suc zero)))))))))))) h =
    record { clean = refl; short = omega arith }
fine_reg (suc (suc (suc (suc (suc (suc (suc (suc (suc (suc (suc (suc (suc zero))))))))))))) h =
    record { clean = refl; short = omega arith }
fine_reg (suc (suc (suc (suc (suc (suc (suc (suc (suc (suc (suc (suc (suc (suc zero)))))))))))))) h =
    record { clean = refl; short = omega arith }
fine_reg (suc (suc (suc (suc (suc (suc (suc (suc (suc (suc (suc (suc (suc (suc (suc zero))))))))))))))) h =
    record { clean = refl; short = omega arith }
fine_reg (suc (suc (suc (suc (suc (suc (suc (suc (suc (suc (suc (suc (suc (suc (suc (suc n)))))))))))))))) h =
    absurd (omega arith)

pub fine_before : (a n : ℕ) (rest : List ℕ) → a < 16 → Fine n rest → Fine (4 + n) (before a rest)
fine_before a n rest h f = let g = fine_join 1 n (32 ∷ []) rest (record { clean = refl; short = omega arith }) f in
    fine_more _ _ _ (omega arith) (fine_join 3 (1 + n) (reg_text a) (32 ∷ rest) (fine_reg a h) g)

-- ---- the operands of a word

fine_operands : (f : Form) (w : ℕ) → Fine 100 (operands_text f w)
fine_operands F.Two w = fine_more _ 100 _ (omega arith) (fine_before (reg_a w) 3 _ (ra w) (fine_reg (reg_b w) (rb w)))
fine_operands F.Three w = fine_more _ 100 _ (omega arith)
    (fine_before (reg_a w) 7 _ (ra w) (fine_before (reg_b w) 3 _ (rb w) (fine_reg (reg_c w) (rc w))))
fine_operands F.TwoAndValue w = fine_more _ 100 _ (omega arith)
    (fine_before (reg_a w) 9 _ (ra w) (fine_before (reg_b w) 5 _ (rb w) (fine_half (immediate w) (half w))))
fine_operands F.TwoAndShift w = fine_more _ 100 _ (omega arith)
    (fine_before (reg_a w) 9 _ (ra w) (fine_before (reg_b w) 5 _ (rb w) (fine_half (immediate w) (half w))))
fine_operands F.TwoAndOffset w = fine_more _ 100 _ (omega arith)
    (fine_before (reg_a w) 10 _ (ra w) (fine_before (reg_b w) 6 _ (rb w) (fine_signed (signed_immediate w) (short w))))
fine_operands F.OneAndValue w =
    fine_more _ 100 _ (omega arith) (fine_before (reg_a w) 5 _ (ra w) (fine_half (immediate w) (half w)))
fine_operands F.OneAndOffset w =
    fine_more _ 100 _ (omega arith) (fine_before (reg_a w) 6 _ (ra w) (fine_signed (signed_immediate w) (short w)))
fine_operands F.One w = fine_more _ 100 _ (omega arith) (fine_reg (reg_a w) (ra w))
fine_operands F.Value w = fine_more _ 100 _ (omega arith) (fine_half (immediate w) (half w))
fine_operands F.Vector w = fine_more _ 100 _ (omega arith) (fine_half (immediate w) (half w))

-- a line that isn't empty and no remark
abbrev pub Starts : List ℕ → Type 0
Starts [] = ⊥
Starts (b ∷ bs) = (b == 35) ≡ false

-- the first byte isn't that of a remark
abbrev starts : List ℕ → Bool
starts [] = false
starts (b ∷ bs) = not (b == 35)

starts_on : (m rest : List ℕ) → starts m ≡ true → Starts (m ++ rest)
starts_on [] rest e = absurd (grind (arith, e))
starts_on (b ∷ bs) rest e = grind (arith, e)

-- a mnemonic that may begin a line
abbrev is_fine_name : ℕ → Opcode → Bool
is_fine_name op o = is_clean o.name && nat_le (length o.name) 4 && starts o.name

fine_name : (m : List ℕ) → (is_clean m && nat_le (length m) 4 && starts m) ≡ true → Fine 4 m × (starts m ≡ true)
fine_name m e = (record { clean = grind (arith, e); short = grind (arith, nat_tests, e) }, grind (arith, e))

row_name : (op : ℕ) (o : Opcode) → opcode_at op ≡ Some o → Fine 4 o.name × (starts o.name ≡ true)
row_name op o e = fine_name o.name (row_passes is_fine_name op o refl e)

pub fine_row : (op : ℕ) (o : Opcode) (w : ℕ) → opcode_at op ≡ Some o → Fine 120 (mnemonic_text w (Some o))
fine_row op o w e =
    let space = fine_join 1 100 (32 ∷ []) _ (record { clean = refl; short = omega arith }) (fine_operands o.form w) in
    fine_more 105 120 _ (omega arith) (fine_join 4 101 o.name _ (row_name op o e).0 space)

pub starts_row : (op : ℕ) (o : Opcode) (w : ℕ) → opcode_at op ≡ Some o → Starts (mnemonic_text w (Some o))
starts_row op o w e = starts_on o.name (32 ∷ operands_text o.form w) (row_name op o e).1
