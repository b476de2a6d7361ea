-- What the lines of a disassembled text say.
use Rattle.std.specs.Prelude.{◌≡◌, refl, ℕ, ◌+◌, ◌*◌, ◌/◌, ◌%◌, ◌<◌, ◌≤◌, ◌^◌, ◌==◌, nat_lt, nat_le, Bool, true, false}
use Rattle.std.specs.Prelude.{◌&&◌, cond, List, [], ◌∷◌, ◌++◌, length, Option, Some, None, Ok, codes, decimal}
use Rattle.std.proofs.Common.{ap, ◌∙◌, arith}
use Rattle.std.proofs.lemmas.Bool.Decides.{nat_tests}
use Rattle.pip_base.specs.declared.types.Plan.{Plan}
use Rattle.pip_model.specs.Grammar.{words_of}
use Rattle.pip_model.specs.Text.{word_text}
use Rattle.pip_model.specs.AsmWords.{plain_cell}
use Rattle.pip_model.specs.AsmLines.{Statement, Frames, Cpus, Plans, Begins, Holds, assembly_phrase, statement}
use Rattle.pip_model.specs.AsmLines.{one_number, three_numbers, word_operand, held}
use Rattle.pip_model.specs.InstrText.{mnemonic_text, word_said}
use Rattle.pip_model.specs.InstrWords.{Opcode, fits, fits_row, opcode_at, opcode_of}
use Rattle.pip_model.specs.declared.assembly.Stage.{Stage}
use Rattle.pip_model.specs.declared.assembly.Stage.TheVariants.{Start, Framed, Header, InPage}
use Rattle.pip_model.proofs.Texts.Numbers.{number_decimal}
use Rattle.pip_asm.proofs.WordTexts.{one_word, word_before, decimal_no_space, text_word, number_text, fine_text}
use Rattle.pip_asm.proofs.Fine.{Fine, Starts, fine_decimal, fine_join, fine_more, fine_row, starts_row}
use Rattle.pip_asm.proofs.Again.{again}

too_long : (n : ℕ) → n ≤ 120 → nat_lt 120 n ≡ false
too_long n h = grind (arith, nat_tests, h)

neither : {A : Type 0} (l r : Bool) (x y z : A) → l ≡ false → r ≡ false → cond l x (cond r y z) ≡ z
neither l r x y z h k = rw (h, k)

truly : {A : Type 0} (b : Bool) (x y : A) → b ≡ true → cond b x y ≡ x
truly b x y h = rw h

pub said : (g : Stage) (text : List ℕ) → Starts text → length text ≤ 120
    → statement g text ≡ assembly_phrase g (words_of text)
said g [] s h = absurd s
said g (b ∷ bs) s h = neither (nat_lt 120 (length (b ∷ bs))) (b == 35) _ _ _ (too_long (length (b ∷ bs)) h) s

-- ---- the header

ranged : (good : ℕ → Bool) (says : ℕ → Statement) (n : ℕ) → good n ≡ true → one_number good says (Some n) ≡ Ok (says n)
ranged good says n h = truly (good n) _ _ h

pub frames_fine : (n : ℕ) → n ≤ 4096 → Fine 120 (codes ".frames " ++ decimal n)
frames_fine n b = fine_more 12 120 _ (omega arith) (fine_join 8 4 (codes ".frames ") (decimal n)
    (record { clean = refl; short = omega arith }) (fine_decimal 4 n (omega arith) (omega arith) (omega arith)))

pub frames_said : (n : ℕ) → 16 ≤ n → n ≤ 4096 → statement Start (codes ".frames " ++ decimal n) ≡ Ok (Frames n)
frames_said n a b =
    said Start (codes ".frames " ++ decimal n) refl (frames_fine n b).short
    ∙ ap (λ ws. assembly_phrase Start (codes ".frames" ∷ ws)) (one_word (decimal n) (decimal_no_space n (omega arith)))
    ∙ ap (one_number (λ n. nat_le 16 n && nat_le n 4096) Frames) (number_decimal n (omega arith))
    ∙ ranged (λ n. nat_le 16 n && nat_le n 4096) Frames n (grind (arith, nat_tests, a, b))

pub cpus_fine : (n : ℕ) → n ≤ 4 → Fine 120 (codes ".cpus " ++ decimal n)
cpus_fine n b = fine_more 7 120 _ (omega arith) (fine_join 6 1 (codes ".cpus ") (decimal n)
    (record { clean = refl; short = omega arith }) (fine_decimal 1 n (omega arith) (omega arith) (omega arith)))

pub cpus_said : (n : ℕ) → 1 ≤ n → n ≤ 4 → statement Framed (codes ".cpus " ++ decimal n) ≡ Ok (Cpus n)
cpus_said n a b =
    said Framed (codes ".cpus " ++ decimal n) refl (cpus_fine n b).short
    ∙ ap (λ ws. assembly_phrase Framed (codes ".cpus" ∷ ws)) (one_word (decimal n) (decimal_no_space n (omega arith)))
    ∙ ap (one_number (λ n. nat_le 1 n && nat_le n 4) Cpus) (number_decimal n (omega arith))
    ∙ ranged (λ n. nat_le 1 n && nat_le n 4) Cpus n (grind (arith, nat_tests, a, b))

abbrev pub plan_text : Plan → List ℕ
plan_text p = codes ".line " ++ (decimal p.line ++ 32 ∷ (decimal p.first ++ 32 ∷ decimal p.period))

plan_of : (l f p : ℕ) → l < 16
    → three_numbers (Some l) (Some f) (Some p) ≡ Ok (Plans (record { line = l; first = f; period = p }))
plan_of l f p h = grind (arith, nat_tests, h)

fine_space : (n : ℕ) (rest : List ℕ) → Fine n rest → Fine (1 + n) (32 ∷ rest)
fine_space n rest f = fine_join 1 n (32 ∷ []) rest (record { clean = refl; short = omega arith }) f

pub plan_fine : (p : Plan) → p.line < 16 → p.first < 2 ^ 32 → p.period < 2 ^ 32 → Fine 120 (plan_text p)
plan_fine p a b c =
    let f = fine_space 10 (decimal p.period) (fine_decimal 10 p.period (omega arith) (omega arith) (omega arith)) in
    let g = fine_space 21 _
    (fine_join 10 11 (decimal p.first) _ (fine_decimal 10 p.first (omega arith) (omega arith) (omega arith)) f) in
    let k = fine_join 2 22 (decimal p.line) _ (fine_decimal 2 p.line (omega arith) (omega arith) (omega arith)) g in
    fine_more 30 120 _ (omega arith)
    (fine_join 6 24 (codes ".line ") _ (record { clean = refl; short = omega arith }) k)

pub plan_said : (p : Plan) → p.line < 16 → p.first < 2 ^ 32 → p.period < 2 ^ 32
    → statement Header (plan_text p) ≡ Ok (Plans p)
plan_said p a b c =
    said Header (plan_text p) refl (plan_fine p a b c).short
    ∙ ap (λ ws. assembly_phrase Header (codes ".line" ∷ ws)) (word_before (decimal p.line) _
    (decimal_no_space p.line (omega arith))
    ∙ ap (λ ws. decimal p.line ∷ ws) (word_before (decimal p.first) _ (decimal_no_space p.first (omega arith))
    ∙ ap (λ ws. decimal p.first ∷ ws) (one_word (decimal p.period) (decimal_no_space p.period (omega arith)))))
    ∙ (λ j. three_numbers (number_decimal p.line (omega arith) j) (number_decimal p.first b j)
    (number_decimal p.period c j))
    ∙ plan_of p.line p.first p.period a

-- ---- pages

-- a page may begin here
abbrev pub IsOpen : Stage → Type 0
IsOpen Start = ⊥
IsOpen Framed = ⊥
IsOpen Header = Unit {0}
IsOpen InPage = Unit {0}

abbrev pub page_text : ℕ → List ℕ
page_text v = codes ".page " ++ word_text (v * 4096)

pub page_fine : (v : ℕ) → Fine 120 (page_text v)
page_fine v = fine_more 16 120 _ (omega arith) (fine_join 6 10 (codes ".page ")
    (word_text (v * 4096)) (record { clean = refl; short = omega arith }) (fine_text (v * 4096)))

begins : (v : ℕ) → one_number (λ a. a % 4096 == 0) (λ a. Begins (a / 4096)) (Some (v * 4096)) ≡ Ok (Begins v)
begins v =
    let e : v * 4096 / 4096 ≡ v = omega arith in
    rw (ranged (λ a. a % 4096 == 0) (λ a. Begins (a / 4096)) (v * 4096) (grind (arith, nat_tests)), e)

pub page_said : (g : Stage) (v : ℕ) → IsOpen g → v < 2 ^ 20 → statement g (page_text v) ≡ Ok (Begins v)
page_said Start v o h = absurd o
page_said Framed v o h = absurd o
page_said Header v o h =
    said Header (page_text v) refl (page_fine v).short
    ∙ ap (λ ws. assembly_phrase Header (codes ".page" ∷ ws)) (text_word (v * 4096))
    ∙ ap (one_number (λ a. a % 4096 == 0) (λ a. Begins (a / 4096))) (number_text (v * 4096) (omega arith)) ∙ begins v
page_said InPage v o h =
    said InPage (page_text v) refl (page_fine v).short
    ∙ ap (λ ws. assembly_phrase InPage (codes ".page" ∷ ws)) (text_word (v * 4096))
    ∙ ap (one_number (λ a. a % 4096 == 0) (λ a. Begins (a / 4096))) (number_text (v * 4096) (omega arith)) ∙ begins v

-- ---- words

plain_fine : (w : ℕ) → Fine 120 (codes ".word " ++ word_text w)
plain_fine w = fine_more 16 120 _ (omega arith)
    (fine_join 6 10 (codes ".word ") (word_text w) (record { clean = refl; short = omega arith }) (fine_text w))

plain_said : (w : ℕ) → w < 2 ^ 32 → statement InPage (codes ".word " ++ word_text w) ≡ Ok (Holds (plain_cell w))
plain_said w h =
    rw (said InPage (codes ".word " ++ word_text w) refl (plain_fine w).short, text_word w, number_text w h)

pub record WordIs (w : ℕ) (text : List ℕ) : Type 0 where
  pub says : statement InPage text ≡ Ok (Holds (plain_cell w))
  pub fine : Fine 120 text

word_by : (w : ℕ) (o : Option Opcode) → w < 2 ^ 32 → opcode_at (opcode_of w) ≡ o
    → WordIs w (cond (fits_row w o) (mnemonic_text w o) (codes ".word " ++ word_text w))
word_by w None h e = record { says = plain_said w h; fine = plain_fine w }
word_by w (Some o) h e = go (fits w o.form) refl
  where
    go : (b : Bool) → fits w o.form ≡ b → WordIs w (cond b (mnemonic_text w (Some o)) (codes ".word " ++ word_text w))
    go false t = record { says = plain_said w h; fine = plain_fine w }
    go true t =
        let f = fine_row (opcode_of w) o w e in
        record {
          says = said InPage (mnemonic_text w (Some o)) (starts_row (opcode_of w) o w e) f.short
              ∙ again (opcode_of w) o e w refl t;
          fine = f;
        }

pub word_is : (w : ℕ) → w < 2 ^ 32 → WordIs w (word_said w)
word_is w h = word_by w (opcode_at (opcode_of w)) h refl
