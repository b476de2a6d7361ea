-- At which stage a line stands that says something of its own.
use Rattle.std.specs.Prelude.{◌≡◌, ℕ, ◌==◌, Bool, true, false, cond, nat_le, nat_lt, List, [], ◌∷◌, length, Option}
use Rattle.std.specs.Prelude.{Some, None, Result, Ok, Err, IfOk, codes}
use Rattle.std.specs.Str.{bytes_eq}
use Rattle.std.proofs.Common.{refl, subst}
use Rattle.pip_model.specs.Grammar.{number_of, words_of}
use Rattle.pip_model.specs.AsmWords.{Cell, instruction, is_name, text_at}
use Rattle.pip_model.specs.AsmLines.{Statement, Blank, Frames, Cpus, Plans, Begins, Holds, Zeros, Names, cpus_line}
use Rattle.pip_model.specs.AsmLines.{frames_line, held, label_of, name_line, number_line, one_number, other_line}
use Rattle.pip_model.specs.AsmLines.{page_line, assembly_phrase, phrase_of, plan_line, statement, three_numbers}
use Rattle.pip_model.specs.AsmLines.{word_line, word_operand, zero_line, zero_statement}
use Rattle.pip_model.specs.declared.assembly.AsmKind.{AsmKind}
use Rattle.pip_model.specs.declared.assembly.AsmKind.TheVariants as K
use Rattle.pip_model.specs.declared.assembly.Stage.{Stage}
use Rattle.pip_model.specs.declared.assembly.Stage.TheVariants.{Start, Framed, Header, InPage}
use Rattle.pip_asm.specs.Seen.{statement_of}
use Rattle.pip_asm.specs.declared.line.cell.Statement.{Statement as OwnStatement}
use Rattle.pip_asm.specs.Stages.{StandsAt}

-- the stage is the one at which such a line stands
abbrev pub Stands : Stage → Statement → Type 0
Stands g Blank = Unit {0}
Stands g (Frames n) = g ≡ Start
Stands g (Cpus n) = g ≡ Framed
Stands g (Plans p) = g ≡ Header
Stands g (Begins v) = Unit {0}
Stands g (Holds c) = g ≡ InPage
Stands g (Zeros k) = g ≡ InPage
Stands g (Names t) = Unit {0}

module _ (P : Statement → Type 0) where
  either : (b : Bool) (r s : Result Statement AsmKind) → IfOk r P → IfOk s P → IfOk (cond b r s) P
  either true r s h k = h
  either false r s h k = k

  number : (good : ℕ → Bool) (says : ℕ → Statement) (o : Option ℕ) → ((n : ℕ) → P (says n))
      → IfOk (one_number good says o) P
  number good says None h = tt
  number good says (Some n) h = either (good n) (Ok (says n)) (Err K.Range) (h n) tt

  of_number : (good : ℕ → Bool) (says : ℕ → Statement) (xs : List (List ℕ)) → ((n : ℕ) → P (says n))
      → IfOk (number_line good says xs) P
  of_number good says xs h = either (length xs == 1) (one_number good says (number_of (text_at xs 0))) (Err K.Operand)
      (number good says (number_of (text_at xs 0)) h) tt

plan : (l f p : Option ℕ) → IfOk (three_numbers l f p) (Stands Header)
plan (Some l) (Some f) (Some p) =
    either (Stands Header) (nat_lt l 16) (Ok (Plans (record { line = l; first = f; period = p }))) (Err K.Range) refl tt
plan None f p = tt
plan (Some l) None p = tt
plan (Some l) (Some f) None = tt

plans : (xs : List (List ℕ)) → IfOk (plan_line xs) (Stands Header)
plans xs = either (Stands Header)
    (length xs == 3) (three_numbers (number_of (text_at xs 0)) (number_of (text_at xs 1)) (number_of (text_at xs 2)))
    (Err K.Operand) (plan (number_of (text_at xs 0)) (number_of (text_at xs 1)) (number_of (text_at xs 2))) tt

holds : (r : Result Cell AsmKind) → IfOk (held r) (Stands InPage)
holds (Ok c) = refl
holds (Err k) = tt

word : (xs : List (List ℕ)) → IfOk (word_line xs) (Stands InPage)
word xs = either (Stands InPage) (length xs == 1) (held (word_operand (text_at xs 0) (number_of (text_at xs 0))))
    (Err K.Operand) (holds (word_operand (text_at xs 0) (number_of (text_at xs 0)))) tt

zero_words : (o : Option ℕ) → IfOk (zero_statement o) (Stands InPage)
zero_words None = tt
zero_words (Some k) = either (Stands InPage) (nat_le k 1024) (Ok (Zeros k)) (Err K.Size) refl tt

zero : (xs : List (List ℕ)) → IfOk (zero_line xs) (Stands InPage)
zero xs = either (Stands InPage) (length xs == 1) (zero_statement (number_of (text_at xs 0))) (Err K.Operand)
    (zero_words (number_of (text_at xs 0))) tt

name : (m : List ℕ) (xs : List (List ℕ)) → IfOk (name_line m xs) (Stands InPage)
name m xs = either (Stands InPage) (is_name m) (cond (length xs == 0) (Ok (Names m)) (Err K.Operand)) (Err K.Unknown)
    (either (Stands InPage) (length xs == 0) (Ok (Names m)) (Err K.Operand) tt tt) tt

other : (m : List ℕ) (xs : List (List ℕ)) (o : Option (List ℕ)) → IfOk (other_line m xs o) (Stands InPage)
other m xs (Some n) = name n xs
other m xs None = holds (instruction m xs)

by_word : (g : Stage) (m : List ℕ) (xs : List (List ℕ)) → IfOk (phrase_of g m xs) (Stands g)
by_word Start m xs = either (Stands Start) (bytes_eq m (codes ".frames")) (frames_line xs) (Err K.Unknown)
    (of_number (Stands Start) _ Frames xs (λ n. refl)) tt
by_word Framed m xs = either (Stands Framed) (bytes_eq m (codes ".cpus")) (cpus_line xs) (Err K.Unknown)
    (of_number (Stands Framed) _ Cpus xs (λ n. refl)) tt
by_word Header m xs =
    either (Stands Header) (bytes_eq m (codes ".line")) (plan_line xs)
    (cond (bytes_eq m (codes ".page")) (page_line xs) (Err K.Unknown)) (plans xs)
    (either (Stands Header) (bytes_eq m (codes ".page")) (page_line xs) (Err K.Unknown)
    (of_number (Stands Header) _ _ xs (λ n. tt)) tt)
by_word InPage m xs =
    either (Stands InPage) (bytes_eq m (codes ".page")) (page_line xs) (cond (bytes_eq m (codes ".word")) (word_line xs)
    (cond (bytes_eq m (codes ".zero")) (zero_line xs) (other_line m xs (label_of m))))
    (of_number (Stands InPage) _ _ xs (λ n. tt))
    (either (Stands InPage) (bytes_eq m (codes ".word")) (word_line xs)
    (cond (bytes_eq m (codes ".zero")) (zero_line xs) (other_line m xs (label_of m))) (word xs)
    (either (Stands InPage) (bytes_eq m (codes ".zero")) (zero_line xs) (other_line m xs (label_of m)) (zero xs)
    (other m xs (label_of m))))

by_words : (g : Stage) (ms : List (List ℕ)) → IfOk (assembly_phrase g ms) (Stands g)
by_words g [] = tt
by_words g (m ∷ xs) = by_word g m xs

all : (g : Stage) (l : List ℕ) → IfOk (statement g l) (Stands g)
all g [] = tt
all g (b ∷ bs) =
    either (Stands g) (nat_lt 120 (length (b ∷ bs))) (Err K.Unknown)
    (cond (b == 35) (Ok Blank) (assembly_phrase g (words_of (b ∷ bs)))) tt
    (either (Stands g) (b == 35) (Ok Blank) (assembly_phrase g (words_of (b ∷ bs))) tt (by_words g (words_of (b ∷ bs))))

-- a line of this stage says what the program read
pub stands : (g : Stage) (said st : OwnStatement) → StandsAt g (statement_of said) → said ≡ st
    → Stands g (statement_of st)
stands g said st (l, e) is = rw (← is) (subst (λ r. IfOk r (Stands g)) e (all g l))
