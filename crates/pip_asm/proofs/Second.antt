-- The second pass over the lines of an image's parts.
use Rattle.std.specs.Prelude.{◌≡◌, refl, ℕ, zero, suc, ◌+◌, ◌-◌, ◌*◌, ◌<◌, ◌^◌, true, List, [], ◌∷◌, ◌++◌, length, map}
use Rattle.std.specs.Prelude.{replicate, Option, Result, Ok, Err}
use Rattle.std.proofs.Common.{ap, sym, subst, ◌∙◌, arith, length-append, append_assoc}
use Rattle.std.proofs.lemmas.List.{append-nil, length-replicate}
use Rattle.pip_model.specs.AsmWords.{plain_cell}
use Rattle.pip_model.specs.AsmLines.{Statement, Begins, Holds, statement}
use Rattle.pip_model.specs.Assembly.{LineFault, Gives, at_line, and_then, given, padding, words_before, second_pass}
use Rattle.pip_model.specs.InstrText.{word_said}
use Rattle.pip_model.specs.DisText.{without_last_zeros, parts_lines}
use Rattle.pip_model.specs.Images.{Part, Head, Line, Holds as HoldsPage, has_row}
use Rattle.pip_model.specs.declared.assembly.Stage.{Stage}
use Rattle.pip_model.specs.declared.assembly.Stage.TheVariants.{InPage}
use Rattle.pip_asm.proofs.Said.{IsOpen, word_is, page_said, page_text}
use Rattle.pip_asm.proofs.Trim.{Trims, AllWords, words_left, trims}
use Rattle.pip_asm.proofs.Whole.{ArePages, parts_words}

pub second_step : (names : List ℕ → Option ℕ) (g : Stage) (at size n : ℕ) (l : List ℕ) (ls : List (List ℕ))
    (st : Statement) (t : Gives) → statement g l ≡ Ok st → given names g at size st ≡ Ok t
    → second_pass names g at size n (l ∷ ls) ≡ words_before t.words (second_pass names t.stage t.at t.size (n + 1) ls)
second_step names g at size n l ls st t e f =
    rw (e, f)

pub after_both : (a b : List ℕ) (r : Result (List ℕ) LineFault)
    → words_before a (words_before b r) ≡ words_before (a ++ b) r
after_both a b (Ok c) = rw (← append_assoc a b c)
after_both a b (Err e) = refl

pub after_none : (r : Result (List ℕ) LineFault) → words_before [] r ≡ r
after_none (Ok c) = refl
after_none (Err e) = refl

module _ (names : List ℕ → Option ℕ) where
  pub second_words : (at size m : ℕ) (ws : List ℕ) (ls : List (List ℕ)) → AllWords ws
      → (k : ℕ) × (second_pass names InPage at size m (map word_said ws ++ ls)
      ≡ words_before ws (second_pass names InPage at (size + length ws) k ls))
  second_words at size m [] ls a =
      let e : size ≡ size + 0 = omega arith in (
        m,
        cc (after_none (second_pass names InPage at (size + 0) m ls)),
      )
  second_words at size m (w ∷ ws) ls a =
      let r = second_words at (size + 1) (m + 1) ws ls a.1 in
      let e : size + 1 + length ws ≡ size + suc (length ws) = omega arith in (
        r.0,
        second_step names InPage at size m (word_said w) (map word_said ws ++ ls) (Holds (plain_cell w))
            (record { words = w ∷ []; stage = InPage; at = at; size = size + 1 }) (word_is w a.0).says refl
            ∙ ap (λ r. words_before (w ∷ []) r) r.1
            ∙ after_both (w ∷ []) ws (second_pass names InPage at (size + 1 + length ws) r.0 ls)
            ∙ ap (λ z. words_before (w ∷ ws) (second_pass names InPage at z r.0 ls)) e,
      )

  padded : (ts ws : List ℕ) (t : Trims ws ts) (front rest : List ℕ) (v : ℕ) → length ws ≡ 1024
      → (front ++ v ∷ []) ++ (ts ++ (replicate (1024 - (0 + length ts)) 0 ++ rest)) ≡ front ++ (v ∷ ws ++ rest)
  padded ts ws t front rest v c =
      let l = length-append ts (replicate t.zeros 0) in
      let z = length-replicate {A = ℕ} t.zeros 0 in
      let w = ap length t.whole in
      let e : 1024 - (0 + length ts) ≡ t.zeros = omega arith in
      rw (append_assoc front (v ∷ []) _, e, ← append_assoc ts (replicate t.zeros 0) rest, t.whole)

  pub second_pages : (n : ℕ) (g : Stage) (seen : List ℕ) (at size m k : ℕ) (ps : List Part) → IsOpen g
      → ((v : ℕ) → has_row n v ≡ true → v < 2 ^ 20) → ArePages n seen k ps
      → second_pass names g at size m (parts_lines ps) ≡ Ok (padding g size ++ parts_words ps)
  second_pages n g seen at size m zero [] o small h = cc (append-nil (padding g size))
  second_pages n g seen at size m zero (p ∷ ps) o small h = absurd h
  second_pages n g seen at size m (suc k) [] o small h = absurd h
  second_pages n g seen at size m (suc k) (Head f ∷ ps) o small h = absurd h
  second_pages n g seen at size m (suc k) (Line p ∷ ps) o small h = absurd h
  second_pages n g seen at size m (suc k) (HoldsPage p ∷ ps) o small h =
      let ok = h.0 in
      let t = trims p.words in
      let r = second_words (p.vpage * 4096) 0 (m + 1) (without_last_zeros p.words) (parts_lines ps)
      (words_left (without_last_zeros p.words) _ (sym_words (sym t.whole) ok.words)) in
      let q = second_pages n InPage (seen ++ p.vpage ∷ []) (p.vpage * 4096) (0 + length (without_last_zeros p.words))
      r.0 k ps tt
      small h.1 in
      rw (
        second_step names g at size m (page_text p.vpage)
            (map word_said (without_last_zeros p.words) ++ parts_lines ps) (Begins p.vpage)
            (record { words = padding g size ++ p.vpage ∷ []; stage = InPage; at = p.vpage * 4096; size = 0 })
            (page_said g p.vpage o (small p.vpage ok.row)) refl,
        r.1,
        q,
        padded (without_last_zeros p.words) p.words t (padding g size) (parts_words ps) p.vpage ok.count,
      )
    where
      sym_words : {a b : List ℕ} → a ≡ b → AllWords a → AllWords b
      sym_words e w = rw (← e) w
