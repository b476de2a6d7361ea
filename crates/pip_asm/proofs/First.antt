-- The first pass over the lines of an image's parts.
use Rattle.std.specs.Prelude.{◌≡◌, refl, ℕ, zero, suc, ◌+◌, ◌*◌, ◌<◌, ◌≤◌, ◌^◌, nat_le, true, false, cond, List, []}
use Rattle.std.specs.Prelude.{◌∷◌, ◌++◌, length, map, None, Ok, Err}
use Rattle.std.proofs.Common.{ap, sym, subst, ◌∙◌, arith, length-append}
use Rattle.std.proofs.lemmas.Bool.Decides.{nat_tests}
use Rattle.pip_base.specs.declared.types.Plan.{Plan}
use Rattle.pip_model.specs.AsmWords.{plain_cell}
use Rattle.pip_model.specs.AsmLines.{Statement, Begins, Holds, statement}
use Rattle.pip_model.specs.Assembly.{AssemblyState, at_line, and_then, grown, place_statement, end_of_text, first_pass}
use Rattle.pip_model.specs.InstrText.{word_said}
use Rattle.pip_model.specs.DisText.{without_last_zeros, parts_lines}
use Rattle.pip_model.specs.Images.{Part, Head, Line, Holds as HoldsPage, has_row, is_seen}
use Rattle.pip_model.specs.declared.assembly.AsmKind.TheVariants as K
use Rattle.pip_model.specs.declared.assembly.Stage.{Stage}
use Rattle.pip_model.specs.declared.assembly.Stage.TheVariants.{Start, Framed, Header, InPage}
use Rattle.pip_asm.proofs.Said.{IsOpen, word_is, page_said, page_text}
use Rattle.pip_asm.proofs.Trim.{AllWords, words_left, trims}
use Rattle.pip_asm.proofs.Whole.{ArePages}

-- one line
pub first_step : (s t : AssemblyState) (n : ℕ) (l : List ℕ) (ls : List (List ℕ)) (st : Statement)
    → statement s.stage l ≡ Ok st → place_statement s st ≡ Ok t → first_pass s n (l ∷ ls) ≡ first_pass t (n + 1) ls
first_step s t n l ls st e f = rw (e, f)

fits : (s : AssemblyState) (k : ℕ) → s.size + k ≤ 1024 → grown s k ≡ Ok (record s { size = s.size + k })
fits s k h = rw (within (s.size + k) 1024 h)
  where
    within : (a b : ℕ) → a ≤ b → nat_le a b ≡ true
    within a b h = grind (arith, nat_tests, h)

-- a state without names
abbrev pub state : Stage → ℕ → ℕ → ℕ → List Plan → List ℕ → ℕ → ℕ → AssemblyState
state g n c least plans seen at size = record {
  stage = g;
  frames = n;
  cpus = c;
  least = least;
  plans = plans;
  pages = seen;
  at = at;
  size = size;
  names = λ _. None;
}

module _ (n c least : ℕ) (plans : List Plan) where
  pub first_words : (seen : List ℕ) (at size m : ℕ) (ws : List ℕ) (ls : List (List ℕ)) → AllWords ws
      → size + length ws ≤ 1024
      → (k : ℕ) × (first_pass (state InPage n c least plans seen at size) m (map word_said ws ++ ls)
      ≡ first_pass (state InPage n c least plans seen at (size + length ws)) k ls)
  first_words seen at size m [] ls a h = let e : size ≡ size + 0 = omega arith in
      (m, cc)
  first_words seen at size m (w ∷ ws) ls a h =
      let r = first_words seen at (size + 1) (m + 1) ws ls a.1 (omega arith) in
      let e : size + 1 + length ws ≡ size + suc (length ws) = omega arith in (
        r.0,
        first_step (state InPage n c least plans seen at size) (state InPage n c least plans seen at (size + 1)) m
            (word_said w) (map word_said ws ++ ls) (Holds (plain_cell w)) (word_is w a.0).says
            (fits (state InPage n c least plans seen at size) 1 (omega (arith, h)))
            ∙ r.1 ∙ ap (λ z. first_pass (state InPage n c least plans seen at z) r.0 ls) e,
      )

  begun : (g : Stage) (seen : List ℕ) (at size v : ℕ) → has_row n v ≡ true → is_seen v seen ≡ false → place_statement
      (state g n
      c least plans seen at size) (Begins v) ≡ Ok (state InPage n c least plans (seen ++ v ∷ []) (v * 4096) 0)
  begun g seen at size v r s = rw (r, s)

  pub record PagesPassed (g : Stage) (seen : List ℕ) (at size m k : ℕ) (ps : List Part) : Type 0 where
    pub stage : Stage
    pub seen' : List ℕ
    pub at' : ℕ
    pub size' : ℕ
    pub passed : first_pass (state g n c least plans seen at size) m (parts_lines ps)
        ≡ Ok (state stage n c least plans seen' at' size')
    pub count : length seen' ≡ length seen + k

  open_ended : (g : Stage) (s : AssemblyState) (m : ℕ) → IsOpen g → end_of_text g s m ≡ Ok s
  open_ended Start s m o = absurd o
  open_ended Framed s m o = absurd o
  open_ended Header s m o = refl
  open_ended InPage s m o = refl

  pub first_pages : (g : Stage) (seen : List ℕ) (at size m k : ℕ) (ps : List Part) → IsOpen g
      → ((v : ℕ) → has_row n v ≡ true → v < 2 ^ 20) → ArePages n seen k ps → PagesPassed g seen at size m k ps
  first_pages g seen at size m zero [] o small h = record {
    stage = g;
    seen' = seen;
    at' = at;
    size' = size;
    passed = open_ended g (state g n c least plans seen at size) m o;
    count = omega arith;
  }
  first_pages g seen at size m zero (p ∷ ps) o small h = absurd h
  first_pages g seen at size m (suc k) [] o small h = absurd h
  first_pages g seen at size m (suc k) (Head f ∷ ps) o small h = absurd h
  first_pages g seen at size m (suc k) (Line p ∷ ps) o small h = absurd h
  first_pages g seen at size m (suc k) (HoldsPage p ∷ ps) o small h =
      let ok = h.0 in
      let t = trims p.words in
      let l : length (without_last_zeros p.words) ≤ 1024 = shorter (without_last_zeros p.words) _ p.words t.whole
      ok.count in
      let r = first_words (seen ++ p.vpage ∷ []) (p.vpage * 4096) 0 (m + 1) (without_last_zeros p.words)
      (parts_lines ps)
      (words_left (without_last_zeros p.words) _ (sym_words (sym t.whole) ok.words)) (omega arith) in
      let q = first_pages InPage (seen ++ p.vpage ∷ []) (p.vpage * 4096) (0 + length (without_last_zeros p.words)) r.0
      k ps tt
      small h.1 in
      let e = length-append seen (p.vpage ∷ []) in
      let d = q.count in
      record {
        stage = q.stage;
        seen' = q.seen';
        at' = q.at';
        size' = q.size';
        passed = first_step (state g n c least plans seen at size) (state InPage n c least plans (seen ++ p.vpage
            ∷ []) (p.vpage * 4096) 0) m (page_text p.vpage) (map word_said (without_last_zeros p.words) ++ parts_lines
            ps)
            (Begins p.vpage) (page_said g p.vpage o (small p.vpage ok.row)) (begun g seen at size p.vpage ok.row ok.new)
            ∙ r.1 ∙ q.passed;
        count = omega arith;
      }
    where
      shorter : (ts zs ws : List ℕ) → ts ++ zs ≡ ws → length ws ≡ 1024 → length ts ≤ 1024
      shorter ts zs ws e c = omega (arith, length-append ts zs, ap length e)

      sym_words : {a b : List ℕ} → a ≡ b → AllWords a → AllWords b
      sym_words e w = rw (← e) w
