-- The text of an image is assembled to the image.
use Rattle.std.specs.Prelude.{◌≡◌, ◌≢◌, refl, ℕ, zero, suc, ◌+◌, ◌<◌, ◌≤◌, ◌^◌, ◌&&◌, nat_le, true, false, cond, List}
use Rattle.std.specs.Prelude.{[], ◌∷◌, ◌++◌, length, map, Option, Some, None, Ok, Err, codes, decimal, is_some}
use Rattle.std.proofs.Common.{ap, sym, subst, ◌∙◌, arith, length-append, append_assoc, ◌⊎◌, inl, inr}
use Rattle.std.proofs.lemmas.Bool.Decides.{nat_tests}
use Rattle.std.proofs.lemmas.List.{append-nil}
use Rattle.pip_base.specs.declared.types.Plan.{Plan}
use Rattle.pip_model.specs.Grammar.{lines_of}
use Rattle.pip_model.specs.Boot.{tables_of_root}
use Rattle.pip_model.specs.AsmLines.{Frames, Cpus, Plans}
use Rattle.pip_model.specs.Assembly.{and_then, first_pass, first_state, plan_words, head_words, as_image, second_pass}
use Rattle.pip_model.specs.Assembly.{assembly}
use Rattle.pip_model.specs.InstrText.{word_said}
use Rattle.pip_model.specs.DisText.{without_last_zeros, parts_lines, text_of_lines, dis_text}
use Rattle.pip_model.specs.Images.{Image, image_or_fault, magic, bytes_of, Part, Head, Line, Holds, has_row}
use Rattle.pip_model.specs.Images.{image_parts}
use Rattle.pip_model.specs.declared.image.ImageError.{ImageError}
use Rattle.pip_asm.specs.Laws.{AreBytes, TextsAreAgain}
use Rattle.pip_model.specs.declared.assembly.AsmKind.TheVariants as K
use Rattle.pip_model.specs.declared.assembly.Stage.{Stage}
use Rattle.pip_model.specs.declared.assembly.Stage.TheVariants.{Start, Framed, Header}
use Rattle.pip_model.proofs.Trees.Boot.{root-frame_none}
use Rattle.pip_asm.proofs.Fine.{is_clean}
use Rattle.pip_asm.proofs.Said.{frames_fine, frames_said, cpus_fine, cpus_said, page_fine, plan_fine, plan_said}
use Rattle.pip_asm.proofs.Said.{plan_text, word_is}
use Rattle.pip_asm.proofs.Trim.{AllWords, words_left, trims}
use Rattle.pip_asm.proofs.Bytes.{AllBytes}
use Rattle.pip_asm.proofs.Parts.{plan_words_of}
use Rattle.pip_asm.proofs.Whole.{ArePages, AreParts, AreAll, image_whole, parts_words}
use Rattle.pip_asm.proofs.First.{state, first_step, first_pages}
use Rattle.pip_asm.proofs.Second.{second_step, second_pages, after_none}

abbrev no_names : List ℕ → Option ℕ
no_names t = None

-- ---- rows of the boot tree stand at vpages

none_there : (n v : ℕ) → n ≤ 4096 → 2 ^ 20 ≤ v → has_row n v ≡ false
none_there n v m h =
    let d : v ≢ 0xfffff = omega arith in
    rw (← root-frame_none n (tables_of_root n) v refl d (inr (omega (arith, h, m))))

pub small_row : (n v : ℕ) → n ≤ 4096 → has_row n v ≡ true → v < 2 ^ 20
small_row n v m r = go (v < 2 ^ 20) (le_or v (2 ^ 20))
  where
    le_or : (a b : ℕ) → (a < b) ⊎ (b ≤ a)
    le_or a b = grind arith

    go : (T : Type 0) → (T ⊎ (2 ^ 20 ≤ v)) → T
    go T (inl t) = t
    go T (inr h) = let e = none_there n v m h in absurd (grind (arith, e, r))

-- ---- lines of a text

line_cut : (l rest : List ℕ) → is_clean l ≡ true → lines_of ((l ++ 10 ∷ []) ++ rest) ≡ l ∷ lines_of rest
line_cut [] rest h = refl
line_cut (b ∷ l) rest h = grind (arith, nat_tests, h, line_cut l rest)

abbrev AllClean : List (List ℕ) → Type 0
AllClean [] = Unit {0}
AllClean (l ∷ ls) = (is_clean l ≡ true) × AllClean ls

lines_again : (ls : List (List ℕ)) → AllClean ls → lines_of (text_of_lines ls) ≡ ls
lines_again [] h = refl
lines_again (l ∷ ls) h = rw (line_cut l (text_of_lines ls) h.0, lines_again ls h.1)

clean_append : (a b : List (List ℕ)) → AllClean a → AllClean b → AllClean (a ++ b)
clean_append [] b h k = k
clean_append (l ∷ a) b h k = (h.0, clean_append a b h.1 k)

words_clean : (ws : List ℕ) → AllWords ws → AllClean (map word_said ws)
words_clean [] h = tt
words_clean (w ∷ ws) h = ((word_is w h.0).fine.clean, words_clean ws h.1)

kept_words : {a b : List ℕ} → a ≡ b → AllWords a → AllWords b
kept_words e w = rw (← e) w

pages_clean : (n : ℕ) (seen : List ℕ) (k : ℕ) (ps : List Part) → ArePages n seen k ps → AllClean (parts_lines ps)
pages_clean n seen zero [] h = tt
pages_clean n seen zero (p ∷ ps) h = absurd h
pages_clean n seen (suc k) [] h = absurd h
pages_clean n seen (suc k) (Head f ∷ ps) h = absurd h
pages_clean n seen (suc k) (Line p ∷ ps) h = absurd h
pages_clean n seen (suc k) (Holds p ∷ ps) h =
    let t = trims p.words in (
      (page_fine p.vpage).clean,
      clean_append (map word_said (without_last_zeros p.words)) (parts_lines ps)
          (words_clean (without_last_zeros p.words) (words_left (without_last_zeros p.words) _
          (kept_words (sym t.whole) h.0.words)))
          (pages_clean n (seen ++ p.vpage ∷ []) k ps h.1),
    )

parts_clean : (n m least k : ℕ) (ps : List Part) → AreParts n m least k ps → AllClean (parts_lines ps)
parts_clean n m least zero ps h = pages_clean n [] m ps h
parts_clean n m least (suc k) [] h = absurd h
parts_clean n m least (suc k) (Head f ∷ ps) h = absurd h
parts_clean n m least (suc k) (Line p ∷ ps) h =
    ((plan_fine p h.0.line h.0.first h.0.period).clean, parts_clean n m (p.line + 1) k ps h.1)
parts_clean n m least (suc k) (Holds p ∷ ps) h = absurd h

-- ---- plans, and what is of plans and what of pages

abbrev line_words : List Part → List ℕ
line_words [] = []
line_words (Head f ∷ ps) = line_words ps
line_words (Line p ∷ ps) = plan_words_of p ++ line_words ps
line_words (Holds p ∷ ps) = line_words ps

abbrev page_words : List Part → List ℕ
page_words [] = []
page_words (Head f ∷ ps) = page_words ps
page_words (Line p ∷ ps) = page_words ps
page_words (Holds p ∷ ps) = p.vpage ∷ p.words ++ page_words ps

pages_only : (n : ℕ) (seen : List ℕ) (k : ℕ) (ps : List Part) → ArePages n seen k ps
    → (line_words ps ≡ []) × (page_words ps ≡ parts_words ps)
pages_only n seen zero [] h = (refl, refl)
pages_only n seen zero (p ∷ ps) h = absurd h
pages_only n seen (suc k) [] h = absurd h
pages_only n seen (suc k) (Head f ∷ ps) h = absurd h
pages_only n seen (suc k) (Line p ∷ ps) h = absurd h
pages_only n seen (suc k) (Holds p ∷ ps) h = let r = pages_only n (seen ++ p.vpage ∷ []) k ps h.1 in
    (r.0, rw r.1)

parts_split : (n m least k : ℕ) (ps : List Part) → AreParts n m least k ps
    → line_words ps ++ page_words ps ≡ parts_words ps
parts_split n m least zero ps h = let r = pages_only n [] m ps h in rw (r.0, r.1)
parts_split n m least (suc k) [] h = absurd h
parts_split n m least (suc k) (Head f ∷ ps) h = absurd h
parts_split n m least (suc k) (Line p ∷ ps) h =
    rw (parts_split n m (p.line + 1) k ps h.1)
parts_split n m least (suc k) (Holds p ∷ ps) h = absurd h

plan_words_more : (ps : List Plan) (p : Plan) → plan_words (ps ++ p ∷ []) ≡ plan_words ps ++ plan_words_of p
plan_words_more [] p = refl
plan_words_more (q ∷ ps) p = rw (plan_words_more ps p)

record PartsPassed (n m c least k : ℕ) (plans : List Plan) (num : ℕ) (ps : List Part) : Type 0 where
  stage : Stage
  least' : ℕ
  plans' : List Plan
  seen' : List ℕ
  at' : ℕ
  size' : ℕ
  passed : first_pass (state Header n c least plans [] 0 0) num (parts_lines ps)
      ≡ Ok (state stage n c least' plans' seen' at' size')
  words : plan_words plans' ≡ plan_words plans ++ line_words ps
  plan_count : length plans' ≡ length plans + k
  page_count : length seen' ≡ m

first_parts : (n m c least k : ℕ) (plans : List Plan) (num : ℕ) (ps : List Part) → n ≤ 4096 → AreParts n m least k ps
    → PartsPassed n m c least k plans num ps
first_parts n m c least zero plans num ps b h =
    let r = pages_only n [] m ps h in
    let q = first_pages n c least plans Header [] 0 0 num m ps tt (λ v i. small_row n v b i) h in
    let d = q.count in
    record {
      stage = q.stage;
      least' = least;
      plans' = plans;
      seen' = q.seen';
      at' = q.at';
      size' = q.size';
      passed = q.passed;
      words = cc (append-nil (plan_words plans), r.0);
      plan_count = omega arith;
      page_count = omega arith;
    }
first_parts n m c least (suc k) plans num [] b h = absurd h
first_parts n m c least (suc k) plans num (Head f ∷ ps) b h = absurd h
first_parts n m c least (suc k) plans num (Line p ∷ ps) b h =
    let q = first_parts n m c (p.line + 1) k (plans ++ p ∷ []) (num + 1) ps b h.1 in
    let l = length-append plans (p ∷ []) in
    let d = q.plan_count in
    record {
      stage = q.stage;
      least' = q.least';
      plans' = q.plans';
      seen' = q.seen';
      at' = q.at';
      size' = q.size';
      passed = first_step (state Header n c least plans [] 0 0) (state Header n c (p.line + 1) (plans ++ p ∷ []) [] 0 0)
          num (plan_text p) (parts_lines ps) (Plans p) (plan_said p h.0.line h.0.first h.0.period)
          (rw h.0.above)
          ∙ q.passed;
      words = rw (q.words, plan_words_more plans p, append_assoc (plan_words plans) (plan_words_of p) (line_words ps));
      plan_count = omega arith;
      page_count = q.page_count;
    }
first_parts n m c least (suc k) plans num (Holds p ∷ ps) b h = absurd h

second_parts : (n m least k num : ℕ) (ps : List Part) → n ≤ 4096 → AreParts n m least k ps
    → second_pass no_names Header 0 0 num (parts_lines ps) ≡ Ok (page_words ps)
second_parts n m least zero num ps b h =
    let r = pages_only n [] m ps h in
    rw (second_pages no_names n Header [] 0 0 num m ps tt (λ v i. small_row n v b i) h, ← r.1)
second_parts n m least (suc k) num [] b h = absurd h
second_parts n m least (suc k) num (Head f ∷ ps) b h = absurd h
second_parts n m least (suc k) num (Line p ∷ ps) b h =
    second_step no_names Header 0 0 num (plan_text p) (parts_lines ps) (Plans p)
    (record { words = []; stage = Header; at = 0; size = 0 }) (plan_said p h.0.line h.0.first h.0.period) refl
    ∙ after_none (second_pass no_names Header 0 0 (num + 1) (parts_lines ps))
    ∙ second_parts n m (p.line + 1) k (num + 1) ps b h.1
second_parts n m least (suc k) num (Holds p ∷ ps) b h = absurd h

-- ---- the whole text

within : (l n h : ℕ) → (nat_le l n && nat_le n h) ≡ true → (l ≤ n) × (n ≤ h)
within l n h e = (grind (arith, nat_tests, e), grind (arith, nat_tests, e))

pub again : (ps : List Part) → AreAll ps
    → assembly (text_of_lines (parts_lines ps)) ≡ Ok (magic ++ bytes_of (parts_words ps))
again [] h = absurd h
again (Line p ∷ ps) h = absurd h
again (Holds p ∷ ps) h = absurd h
again (Head f ∷ ps) h =
    let n = f.frames in
    let c = f.cpus in
    let bn = within 16 n 4096 h.0.frames in
    let bc = within 1 c 4 h.0.cpus in
    let ls = parts_lines ps in
    let l1 = codes ".frames " ++ decimal n in
    let l2 = codes ".cpus " ++ decimal c in
    let q = first_parts n f.pages c 0 f.plans [] 3 ps bn.1 h.1 in
    let s = state q.stage n c q.least' q.plans' q.seen' q.at' q.size' in
    let clean : AllClean (l1 ∷ l2 ∷ ls) =
    ((frames_fine n bn.1).clean, ((cpus_fine c bc.1).clean, parts_clean n f.pages 0 f.plans ps h.1)) in
    let first : first_pass first_state 1 (l1 ∷ l2 ∷ ls) ≡ Ok s =
    first_step first_state (state Framed n 1 0 [] [] 0 0) 1 l1 (l2 ∷ ls) (Frames n) (frames_said n bn.0 bn.1) refl
    ∙ first_step (state Framed n 1 0 [] [] 0 0) (state Header n c 0 [] [] 0 0) 2 l2 ls (Cpus c) (cpus_said c bc.0 bc.1)
    refl
    ∙ q.passed in
    let second : second_pass no_names Start 0 0 1 (l1 ∷ l2 ∷ ls) ≡ Ok (page_words ps) =
    second_step no_names Start 0 0 1 l1 (l2 ∷ ls) (Frames n) (record { words = []; stage = Framed; at = 0; size = 0 })
    (frames_said n bn.0 bn.1) refl
    ∙ after_none (second_pass no_names Framed 0 0 2 (l2 ∷ ls))
    ∙ second_step no_names Framed 0 0 2 l2 ls (Cpus c) (record { words = []; stage = Header; at = 0; size = 0 })
    (cpus_said c bc.0 bc.1) refl
    ∙ after_none (second_pass no_names Header 0 0 3 ls)
    ∙ second_parts n f.pages 0 f.plans 3 ps bn.1 h.1 in
    ap (λ t. and_then (first_pass first_state 1 t) (λ s. as_image (head_words s) (second_pass s.names Start 0 0 1 t)))
    (lines_again (l1 ∷ l2 ∷ ls) clean)
    ∙ ap (λ r. and_then r (λ s. as_image (head_words s) (second_pass s.names Start 0 0 1 (l1 ∷ l2 ∷ ls)))) first
    ∙ ap (as_image (head_words s)) second
    ∙ ap (λ w. Ok (magic ++ bytes_of w)) (head_again n c q.plans' q.seen' f.plans f.pages ps q.plan_count q.page_count
    (q.words) (parts_split n f.pages 0 f.plans ps h.1))
  where
    head_again : (n c : ℕ) (plans : List Plan) (seen : List ℕ) (l p : ℕ) (ps : List Part) → length plans ≡ 0 + l
        → length seen ≡ p → plan_words plans ≡ line_words ps → line_words ps ++ page_words ps ≡ parts_words ps
        → (n ∷ c ∷ length plans ∷ length seen ∷ plan_words plans) ++ page_words ps ≡ n ∷ c ∷ l ∷ p ∷ parts_words ps
    head_again n c plans seen l p ps e f g k =
        let e' : length plans ≡ l = omega arith in
        (λ i. n ∷ c ∷ e' i ∷ f i ∷ (g i ++ page_words ps)) ∙ ap (λ t. n ∷ c ∷ l ∷ p ∷ t) k

-- for every image
pub assembled_again : (bs : List ℕ) → AllBytes bs → (image_parts bs).fault ≡ None → assembly (dis_text bs) ≡ Ok bs
assembled_again bs a h = let w = image_whole bs a h in rw (again (image_parts bs).parts w.parts, w.spelled)

all_bytes : (bs : List ℕ) → AreBytes bs → AllBytes bs
all_bytes [] h = tt
all_bytes (b ∷ bs) h = (h 0, all_bytes bs (λ i. h (suc i)))

no_fault : (ps : List Part) (o : Option ImageError) (i : Image) → image_or_fault ps o ≡ Ok i → o ≡ None
no_fault ps None i h = refl
no_fault ps (Some e) i h = absurd (grind (arith, h))

pub texts_are_again : TextsAreAgain
texts_are_again bs i a h =
    assembled_again bs (all_bytes bs a) (no_fault (image_parts bs).parts (image_parts bs).fault i h)
