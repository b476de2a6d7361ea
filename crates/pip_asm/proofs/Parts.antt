-- An image whose parts were all accepted: its parts are in their ranges, and its bytes are those of its parts.
use Rattle.std.specs.Prelude.{◌≡◌, refl, ℕ, zero, suc, ◌+◌, ◌<◌, ◌≤◌, ◌^◌, ◌&&◌, nat_lt, nat_le, Bool, true, false}
use Rattle.std.specs.Prelude.{cond, List, [], ◌∷◌, ◌++◌, length, take, drop, Result, Ok, Err}
use Rattle.std.specs.Str.{bytes_eq}
use Rattle.std.proofs.Common.{ap, sym, subst, ◌∙◌, arith, append_assoc, length-drop}
use Rattle.std.proofs.Math.Seq.{drop-drop}
use Rattle.std.proofs.lemmas.Bool.Decides.{nat_tests}
use Rattle.std.proofs.lemmas.Slice.Eq.{bytes_eq-Decides}
use Rattle.byteorder.specs.Endian.{little_bytes}
use Rattle.pip_base.specs.declared.types.Plan.{Plan}
use Rattle.pip_model.specs.declared.image.ImageError.{ImageError}
use Rattle.pip_model.specs.declared.image.ImageError.TheVariants as F
use Rattle.pip_model.specs.Images.{◌>>=◌, magic, old_magic, word_of_bytes, words_in, bytes_of, Fields, Page, pass_test}
use Rattle.pip_model.specs.Images.{front_word, magic_of, frames_at, cpus_at, plans_at, pages_at, fields_of, plan_at}
use Rattle.pip_model.specs.Images.{front_page, has_row, is_seen}
use Rattle.pip_asm.proofs.Trim.{AllWords}
use Rattle.pip_asm.proofs.Bytes.{AllBytes, bytes_drop, word_front, word_small, words_front}

-- ---- what was tested where a part is accepted

page_tests : (l s r f : Bool) (a b c d : ImageError) (y x : Page × List ℕ)
    → cond l (Err a) (cond s (Err b) (cond r (cond f (Err c) (Ok y)) (Err d))) ≡ Ok x
    → (l ≡ false) × (s ≡ false) × (r ≡ true) × (f ≡ false) × (y ≡ x)
page_tests l s r f a b c d y x h =
    (grind (arith, h), grind (arith, h), grind (arith, h), grind (arith, h), grind (arith, h))

plan_tests : (l r : Bool) (a b : ImageError) (y x : Plan × List ℕ) → cond l (Err a) (cond r (Ok y) (Err b)) ≡ Ok x
    → (l ≡ false) × (r ≡ true) × (y ≡ x)
plan_tests l r a b y x h = (grind (arith, h), grind (arith, h), grind (arith, h))

not_less : (a b : ℕ) → nat_lt a b ≡ false → b ≤ a
not_less a b h = grind (arith, nat_tests, h)

pub record PageOk (n : ℕ) (seen : List ℕ) (p : Page) : Type 0 where
  pub row : has_row n p.vpage ≡ true
  pub new : is_seen p.vpage seen ≡ false
  pub count : length p.words ≡ 1024
  pub words : AllWords p.words
  pub small : p.vpage < 2 ^ 32

pub record PlanOk (least : ℕ) (p : Plan) : Type 0 where
  pub above : nat_le least p.line ≡ true
  pub line : p.line < 16
  pub first : p.first < 2 ^ 32
  pub period : p.period < 2 ^ 32

-- the bytes begin with these words
pub record Begins (bs ws rest : List ℕ) : Type 0 where
  pub spelled : bytes_of ws ++ rest ≡ bs
  pub bytes : AllBytes rest

pub record PageBack (n : ℕ) (seen bs : List ℕ) (x : Page × List ℕ) : Type 0 where
  pub ok : PageOk n seen x.0
  pub front : Begins bs (x.0.vpage ∷ x.0.words) x.1

pub page_back : (n : ℕ) (seen : List ℕ) (at : ℕ) (bs : List ℕ) (x : Page × List ℕ) → AllBytes bs
    → front_page n seen at bs ≡ Ok x → PageBack n seen bs x
unfolding front_page
page_back n seen at bs x a h =
    let t = page_tests (nat_lt (length bs) 4) (is_seen (word_of_bytes bs) seen) (has_row n (word_of_bytes bs))
    (nat_lt (length bs) 4100) (F.Short (at + length bs)) (F.Twice at) (F.Short (at + length bs)) (F.Page at) _ x
    h in
    let long = not_less (length bs) 4100 t.3 in
    let l = length-drop 4 bs in
    let f = words_front 1024 (drop 4 bs) (omega arith) (bytes_drop 4 bs a) in
    rw (← t.4) (record {
      ok = record {
        row = t.2;
        new = t.1;
        count = f.count;
        words = f.words;
        small =
            word_small bs (omega (arith, long)) a;
      };
      front =
          record {
            spelled = append_assoc (little_bytes 4 (word_of_bytes bs)) (bytes_of (words_in 1024 (drop 4 bs)))
                (drop 4100 bs) ∙ ap (λ r. little_bytes 4 (word_of_bytes bs) ++
                (bytes_of (words_in 1024 (drop 4 bs)) ++ r)) (sym (drop-drop 4096 4 bs)) ∙ ap
                (λ r. little_bytes 4 (word_of_bytes bs) ++ r) f.bytes ∙ word_front bs (omega (arith, long)) a;
            bytes = bytes_drop 4100 bs a;
          };
    })

abbrev pub plan_words_of : Plan → List ℕ
plan_words_of p = p.line ∷ p.first ∷ p.period ∷ []

pub record PlanBack (least : ℕ) (bs : List ℕ) (x : Plan × List ℕ) : Type 0 where
  pub ok : PlanOk least x.0
  pub front : Begins bs (plan_words_of x.0) x.1

both_left : (a b : Bool) → (a && b) ≡ true → a ≡ true
both_left a b h = grind (arith, h)

both_right : (a b : Bool) → (a && b) ≡ true → b ≡ true
both_right a b h = grind (arith, h)

less : (a b : ℕ) → nat_lt a b ≡ true → a < b
less a b h = grind (arith, nat_tests, h)

three_words : (bs : List ℕ) → 12 ≤ length bs → AllBytes bs
    → Begins bs (word_of_bytes bs ∷ word_of_bytes (drop 4 bs) ∷ word_of_bytes (drop 8 bs) ∷ []) (drop 12 bs)
unfolding words_in
three_words bs h a =
    let f = words_front 3 bs h a in
    let e : drop 4 (drop 4 bs) ≡ drop 8 bs = drop-drop 4 4 bs in
    record {
      spelled = rw (← e, f.bytes);
      bytes = bytes_drop 12 bs a;
    }

pub plan_back : (at least : ℕ) (bs : List ℕ) (x : Plan × List ℕ) → AllBytes bs → plan_at at least bs ≡ Ok x
    → PlanBack least bs x
unfolding plan_at
plan_back at least bs x a h =
    let t = plan_tests (nat_lt (length bs) 12) (nat_le least (word_of_bytes bs) && nat_lt (word_of_bytes bs) 16)
    (F.Short (at + length bs)) (F.Plan at) _ x h in
    let long = not_less (length bs) 12 t.0 in
    let l = length-drop 4 bs in
    let m = length-drop 8 bs in
    rw (← t.2) (record {
      ok = record {
        above = both_left _ _ t.1;
        line =
            less _ _ (both_right (nat_le least (word_of_bytes bs)) _ t.1);
        first =
            word_small (drop 4 bs) (omega (arith, long, l)) (bytes_drop 4 bs a);
        period =
            word_small (drop 8 bs) (omega (arith, long, m)) (bytes_drop 8 bs a);
      };
      front =
          three_words bs long a;
    })

-- ---- the fields

pub record FieldBack (good : ℕ → Bool) (bs : List ℕ) (x : ℕ × List ℕ) : Type 0 where
  pub ok : good x.0 ≡ true
  pub front : Begins bs (x.0 ∷ []) x.1

field_tests : (l g : Bool) (a b : ImageError) (y x : ℕ × List ℕ)
    → (cond l (Err a) (Ok y) >>= (λ w. cond g (Ok y) (Err b))) ≡ Ok x → (l ≡ false) × (g ≡ true) × (y ≡ x)
field_tests l g a b y x h = (grind (arith, h), grind (arith, h), grind (arith, h))

field_back : (at : ℕ) (good : ℕ → Bool) (e : ImageError) (bs : List ℕ) (x : ℕ × List ℕ) → AllBytes bs
    → (front_word at bs >>= (λ w. pass_test (good w.0) e w)) ≡ Ok x → FieldBack good bs x
field_back at good e bs x a h = go (nat_lt (length bs) 4) refl h
  where
    go : (l : Bool) → nat_lt (length bs) 4 ≡ l → (cond l (Err (F.Short (at + length bs)))
        (Ok (word_of_bytes bs, drop 4 bs)) >>= (λ w. pass_test (good w.0) e w)) ≡ Ok x → FieldBack good bs x
    go true l h = absurd (grind (arith, h))
    go false l h =
        let t = field_tests false (good (word_of_bytes bs)) e e (word_of_bytes bs, drop 4 bs) x h in
        let long = not_less (length bs) 4 l in
        rw (← t.2) (record {
          ok = t.1;
          front = record {
            spelled =
                append_assoc (little_bytes 4 (word_of_bytes bs)) [] (drop 4 bs) ∙ word_front bs long a;
            bytes =
                bytes_drop 4 bs a;
          };
        })

step_back : {A B : Type 0} (r : Result A ImageError) (f : A → Result B ImageError) (x : B) → (r >>= f) ≡ Ok x
    → (a : A) × (r ≡ Ok a) × (f a ≡ Ok x)
step_back (Ok a) f x h = (a, refl, h)
step_back (Err e) f x h = absurd (grind (arith, h))

magic_back : (bs x : List ℕ) → AllBytes bs → magic_of bs ≡ Ok x → (magic ++ x ≡ bs) × AllBytes x
magic_back bs x a h =
    let t = magic_tests (nat_lt (length bs) 8) (bytes_eq (take 8 bs) magic) (bytes_eq (take 8 bs) old_magic)
    (F.Short (length bs)) (F.OldVersion 0) (F.Magic 0) (drop 8 bs) x h in (
      cc ((bytes_eq-Decides (take 8 bs) magic).0 t.1, t.2, halves 8 bs),
      rw (← t.2) (bytes_drop 8 bs a),
    )
  where
    magic_tests : (l g o : Bool) (a b c : ImageError) (y x : List ℕ)
        → cond l (Err a) (cond g (Ok y) (cond o (Err b) (Err c))) ≡ Ok x → (l ≡ false) × (g ≡ true) × (y ≡ x)
    magic_tests l g o a b c y x h = (grind (arith, h), grind (arith, h), grind (arith, h))

    halves : (k : ℕ) (bs : List ℕ) → take k bs ++ drop k bs ≡ bs
    halves zero bs = refl
    halves (suc k) [] = refl
    halves (suc k) (b ∷ bs) = rw (halves k bs)

pub record FieldsOk (f : Fields) : Type 0 where
  pub frames : (nat_le 16 f.frames && nat_le f.frames 4096) ≡ true
  pub cpus : (nat_le 1 f.cpus && nat_le f.cpus 4) ≡ true

abbrev pub field_words : Fields → List ℕ
field_words f = f.frames ∷ f.cpus ∷ f.plans ∷ f.pages ∷ []

pub record FieldsBack (bs : List ℕ) (x : Fields × List ℕ) : Type 0 where
  pub ok : FieldsOk x.0
  pub spelled : magic ++ (bytes_of (field_words x.0) ++ x.1) ≡ bs
  pub bytes : AllBytes x.1

four_begin : (b0 b1 b2 b3 b4 : List ℕ) (f c l p : ℕ) → Begins b0 (f ∷ []) b1 → Begins b1 (c ∷ []) b2
    → Begins b2 (l ∷ []) b3 → Begins b3 (p ∷ []) b4 → bytes_of (f ∷ c ∷ l ∷ p ∷ []) ++ b4 ≡ b0
four_begin b0 b1 b2 b3 b4 f c l p h i j k =
    rw (k.spelled, j.spelled, i.spelled, h.spelled)

abbrev accepted : Fields × List ℕ → Result (Fields × List ℕ) ImageError
accepted x = Ok x

ok_same : (y x : Fields × List ℕ) → accepted y ≡ Ok x → y ≡ x
ok_same y x h = grind (arith, h)

pub fields_back : (bs : List ℕ) (x : Fields × List ℕ) → AllBytes bs → fields_of bs ≡ Ok x → FieldsBack bs x
unfolding fields_of frames_at cpus_at plans_at pages_at
fields_back bs x a h =
    let (r0, e0, h0) = step_back (magic_of bs) (λ rest. frames_at rest
    >>= (λ frames. cpus_at frames.1 >>= (λ cpus. plans_at cpus.1 >>= (λ plans. pages_at plans.1 >>= (λ pages.
    Ok (record { frames = frames.0; cpus = cpus.0; plans = plans.0; pages = pages.0 }, pages.1)))))) x h in
    let m = magic_back bs r0 a e0 in
    let (r1, e1, h1) = step_back (frames_at r0)
    (λ frames. cpus_at frames.1 >>= (λ cpus. plans_at cpus.1 >>= (λ plans. pages_at plans.1 >>= (λ pages.
    Ok (record { frames = frames.0; cpus = cpus.0; plans = plans.0; pages = pages.0 }, pages.1))))) x h0 in
    let f = field_back 8 (λ n. nat_le 16 n && nat_le n 4096) (F.Frames 8) r0 r1 m.1 e1 in
    let (r2, e2, h2) = step_back (cpus_at r1.1) (λ cpus. plans_at cpus.1 >>= (λ plans. pages_at plans.1
    >>= (λ pages. Ok (record { frames = r1.0; cpus = cpus.0; plans = plans.0; pages = pages.0 }, pages.1)))) x h1 in
    let c = field_back 12 (λ n. nat_le 1 n && nat_le n 4) (F.Cpus 12) r1.1 r2 f.front.bytes e2 in
    let (r3, e3, h3) = step_back (plans_at r2.1) (λ plans. pages_at plans.1
    >>= (λ pages. Ok (record { frames = r1.0; cpus = r2.0; plans = plans.0; pages = pages.0 }, pages.1))) x h2 in
    let l = field_back 16 (λ n. nat_le n 16) (F.Plan 16) r2.1 r3 c.front.bytes e3 in
    let (r4, e4, h4) = step_back (pages_at r3.1)
    (λ pages. Ok (record { frames = r1.0; cpus = r2.0; plans = r3.0; pages = pages.0 }, pages.1)) x h3 in
    let p = field_back 20 (λ n. nat_le n 4096) (F.Page 20) r3.1 r4 l.front.bytes e4 in
    let y : Fields × List ℕ = (record { frames = r1.0; cpus = r2.0; plans = r3.0; pages = r4.0 }, r4.1) in
    let e : y ≡ x = ok_same y x h4 in
    rw (← e) (record {
      ok = record { frames = f.ok; cpus = c.ok };
      spelled =
          ap (λ r. magic ++ r) (four_begin r0 r1.1 r2.1 r3.1 r4.1 r1.0 r2.0 r3.0 r4.0 f.front c.front l.front p.front) ∙
          m.0;
      bytes = p.front.bytes;
    })
