-- Parsers of one part: what they give where more bytes come after.
use Rattle.std.specs.Prelude.{◌≡◌, refl, ℕ, ◌+◌, ◌<◌, ◌≤◌, ◌&&◌, ◌||◌, not, nat_lt, nat_le, Bool, true, false, cond}
use Rattle.std.specs.Prelude.{List, ◌++◌, length, take, drop, Result, Ok, Err}
use Rattle.std.specs.Str.{bytes_eq}
use Rattle.std.proofs.Common.{ap, sym, subst, ◌∙◌, arith, length-append, length-drop}
use Rattle.std.proofs.lemmas.Bool.{false≢true}
use Rattle.std.proofs.lemmas.Bool.Decides.{nat_tests}
use Rattle.std.proofs.lemmas.List.{take-append-le}
use Rattle.byteorder.specs.Numbers.{little_from-append}
use Rattle.pip_base.specs.declared.types.Plan.{Plan}
use Rattle.pip_model.specs.declared.image.ImageError.{ImageError}
use Rattle.pip_model.specs.declared.image.ImageError.TheVariants as F
use Rattle.pip_model.specs.Images.{◌>>=◌, magic, old_magic, word_of_bytes, words_in, Fields, Page, pass_test}
use Rattle.pip_model.specs.Images.{front_word, frames_at, cpus_at, plans_at, pages_at, fields_of, plan_at}
use Rattle.pip_model.specs.Images.{front_page, has_row, is_seen}
use Rattle.pip_image.specs.Sought.{is_fault}
use Rattle.pip_image.proofs.Fronts.{drop_less, words_front}

-- Of n bytes: a part takes k of them, whatever follows; a fault stays, whatever follows, but that they
-- are too short, which says that they are less than k. r is what they give, s what they give before `rest`
abbrev pub Goes : {A : Type 0} → ℕ → ℕ → List ℕ → Result (A × List ℕ) ImageError → Result (A × List ℕ) ImageError
    → Type 0
Goes k n rest (Ok x) s = (s ≡ Ok (x.0, x.1 ++ rest)) × (n ≡ k + length x.1)
Goes k n rest (Err (F.Short at)) s = n < k
Goes k n rest (Err F.Read) s = ⊥
Goes k n rest (Err e) s = s ≡ Err e

abbrev pub Parses : {A : Type 0} → ℕ → (List ℕ → Result (A × List ℕ) ImageError) → Type 0
Parses k p = (bs rest : List ℕ) → Goes k (length bs) rest (p bs) (p (bs ++ rest))

-- ---- tests

goes_if : {A : Type 0} (k n : ℕ) (rest : List ℕ) (b : Bool) (r s t u : Result (A × List ℕ) ImageError)
    → (b ≡ true → Goes k n rest r t) → (b ≡ false → Goes k n rest s u) → Goes k n rest (cond b r s) (cond b t u)
goes_if k n rest true r s t u f g = f refl
goes_if k n rest false r s t u f g = g refl

goes_short : {A : Type 0} (k n at : ℕ) (rest : List ℕ) (a b : Bool) (s t u : Result (A × List ℕ) ImageError)
    → (a ≡ true → n < k) → (a ≡ false → b ≡ false) → (a ≡ false → Goes k n rest s u)
    → Goes k n rest (cond a (Err (F.Short at)) s) (cond b t u)
goes_short k n at rest true b s t u f g h = f refl
goes_short k n at rest false true s t u f g h = absurd (false≢true (sym (g refl)))
goes_short k n at rest false false s t u f g h = h refl

less : (a b : ℕ) → nat_lt a b ≡ true → a < b
less a b h = grind (arith, nat_tests, h)

not_less : (a b : ℕ) → nat_lt a b ≡ false → b ≤ a
not_less a b h = grind (arith, nat_tests, h)

still : (k : ℕ) (a b : List ℕ) → nat_lt (length a) k ≡ false → nat_lt (length (a ++ b)) k ≡ false
still k a b h = let l = length-append a b in grind (arith, nat_tests, h, l)

word_front : (a b : List ℕ) → 4 ≤ length a → word_of_bytes (a ++ b) ≡ word_of_bytes a
word_front a b h = little_from-append 4 a b h

-- ---- a plan, a page

pub plan_goes : (at least : ℕ) → Parses 12 (plan_at at least)
unfolding plan_at
plan_goes at least bs rest =
    goes_short 12 (length bs) (at + length bs) rest (nat_lt (length bs) 12) (nat_lt (length (bs ++ rest)) 12) _ _ _
    (less _ 12) (still 12 bs rest)
    (λ long. let l : 12 ≤ length bs = not_less _ 12 long in
    let w = word_front bs rest (omega arith) in
    let d4 = drop_less 4 bs rest (omega arith) in
    let d8 = drop_less 8 bs rest (omega arith) in
    let d12 = drop_less 12 bs rest l in
    let l4 = length-drop 4 bs in
    let l8 = length-drop 8 bs in
    let l12 = length-drop 12 bs in
    let w4 = ap word_of_bytes d4 ∙ word_front (drop 4 bs) rest (omega arith) in
    let w8 = ap word_of_bytes d8 ∙ word_front (drop 8 bs) rest (omega arith) in
    subst (λ (s : Result (Plan × List ℕ) ImageError). Goes 12 (length bs) rest
    (cond (nat_le least (word_of_bytes bs) && nat_lt (word_of_bytes bs) 16) (Ok (
      record {
        line = word_of_bytes bs;
        first = word_of_bytes (drop 4 bs);
        period = word_of_bytes (drop 8 bs);
      },
      drop 12 bs,
    )) (Err (F.Plan at))) s)
    (sym (λ i. cond (nat_le least (w i) && nat_lt (w i) 16)
    (Ok (record { line = w i; first = w4 i; period = w8 i }, d12 i)) (Err (F.Plan at))))
    (goes_if 12 (length bs) rest (nat_le least (word_of_bytes bs) && nat_lt (word_of_bytes bs) 16) _ _ _ _
    (λ _. (refl, omega arith)) (λ _. refl)))

-- a page whose first word is w
abbrev page_of : ℕ → List ℕ → ℕ → ℕ → List ℕ → Result (Page × List ℕ) ImageError
page_of n seen at w bs = cond (is_seen w seen) (Err (F.Twice at))
    (cond (has_row n w) (cond (nat_lt (length bs) 4100) (Err (F.Short (at + length bs)))
    (Ok (record { vpage = w; words = words_in 1024 (drop 4 bs) }, drop 4100 bs))) (Err (F.Page at)))

page_after : (n : ℕ) (seen : List ℕ) (at w : ℕ) (bs rest : List ℕ) → 4 ≤ length bs
    → Goes 4100 (length bs) rest (page_of n seen at w bs) (page_of n seen at w (bs ++ rest))
page_after n seen at w bs rest l =
    goes_if 4100 (length bs) rest (is_seen w seen) _ _ _ _ (λ _. refl)
    (λ _. goes_if 4100 (length bs) rest (has_row n w) _ _ _ _
    (λ _. goes_short 4100 (length bs) (at + length bs) rest (nat_lt (length bs) 4100)
    (nat_lt (length (bs ++ rest)) 4100) _ _ _ (less _ 4100) (still 4100 bs rest)
    (λ whole. let m : 4100 ≤ length bs = not_less _ 4100 whole in
    let l4 = length-drop 4 bs in
    let l4100 = length-drop 4100 bs in (
      (λ i. Ok (
        record {
          vpage = w;
          words = (ap (words_in 1024) (drop_less 4 bs rest l)
              ∙ words_front 1024 (drop 4 bs) rest (omega arith)) i;
        },
        drop_less 4100 bs rest m i,
      )),
      omega arith,
    )))
    (λ _. refl))

pub page_goes : (n : ℕ) (seen : List ℕ) (at : ℕ) → Parses 4100 (front_page n seen at)
unfolding front_page
page_goes n seen at bs rest =
    goes_short 4100 (length bs) (at + length bs) rest (nat_lt (length bs) 4) (nat_lt (length (bs ++ rest)) 4) _ _ _
    (λ h. omega (arith, less _ 4 h)) (still 4 bs rest)
    (λ long. let l : 4 ≤ length bs = not_less _ 4 long in
    rw (word_front bs rest l) (page_after n seen at (word_of_bytes bs) bs rest l))

-- where the vpage alone has a fault
fault_if : {A : Type 0} (short seen row few : Bool) (a b c : ℕ) (r : Result A ImageError) → is_fault r ≡ false
    → is_fault (cond short (Err (F.Short a)) (cond seen (Err (F.Twice b))
    (cond row (cond few (Err (F.Short c)) r) (Err (F.Page b))))) ≡ (not short && (seen || not row))
fault_if true seen row few a b c r h = refl
fault_if false true row few a b c r h = refl
fault_if false false true true a b c r h = refl
fault_if false false true false a b c r h = h
fault_if false false false few a b c r h = refl

pub wrong_page : (n : ℕ) (seen : List ℕ) (at : ℕ) (bs : List ℕ) → is_fault (front_page n seen at bs)
    ≡ (not (nat_lt (length bs) 4) && (is_seen (word_of_bytes bs) seen || not (has_row n (word_of_bytes bs))))
unfolding front_page
wrong_page n seen at bs = fault_if (nat_lt (length bs) 4) (is_seen (word_of_bytes bs) seen)
    (has_row n (word_of_bytes bs)) (nat_lt (length bs) 4100) (at + length bs) at (at + length bs) _ refl

-- ---- the fields

word_goes : (at : ℕ) → Parses 4 (front_word at)
word_goes at bs rest =
    goes_short 4 (length bs) (at + length bs) rest (nat_lt (length bs) 4) (nat_lt (length (bs ++ rest)) 4) _ _ _
    (less _ 4) (still 4 bs rest)
    (λ long. let l : 4 ≤ length bs = not_less _ 4 long in
    let l4 = length-drop 4 bs in
    ((λ i. Ok (word_front bs rest l i, drop_less 4 bs rest l i)), omega arith))

-- two parsers, one after the other
goes_then : {A B : Type 0} (k j n : ℕ) (rest : List ℕ) (f : A × List ℕ → Result (B × List ℕ) ImageError) (r s :
    Result (A × List ℕ) ImageError) → ((x : A) (a : List ℕ) → Goes j (length a) rest (f (x, a)) (f (x, a ++ rest)))
    → Goes k n rest r s → Goes (k + j) n rest (r >>= f) (s >>= f)
goes_then k j n rest f (Ok x) s h g = rw g.0 (goes_more k j n (length x.1) rest (f x) (f (x.0, x.1 ++ rest)) g.1 (h x.0
    x.1))
  where
    goes_more : {B : Type 0} (k j n m : ℕ) (rest : List ℕ) (r s : Result (B × List ℕ) ImageError) → n ≡ k + m
        → Goes j m rest r s → Goes (k + j) n rest r s
    goes_more k j n m rest (Ok x) s e g = (g.0, omega arith)
    goes_more k j n m rest (Err (F.Short at)) s e g = omega arith
    goes_more k j n m rest (Err F.Read) s e g = g
    goes_more k j n m rest (Err (F.Magic at)) s e g = g
    goes_more k j n m rest (Err (F.OldVersion at)) s e g = g
    goes_more k j n m rest (Err (F.Frames at)) s e g = g
    goes_more k j n m rest (Err (F.Cpus at)) s e g = g
    goes_more k j n m rest (Err (F.Plan at)) s e g = g
    goes_more k j n m rest (Err (F.Page at)) s e g = g
    goes_more k j n m rest (Err (F.Twice at)) s e g = g
    goes_more k j n m rest (Err (F.Long at)) s e g = g
goes_then k j n rest f (Err (F.Short at)) s h g = omega arith
goes_then k j n rest f (Err F.Read) s h g = g
goes_then k j n rest f (Err (F.Magic at)) s h g = rw g
goes_then k j n rest f (Err (F.OldVersion at)) s h g = rw g
goes_then k j n rest f (Err (F.Frames at)) s h g = rw g
goes_then k j n rest f (Err (F.Cpus at)) s h g = rw g
goes_then k j n rest f (Err (F.Plan at)) s h g = rw g
goes_then k j n rest f (Err (F.Page at)) s h g = rw g
goes_then k j n rest f (Err (F.Twice at)) s h g = rw g
goes_then k j n rest f (Err (F.Long at)) s h g = rw g

-- a test after a parser
tested_goes : (test : ℕ → Bool) (e : ImageError) → ((n : ℕ) (rest : List ℕ) → Goes {A = ℕ} 0 n rest (Err e) (Err e))
    → (x : ℕ) (a rest : List ℕ) → Goes 0 (length a) rest (pass_test (test x) e (x, a))
    (pass_test (test x) e (x, a ++ rest))
tested_goes test e h x a rest =
    goes_if 0 (length a) rest (test x) _ _ _ _ (λ _. (refl, omega arith)) (λ _. h (length a) rest)

frames_goes : Parses 4 frames_at
unfolding frames_at
frames_goes bs rest = goes_then 4 0 (length bs) rest _ _ _
    (λ x a. tested_goes (λ w. nat_le 16 w && nat_le w 4096) (F.Frames 8) (λ _ _. refl) x a rest) (word_goes 8 bs rest)

cpus_goes : Parses 4 cpus_at
unfolding cpus_at
cpus_goes bs rest = goes_then 4 0 (length bs) rest _ _ _
    (λ x a. tested_goes (λ w. nat_le 1 w && nat_le w 4) (F.Cpus 12) (λ _ _. refl) x a rest) (word_goes 12 bs rest)

plans_goes : Parses 4 plans_at
unfolding plans_at
plans_goes bs rest = goes_then 4 0 (length bs) rest _ _ _
    (λ x a. tested_goes (λ w. nat_le w 16) (F.Plan 16) (λ _ _. refl) x a rest) (word_goes 16 bs rest)

pages_goes : Parses 4 pages_at
unfolding pages_at
pages_goes bs rest = goes_then 4 0 (length bs) rest _ _ _
    (λ x a. tested_goes (λ w. nat_le w 4096) (F.Page 20) (λ _ _. refl) x a rest) (word_goes 20 bs rest)

-- the fields after the magic
abbrev fields_after : List ℕ → Result (Fields × List ℕ) ImageError
fields_after rest = do
  frames ← frames_at rest
  cpus ← cpus_at frames.1
  plans ← plans_at cpus.1
  pages ← pages_at plans.1
  Ok (record { frames = frames.0; cpus = cpus.0; plans = plans.0; pages = pages.0 }, pages.1)

after_goes : Parses 16 fields_after
after_goes bs rest =
    goes_then 4 12 (length bs) rest _ (frames_at bs) (frames_at (bs ++ rest)) (λ f a. goes_then 4 8 (length a) rest _
    (cpus_at a) (cpus_at (a ++ rest)) (λ c a. goes_then 4 4 (length a) rest _ (plans_at a)
    (plans_at (a ++ rest)) (λ p a. goes_then 4 0 (length a) rest _ (pages_at a) (pages_at (a ++ rest)) (λ g a.
    (refl, omega arith)) (pages_goes a rest)) (plans_goes a rest)) (cpus_goes a rest)) (frames_goes bs rest)

-- the magic, with a number beside it
abbrev with_zero : List ℕ → Result (ℕ × List ℕ) ImageError
with_zero r = Ok (0, r)

abbrev magic_with : List ℕ → Result (ℕ × List ℕ) ImageError
magic_with bs = cond (nat_lt (length bs) 8) (Err (F.Short (length bs))) (cond (bytes_eq (take 8 bs) magic)
    (with_zero (drop 8 bs)) (cond (bytes_eq (take 8 bs) old_magic) (Err (F.OldVersion 0)) (Err (F.Magic 0))))

magic_goes : Parses 8 magic_with
magic_goes bs rest =
    goes_short 8 (length bs) (length bs) rest (nat_lt (length bs) 8) (nat_lt (length (bs ++ rest)) 8) _ _ _ (less _ 8)
    (still 8 bs rest)
    (λ long. let l : 8 ≤ length bs = not_less _ 8 long in
    let l8 = length-drop 8 bs in
    rw (take-append-le 8 bs rest l) (goes_if 8 (length bs) rest (bytes_eq (take 8 bs) magic) _ _ _ _ (λ _. (
      ap with_zero
          (drop_less 8 bs rest l),
      omega arith,
    )) (λ _. goes_if 8 (length bs) rest (bytes_eq (take 8 bs) old_magic) _ _ _ _
    (λ _. refl) (λ _. refl))))

with_magic : (s b c : Bool) (e f g : ImageError) (r : List ℕ) → (cond s (Err e) (cond b (Ok r) (cond c (Err f) (Err g)))
    >>= fields_after) ≡ (cond s (Err e) (cond b (with_zero r) (cond c (Err f) (Err g))) >>= (λ x. fields_after x.1))
with_magic true b c e f g r = refl
with_magic false true c e f g r = refl
with_magic false false true e f g r = refl
with_magic false false false e f g r = refl

pub fields_goes : Parses 24 fields_of
unfolding fields_of
fields_goes bs rest =
    let e = λ (a : List ℕ). with_magic (nat_lt (length a) 8) (bytes_eq (take 8 a) magic) (bytes_eq (take 8 a) old_magic)
    (F.Short (length a)) (F.OldVersion 0) (F.Magic 0) (drop 8 a) in
    let g = goes_then 8 16 (length bs) rest (λ x. fields_after x.1) (magic_with bs)
    (magic_with (bs ++ rest)) (λ x a. after_goes a rest) (magic_goes bs rest) in
    rw (e (bs ++ rest)) (subst (λ r. Goes 24 (length bs) rest r (magic_with (bs ++ rest) >>= (λ x. fields_after x.1)))
    (sym (e bs)) g)
