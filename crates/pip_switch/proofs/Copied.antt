-- A block in the words of its frame: read and written in one piece, and word by word.
use Rattle.std.proofs.Common.{◌≡◌, ℕ, zero, suc, ◌+◌, ◌-◌, ◌<◌, ◌≤◌, List, [], ◌∷◌, ◌++◌, length, take, drop, add-zero}
use Rattle.std.proofs.Common.{append_assoc, length-set, refl, sym, ap, ap₂, ◌∙◌, arith}
use Rattle.std.specs.Prelude.{slice_index, slice_index_or, slice_set}
use Rattle.std.proofs.lemmas.List.{drop-drop, drop-set-lt, get_or-set_same, set-get_or, set-set, take-append-drop}
use Rattle.std.proofs.Math.Seq.{drop-cons, take-suc-set}
use borrow.Rule.Slice.PartMut.{put_mid}
use Rattle.pip_base.specs.Memory.{Memory, frame_at, put_word, put_words, word_at}
use Rattle.pip_model.specs.Handlers.{context_in, words_from}

-- the words from i on, one by one, are a part of the list
words_taken : (n i : ℕ) (ws : List ℕ) → i + n ≤ length ws → take n (drop i ws) ≡ words_from n (slice_index ws) i
words_taken zero i ws fits = refl
words_taken (suc n) i ws fits =
    let one : suc i ≡ i + 1 = omega arith in
    ap (take (suc n)) (drop-cons ws i 0 (omega (arith, fits)))
    ∙ ap (λ xs. slice_index ws i ∷ xs) (ap (λ k. take n (drop k ws)) one
    ∙ words_taken n (i + 1) ws (omega (arith, fits)))

pub context_taken : (ws regs : List ℕ) (i : ℕ) → i + 17 ≤ length ws → regs ≡ take (i + 17 - (i + 1)) (drop (i + 1) ws)
    → record { pc = slice_index ws i; regs = regs } ≡ context_in (slice_index ws) i
context_taken ws regs i fits is =
    let many : i + 17 - (i + 1) ≡ 16 = omega arith in
    let same : regs ≡ words_from 16 (slice_index ws) (i + 1) =
    is ∙ ap (λ n. take n (drop (i + 1) ws)) many ∙ words_taken 16 (i + 1) ws (omega (arith, fits)) in
    λ k. record { pc = slice_index ws i; regs = same k }

-- the list ws with the words xs from i on
over : ℕ → List ℕ → List ℕ → List ℕ
over i xs ws = take i ws ++ (xs ++ drop (i + length xs) ws)

over_more : (i w : ℕ) (xs ws : List ℕ) → i < length ws → over (i + 1) xs (slice_set ws i w) ≡ over i (w ∷ xs) ws
unfolding over
over_more i w xs ws inside =
    let one : suc i ≡ i + 1 = omega arith in
    let many : i + 1 + length xs ≡ i + suc (length xs) = omega arith in
    ap₂ (λ front back. front ++ (xs ++ back))
    (ap (λ k. take k (slice_set ws i w)) (sym one) ∙ take-suc-set ws i w inside)
    (drop-set-lt (i + 1 + length xs) ws i w (omega arith) ∙ ap (λ k. drop k ws) many)
    ∙ append_assoc (take i ws) (w ∷ []) (xs ++ drop (i + suc (length xs)) ws)

-- words that are written one by one
put_over : (m : Memory) (f i : ℕ) (xs : List ℕ) → f < length m → i + length xs ≤ length (frame_at m f)
    → slice_set m f (over i xs (frame_at m f)) ≡ put_words m f i xs
unfolding over frame_at put_word
put_over m f i [] inside fits =
    ap (slice_set m f) (ap (λ k. take i (slice_index_or m f []) ++ drop k (slice_index_or m f [])) (add-zero i)
    ∙ take-append-drop i (slice_index_or m f [])) ∙ set-get_or m f []
put_over m f i (w ∷ ws) inside fits =
    let old = slice_index_or m f [] in
    let new = slice_set old i w in
    let there : slice_index_or (put_word m f i w) f [] ≡ new = get_or-set_same m f new [] inside in
    let long : length (put_word m f i w) ≡ length m = length-set m f new in
    let wide : length new ≡ length old = length-set old i w in
    let rest = put_over (put_word m f i w) f (i + 1) ws
    (omega (arith, inside, long)) (omega (arith, fits, wide, ap length there)) in
    ap (slice_set m f) (sym (over_more i w ws old (omega (arith, fits))))
    ∙ sym (set-set m f new (over (i + 1) ws new))
    ∙ ap (λ k. slice_set (put_word m f i w) f (over (i + 1) ws k)) (sym there)
    ∙ rest

-- a word, and after it a part that was copied
pub context_put : (ws ys regs : List ℕ) (i w : ℕ) → i + 17 ≤ length ws → ys ≡ regs
    → put_mid (i + 1) (i + 17 - (i + 1)) (slice_set ws i w) ys ≡ take i ws ++ (w ∷ regs ++ drop (i + 17) ws)
context_put ws ys regs i w fits same =
    let many : i + 17 - (i + 1) ≡ 16 = omega arith in
    let one : suc i ≡ i + 1 = omega arith in
    let all : i + 1 + (i + 17 - (i + 1)) ≡ i + 17 = omega arith in
    ap₂ (λ front back. front ++ (ys ++ back))
    (ap (λ k. take k (slice_set ws i w)) (sym one) ∙ take-suc-set ws i w (omega (arith, fits)))
    (drop-drop (i + 17 - (i + 1)) (i + 1) (slice_set ws i w) ∙ ap (λ k. drop k (slice_set ws i w)) all
    ∙ drop-set-lt (i + 17) ws i w (omega arith))
    ∙ append_assoc (take i ws) (w ∷ []) (ys ++ drop (i + 17) ws)
    ∙ ap (λ k. take i ws ++ (w ∷ k ++ drop (i + 17) ws)) same

-- the words of a frame, read through it and through the memory
pub context_there : (m : Memory) (ws : List ℕ) (f i : ℕ) → ws ≡ frame_at m f
    → context_in (slice_index ws) i ≡ context_in (word_at m f) i
unfolding frame_at word_at
context_there m ws f i is = ap (λ k. context_in (slice_index k) i) is

-- a block that was put into the words of its frame
pub block_put : (m : Memory) (f i w : ℕ) (ws rs regs : List ℕ) → f < length m → length regs ≡ 16 → ws ≡ frame_at m f
    → i + 17 ≤ length ws
    → rs ≡ take i ws ++ (w ∷ regs ++ drop (i + 17) ws) → slice_set m f rs ≡ put_words m f i (w ∷ regs)
unfolding over
block_put m f i w ws rs regs inside many is fits e =
    let all : i + 17 ≡ i + suc (length regs) = omega (arith, many) in
    ap (slice_set m f) (e ∙ ap (λ k. take i ws ++ (w ∷ regs ++ drop k ws)) all ∙ ap (over i (w ∷ regs)) is)
    ∙ put_over m f i (w ∷ regs) inside (omega (arith, many, fits, ap length is))
