-- The line of an entry says this entry.
use Rattle.std.specs.Prelude.{◌≡◌, ◌≢◌, refl, ℕ, ◌+◌, ◌*◌, ◌/◌, ◌%◌, ◌-◌, ◌<◌, ◌^◌, ◌==◌, ◌&&◌, Bool, true}
use Rattle.std.specs.Prelude.{false, List, [], ◌∷◌, ◌++◌, length, flat_map, Some, None, codes, nat_le, take}
use Rattle.std.specs.Prelude.{drop}
use Rattle.std.specs.Prelude.{get_or, option_map}
use Rattle.std.specs.List.{AllByRecursion, list_all}
use Rattle.std.specs.Str.{bytes_eq}
use Rattle.std.proofs.Common.{inl, inr, ap, sym, subst, ◌∙◌, arith, cond, append_assoc, eq-eqb}
use Rattle.std.proofs.Math.Seq.{take-append_seam, drop-append_seam}
use Rattle.std.proofs.lemmas.Bool.{cases_lt, le-leb, ne_eqb}
use Rattle.std.proofs.lemmas.Bool.Decides.{nat_tests}
use Rattle.std.proofs.lemmas.List.{length-append}
use Rattle.pip_audit.specs.CoreTexts.{core_words}
use Rattle.pip_audit.specs.Lines.{words_ahead}
use Rattle.pip_audit.proofs.LineTexts.{word_again}
use Rattle.pip_model.specs.Grammar.{cons_number}
use Rattle.pip_model.specs.Text.{hex_digit}
use Rattle.pip_search.specs.Packing.{packed_key, packed_word, seven_bits, unpacked_key}
use Rattle.pip_search.proofs.Packed.{bits_none, bits_some, key_back, packed_more, packed_none}
use Rattle.pip_certificates.specs.Entries.{Asks, Own, Shows, Tells, are_digits, but_last, byte_digits, entry_line}
use Rattle.pip_certificates.specs.Entries.{key_digits, key_said, last_bytes, line_of_key, line_of_part}
use Rattle.pip_certificates.specs.Entries.{begun_entry}
use Rattle.pip_certificates.specs.Entries.{number_list, part_numbers_of, one_of}
use Rattle.pip_certificates.specs.Forms.{is_hex}
use Rattle.pip_certificates.specs.declared.parts.lines.PartNumbers.{PartNumbers}

-- ---- numbers

-- words that fit are read as they are written
pub words_back : (ws : List ℕ) → AllByRecursion (λ w. w < 2 ^ 32) ws → words_ahead (length ws) (core_words ws) ≡ Some ws
unfolding words_ahead
words_back [] h = refl
words_back (w ∷ ws) h =
    ap (λ o. cons_number o (words_ahead (length ws) (core_words ws))) (word_again w (core_words ws) h.0)
    ∙ ap (cons_number (Some w)) (words_back ws h.1)

-- ---- the digits of keys

hex_is : (d : ℕ) → d < 16 → is_hex (hex_digit d) ≡ true
hex_is d h = grind (arith, nat_tests, h)

hexes : (bs : List ℕ) → list_all is_hex (flat_map byte_digits bs) ≡ true
hexes [] = refl
hexes (b ∷ bs) =
    ap (λ t. t && (is_hex (hex_digit (b % 16)) && list_all is_hex (flat_map byte_digits bs)))
    (hex_is (b / 16 % 16) (omega arith))
    ∙ ap (λ t. t && list_all is_hex (flat_map byte_digits bs)) (hex_is (b % 16) (omega arith))
    ∙ hexes bs

even_digits : (bs : List ℕ) → length (flat_map byte_digits bs) % 2 ≡ 0
even_digits [] = refl
even_digits (b ∷ bs) = let h = even_digits bs in omega (arith, h)

pub digits_are : (key : List ℕ) → are_digits (key_digits key) ≡ true
digits_are key = ap (λ t. t && length (key_digits key) % 2 == 0) (hexes (packed_key key))
    ∙ eq-eqb (length (key_digits key) % 2) 0 (even_digits (packed_key key))

-- the value of a digit
abbrev value_of_digit : ℕ → ℕ
value_of_digit d = cond (nat_le d 57) (d - 48) (d - 87)

value_again : (d : ℕ) → d < 16 → value_of_digit (hex_digit d) ≡ d
value_again d h = grind (arith, nat_tests, h)

-- the bytes of digits
abbrev bytes_back : List ℕ → List ℕ
bytes_back [] = []
bytes_back (a ∷ []) = []
bytes_back (a ∷ b ∷ ds) = (value_of_digit a * 16 + value_of_digit b) ∷ bytes_back ds

bytes_again : (bs : List ℕ) → AllByRecursion (λ b. b < 256) bs → bytes_back (flat_map byte_digits bs) ≡ bs
bytes_again [] h = refl
bytes_again (b ∷ bs) h =
    let low = h.0 in
    let whole : b / 16 % 16 * 16 + b % 16 ≡ b = omega (arith, low) in
    ap (λ x. (x * 16 + value_of_digit (hex_digit (b % 16))) ∷ bytes_back (flat_map byte_digits bs))
    (value_again (b / 16 % 16) (omega arith))
    ∙ ap (λ x. (b / 16 % 16 * 16 + x) ∷ bytes_back (flat_map byte_digits bs)) (value_again (b % 16) (omega arith))
    ∙ ap (λ x. x ∷ bytes_back (flat_map byte_digits bs)) whole
    ∙ ap (λ xs. b ∷ xs) (bytes_again bs h.1)

small_bits : (unit w : ℕ) (rest : List ℕ) → AllByRecursion (λ b. b < 256) rest
    → AllByRecursion (λ b. b < 256) (seven_bits unit w ++ rest)
small_bits unit w rest h = elim (cases_lt w unit) [
  | inl less ↦ subst (λ bs. AllByRecursion (λ b. b < 256) (bs ++ rest)) (sym (bits_none unit w less)) h
  | inr more ↦ subst (λ bs. AllByRecursion (λ b. b < 256) (bs ++ rest)) (sym (bits_some unit w more))
      (omega arith, h)
]

small_word : (w : ℕ) (rest : List ℕ) → AllByRecursion (λ b. b < 256) rest
    → AllByRecursion (λ b. b < 256) (packed_word w ++ rest)
unfolding packed_word
small_word w rest h =
    let e = (w % 128) ∷ rest in
    let d = seven_bits 0x80 w ++ e in
    let c = seven_bits 0x4000 w ++ d in
    let b = seven_bits 0x200000 w ++ c in
    let all : packed_word w ++ rest ≡ seven_bits 0x10000000 w ++ b = simp append_assoc in
    subst (AllByRecursion (λ b. b < 256)) (sym all) (small_bits 0x10000000 w b (small_bits 0x200000 w c
    (small_bits 0x4000 w d (small_bits 0x80 w e (omega arith, h)))))

small_bytes : (key : List ℕ) → AllByRecursion (λ b. b < 256) (packed_key key)
small_bytes [] = subst (AllByRecursion (λ b. b < 256)) (sym packed_none) tt
small_bytes (w ∷ ws) = subst (AllByRecursion (λ b. b < 256)) (sym (packed_more w ws))
    (small_word w (packed_key ws) (small_bytes ws))

-- keys of words that fit are the same where their digits are
pub same_digits : (a b : List ℕ) → ((i : ℕ) → get_or a i 0 < 2 ^ 32) → ((i : ℕ) → get_or b i 0 < 2 ^ 32)
    → key_digits a ≡ key_digits b → a ≡ b
same_digits a b fit own same =
    let bytes : packed_key a ≡ packed_key b =
    sym (bytes_again (packed_key a) (small_bytes a)) ∙ ap bytes_back same
    ∙ bytes_again (packed_key b) (small_bytes b) in
    sym (key_back a fit) ∙ ap unpacked_key bytes ∙ key_back b own

-- ---- lines

other_byte : (b c : ℕ) (bs cs : List ℕ) → b ≢ c → bytes_eq (b ∷ bs) (c ∷ cs) ≡ false
other_byte b c bs cs h = ap (λ t. t && bytes_eq bs cs) (ne_eqb b c h)

-- a line that begins with neither letter
by_key : (b : ℕ) (bs : List ℕ) → b ≢ 108 → b ≢ 112 → begun_entry (b ∷ bs) ≡ line_of_key (b ∷ bs)
by_key b bs no_l no_p =
    ap (λ t. cond t (Some (Shows (drop 4 (b ∷ bs)))) (cond (bytes_eq (take 5 (b ∷ bs)) (codes "part "))
    (line_of_part (drop 5 (b ∷ bs))) (line_of_key (b ∷ bs)))) (other_byte b 108 (take 3 bs) (codes "ine") no_l)
    ∙ ap (λ t. cond t (line_of_part (drop 5 (b ∷ bs))) (line_of_key (b ∷ bs)))
    (other_byte b 112 (take 4 bs) (codes "art ") no_p)

not_letter : (b : ℕ) → is_hex b ≡ true → (b ≢ 108) × (b ≢ 112)
not_letter b h = (
  λ e. (let bad : is_hex 108 ≡ true = ap is_hex (sym e) ∙ h in cc),
  λ e. (let bad : is_hex 112 ≡ true = ap is_hex (sym e) ∙ h in cc),
)

and_first : (a b : Bool) → (a && b) ≡ true → a ≡ true
and_first true b h = refl
and_first false b h = absurd cc

key_line : (key : List ℕ) (b : ℕ) (rest : List ℕ) → b ≡ 32 → list_all is_hex key ≡ true
    → begun_entry (key ++ b ∷ rest) ≡ line_of_key (key ++ b ∷ rest)
key_line [] b rest is h = by_key b rest (λ e. omega (arith, is, e)) (λ e. omega (arith, is, e))
key_line (k ∷ ks) b rest is h =
    let no = not_letter k (and_first (is_hex k) (list_all is_hex ks) h) in by_key k (ks ++ b ∷ rest) no.0 no.1

-- a key of digits, before eleven bytes
key_parts : (key rest : List ℕ) → length rest ≡ 11 → are_digits key ≡ true
    → line_of_key (key ++ rest) ≡ key_said key rest
key_parts key rest size digits =
    let long : length (key ++ rest) ≡ length key + 11 = length-append key rest ∙ ap (λ n. length key + n) size in
    let less : length (key ++ rest) - 11 ≡ length key = omega (arith, long) in
    let front : but_last 11 (key ++ rest) ≡ key = ap (λ n. take n (key ++ rest)) less ∙ take-append_seam key rest in
    let back : last_bytes 11 (key ++ rest) ≡ rest = ap (λ n. drop n (key ++ rest)) less ∙ drop-append_seam key rest in
    let most : nat_le 11 (length (key ++ rest)) ≡ true = le-leb 11 (length (key ++ rest)) (omega (arith, long)) in
    let test : (nat_le 11 (length (key ++ rest)) && are_digits (but_last 11 (key ++ rest))) ≡ true =
    ap (λ t. t && are_digits (but_last 11 (key ++ rest))) most ∙ ap are_digits front ∙ digits in
    ap (λ t. cond t (key_said (but_last 11 (key ++ rest)) (last_bytes 11 (key ++ rest))) None) test
    ∙ ap (λ k. key_said k (last_bytes 11 (key ++ rest))) front ∙ ap (key_said key) back

pub own_back : (key : List ℕ) (depth : ℕ) → are_digits key ≡ true → depth < 2 ^ 32
    → begun_entry (entry_line (Own key depth)) ≡ Some (Own key depth)
own_back key depth digits low =
    let rest = codes " +" ++ core_words (depth ∷ []) in
    ap begun_entry (append_assoc key (codes " +") (core_words (depth ∷ [])))
    ∙ key_line key 32 (drop 1 rest) refl (and_first (list_all is_hex key) (length key % 2 == 0) digits)
    ∙ key_parts key rest refl digits
    ∙ ap (λ o. option_map (Own key) (one_of o)) (words_back (depth ∷ []) (low, tt))

pub asks_back : (key : List ℕ) (depth : ℕ) → are_digits key ≡ true → depth < 2 ^ 32
    → begun_entry (entry_line (Asks key depth)) ≡ Some (Asks key depth)
asks_back key depth digits low =
    let rest = codes " ?" ++ core_words (depth ∷ []) in
    ap begun_entry (append_assoc key (codes " ?") (core_words (depth ∷ [])))
    ∙ key_line key 32 (drop 1 rest) refl (and_first (list_all is_hex key) (length key % 2 == 0) digits)
    ∙ key_parts key rest refl digits
    ∙ ap (λ o. option_map (Asks key) (one_of o)) (words_back (depth ∷ []) (low, tt))

pub shows_back : (text : List ℕ) → begun_entry (entry_line (Shows text)) ≡ Some (Shows text)
shows_back text = refl

pub tells_back : (about : List ℕ) (n : PartNumbers) → AllByRecursion (λ w. w < 2 ^ 32) (number_list n)
    → begun_entry (entry_line (Tells about n)) ≡ Some (Tells about n)
tells_back about n small =
    let rest = core_words (number_list n) in
    let size : length rest ≡ 45 = refl in
    let long : length (about ++ rest) ≡ length about + 45 = length-append about rest in
    let less : length (about ++ rest) - 45 ≡ length about = omega (arith, long) in
    let front : but_last 45 (about ++ rest) ≡ about = ap (λ n. take n (about ++ rest)) less
    ∙ take-append_seam about rest in
    let back : last_bytes 45 (about ++ rest) ≡ rest = ap (λ n. drop n (about ++ rest)) less
    ∙ drop-append_seam about rest in
    let most : nat_le 45 (length (about ++ rest)) ≡ true = le-leb 45 (length (about ++ rest)) (omega (arith, long)) in
    ap (λ t. cond t (option_map (Tells (but_last 45 (about ++ rest)))
    (part_numbers_of (words_ahead 5 (last_bytes 45 (about ++ rest))))) None) most
    ∙ ap (λ x. option_map (Tells x) (part_numbers_of (words_ahead 5 (last_bytes 45 (about ++ rest))))) front
    ∙ ap (λ x. option_map (Tells about) (part_numbers_of (words_ahead 5 x))) back
    ∙ ap (λ o. option_map (Tells about) (part_numbers_of o)) (words_back (number_list n) small)
