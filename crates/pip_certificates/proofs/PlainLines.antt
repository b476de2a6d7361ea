-- No line of a part has a newline inside, so that a text which is cut at its newlines gives its lines again.
use Rattle.std.proofs.Common.{◌≡◌, ℕ, suc, ◌%◌, ◌/◌, ◌==◌, ◌||◌, true, false, List, [], ◌∷◌, ◌++◌, map, length}
use Rattle.std.proofs.Common.{inl, inr, refl, append_assoc, Some, slice_get}
use Rattle.std.specs.List.{AllByRecursion, list_any}
use Rattle.std.specs.Prelude.{Bool, codes, flat_map}
use Rattle.pip_base.specs.Memory.{Memory}
use Rattle.pip_audit.specs.CoreTexts.{core_words}
use Rattle.pip_script.specs.Lines.{HasNoNewline}
use Rattle.pip_script.proofs.LinesOf.{lines_newline}
use Rattle.pip_model.specs.Grammar.{lines_of}
use Rattle.pip_model.specs.Images.{Image}
use Rattle.pip_model.specs.Text.{line_text}
use Rattle.pip_certificates.specs.Entries.{Asks, Own, Shows, Tells, byte_digits, entry_line, key_digits}
use Rattle.pip_certificates.specs.Entries.{number_list}
use Rattle.pip_certificates.specs.declared.parts.lines.PartNumbers.{PartNumbers}
use Rattle.pip_certificates.specs.MergeLaw.{ToldPart, lines_of_part}
use Rattle.pip_search.specs.Certificates.{CanShow, Stop}
use Rattle.pip_search.specs.Packing.{packed_key}
use Rattle.pip_search.specs.Summary.{IsShownOn}
use Rattle.pip_search.specs.Systems.{after_choices}
use Rattle.pip_every.proofs.LabelLines.{inner_of}
use Rattle.pip_every.specs.Texts.{inner}
use Rattle.pip_certificates.specs.CertificateLaw.{AreParts}
use Rattle.pip_certificates.specs.PartAbout.{about_part, after_space, words_with}
use Rattle.pip_certificates.specs.PartDues.{IsPartOf, image_moment, lines_text, part_model, part_scope}
use Rattle.pip_certificates.specs.declared.reading.BaseWord.{BaseWord}
use Rattle.pip_certificates.proofs.OneLine.{IsOneLine, IsPlain, both, choice_shows, digit, digits_of_word}
use Rattle.pip_certificates.proofs.OneLine.{nothing}
use Rattle.pip_certificates.proofs.OneLine.{number, space}

-- ---- lines

abbrev pub ArePlain : List (List ℕ) → Type 0
ArePlain lines = AllByRecursion IsPlain lines

both_plain : (xs ys : List (List ℕ)) → ArePlain xs → ArePlain ys → ArePlain (xs ++ ys)
both_plain [] ys h k = k
both_plain (x ∷ xs) ys h k = (h.0, both_plain xs ys h.1 k)

all_plain : {A : Type 0} (f : A → List ℕ) → ((x : A) → IsPlain (f x)) → (xs : List A) → ArePlain (map f xs)
all_plain f each [] = tt
all_plain f each (x ∷ xs) = (each x, all_plain f each xs)

-- a text that is cut at its newlines gives its lines again
pub lines_back : (lines : List (List ℕ)) → ArePlain lines → (rest : List ℕ)
    → lines_of (flat_map line_text lines ++ rest) ≡ lines ++ lines_of rest
lines_back [] h rest = refl
lines_back (l ∷ ls) h rest =
    rw (
      append_assoc (line_text l) (flat_map line_text ls) rest,
      lines_newline l (flat_map line_text ls ++ rest)
          h.0.none,
      lines_back ls h.1 rest,
    )

-- ---- the lines of a part

words_plain : (ws : List ℕ) → IsPlain (core_words ws)
words_plain [] = nothing
words_plain (w ∷ ws) = both {xs = codes " " ++ _} (both space (digits_of_word w)) (words_plain ws)

bytes_plain : (bs : List ℕ) → IsPlain (flat_map byte_digits bs)
bytes_plain [] = nothing
bytes_plain (b ∷ bs) = digit (b / 16 % 16) (digit (b % 16) (bytes_plain bs))

own_plain : (x : Stop) → IsPlain (entry_line (Own (key_digits x.key) x.depth))
own_plain x = both (both {ys = codes " +"} (bytes_plain (packed_key x.key)) (record { none = refl }))
    (words_plain (x.depth ∷ []))

asked_plain : (x : Stop) → IsPlain (entry_line (Asks (key_digits x.key) x.depth))
asked_plain x = both (both {ys = codes " ?"} (bytes_plain (packed_key x.key)) (record { none = refl }))
    (words_plain (x.depth ∷ []))

-- a line of a trace without its newline
inner_plain : (text : List ℕ) → IsOneLine text → IsPlain (inner text)
inner_plain text (inl none) = rw none nothing
inner_plain text (inr (line, (plain, is))) = rw is (of_line line plain)
  where
    later : (t : Bool) (bs : List ℕ) → (t || list_any (λ c. c == 10) bs) ≡ false → HasNoNewline bs
    later true bs h = cc
    later false bs h = h

    of_line : (line : List ℕ) → IsPlain line → IsPlain (inner (line ++ 10 ∷ []))
    of_line [] h = nothing
    of_line (x ∷ body) h =
        rw (inner_of x 10 body) (record { none = later (x == 10) body h.none })

can_show : (words : Memory) (i : Image) (from : ℕ) (label : List ℕ)
    → CanShow (part_model i from words) (image_moment i) label → IsOneLine label
can_show words i from label h = by_choices h.choices h.shown
  where
    by_choices : (cs : List ℕ) → IsShownOn (part_model i from words) (image_moment i) label cs → IsOneLine label
    by_choices [] s = absurd s
    by_choices (c ∷ cs) s = rw s.1 (choice_shows (part_scope i from)
        (after_choices (part_model i from words) (image_moment i) cs) c)

labels_plain : (labels : List (List ℕ)) → ((k : ℕ) (label : List ℕ) → slice_get labels k ≡ Some label → IsOneLine label)
    → ArePlain (map (λ label. entry_line (Shows (inner label))) labels)
labels_plain [] each = tt
labels_plain (l ∷ ls) each = (
  both {xs = codes "line"} (record { none = refl }) (inner_plain l (each 0 l refl)),
  labels_plain ls (λ k label at. each (suc k) label at),
)

about_plain : (i : Image) (from : ℕ) (first words : Memory) → IsPlain (about_part i from first words)
about_plain i from first words =
    both (both (both (both (both (both (number i.frames) (after i.cpus)) (after (length i.plans)))
    (after (length i.pages))) (after from)) space) (both (digits_of_word _) (digits_of_word _))
  where
    after : (n : ℕ) → IsPlain (after_space n)
    after n = both space (number n)

tells_plain : (about : List ℕ) (n : PartNumbers) → IsPlain about → IsPlain (entry_line (Tells about n))
tells_plain about n h = both (both {xs = codes "part "} (record { none = refl }) h) (words_plain (number_list n))

part_plain : (i : Image) (from : ℕ) (base : List BaseWord) (t : ToldPart) → IsPartOf i from base t
    → ArePlain (lines_of_part t)
part_plain i from base t (first, booted, is) =
    let words = words_with first base in
    both_plain _ _ (all_plain _ own_plain t.portion.keys) (both_plain _ _ (all_plain _ asked_plain t.portion.asked)
    (both_plain _ _ (labels_plain t.portion.labels (λ k label at.
    can_show words i from label (is.reached.labels k label at).1))
    (tells_plain t.about _ (rw is.about (about_plain i from first words)), tt)))

-- the lines of the texts of parts, one after another
pub texts_back : (i : Image) (from : ℕ) (base : List BaseWord) (ts : List ToldPart) → AreParts i from base ts
    → lines_of (flat_map lines_text ts) ≡ flat_map lines_of_part ts
texts_back i from base [] are = refl
texts_back i from base (t ∷ ts) are =
    rw (
      lines_back (lines_of_part t) (part_plain i from base t (are 0 t refl)) (flat_map lines_text ts),
      texts_back i
          from base ts (λ k u at. are (suc k) u at),
    )
