-- Texts that are written one after another.
use Rattle.std.specs.Prelude.{◌≡◌, refl, ℕ, ◌+◌, ◌<◌, List, [], ◌∷◌, ◌++◌, length, map, take}
use Rattle.std.proofs.Common.{ap, sym, ◌∙◌, append_assoc, append-nil, get_or}
use Rattle.std.proofs.lemmas.List.{map-append, take_more}
use Rattle.pip_model.specs.DisText.{text_of_lines, part_lines, parts_lines}
use Rattle.pip_model.specs.InstrText.{word_said}
use Rattle.pip_model.specs.Text.{line_text}
use Rattle.pip_model.specs.Images.{Part}
use Rattle.pip_asm.specs.Writing.{parts_text}

pub lines_append : (ls ms : List (List ℕ)) → text_of_lines (ls ++ ms) ≡ text_of_lines ls ++ text_of_lines ms
lines_append [] ms = refl
lines_append (l ∷ ls) ms = ap (λ t. line_text l ++ t) (lines_append ls ms)
    ∙ sym (append_assoc (line_text l) (text_of_lines ls) (text_of_lines ms))

lines_of_parts : (ps qs : List Part) → parts_lines (ps ++ qs) ≡ parts_lines ps ++ parts_lines qs
lines_of_parts [] qs = refl
lines_of_parts (p ∷ ps) qs = ap (λ t. part_lines p ++ t) (lines_of_parts ps qs)
    ∙ sym (append_assoc (part_lines p) (parts_lines ps) (parts_lines qs))

pub parts_append : (ps qs : List Part) → parts_text (ps ++ qs) ≡ parts_text ps ++ parts_text qs
parts_append ps qs = ap text_of_lines (lines_of_parts ps qs) ∙ lines_append (parts_lines ps) (parts_lines qs)

-- ---- words

said_more : (ws : List ℕ) (i : ℕ) → i < length ws
    → map word_said (take (i + 1) ws) ≡ map word_said (take i ws) ++ word_said (get_or ws i 0) ∷ []
said_more ws i h = ap (map word_said) (take_more ws i 0 h) ∙ map-append word_said (take i ws) (get_or ws i 0 ∷ [])

pub words_more : (ws : List ℕ) (i : ℕ) → i < length ws → text_of_lines (map word_said (take (i + 1) ws))
    ≡ text_of_lines (map word_said (take i ws)) ++ line_text (word_said (get_or ws i 0))
words_more ws i h =
    ap text_of_lines (said_more ws i h) ∙ lines_append (map word_said (take i ws)) (word_said (get_or ws i 0) ∷ [])
    ∙ ap (λ t. text_of_lines (map word_said (take i ws)) ++ t) (append-nil (line_text (word_said (get_or ws i 0))))

pub words_joined : (old mid new ws : List ℕ) (i : ℕ) → i < length ws
    → mid ≡ old ++ text_of_lines (map word_said (take i ws)) → new ≡ mid ++ line_text (word_said (get_or ws i 0))
    → new ≡ old ++ text_of_lines (map word_said (take (i + 1) ws))
words_joined old mid new ws i h e d = rw (d, e, words_more ws i h)
    (append_assoc old (text_of_lines (map word_said (take i ws))) (line_text (word_said (get_or ws i 0))))
