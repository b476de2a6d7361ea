-- Bytes of words after bytes.
use Rattle.std.specs.Prelude.{◌≡◌, refl, ℕ, ◌+◌, List, [], ◌∷◌, ◌++◌, ◌*◌, ◌-◌, length, take, replicate, Result, Ok}
use Rattle.std.specs.Prelude.{Err}
use Rattle.std.proofs.lemmas.List.{append-nil, take_all}
use Rattle.pip_base.specs.declared.types.Plan.{Plan}
use Rattle.std.proofs.Common.{ap, sym, ◌∙◌, append_assoc, arith}
use Rattle.byteorder.specs.Endian.{little_bytes}
use Rattle.pip_model.specs.Images.{bytes_of, magic}
use Rattle.pip_model.specs.Assembly.{LineFault, and_then, as_image, words_before, plan_words}
use Rattle.pip_asm.specs.Emitted.{prefix}
use Rattle.pip_asm.specs.Reading.{Refused}
use Rattle.pip_asm.specs.declared.reading.AsmError.{AsmError}
use Rattle.pip_asm.specs.declared.reading.AsmError.TheVariants as E
use Rattle.pip_asm.proofs.Bytes.{bytes_append, zeros_bytes}

pub word_after : (old ws p new : List ℕ) (v : ℕ) → p ≡ old ++ bytes_of ws → new ≡ p ++ little_bytes 4 v
    → new ≡ old ++ bytes_of (ws ++ v ∷ [])
word_after old ws p new v e f = rw (f, e, append_assoc old (bytes_of ws) (little_bytes 4 v), ← bytes_append ws (v ∷ []))

pub prefix_after : (old ws : List ℕ) (r : Result (List ℕ) LineFault)
    → prefix old (words_before ws r) ≡ prefix (old ++ bytes_of ws) r
prefix_after old ws (Ok vs) =
    rw (bytes_append ws vs, ← append_assoc old (bytes_of ws) (bytes_of vs))
prefix_after old ws (Err e) = refl

pub prefix_head : (head : List ℕ) (r : Result (List ℕ) LineFault) → as_image head r ≡ prefix (magic ++ bytes_of head) r
prefix_head head (Ok ws) = rw (bytes_append head ws, ← append_assoc magic (bytes_of head) (bytes_of ws))
prefix_head head (Err e) = refl

-- bytes that were filled up with zeros
pub zeros_resized : (old new : List ℕ) (k : ℕ) → new ≡ take (length old + 4 * k) old
    ++ replicate (length old + 4 * k - length old) 0 → new ≡ old ++ bytes_of (replicate k 0)
zeros_resized old new k e =
    let d : length old + 4 * k - length old ≡ 4 * k = omega arith in
    rw (e, take_all (length old + 4 * k) old (omega arith), d, ← zeros_bytes k)

two_after : (a b : List ℕ) (v w : ℕ) → (a ++ bytes_of (v ∷ [])) ++ little_bytes 4 w ≡ a ++ bytes_of (v ∷ w ∷ [])
two_after a b v w = append_assoc a (bytes_of (v ∷ [])) (little_bytes 4 w)

pub three_words : (b0 b1 b2 b3 : List ℕ) (x y z : ℕ) → b1 ≡ b0 ++ little_bytes 4 x → b2 ≡ b1 ++ little_bytes 4 y
    → b3 ≡ b2 ++ little_bytes 4 z → b3 ≡ b0 ++ bytes_of (x ∷ y ∷ z ∷ [])
three_words b0 b1 b2 b3 x y z e f g =
    word_after b0 (x ∷ y ∷ []) b2 b3 z
    (word_after b0 (x ∷ []) b1 b2 y (word_after b0 [] b0 b1 x (sym (append-nil b0)) e) f) g

pub four_words : (b0 b1 b2 b3 b4 : List ℕ) (x y z w : ℕ) → b1 ≡ b0 ++ little_bytes 4 x → b2 ≡ b1 ++ little_bytes 4 y
    → b3 ≡ b2 ++ little_bytes 4 z → b4 ≡ b3 ++ little_bytes 4 w → b4 ≡ b0 ++ bytes_of (x ∷ y ∷ z ∷ w ∷ [])
four_words b0 b1 b2 b3 b4 x y z w e f g h =
    word_after b0 (x ∷ y ∷ z ∷ []) b3 b4 w (three_words b0 b1 b2 b3 x y z e f g) h

-- the head of an image
pub head_after : (b0 b1 b2 b3 ws vs : List ℕ) → b1 ≡ b0 ++ magic → b2 ≡ b1 ++ bytes_of ws → b3 ≡ b2 ++ bytes_of vs
    → b3 ≡ b0 ++ (magic ++ bytes_of (ws ++ vs))
head_after b0 b1 b2 b3 ws vs e f g =
    g ∙ ap (λ t. t ++ bytes_of vs) (f ∙ ap (λ t. t ++ bytes_of ws) e)
    ∙ append_assoc (b0 ++ magic) (bytes_of ws) (bytes_of vs) ∙ append_assoc b0 magic (bytes_of ws ++ bytes_of vs)
    ∙ ap (λ t. b0 ++ (magic ++ t)) (sym (bytes_append ws vs))

pub plan_more : (b0 b1 b2 : List ℕ) (p : Plan) (ps : List Plan) → b1 ≡ b0 ++ bytes_of (p.line ∷ p.first ∷ p.period ∷ [])
    → b2 ≡ b1 ++ bytes_of (plan_words ps) → b2 ≡ b0 ++ bytes_of (plan_words (p ∷ ps))
plan_more b0 b1 b2 p ps e f = f ∙ ap (λ t. t ++ bytes_of (plan_words ps)) e
    ∙ append_assoc b0 (bytes_of (p.line ∷ p.first ∷ p.period ∷ [])) (bytes_of (plan_words ps))

pub refused_first : {A B : Type 0} (r : Result A LineFault) (f : A → Result B LineFault) (e : AsmError) → Refused r e
    → Refused (and_then r f) e
refused_first r f (E.Line n k) h = rw h
refused_first r f E.Memory h = tt
