-- A part that was checked over the frames of an image is a part of the image.
use Rattle.std.proofs.Common.{◌≡◌, ℕ, List, [], length, ap, ◌∙◌, subst, arith}
use Rattle.pip_base.specs.Memory.{Memory}
use Rattle.pip_every.specs.Keys.{IsKeyOf, model_of}
use Rattle.pip_every.specs.Moments.{Moment, Scope, first_moment}
use Rattle.pip_every.proofs.OneKey.{one_key}
use Rattle.pip_command_contracts.specs.Loading.{BeginsFrames}
use Rattle.pip_image.specs.declared.header.Header.{Header}
use Rattle.pip_model.specs.Images.{Image, image_word}
use Rattle.pip_search.specs.Certificates.{HasStop, IsClosedPart, IsReachedPart}
use Rattle.pip_search.specs.Parts.{portion_of, stops}
use Rattle.pip_search.specs.Portions.{IsPortionOf}
use Rattle.pip_search.specs.declared.parts.Part.{Part}
use Rattle.pip_command_contracts.specs.Planned.{lines_planned}
use Rattle.pip_certificates.specs.PartAbout.{about_numbers, part_sum, words_with}
use Rattle.pip_certificates.specs.PartDues.{IsPartBooted, image_moment, part_model, part_scope}
use Rattle.pip_certificates.specs.PartShown.{IsNumbered, told_part}
use Rattle.pip_certificates.specs.declared.checking.Checked.{Checked}
use Rattle.pip_certificates.specs.declared.reading.BaseWord.{BaseWord}
use Rattle.pip_certificates.proofs.Bits.{none_of}

-- the part that was checked is what a way and marks say
abbrev pub IsPartSaidBy : Image → ℕ → Memory → List BaseWord → List ℕ → List ℕ → Checked → Type 0
IsPartSaidBy i from m base way marks k = (start : List ℕ)
    × (IsKeyOf (words_with m base) (part_scope i from) start (image_moment i)
    × IsPortionOf (part_model i from (words_with m base)) start way marks (told_part k).portion)

module _ {i : Image} {h : Header} {m : Memory} (b : BeginsFrames i h m) (from : ℕ) (base : List BaseWord)
    (words : Memory) (ls : List ℕ) (held : words ≡ words_with m base) (raised : ls ≡ lines_planned h.plans.items) where
  abbrev given : Scope
  given = record { cpus = h.cpus; lines = ls; from = from }

  abbrev begun : ℕ → Moment
  begun n = first_moment (image_word i.frames i.pages) i.frames n

  scope : given ≡ part_scope i from
  scope = λ j. record { cpus = b.cpus j; lines = (raised ∙ ap lines_planned b.plans) j; from = from }

  -- what is so over the words, the scope and the moment of the program is so over those of the image
  moved : (P : Memory → Scope → Moment → Type 0) → P words given (begun h.cpus)
      → P (words_with m base) (part_scope i from) (image_moment i)
  moved P x = rw (← held) (subst (λ s. P words s (image_moment i)) scope
      (subst (λ n. P words given (begun n)) b.cpus x))

  pub part_of : (p : Part) (text way : List ℕ) (k : Checked) → IsNumbered p text (length way) k
      → IsClosedPart (model_of words given) (portion_of p)
      → IsReachedPart (model_of words given) (begun h.cpus) (portion_of p)
      → (way ≡ [] → (key : List ℕ) × (IsKeyOf words given key (begun h.cpus) × HasStop (stops p.keys.items) key 0))
      → text ≡ about_numbers h.frames h.cpus (length h.plans.items) h.pages from (part_sum ls m words)
      → IsPartBooted i from base (told_part k) m
  part_of p text way k is closed reached begins told = record {
    closed = rw is.part (moved (λ w s n. IsClosedPart (model_of w s) (portion_of p)) closed);
    reached = rw is.part (moved (λ w s n. IsReachedPart (model_of w s) n (portion_of p)) reached);
    begins = λ start key none.
        let size = is.way in
        let few : way ≡ [] = none_of way (omega arith) in
        let x = begins few in
        let there = moved (λ w s n. IsKeyOf w s x.0 n) x.1.0 in
        let same : x.0 ≡ start = one_key (words_with m base) (part_scope i from) x.0 start (image_moment i) there key in
        rw is.part (subst (λ y. HasStop (stops p.keys.items) y 0) same x.1.1);
    small = is.small;
    about = is.about ∙ (told ∙ (λ j. about_numbers (b.frames j) (b.cpus j) (length (b.plans j)) (b.pages j) from
        (part_sum ((raised ∙ ap lines_planned b.plans) j) m (held j))));
  }

  -- it is what the way and the marks say
  pub said_of : (p : Part) (text way marks : List ℕ) (k : Checked) → IsNumbered p text (length way) k
      → ((key : List ℕ) × (IsKeyOf words given key (begun h.cpus)
      × IsPortionOf (model_of words given) key way marks (portion_of p)))
      → IsPartSaidBy i from m base way marks k
  said_of p text way marks k is (key, (there, portion)) = (
    key,
    (
      moved (λ w s n. IsKeyOf w s key n) there,
      rw is.part (moved (λ w s n. IsPortionOf (model_of w s) key way marks (portion_of p)) portion),
    ),
  )
