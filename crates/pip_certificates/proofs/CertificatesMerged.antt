-- Parts of one image whose lines could be merged.
use Rattle.std.proofs.Common.{◌≡◌, ℕ, zero, suc, ◌≤◌, List, [], ◌∷◌, length, Some, refl, sym, ◌∙◌}
use Rattle.std.proofs.Common.{subst, slice_get}
use Rattle.pip_base.specs.Memory.{Memory, put_word}
use Rattle.pip_base.proofs.Memory.{length-put_word}
use Rattle.pip_every.specs.Keys.{IsKeyOf, key_words}
use Rattle.pip_every.proofs.OneKey.{one_key, one_memory}
use Rattle.pip_model.specs.Booted.{IsBooted}
use Rattle.pip_model.specs.Grammar.{lines_of}
use Rattle.pip_model.specs.Images.{Image, image_word}
use Rattle.pip_model.specs.Worlds.{boot_cpus, idle_cpus}
use Rattle.pip_certificates.specs.MergeLaw.{AreChecked, ToldPart}
use Rattle.pip_certificates.proofs.Certifying.{lines_merge}
use Rattle.pip_search.specs.Certificates.{IsClosedPart, IsReachedPart}
use Rattle.pip_search.proofs.Picking.{at_map}
use Rattle.pip_switch.proofs.Standing.{boot_stands}
use Rattle.pip_certificates.specs.CertificateLaw.{AreParts, CertificatesSay}
use Rattle.pip_certificates.specs.PartAbout.{words_with}
use Rattle.pip_certificates.specs.PartDues.{IsPartBooted, image_moment, part_model, part_scope}
use Rattle.pip_certificates.specs.declared.reading.BaseWord.{BaseWord}
use Rattle.pip_certificates.proofs.PlainLines.{texts_back}

pub length-words_with : (m : Memory) (base : List BaseWord) → length (words_with m base) ≡ length m
length-words_with m [] = refl
length-words_with m (b ∷ bs) = length-words_with (put_word m b.frame b.index b.word) bs
    ∙ length-put_word m b.frame b.index b.word

idle_count : (n : ℕ) → length (idle_cpus n) ≡ n
idle_count zero = refl
idle_count (suc n) = rw (idle_count n)

boot_count : (c : ℕ) → length (boot_cpus c) ≡ c
boot_count zero = refl
boot_count (suc c) = rw (idle_count c)

module _ (i : Image) (from : ℕ) (base : List BaseWord) (first : Memory) (least : 1 ≤ i.cpus) (most : i.cpus ≤ 4)
    (booted : IsBooted i.frames (image_word i.frames i.pages) first) where
  abbrev start : List ℕ
  start = key_words (words_with first base) 0 (boot_cpus i.cpus) first

  -- the key of the first moment
  starts : IsKeyOf (words_with first base) (part_scope i from) start (image_moment i)
  starts = record {
    memory = first;
    stands = boot_stands first (boot_cpus i.cpus) i.cpus least most refl i.frames (image_word i.frames i.pages) booted;
    frames = sym (length-words_with first base);
    cpus = boot_count i.cpus;
    whole = refl;
  }

  -- frames that have booted so are the same
  same : (ts : List ToldPart) → AreParts i from base ts → (j : ℕ) (t : ToldPart) → slice_get ts j ≡ Some t
      → IsPartBooted i from base t first
  same ts are j t at =
      let p = are j t at in
      rw (← one_memory _ _ p.0 first (record { frames = refl; word = λ f i fi ii. refl }) p.1.laid booted.laid) p.2

  checked : (ts : List ToldPart) → AreParts i from base ts
      → AreChecked (part_model i from (words_with first base)) (image_moment i) start ts
  checked ts are = record {
    closed = λ j p at. let t = at_map (λ t. t.portion) ts j p at in
        subst (IsClosedPart (part_model i from (words_with first base))) t.1.1 (same ts are j t.0 t.1.0).closed;
    reached = λ j p at. let t = at_map (λ t. t.portion) ts j p at in
        subst (IsReachedPart (part_model i from (words_with first base)) (image_moment i)) t.1.1
        (same ts are j t.0 t.1.0).reached;
    begin = λ j t at. (same ts are j t at).begins start starts;
    small = λ j t at. (same ts are j t at).small;
  }

pub certificates_say : CertificatesSay
certificates_say i from base first ts text g least most booted are shuffled run whole =
    lines_merge (part_model i from (words_with first base)) (one_key (words_with first base) (part_scope i from))
    (start i from base first least most booted) (image_moment i) ts (lines_of text) g
    (starts i from base first least most booted) (checked i from base first least most booted ts are)
    (rw (← texts_back i from base ts are) shuffled) run whole
