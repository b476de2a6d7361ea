-- Words that are written into frames one after another, and sums over frames.
use Rattle.std.proofs.Common.{◌≡◌, ℕ, ◌+◌, ◌<◌, ◌≤◌, List, [], drop, length, get_or}
use Rattle.std.proofs.lemmas.List.{drop_all, drop_more}
use Rattle.pip_base.specs.Memory.{Memory, frame_at, put_word}
use Rattle.pip_certificates.specs.BaseWords.{AreBaseWords}
use Rattle.pip_certificates.specs.PartAbout.{frames_summed, summed, words_with}
use Rattle.pip_certificates.specs.declared.reading.BaseWord.{BaseWord}

module _ (base : List BaseWord) (i : ℕ) (w : BaseWord) (low : i < length base) where
  pub put_next : (m : Memory) → words_with m (drop i base) ≡ words_with (put_word m (get_or base i w).frame
      (get_or base i w).index (get_or base i w).word) (drop (i + 1) base)
  put_next m = rw (drop_more base i w low)

  pub base_next : (n : ℕ) → AreBaseWords n (drop i base)
      → (((get_or base i w).frame < n) × ((get_or base i w).index < 1024)) × AreBaseWords n (drop (i + 1) base)
  base_next n are = rw (drop_more base i w low) at are

-- a frame more is in a sum
pub sum_next : (m : Memory) (f sum : ℕ) → f < length m
    → frames_summed sum (drop f m) ≡ frames_summed (summed sum (frame_at m f)) (drop (f + 1) m)
unfolding frame_at
sum_next m f sum low = rw (drop_more m f [] low)

pub sum_all : (m : Memory) (f sum : ℕ) → length m ≤ f → frames_summed sum (drop f m) ≡ sum
sum_all m f sum most = rw (drop_all f m most)
