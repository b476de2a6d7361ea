-- What a directory's word is the word of.
use Rattle.std.proofs.Common.{◌≡◌, ◌≢◌, ℕ, ◌<◌, ◌^◌, ◌/◌, ◌%◌, arith, inl, inr, refl}
use Rattle.std.proofs.lemmas.Bool.{cases_eq}
use Rattle.pip_base.specs.Memory.{Memory, put_word, word_at}
use Rattle.pip_base.specs.Words.{directory_word}
use Rattle.pip_entry.specs.DirWord.{packed_dir, IsDirWord}
use Rattle.pip_entry.specs.declared.dir_word.DirWord.{DirWord}
use Rattle.pip_entry.specs.declared.dir_word.DirWord.TheVariants.{Empty, Table}
use Rattle.pip_table.specs.Table.{table_frame}

-- a word that is 0 or that of a frame is an entry's
pub entry_of : (w x : ℕ) → w < 2 ^ 32 → w ≡ x → (x ≢ 0 → x ≡ directory_word (x / 4096))
    → (d : DirWord) × IsDirWord d × (packed_dir d ≡ w)
entry_of w x small same form =
    elim (cases_eq x 0) [
      | inl is ↦ let none : 0 ≡ w = omega arith in (Empty, tt, none)
      | inr is_not ↦
          let packed : x ≡ directory_word (x / 4096) = form is_not in
          (Table (x / 4096), omega arith, omega arith)
    ]

-- a write into the table that an entry names
pub put_word-entry : (m : Memory) (top v k f w : ℕ) → k ≡ v → directory_word f ≡ word_at m top (k / 1024)
    → put_word m f (k % 1024) w ≡ put_word m (table_frame m top (v / 1024)) (v % 1024) w
put_word-entry m top v k f w same entry = let frame : word_at m top (k / 1024) / 4096 ≡ f = omega arith in
    rw (← same, frame) refl
