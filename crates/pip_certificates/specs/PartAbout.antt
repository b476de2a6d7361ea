-- What a part is of: the numbers of its image, and a sum over what it compares keys with.
use Rattle.std.specs.Prelude.{ℕ, ◌*◌, ◌/◌, ◌%◌, ◌^◌, List, [], ◌∷◌, ◌++◌, bit_xor, codes, decimal, length}
use Rattle.pip_base.specs.Memory.{Memory, put_word}
use Rattle.pip_command_contracts.specs.Planned.{lines_planned}
use Rattle.pip_model.specs.Images.{Image}
use Rattle.pip_model.specs.Text.{word_digits}
use Rattle.pip_certificates.specs.declared.reading.BaseWord.{BaseWord}

-- frames with these words in place of their own
abbrev pub words_with : Memory → List BaseWord → Memory
words_with m [] = m
words_with m (b ∷ bs) = words_with (put_word m b.frame b.index b.word) bs

-- a sum and one number more
abbrev pub sum_with : ℕ → ℕ → ℕ
sum_with sum n = bit_xor sum n * 0x100000001b3 % 2 ^ 64

-- a sum and more numbers
abbrev pub summed : ℕ → List ℕ → ℕ
summed sum [] = sum
summed sum (n ∷ ns) = summed (sum_with sum n) ns

-- a sum and the words of frames
abbrev pub frames_summed : ℕ → Memory → ℕ
frames_summed sum [] = sum
frames_summed sum (ws ∷ m) = frames_summed (summed sum ws) m

-- the sum over the lines that can be raised, the words of frames, and those that keys are compared with
abbrev pub part_sum : List ℕ → Memory → Memory → ℕ
part_sum lines first words = frames_summed (frames_summed (summed 0xcbf29ce484222325 lines) first) words

-- its sixteen hexadecimal digits
abbrev pub sum_digits : ℕ → List ℕ
sum_digits sum = word_digits (sum / 2 ^ 32) ++ word_digits (sum % 2 ^ 32)

-- a number after a space
abbrev pub after_space : ℕ → List ℕ
after_space n = codes " " ++ decimal n

-- the numbers of frames, processors, plans and pages, from how many turns on lines come, and the sum
abbrev pub about_numbers : ℕ → ℕ → ℕ → ℕ → ℕ → ℕ → List ℕ
about_numbers frames cpus plans pages from sum = decimal frames ++ after_space cpus ++ after_space plans
    ++ after_space pages ++ after_space from ++ codes " " ++ sum_digits sum

-- what a part of an image is of, whose frames have booted so, and whose keys are compared with these words
abbrev pub about_part : Image → ℕ → Memory → Memory → List ℕ
about_part i from first words = about_numbers i.frames i.cpus (length i.plans) (length i.pages) from
    (part_sum (lines_planned i.plans) first words)
