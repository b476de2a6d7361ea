-- Two images of one plan of lines, in which only the first child differs: it loops in the one, and has no instruction
-- in the other. Line 0 is raised at step 4. It takes the processor from the first child in the one, and in the other
-- from the second, which then loads another word from its own block.
use Rattle.std.proofs.Common.{◌≡◌, ℕ, zero, suc, Bool, true, false, cond, List, [], ◌∷◌, Option, None}
use Rattle.std.proofs.Common.{Some, refl, arith}
use Rattle.std.specs.Prelude.{map, negsuc, slice_get, slice_index_or}
use Rattle.std.specs.List.{AllByRecursion}
use Rattle.pip_base.specs.declared.outcome.Outcome.{Outcome}
use Rattle.pip_base.specs.declared.outcome.Outcome.TheVariants as O
use Rattle.pip_model.specs.Boot.{frame_of_root}
use Rattle.pip_model.specs.Images.{Image, Page, image_word, is_frame}
use Rattle.pip_model.specs.InstrWords.{instruction_word}
use Rattle.pip_model.specs.Run.{image_world}
use Rattle.pip_model.specs.Sound.{ArePageWords, IsWord}
use Rattle.pip_model.specs.declared.instr.Instr.{Instr}
use Rattle.pip_model.specs.declared.instr.Instr.TheVariants as I
use Rattle.pip_native.specs.Watching.{ready_world}
use Rattle.pip_slots.specs.Images.{AgreeOnChild, HasRooms}
use Rattle.pip_slots.specs.Limits.{NativeIsNotSeparate, native_learns}
use Rattle.pip_slots.specs.Slots.{IsRootsChild}

-- ---- words of pages

word_small : (ws : List ℕ) (i : ℕ) → AllByRecursion IsWord ws → IsWord (slice_index_or ws i 0)
word_small [] i h = omega arith
word_small (w ∷ ws) zero h = h.0
word_small (w ∷ ws) (suc i) h = word_small ws i h.1

words_small : (n : ℕ) (ps : List Page) → AllByRecursion (λ p. AllByRecursion IsWord p.words) ps
    → ArePageWords (image_word n ps)
words_small n [] h g i low = omega arith
words_small n (p ∷ ps) h g i low = go (words_small n ps h.1 g i low) (is_frame g (frame_of_root n p.vpage))
  where
    go : IsWord (image_word n ps g i) → (b : Bool) → IsWord (cond b (slice_index_or p.words i 0) (image_word n ps g i))
    go rest true = word_small p.words i h.0
    go rest false = rest

-- ---- the images

-- the second child shows the first word of its block for 63, where it is saved: it is the address of an instruction
abbrev shows : List Instr
shows = I.Li 1 0 ∷ I.LoadWord 5 0 (negsuc 0xbff) ∷ I.Out 5 ∷ I.BranchEqual 0 0 (negsuc 0) ∷ []

abbrev page : ℕ → List Instr → Page
page v program = record { vpage = v; words = map instruction_word program }

-- with that program of the first child
abbrev beside : List Instr → Image
beside program = record {
  frames = 39;
  cpus = 1;
  plans = record { line = 0; first = 4; period = 0 } ∷ [];
  pages = page 0x400 program ∷ page 0x401 shows ∷ [];
}

abbrev beside_a_loop : Image
beside_a_loop = beside (I.BranchEqual 0 0 (negsuc 0) ∷ [])

abbrev beside_a_fault : Image
beside_a_fault = beside []

shows_words : AllByRecursion IsWord (map instruction_word shows)
shows_words = (omega arith, (omega arith, (omega arith, (omega arith, tt))))

loop_rooms : HasRooms 2 beside_a_loop
loop_rooms = record {
  most = omega arith;
  room = omega arith;
  frames_least = omega arith;
  frames_most = omega arith;
  cpus_least = omega arith;
  cpus_most = omega arith;
  words = words_small 39 beside_a_loop.pages ((omega arith, tt), (shows_words, tt));
}

fault_rooms : HasRooms 2 beside_a_fault
fault_rooms = record {
  most = omega arith;
  room = omega arith;
  frames_least = omega arith;
  frames_most = omega arith;
  cpus_least = omega arith;
  cpus_most = omega arith;
  words = words_small 39 beside_a_fault.pages (tt, (shows_words, tt));
}

some_same : (x y : ℕ) → Some x ≡ Some y → x ≡ y
some_same x y e = cc

-- both have the second child's two pages, of frames 13 and 37
agree : AgreeOnChild 2 1 beside_a_loop beside_a_fault
agree = record {
  frames = refl;
  cpus = refl;
  program = λ g i e l. rw (← some_same 13 g e) refl;
  handlers = λ g i e l. rw (← some_same 37 g e) refl;
}

child : IsRootsChild (ready_world (image_world beside_a_loop) 2) 0x40e000 26
child = record { node = _; child = refl; name = refl }

-- the second child's fourth event is its load: it finds its beginning, and the instruction where it was interrupted
abbrev found : ℕ → Option Outcome
found x = Some (O.Word x)

loop_found : slice_get (native_learns beside_a_loop 2 26 10) 3 ≡ Some (found 0x400000)
loop_found = refl

fault_found : slice_get (native_learns beside_a_fault 2 26 10) 3 ≡ Some (found 0x400004)
fault_found = refl

abbrev word_in : Option Outcome → ℕ
word_in None = 0
word_in (Some (O.Word x)) = x
word_in (Some _) = 0

pub native_is_not_separate : NativeIsNotSeparate
native_is_not_separate law =
    let same : found 0x400000 ≡ found 0x400004 =
    law beside_a_loop beside_a_fault 2 1 26 10 3 (found 0x400000) (found 0x400004) (omega arith) loop_rooms fault_rooms
    agree refl child loop_found fault_found in
    let words : ◌≡◌ {A = ℕ} 0x400000 0x400004 = cc in
    omega arith
