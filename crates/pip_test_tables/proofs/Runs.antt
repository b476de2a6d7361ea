-- Worked rows of runs, computed from the definitions.
use Rattle.std.specs.Prelude.{◌≡◌, refl, codes, map, List, [], ◌∷◌, ◌++◌, replicate, ℕ, pos, negsuc, Result, Ok, Err}
use Rattle.std.specs.Fmt.{digits}
use Rattle.pip_base.specs.declared.types.Plan.{Plan}
use Rattle.pip_model.specs.Generator.{next_state, state_after}
use Rattle.pip_model.specs.Images.{Image, Page, image, words_in, frames_at, cpus_at, plans_at, pages_at, fields_of}
use Rattle.pip_model.specs.Images.{plan_at, front_page}
use Rattle.pip_model.specs.InstrWords.{instruction_word}
use Rattle.pip_model.specs.Run.{run_text, run_world, schedule}
use Rattle.pip_model.specs.declared.image.ImageError.{ImageError}
use Rattle.pip_model.specs.declared.instr.Instr.{Instr}
use Rattle.pip_model.specs.declared.instr.Instr.TheVariants as I

row_generator : map (state_after 1) (1 ∷ 2 ∷ 3 ∷ []) ≡ 270369 ∷ 67634689 ∷ 2647435461 ∷ []
unfolding next_state
row_generator = refl

row_schedule : map (schedule 1 2) (0 ∷ 1 ∷ 2 ∷ 3 ∷ 4 ∷ 5 ∷ []) ≡ 1 ∷ 1 ∷ 1 ∷ 1 ∷ 1 ∷ 0 ∷ []
unfolding next_state
row_schedule = refl

-- ---- an image of one processor with a program at 0x400000

abbrev image_with : List Plan → List Page → List Instr → Image
image_with plans pages program = record {
  frames = 16;
  cpus = 1;
  plans = plans;
  pages = record { vpage = 0x400; words = map instruction_word program } ∷ pages;
}

abbrev plain : List Instr → Image
plain program = image_with [] [] program

-- a word is shown, a call is refused; a trap parks the root, and nothing runs from then on
abbrev shows : List Instr
shows = I.Li 1 7 ∷ I.Out 1 ∷ I.Sys 12 ∷ I.Interrupt 64 ∷ []

row_plain : run_text (plain shows) 6 1
    ≡ codes "image 16 1 0 1\n1 0 out 0x00000007\n2 0 call 12 reply 1 0x00000000\n3 0 park 1 64\nend 6\n"
unfolding next_state digits
row_plain = refl

-- what traps, each at step 1 or 2: the divisor 0, the word 0, a load of an odd address, a load, a store and a fetch at
-- 0
row_division : run_text (plain (I.Li 1 7 ∷ I.Div 1 1 2 ∷ [])) 3 1 ≡ codes "image 16 1 0 1\n1 0 park 1 0\nend 3\n"
unfolding next_state digits
row_division = refl

row_no_instruction : run_text (plain (I.Li 1 7 ∷ [])) 3 1 ≡ codes "image 16 1 0 1\n1 0 park 1 6\nend 3\n"
unfolding next_state digits
row_no_instruction = refl

row_odd : run_text (plain (I.LiHigh 1 0x40 ∷ I.LoadWord 2 1 (pos 1) ∷ [])) 3 1
    ≡ codes "image 16 1 0 1\n1 0 park 1 17\nend 3\n"
unfolding next_state digits
row_odd = refl

row_load_unmapped : run_text (plain (I.LoadByte 2 1 (pos 0) ∷ [])) 2 1 ≡ codes "image 16 1 0 1\n0 0 park 1 14\nend 2\n"
unfolding next_state digits
row_load_unmapped = refl

row_store_unmapped : run_text (plain (I.StoreByte 2 1 (pos 1) ∷ [])) 2 1
    ≡ codes "image 16 1 0 1\n0 0 park 1 14\nend 2\n"
unfolding next_state digits
row_store_unmapped = refl

row_fetch_unmapped : run_text (plain (I.Jump 1 ∷ [])) 3 1 ≡ codes "image 16 1 0 1\n1 0 park 1 14\nend 3\n"
unfolding next_state digits
row_fetch_unmapped = refl

-- a byte of r2 is stored over the second byte of a word, and the word is loaded
abbrev stores : List Instr
stores = I.LiHigh 1 0x40 ∷ I.Li 2 0x1ff ∷ I.StoreByte 2 1 (pos 0x101) ∷ I.LoadWord 3 1 (pos 0x100) ∷ I.Out 3
    ∷ I.LoadByte 4 1 (pos 0x101) ∷ I.Out 4 ∷ []

row_stores : run_text (plain stores) 7 1 ≡ codes "image 16 1 0 1\n4 0 out 0x0000ff00\n6 0 out 0x000000ff\nend 7\n"
unfolding next_state digits
row_stores = refl

-- a loop that shows 2 and 1
abbrev counts : List Instr
counts = I.Li 1 2 ∷ I.Out 1 ∷ I.AddImmediate 1 1 (negsuc 0) ∷ I.BranchUnequal 1 0 (negsuc 2)
    ∷ I.JumpAndLink 0 (negsuc 0) ∷ []

row_counts : run_text (plain counts) 9 1 ≡ codes "image 16 1 0 1\n1 0 out 0x00000002\n4 0 out 0x00000001\nend 9\n"
unfolding next_state digits
row_counts = refl

-- ---- plans

-- the line stays pending, since the root has no handler
abbrev every_three : List Plan
every_three = record { line = 0; first = 2; period = 3 } ∷ []

row_pending : run_text (image_with (record { line = 0; first = 2; period = 0 } ∷ []) [] shows) 6 1
    ≡ codes "image 16 1 1 1\n1 0 out 0x00000007\n2 0 call 12 reply 1 0x00000000\n3 0 park 1 64\nend 6\n"
unfolding next_state digits
row_pending = refl

row_pending_after : (run_world (image_with every_three [] shows) 8 1).tree.root.pending ≡ 0 ∷ []
unfolding next_state
row_pending_after = refl

-- the root handles vector 32 by a block at 0xfffff100, with the pc 0x400008, where it shows r0: it takes the line at
-- the step at which it is raised, and stays masked, so that the line of step 4 is left pending
abbrev handlers : Page
handlers = record {
  vpage = 0xfffff;
  words = replicate 32 0 ++ 0xfffff100 ∷ replicate 31 0 ++ 0x400008 ∷ replicate 15 0 ++ 0x400800 ∷ [];
}

abbrev waits : List Instr
waits = I.JumpAndLink 0 (negsuc 0) ∷ I.Out 1 ∷ I.Out 0 ∷ I.Out 15 ∷ I.JumpAndLink 0 (negsuc 0) ∷ []

row_taken : run_text (image_with (record { line = 0; first = 1; period = 3 } ∷ []) (handlers ∷ []) waits) 6 1
    ≡ codes "image 16 1 1 2\n1 0 switch 1 1 32\n2 0 out 0x00000020\n3 0 out 0x00400800\nend 6\n"
unfolding next_state digits
row_taken = refl

row_left_pending : (run_world (image_with (record { line = 0; first = 1; period = 3 } ∷ []) (handlers ∷ []) waits) 6
    1).tree.root.pending ≡ 0 ∷ []
unfolding next_state
row_left_pending = refl

-- two processors: nothing runs on processor 1, whose turns the first five are
abbrev two : Image
two = record (plain shows) { cpus = 2 }

row_two : run_text two 8 1 ≡ codes "image 16 2 0 1\n6 0 out 0x00000007\n7 0 call 12 reply 1 0x00000000\nend 8\n"
unfolding next_state digits
row_two = refl

-- ---- from the bytes of an image to the trace

abbrev bytes : List ℕ
bytes =
    0x50 ∷ 0x49 ∷ 0x50 ∷ 0x49 ∷ 0x4d ∷ 0x47 ∷ 0x32 ∷ 0x0a ∷ 16 ∷ 0 ∷ 0 ∷ 0 ∷ 1 ∷ 0 ∷ 0 ∷ 0 ∷ 1 ∷ 0 ∷ 0 ∷ 0 ∷ 1 ∷ 0 ∷ 0
    ∷ 0
    ∷ 0 ∷ 0 ∷ 0 ∷ 0 ∷ 2 ∷ 0 ∷ 0 ∷ 0 ∷ 0 ∷ 0 ∷ 0 ∷ 0 ∷ 0 ∷ 4 ∷ 0 ∷ 0
    ∷ 0x07 ∷ 0x00 ∷ 0x10 ∷ 0x02 ∷ 0x00 ∷ 0x00 ∷ 0x10 ∷ 0x22 ∷ 0x0c ∷ 0x00 ∷ 0x00 ∷ 0x20 ∷ 0x40 ∷ 0x00 ∷ 0x00 ∷ 0x21
    ∷ replicate 4080 0

abbrev text_by : Result Image ImageError → List ℕ
text_by (Ok i) = run_text i 6 1
text_by (Err e) = []

row_bytes : text_by (image bytes)
    ≡ codes "image 16 1 1 1\n1 0 out 0x00000007\n2 0 call 12 reply 1 0x00000000\n3 0 park 1 64\nend 6\n"
unfolding next_state digits words_in frames_at cpus_at plans_at pages_at fields_of plan_at front_page
row_bytes = refl
