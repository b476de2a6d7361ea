-- Worked images and assembly texts, computed from the definitions.
use Rattle.std.specs.Prelude.{◌≡◌, ◌+◌, refl, codes, Ok, Err, [], ◌∷◌, ◌++◌, replicate, take, drop, List, ℕ, Option}
use Rattle.std.specs.Prelude.{Some}
use Rattle.std.specs.Fmt.{digits}
use Rattle.pip_model.specs.Assembly.{assembly}
use Rattle.pip_model.specs.DisText.{dis_text}
use Rattle.pip_model.specs.Images.{image_parts, words_in, frames_at, cpus_at, plans_at, pages_at, fields_of, plan_at}
use Rattle.pip_model.specs.Images.{front_page}
use Rattle.pip_model.specs.declared.assembly.AsmKind.{AsmKind}
use Rattle.pip_model.specs.declared.assembly.AsmKind.TheVariants as K
use Rattle.pip_model.specs.declared.image.ImageError.{ImageError}
use Rattle.pip_model.specs.declared.image.ImageError.TheVariants as F

abbrev text_a : List ℕ
text_a = codes ".frames 16\n.cpus 1\n.line 0 2 0\n.page 0x00400000\nli r1 7\nout r1\nsys 12\nint 64\n"

-- the first bytes, and zeros
abbrev image_a : List ℕ
image_a =
    0x50 ∷ 0x49 ∷ 0x50 ∷ 0x49 ∷ 0x4d ∷ 0x47 ∷ 0x32 ∷ 0x0a ∷ 16 ∷ 0 ∷ 0 ∷ 0 ∷ 1 ∷ 0 ∷ 0 ∷ 0 ∷ 1 ∷ 0 ∷ 0 ∷ 0 ∷ 1 ∷ 0 ∷ 0
    ∷ 0
    ∷ 0 ∷ 0 ∷ 0 ∷ 0 ∷ 2 ∷ 0 ∷ 0 ∷ 0 ∷ 0 ∷ 0 ∷ 0 ∷ 0 ∷ 0 ∷ 4 ∷ 0 ∷ 0
    ∷ 0x07 ∷ 0x00 ∷ 0x10 ∷ 0x02 ∷ 0x00 ∷ 0x00 ∷ 0x10 ∷ 0x22 ∷ 0x0c ∷ 0x00 ∷ 0x00 ∷ 0x20 ∷ 0x40 ∷ 0x00 ∷ 0x00 ∷ 0x21
    ∷ replicate 4080 0

assembled : assembly text_a ≡ Ok image_a
assembled = refl

disassembled : dis_text image_a ≡ text_a
unfolding words_in frames_at cpus_at plans_at pages_at fields_of plan_at front_page digits
disassembled = refl

-- what was accepted before the fault is written
short_text : dis_text (take 4135 image_a) ≡ codes ".frames 16\n.cpus 1\n.line 0 2 0\n"
unfolding words_in frames_at cpus_at plans_at pages_at fields_of plan_at front_page digits
short_text = refl

-- ---- each fault of an image, by a change of this one

abbrev fault_of : List ℕ → Option ImageError
fault_of bs = (image_parts bs).fault

-- with other bytes at an offset
abbrev changed : ℕ → List ℕ → List ℕ
changed at bs = take at image_a ++ (bs ++ drop (at + 2) image_a)

magic_fault : fault_of (changed 0 (0x51 ∷ 0x49 ∷ [])) ≡ Some (F.Magic 0)
unfolding fields_of
magic_fault = refl

old_version : fault_of (changed 6 (0x31 ∷ 0x0a ∷ [])) ≡ Some (F.OldVersion 0)
unfolding fields_of
old_version = refl

frames_fault : fault_of (changed 8 (1 ∷ 16 ∷ [])) ≡ Some (F.Frames 8)
unfolding fields_of frames_at
frames_fault = refl

cpus_fault : fault_of (changed 12 (5 ∷ 0 ∷ [])) ≡ Some (F.Cpus 12)
unfolding fields_of frames_at cpus_at
cpus_fault = refl

plans_fault : fault_of (changed 16 (17 ∷ 0 ∷ [])) ≡ Some (F.Plan 16)
unfolding fields_of frames_at cpus_at plans_at
plans_fault = refl

pages_fault : fault_of (changed 20 (1 ∷ 16 ∷ [])) ≡ Some (F.Page 20)
unfolding fields_of frames_at cpus_at plans_at pages_at
pages_fault = refl

plan_fault : fault_of (changed 24 (16 ∷ 0 ∷ [])) ≡ Some (F.Plan 24)
unfolding fields_of frames_at cpus_at plans_at pages_at plan_at
plan_fault = refl

page_fault : fault_of (changed 36 (3 ∷ 4 ∷ [])) ≡ Some (F.Page 36)
unfolding fields_of frames_at cpus_at plans_at pages_at plan_at front_page
page_fault = refl

twice_fault : fault_of (changed 20 (2 ∷ 0 ∷ []) ++ drop 36 image_a) ≡ Some (F.Twice 4136)
unfolding words_in fields_of frames_at cpus_at plans_at pages_at plan_at front_page
twice_fault = refl

short_fault : fault_of (take 4135 image_a) ≡ Some (F.Short 4135)
unfolding words_in fields_of frames_at cpus_at plans_at pages_at plan_at front_page
short_fault = refl

short_vpage : fault_of (take 38 image_a) ≡ Some (F.Short 38)
unfolding fields_of frames_at cpus_at plans_at pages_at plan_at front_page
short_vpage = refl

short_magic : fault_of (take 7 image_a) ≡ Some (F.Short 7)
unfolding fields_of
short_magic = refl

long_fault : fault_of (image_a ++ 0 ∷ []) ≡ Some (F.Long 4136)
unfolding words_in fields_of frames_at cpus_at plans_at pages_at plan_at front_page
long_fault = refl

-- ---- faults of lines

abbrev is_bad : ℕ → AsmKind → List ℕ → Type 0
is_bad n k text = assembly text ≡ Err (record { line = n; kind = k })

-- a line in the first page
abbrev paged : List ℕ → List ℕ
paged line = codes ".frames 16\n.cpus 1\n.page 0x400000\n" ++ line

unknown_name : is_bad 4 K.Label (paged (codes "beq r1 r2 away\n"))
unknown_name = refl

unknown_mnemonic : is_bad 4 K.Unknown (paged (codes "jump r1"))
unknown_mnemonic = refl

empty_text : is_bad 1 K.Unknown []
empty_text = refl

header_alone : is_bad 2 K.Unknown (codes ".frames 16\n")
header_alone = refl

leading_space : is_bad 4 K.Unknown (paged (codes " out r1"))
leading_space = refl

trailing_space : is_bad 4 K.Operand (paged (codes "out r1 "))
trailing_space = refl

no_number : is_bad 4 K.Operand (paged (codes "li r1 4294967296"))
no_number = refl

beyond_the_field : is_bad 4 K.Range (paged (codes "li r1 65536"))
beyond_the_field = refl

minus_zero : is_bad 4 K.Operand (paged (codes "addi r1 r1 -0"))
minus_zero = refl

beyond_the_offset : is_bad 4 K.Range (paged (codes "addi r1 r1 -32769"))
beyond_the_offset = refl

register_before_number : is_bad 4 K.Operand (paged (codes "li r16 65536"))
register_before_number = refl

no_half : is_bad 4 K.Operand (paged (codes "andi r1 r1 <x"))
no_half = refl

name_twice : is_bad 5 K.Twice (paged (codes "x:\nx:"))
name_twice = refl

page_twice : is_bad 4 K.Twice (paged (codes ".page 4194304"))
page_twice = refl

no_page : is_bad 4 K.Range (paged (codes ".page 0"))
no_page = refl

page_too_full : is_bad 5 K.Size (paged (codes ".zero 1024\nout r1"))
page_too_full = refl

-- the first pass decides where it has a fault, also after a fault of the second
first_pass_first : is_bad 5 K.Operand (paged (codes ".word away\nout"))
first_pass_first = refl
