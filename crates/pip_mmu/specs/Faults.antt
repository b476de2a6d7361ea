-- Faults of the code and faults of the model.
use Rattle.pip_model.specs.Reach.{Fault, Alignment, Unmapped, Hidden, Right}
use Rattle.pip_mmu.specs.declared.faults.AccessFault.{AccessFault}
use Rattle.pip_mmu.specs.declared.faults.AccessFault.TheVariants as A
use Rattle.pip_mmu.specs.declared.faults.MmuFault.{MmuFault}
use Rattle.pip_mmu.specs.declared.faults.MmuFault.TheVariants as M

-- the model's fault for a fault of a translation
abbrev pub translation_fault : MmuFault → Fault
translation_fault M.Unmapped = Unmapped
translation_fault M.Hidden = Hidden
translation_fault M.Right = Right

-- the model's fault for each fault of an access
abbrev pub model_fault : AccessFault → Fault
model_fault A.Alignment = Alignment
model_fault (A.Mmu f) = translation_fault f

-- the fault in the code's words
abbrev pub access_fault : Fault → AccessFault
access_fault Alignment = A.Alignment
access_fault Unmapped = A.Mmu M.Unmapped
access_fault Hidden = A.Mmu M.Hidden
access_fault Right = A.Mmu M.Right
