-- What is due of each command of the lab, and of words of no form.
use Rattle.std.specs.Prelude.{ℕ, Option, Some, None}
use Rattle.arrayvec.specs.ArrayVec.{ArrayVec}
use Rattle.pip_certificates.specs.MergeDues.{merge_due}
use Rattle.pip_certificates.specs.PartDues.{part_due}
use Rattle.pip_children.specs.Dues.{children_due}
use Rattle.pip_command_contracts.specs.EndsBy.{Due}
use Rattle.pip_model.specs.Text.{line_text}
use Rattle.pip_search_commands.specs.SearchDues.{against_due, apart_due, every_due}
use Rattle.pip_slots.specs.Images.{slots_text, slots_world}
use Rattle.pip_slots.specs.declared.time_slot.RoundSlot.{RoundSlot}
use Rattle.pip_command_contracts.specs.Usage.{unknown_due}
use Rattle.pip_lab_commands.specs.Words.{lab_usage}
use Rattle.pip_lab_commands.specs.declared.words.LabCommand.{LabCommand}
use Rattle.pip_lab_commands.specs.declared.words.LabCommand.TheVariants as C

-- `slots`: n children of an image have the slots of a round, in this many rounds
abbrev pub slots_due : ℕ → ℕ → ArrayVec RoundSlot → Due
slots_due n rounds round =
    children_due (λ i. slots_text i n round.items rounds) (λ i. slots_world i n round.items rounds) n

-- what is due of the words of the command line
abbrev pub lab_due_of : Option LabCommand → Due
lab_due_of None = unknown_due (line_text lab_usage)
lab_due_of (Some (C.Slots n rounds round)) = slots_due n rounds round
lab_due_of (Some (C.Every states from depth start)) = every_due states from depth start
lab_due_of (Some (C.Against states from depth start)) = against_due states from depth start
lab_due_of (Some (C.Apart states count seed)) = apart_due states count seed
lab_due_of (Some (C.Part from)) = part_due from
lab_due_of (Some C.Merge) = merge_due
