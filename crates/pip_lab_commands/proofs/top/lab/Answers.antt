use Rattle.std.proofs.Common.{map, string_bytes}
use Rattle.pip_command_contracts.proofs.Asked.{paced_as_asked, within_as_asked}
use Rattle.pip_lab_commands.specs.Dues.{lab_due_of}
use Rattle.pip_lab_commands.proofs.Bounds.{IsWithin, command_within}
use Rattle.pip_lab_commands.proofs.top.lab.Goals as goal

pub slots-requires-clause-least : goal.slots-requires-clause-least
slots-requires-clause-least g c =
    (within_as_asked _ _ _ _ c.read_words.ensures
    c.in-Some-Slots.is c.in-Some-Slots.field-0-is IsWithin (command_within (map string_bytes c.args.words.now))).0

pub slots-requires-clause-most : goal.slots-requires-clause-most
slots-requires-clause-most g c =
    (within_as_asked _ _ _ _ c.read_words.ensures
    c.in-Some-Slots.is c.in-Some-Slots.field-0-is IsWithin (command_within (map string_bytes c.args.words.now))).1

pub slots-requires-clause-steps : goal.slots-requires-clause-steps
slots-requires-clause-steps g c =
    (within_as_asked _ _ _ _ c.read_words.ensures
    c.in-Some-Slots.is c.in-Some-Slots.field-0-is IsWithin (command_within (map string_bytes c.args.words.now))).2

pub slots-requires-clause-children : goal.slots-requires-clause-children
slots-requires-clause-children g c =
    (within_as_asked _ _ _ _ c.read_words.ensures
    c.in-Some-Slots.is c.in-Some-Slots.field-0-is IsWithin (command_within (map string_bytes c.args.words.now))).3

pub slots-requires-clause-paced : goal.slots-requires-clause-paced
slots-requires-clause-paced g c =
    paced_as_asked _ _ _ _ c.read_words.ensures
    c.in-Some-Slots.is c.in-Some-Slots.field-0-is lab_due_of _ _ _ c.requires.paced

pub every-requires-clause-some : goal.every-requires-clause-some
every-requires-clause-some g c =
    (within_as_asked _ _ _ _ c.read_words.ensures
    c.in-Some-Every.is c.in-Some-Every.field-0-is IsWithin (command_within (map string_bytes c.args.words.now))).0

pub every-requires-clause-seed : goal.every-requires-clause-seed
every-requires-clause-seed g c =
    (within_as_asked _ _ _ _ c.read_words.ensures
    c.in-Some-Every.is c.in-Some-Every.field-0-is IsWithin (command_within (map string_bytes c.args.words.now))).1

pub every-requires-clause-paced : goal.every-requires-clause-paced
every-requires-clause-paced g c =
    paced_as_asked _ _ _ _ c.read_words.ensures
    c.in-Some-Every.is c.in-Some-Every.field-0-is lab_due_of _ _ _ c.requires.paced

pub against-requires-clause-some : goal.against-requires-clause-some
against-requires-clause-some g c =
    (within_as_asked _ _ _ _ c.read_words.ensures
    c.in-Some-Against.is c.in-Some-Against.field-0-is IsWithin (command_within (map string_bytes c.args.words.now))).0

pub against-requires-clause-seed : goal.against-requires-clause-seed
against-requires-clause-seed g c =
    (within_as_asked _ _ _ _ c.read_words.ensures
    c.in-Some-Against.is c.in-Some-Against.field-0-is IsWithin (command_within (map string_bytes c.args.words.now))).1

pub against-requires-clause-paced : goal.against-requires-clause-paced
against-requires-clause-paced g c =
    paced_as_asked _ _ _ _ c.read_words.ensures
    c.in-Some-Against.is c.in-Some-Against.field-0-is lab_due_of _ _ _ c.requires.paced

pub apart-requires-clause-some : goal.apart-requires-clause-some
apart-requires-clause-some g c =
    (within_as_asked _ _ _ _ c.read_words.ensures
    c.in-Some-Apart.is c.in-Some-Apart.field-0-is IsWithin (command_within (map string_bytes c.args.words.now))).0

pub apart-requires-clause-seed : goal.apart-requires-clause-seed
apart-requires-clause-seed g c =
    (within_as_asked _ _ _ _ c.read_words.ensures
    c.in-Some-Apart.is c.in-Some-Apart.field-0-is IsWithin (command_within (map string_bytes c.args.words.now))).1

pub apart-requires-clause-paced : goal.apart-requires-clause-paced
apart-requires-clause-paced g c =
    paced_as_asked _ _ _ _ c.read_words.ensures
    c.in-Some-Apart.is c.in-Some-Apart.field-0-is lab_due_of _ _ _ c.requires.paced

pub part-requires : goal.part-requires
part-requires g c = record {
  paced = paced_as_asked _ _ _ _ c.read_words.ensures
      c.in-Some-Part.is c.in-Some-Part.field-0-is lab_due_of _ _ _ c.requires.paced;
}

pub merge-requires : goal.merge-requires
merge-requires g c = record {
  paced = paced_as_asked _ _ _ _ c.read_words.ensures
      c.in-Some-Merge.is c.in-Some-Merge.field-0-is lab_due_of _ _ _ c.requires.paced;
}

pub returns-in-None : goal.returns-in-None
returns-in-None g c = record { ends = rw (← c.read_words.ensures, c.in-None.is) c.show_usage.ensures.ends }
