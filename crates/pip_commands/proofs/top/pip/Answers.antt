use Rattle.std.proofs.Common.{map, string_bytes}
use Rattle.pip_command_contracts.proofs.Asked.{paced_as_asked, within_as_asked}
use Rattle.pip_commands.specs.Dues.{due_of}
use Rattle.pip_commands.proofs.Bounds.{IsWithin, command_within}
use Rattle.pip_commands.proofs.top.pip.Goals as goal

pub run-requires-clause-seed : goal.run-requires-clause-seed
run-requires-clause-seed g c =
    within_as_asked _ _ _ _ c.read_words.ensures
    c.in-Some-Run.is c.in-Some-Run.field-0-is IsWithin (command_within (map string_bytes c.args.words.now))

pub tree-requires-clause-seed : goal.tree-requires-clause-seed
tree-requires-clause-seed g c =
    within_as_asked _ _ _ _ c.read_words.ensures
    c.in-Some-Tree.is c.in-Some-Tree.field-0-is IsWithin (command_within (map string_bytes c.args.words.now))

pub core_dump-requires-clause-seed : goal.core_dump-requires-clause-seed
core_dump-requires-clause-seed g c =
    within_as_asked _ _ _ _ c.read_words.ensures
    c.in-Some-Core.is c.in-Some-Core.field-0-is IsWithin (command_within (map string_bytes c.args.words.now))

pub soak-requires-clause-count : goal.soak-requires-clause-count
soak-requires-clause-count g c =
    (within_as_asked _ _ _ _ c.read_words.ensures
    c.in-Some-Soak.is c.in-Some-Soak.field-0-is IsWithin (command_within (map string_bytes c.args.words.now))).0

pub soak-requires-clause-seed : goal.soak-requires-clause-seed
soak-requires-clause-seed g c =
    (within_as_asked _ _ _ _ c.read_words.ensures
    c.in-Some-Soak.is c.in-Some-Soak.field-0-is IsWithin (command_within (map string_bytes c.args.words.now))).1

pub native-requires-clause-least : goal.native-requires-clause-least
native-requires-clause-least g c =
    (within_as_asked _ _ _ _ c.read_words.ensures
    c.in-Some-Native.is c.in-Some-Native.field-0-is IsWithin (command_within (map string_bytes c.args.words.now))).0

pub native-requires-clause-most : goal.native-requires-clause-most
native-requires-clause-most g c =
    (within_as_asked _ _ _ _ c.read_words.ensures
    c.in-Some-Native.is c.in-Some-Native.field-0-is IsWithin (command_within (map string_bytes c.args.words.now))).1

pub audit-requires-clause-least : goal.audit-requires-clause-least
audit-requires-clause-least g c =
    (within_as_asked _ _ _ _ c.read_words.ensures
    c.in-Some-Audit.is c.in-Some-Audit.field-0-is IsWithin (command_within (map string_bytes c.args.words.now))).0

pub audit-requires-clause-most : goal.audit-requires-clause-most
audit-requires-clause-most g c =
    (within_as_asked _ _ _ _ c.read_words.ensures
    c.in-Some-Audit.is c.in-Some-Audit.field-0-is IsWithin (command_within (map string_bytes c.args.words.now))).1

pub script-requires : goal.script-requires
script-requires g c = record {
  paced = paced_as_asked _ _ _ _ c.read_words.ensures
      c.in-Some-Script.is c.in-Some-Script.field-0-is due_of _ _ _ c.requires.paced;
}

pub asm-requires : goal.asm-requires
asm-requires g c = record {
  paced = paced_as_asked _ _ _ _ c.read_words.ensures
      c.in-Some-Assemble.is c.in-Some-Assemble.field-0-is due_of _ _ _ c.requires.paced;
}

pub dis-requires : goal.dis-requires
dis-requires g c = record {
  paced = paced_as_asked _ _ _ _ c.read_words.ensures
      c.in-Some-Disassemble.is c.in-Some-Disassemble.field-0-is due_of _ _ _ c.requires.paced;
}

pub run-requires-clause-paced : goal.run-requires-clause-paced
run-requires-clause-paced g c =
    paced_as_asked _ _ _ _ c.read_words.ensures
    c.in-Some-Run.is c.in-Some-Run.field-0-is due_of _ _ _ c.requires.paced

pub tree-requires-clause-paced : goal.tree-requires-clause-paced
tree-requires-clause-paced g c =
    paced_as_asked _ _ _ _ c.read_words.ensures
    c.in-Some-Tree.is c.in-Some-Tree.field-0-is due_of _ _ _ c.requires.paced

pub core_dump-requires-clause-paced : goal.core_dump-requires-clause-paced
core_dump-requires-clause-paced g c =
    paced_as_asked _ _ _ _ c.read_words.ensures
    c.in-Some-Core.is c.in-Some-Core.field-0-is due_of _ _ _ c.requires.paced

pub native-requires-clause-paced : goal.native-requires-clause-paced
native-requires-clause-paced g c =
    paced_as_asked _ _ _ _ c.read_words.ensures
    c.in-Some-Native.is c.in-Some-Native.field-0-is due_of _ _ _ c.requires.paced

pub audit-requires-clause-paced : goal.audit-requires-clause-paced
audit-requires-clause-paced g c =
    paced_as_asked _ _ _ _ c.read_words.ensures
    c.in-Some-Audit.is c.in-Some-Audit.field-0-is due_of _ _ _ c.requires.paced

pub returns-in-None : goal.returns-in-None
returns-in-None g c = record { ends = rw (← c.read_words.ensures, c.in-None.is) c.show_usage.ensures.ends }
