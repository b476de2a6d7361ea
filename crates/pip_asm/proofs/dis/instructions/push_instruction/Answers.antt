use Rattle.std.proofs.Common.{◌/◌}
use Rattle.pip_isa.specs.Table.{opcode_row_seen}
use Rattle.pip_asm.proofs.RowTexts.{name_fits, none_appended, row_appended}
use Rattle.pip_asm.proofs.dis.instructions.push_instruction.Goals as goal

pub push_mnemonic-requires-clause-name : goal.push_mnemonic-requires-clause-name
push_mnemonic-requires-clause-name c =
    name_fits (c.args.word / 16777216) (opcode_row_seen c.in-Some.row) c.in-Some.ensures.same

pub returns-in-None-clause-bytes : goal.returns-in-None-clause-bytes
returns-in-None-clause-bytes c = none_appended c.args.word c.args.text.now.bytes c.in-None.ensures.same

pub returns-in-Some-clause-bytes : goal.returns-in-Some-clause-bytes
returns-in-Some-clause-bytes c =
    row_appended c.args.word (opcode_row_seen c.in-Some.row) c.args.text.now.bytes c.push_mnemonic.new.text.bytes
    c.push_operands.new.text.bytes c.in-Some.ensures.same c.push_mnemonic.ensures.bytes c.push_operands.ensures.bytes
