use Rattle.pip_search_commands.proofs.MenuLines.{label_short}
use Rattle.pip_search_commands.proofs.commands.against.menu.add_line.Goals as goal

pub add_label-requires : goal.add_label-requires
add_label-requires c =
    label_short c.args.line.now c.split_word.result.0.now c.split_word.result.1.now c.in-Some-read_label.label.now
    c.in-Some.question c.requires c.split_word.ensures.word c.split_word.ensures.rest c.in-Some.ensures
    c.in-Some-read_label.ensures
