use Rattle.std.proofs.Common.{ap, sym, ◌≡◌, ◌∙◌, Ok, drop}
use Rattle.std.proofs.lemmas.List.{take_rest}
use Rattle.pip_asm.specs.Emitted.{fill_in}
use Rattle.pip_asm.specs.Names.{address_of_name}
use Rattle.pip_asm.proofs.Filling.{completed}
use Rattle.pip_asm.proofs.emit.complete.Goals as goal

pub returns : goal.returns
returns c =
    let b = c.args.bytes.now in
    let e : fill_in (address_of_name c.args.names.now) c.args.notes.now (drop c.args.head b) ≡ Ok c.fill.new.pages =
    rw (← take_rest b c.args.head, c.in_ok-fill.ensures) in
    completed b c.fill.new.pages c.put_word.new.bytes c.args.head c.args.pages
    (fill_in (address_of_name c.args.names.now) c.args.notes.now (drop c.args.head b)) c.requires.head e
    c.put_word.ensures
