use Rattle.std.proofs.Common.{◌≡◌, ◌+◌, ap, ◌∙◌, length, length-append, arith}
use Rattle.std.specs.Prelude.{codes, option_and_then}
use Rattle.pip_script.specs.Words.{after_word, first_word}
use Rattle.pip_search_commands.specs.MenuText.{line_deed}
use Rattle.pip_search_commands.proofs.MenuLines.{built, deed_is, word_then}
use Rattle.pip_search_commands.proofs.commands.against.menu_line.read_deed.Goals as goal

pub push_all-requires : goal.push_all-requires
push_all-requires c =
    let text = c.args.text.now in
    let none = ap length c.new-line.ensures in
    let word = ap length c.split_word.ensures.word in
    let whole : length text ≡ length (first_word text) + length (after_word text) =
    cc (word_then text, length-append (first_word text) (after_word text)) in
    omega arith

pub push_all-requires-2 : goal.push_all-requires-2
push_all-requires-2 c =
    let text = c.args.text.now in
    let none = ap length c.new-line.ensures in
    let word = ap length c.split_word.ensures.word in
    let one = ap length c.push_all.ensures ∙ length-append c.new-line.result.items c.split_word.result.0.now in
    let whole : length text ≡ length (first_word text) + length (after_word text) =
    cc (word_then text, length-append (first_word text) (after_word text)) in
    omega arith

pub push_all-requires-3 : goal.push_all-requires-3
push_all-requires-3 c =
    let text = c.args.text.now in
    let none = ap length c.new-line.ensures in
    let word = ap length c.split_word.ensures.word in
    let rest = ap length c.split_word.ensures.rest in
    let one = ap length c.push_all.ensures ∙ length-append c.new-line.result.items c.split_word.result.0.now in
    let two = ap length c.push_all-2.ensures ∙ length-append c.push_all.new.line.items (codes " 0") in
    let whole : length text ≡ length (first_word text) + length (after_word text) =
    cc (word_then text, length-append (first_word text) (after_word text)) in
    omega arith

pub returns-in-Some : goal.returns-in-Some
returns-in-Some c =
    let text = c.args.text.now in
    let line = built c.new-line.result.items c.push_all.new.line.items c.push_all-2.new.line.items
    c.push_all-3.new.line.items c.split_word.result.0.now c.split_word.result.1.now text c.new-line.ensures
    c.push_all.ensures c.push_all-2.ensures c.push_all-3.ensures c.split_word.ensures.word c.split_word.ensures.rest in
    c.deed_in.ensures ∙ (ap (option_and_then line_deed) c.in-Some.ensures.meaning
    ∙ (rw (c.deref.ensures.0, line, deed_is text c.requires)))

pub returns-in-None : goal.returns-in-None
returns-in-None c =
    let text = c.args.text.now in
    let line = built c.new-line.result.items c.push_all.new.line.items c.push_all-2.new.line.items
    c.push_all-3.new.line.items c.split_word.result.0.now c.split_word.result.1.now text c.new-line.ensures
    c.push_all.ensures c.push_all-2.ensures c.push_all-3.ensures c.split_word.ensures.word c.split_word.ensures.rest in
    ap (option_and_then line_deed) c.in-None.ensures.meaning
    ∙ (rw (c.deref.ensures.0, line, deed_is text c.requires))
