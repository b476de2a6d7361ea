use Rattle.std.proofs.Common.{◌≡◌, ◌++◌, ◌∙◌, ap}
use Rattle.std.specs.Prelude.{codes, decimal}
use Rattle.pip_base.specs.Rights.{rights_number}
use Rattle.pip_model.specs.Dump.{rights_text}
use Rattle.pip_model.specs.Text.{word_text}
use Rattle.pip_dump.specs.Lines.{view_between}
use Rattle.pip_dump.proofs.Uses.{pushed}
use Rattle.pip_dump.proofs.line.push_page.Goals as goal

pub returns-clause-bytes : goal.returns-clause-bytes
returns-clause-bytes c =
    let old = c.args.text.now.bytes in
    let place = codes "row " ++ word_text c.args.va ++ codes " " in
    let number : c.push_decimal.new.text.bytes ≡ c.push_str-2.new.self.bytes ++ decimal c.args.frame =
    c.push_decimal.ensures.bytes ∙ ap (λ n. c.push_str-2.new.self.bytes ++ decimal n) c.number.ensures.same in
    let rights : c.push_str-4.new.self.bytes
    ≡ c.push_str-3.new.self.bytes ++ rights_text (rights_number c.args.rights) =
    c.push_str-4.ensures.bytes ∙ ap (λ l. c.push_str-3.new.self.bytes ++ l) c.rights_text.ensures.text in
    let first = pushed old (codes "row ") (word_text c.args.va) c.push_str.new.self.bytes c.push_word.new.text.bytes
    c.push_str.ensures.bytes c.push_word.ensures.bytes in
    let second = pushed old (codes "row " ++ word_text c.args.va) (codes " ") c.push_word.new.text.bytes
    c.push_str-2.new.self.bytes first c.push_str-2.ensures.bytes in
    let third = pushed old place (decimal c.args.frame) c.push_str-2.new.self.bytes c.push_decimal.new.text.bytes second
    number in
    let fourth = pushed old (place ++ decimal c.args.frame) (codes " ") c.push_decimal.new.text.bytes
    c.push_str-3.new.self.bytes third c.push_str-3.ensures.bytes in
    let fifth = pushed old (place ++ decimal c.args.frame ++ codes " ") (rights_text (rights_number c.args.rights))
    c.push_str-3.new.self.bytes c.push_str-4.new.self.bytes fourth rights in
    pushed old (place ++ decimal c.args.frame ++ codes " " ++ rights_text (rights_number c.args.rights))
    (view_between c.args.user) c.push_str-4.new.self.bytes c.push_view.new.text.bytes fifth
    c.push_view.ensures.bytes
