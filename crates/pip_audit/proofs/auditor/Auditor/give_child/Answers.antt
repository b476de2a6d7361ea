use Rattle.std.proofs.Common.{◌≡◌, ap, ◌∙◌, subst}
use Rattle.pip_base.specs.Memory.{word_at}
use Rattle.pip_model.specs.ReadOff.{node_read}
use Rattle.pip_audit.specs.Families.{up_at}
use Rattle.pip_audit.specs.FrameWords.{word_held}
use Rattle.pip_audit.specs.Given.{GivesRows, given_over}
use Rattle.pip_audit.proofs.EachNode.{up_is}
use Rattle.pip_audit.proofs.ShadowWords.{all_given}
use Rattle.pip_audit.proofs.auditor.Auditor.give_child.Goals as goal

pub returns-clause-words : goal.returns-clause-words
returns-clause-words g c = λ k.
    let m = g.M.Frames.memory c.args.mem.now in
    let part = c.name-part.result in
    let parent = up_at m c.args.self.now.names.items c.args.x in
    let held = word_held c.args.self.now.words.given in
    let up = up_is m part ∙ ap (λ f. word_at m f 11) c.name-part.ensures.name in
    let rows = subst (λ f. GivesRows m f c.args.self.now.words.given c.give_rows.new.self) c.load.ensures.part
    c.give_rows.ensures.words in
    subst (λ f. word_held c.give_pages.new.self k ≡ given_over parent (node_read m f) held k)
    c.name-part.ensures.name (all_given parent (node_read m part) held (word_held c.give_rows.new.self)
    (word_held c.give_pages.new.self) up rows c.give_pages.ensures.words k)
