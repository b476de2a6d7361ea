use Rattle.std.proofs.Common.{ap, ◌∙◌, rules}
use Rattle.pip_model.specs.Parts.{gives_no_more}
use Rattle.pip_model.specs.ReadOff.{node_read}
use Rattle.pip_audit.specs.FrameWords.{rights_held}
use Rattle.pip_audit.specs.Judging.{is_given}
use Rattle.pip_audit.proofs.Narrowing.{given_is}
use Rattle.pip_audit.proofs.parts.IsGrantedChildTest.at.Goals as goal

pub returns-clause-holds : goal.returns-clause-holds
returns-clause-holds g c =
    let m = g.M.Frames.memory c.args.mem.now in
    let a = c.args.a.now in
    let held = rights_held a.words.rights in
    c.all_rows.ensures (is_given held) (λ r z e. search rules)
    ∙ given_is m a.node.part c.load.new.self.part held c.requires.lends.rights
    ∙ ap (λ f. gives_no_more (node_read m a.node.part) (node_read m f)) (c.load.ensures.part ∙ c.name-part.ensures.name)
