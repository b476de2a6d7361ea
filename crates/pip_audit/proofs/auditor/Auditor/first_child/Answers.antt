use Rattle.std.proofs.Common.{◌≡◌, ◌<◌, length, ◌∙◌, None}
use Rattle.std.proofs.lemmas.List.{get_or_default}
use Rattle.pip_audit.specs.Families.{first_held}
use Rattle.pip_audit.proofs.auditor.Auditor.first_child.Goals as goal

pub returns : goal.returns
returns g c =
    let a = c.args.self.now in
    let r = c.requires.read in
    let inside : c.args.parent < length a.family.first.items = rw r.has_read.room.family.first c.requires.parent in
    let is : c.index.result.now ≡ first_held a.family c.args.parent =
    rw c.number.ensures.same at c.index.ensures
    ∙ get_or_default a.family.first.items c.args.parent c.index.result.now None inside in
    rw is (r.children.first c.args.parent c.requires.parent)
