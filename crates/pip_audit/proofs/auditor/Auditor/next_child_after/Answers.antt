use Rattle.std.proofs.Common.{◌≡◌, ◌<◌, length, ◌∙◌, None, arith}
use Rattle.std.proofs.lemmas.List.{get_or_default}
use Rattle.pip_audit.specs.Families.{next_held}
use Rattle.pip_audit.proofs.auditor.Auditor.next_child_after.Goals as goal

pub returns : goal.returns
returns g c =
    let a = c.args.self.now in
    let k = c.args.k in
    let r = c.requires.read in
    let room = r.has_read.room in
    let inside : k < length a.family.next.items = omega (
      arith,
      c.requires.node,
      r.has_read.fits,
      room.names,
      room.family.next,
    ) in
    let is : c.index.result.now ≡ next_held a.family k =
    c.index.ensures ∙ get_or_default a.family.next.items k c.index.result.now None inside in
    rw is (r.children.next k c.requires.other c.requires.node c.requires.inside)
