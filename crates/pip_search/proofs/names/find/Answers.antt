use Rattle.std.proofs.Common.{◌≡◌, inl, inr, arith, length, subst}
use Rattle.pip_search.specs.Naming.{HasProbed}
use Rattle.pip_search.proofs.Probed.{absent_early, absent_everywhere, absent_late}
use Rattle.pip_search.proofs.names.find.Goals as goal

pub returns-in-Here : goal.returns-in-Here
unfolding HasProbed
returns-in-Here g c = c.in-Here.ensures

pub returns-in-Empty : goal.returns-in-Empty
unfolding HasProbed
returns-in-Empty g c =
    let x = c.args.table.now in
    let count : c.len-count.result ≡ length x.cells.items = omega arith in
    let (cell, (late, (low, (empty, unlike)))) = c.in-Empty.ensures in
    absent_late (g.N.Names.names_of c.args.list.now) x c.args.name.now c.args.hash c.home-from.result c.tag-tag.result
    c.len-count.result c.requires.named c.requires.hash count c.home-from.ensures.home c.tag-tag.ensures cell late low
    empty unlike

pub returns-in-Here-look_from : goal.returns-in-Here-look_from
unfolding HasProbed
returns-in-Here-look_from g c = c.in-Here-look_from.ensures

pub returns-in-Empty-look_from : goal.returns-in-Empty-look_from
unfolding HasProbed
returns-in-Empty-look_from g c =
    let x = c.args.table.now in
    let names = g.N.Names.names_of c.args.list.now in
    let count : c.len-count.result ≡ length x.cells.items = omega arith in
    let low = c.home-from.ensures.low in
    elim c.in-Empty-look_from.is [
      | inl e ↦
          let (cell, (_, (early, (empty, unlike)))) = subst (HasProbed names c.args.name.now c.tag-tag.result
          x.cells.items 0 c.home-from.result) e c.look_from-in-Further.ensures in
          absent_early names x c.args.name.now c.args.hash c.home-from.result c.tag-tag.result c.len-count.result
          c.requires.named c.requires.hash count c.home-from.ensures.home c.tag-tag.ensures cell early
          (omega arith) empty c.in-Further.ensures unlike
      | inr e ↦ absent_everywhere names x c.args.name.now c.args.hash c.home-from.result c.tag-tag.result
          c.len-count.result c.requires.named c.requires.hash count c.home-from.ensures.home c.tag-tag.ensures
          c.in-Further.ensures (rw e at c.look_from-in-Further.ensures)
    ]
