use Rattle.std.proofs.Common.{◌≡◌, sym, ap, ◌∙◌, subst}
use Rattle.pip_model.specs.ReadOff.{node_read}
use Rattle.pip_model.specs.Tree.{config, held_pages, row_pages}
use Rattle.pip_audit.specs.FrameSets.{are_fresh, contains, with_all}
use Rattle.pip_audit.proofs.Inserts.{fresh_both, fresh_not, with_both}
use Rattle.pip_audit.proofs.auditor.Auditor.meet_held.Goals as goal

pub returns-then-not-insert_pages-clause-fresh : goal.returns-then-not-insert_pages-clause-fresh
returns-then-not-insert_pages-clause-fresh g c =
    let m = g.M.Frames.memory c.args.mem.now in
    let met = contains c.args.self.now.sets.met in
    let x = node_read m c.name-part.result in
    sym (ap (λ f. are_fresh met (held_pages (node_read m f))) (sym c.name-part.ensures.name)
    ∙ fresh_not met (config x) (row_pages x) (sym c.insert_pages.ensures.fresh ∙ c.if-not-insert_pages.true))

pub returns-clause-fresh : goal.returns-clause-fresh
returns-clause-fresh g c =
    let m = g.M.Frames.memory c.args.mem.now in
    let met = contains c.args.self.now.sets.met in
    let p = contains c.insert_pages.new.self in
    let x = node_read m c.name-part.result in
    subst (λ f. c.insert_rows.result ≡ are_fresh met (held_pages (node_read m f))) c.name-part.ensures.name
    (fresh_both met p (config x) (row_pages x) c.insert_rows.result
    (sym c.insert_pages.ensures.fresh ∙ c.if-not-insert_pages.false) c.insert_pages.ensures.set
    (c.insert_rows.ensures.fresh ∙ ap (λ f. are_fresh p (row_pages (node_read m f))) c.load.ensures.part))

pub returns-clause-met : goal.returns-clause-met
returns-clause-met g c = λ e k.
    let m = g.M.Frames.memory c.args.mem.now in
    let met = contains c.args.self.now.sets.met in
    let p = contains c.insert_pages.new.self in
    let q = contains c.insert_rows.new.self in
    let x = node_read m c.name-part.result in
    subst (λ f. q k ≡ with_all met (held_pages (node_read m f)) k) c.name-part.ensures.name
    (with_both met p (config x) (row_pages x) k (q k) c.insert_pages.ensures.set
    (c.insert_rows.ensures.set k ∙ ap (λ f. with_all p (row_pages (node_read m f)) k) c.load.ensures.part))
