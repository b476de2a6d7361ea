use Rattle.std.proofs.Common.{◌≡◌, length, arith, ap, ◌∙◌, subst}
use Rattle.std.specs.Prelude.{slice_index}
use Rattle.pip_model.specs.ReadOff.{node_read}
use Rattle.pip_model.specs.Tree.{config}
use Rattle.pip_audit.specs.declared.auditor.Auditor.{Auditor}
use Rattle.pip_audit.specs.FrameSets.{contains, with_all}
use Rattle.pip_audit.proofs.Judges.{Hides, hides_all, hides_next}
use Rattle.pip_audit.proofs.Walks.{hidden_set, stays_changed}
use Rattle.pip_audit.proofs.auditor.Auditor.hide_all.Goals as goal

pub loop-x-preserved : goal.loop-x-preserved
loop-x-preserved g c =
    let m = g.M.Frames.memory c.args.mem.now in
    let a = c.args.self.now in
    let s = c.loop-x.self in
    let inv = c.loop-x.invariant in
    let h = c.insert_pages-are_new.new.self in
    let new = c.insert_pages-are_new.ensures in
    let old = contains s.sets.hidden in
    let name = c.name-part.ensures.name ∙ ap (λ (z : Auditor). slice_index z.names.items c.loop-x.x) inv.1 in (
      stays_changed m s (record s.sets { hidden = h }) inv.0
          (hidden_set (length m) s.sets h inv.0.has_read.room.sets new.room),
      ap (λ (z : Auditor). record z { sets = record s.sets { hidden = h } }) inv.1,
      hides_next m a.names.items c.loop-x.x old (contains h)
          (λ f. new.set f ∙ ap (λ p. with_all old (config (node_read m p)) f) name) inv.2,
    )

pub returns-clause-hidden : goal.returns-clause-hidden
returns-clause-hidden g c = λ f h.
    let m = g.M.Frames.memory c.args.mem.now in
    let a = c.args.self.now in
    let hidden = contains c.loop-x.self.sets.hidden in
    let past = c.loop-x-test.false in
    let end = c.loop-x.auto.x-end in
    let all : c.loop-x.x ≡ a.count = omega (arith, past, end) in
    hides_all m a c.requires hidden (subst (λ n. Hides m a.names.items n hidden) all c.loop-x.invariant.2) f
