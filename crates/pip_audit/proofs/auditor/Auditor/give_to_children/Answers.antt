use Rattle.std.proofs.Common.{◌+◌, length, arith, refl, ap, ap₂, ◌∙◌}
use Rattle.std.specs.Prelude.{slice_index}
use Rattle.pip_model.specs.ReadOff.{node_read}
use Rattle.pip_audit.specs.declared.auditor.Auditor.{Auditor}
use Rattle.pip_audit.specs.Families.{IsNextOf, end_of, up_at}
use Rattle.pip_audit.specs.FrameWords.{word_held}
use Rattle.pip_audit.specs.Given.{given_over}
use Rattle.pip_audit.proofs.ShadowWords.{given_all, more_given, none_given, pass_given}
use Rattle.pip_audit.proofs.Walks.{given_words, stays_worded}
use Rattle.pip_audit.proofs.auditor.Auditor.give_to_children.Goals as goal

pub loop-next-init : goal.loop-next-init
loop-next-init g c =
    let m = g.M.Frames.memory c.args.mem.now in
    let a = c.args.self.now in
    let none = c.fill.new.self in
    let parent = slice_index a.names.items c.args.y in
    let n : IsNextOf m a.names.items a.count parent 1 c.first_child-next.result =
    rw c.name-parent.ensures.name at c.first_child-next.ensures in
    record {
      read = stays_worded m a (record a.words { given = none }) c.requires.read
          (given_words (length m) a.words none c.requires.read.has_read.room.words c.fill.ensures.room);
      rest = refl;
      child = n.child;
      most = n.most;
      given = pass_given m a.names.items parent 1 (end_of a.count c.first_child-next.result) (word_held none)
          (omega arith) n.later n.none (none_given m a.names.items parent (word_held none) c.fill.ensures.words);
    }

pub give_child-requires-clause-node : goal.give_child-requires-clause-node
give_child-requires-clause-node g c =
    let inv = c.loop-next.invariant in
    rw inv.rest (inv.child c.in-Some.x c.in-Some.is).1

pub loop-next-preserved : goal.loop-next-preserved
loop-next-preserved g c =
    let m = g.M.Frames.memory c.args.mem.now in
    let a = c.args.self.now in
    let x = c.in-Some.x in
    let parent = slice_index a.names.items c.args.y in
    let inv = c.loop-next.invariant in
    let b = c.give_child.new.self in
    let next = c.give_child.ensures in
    let (lo, hi, up) = inv.child x c.in-Some.is in
    let n : IsNextOf m a.names.items a.count parent (x + 1) c.next_child_after-next.result =
    rw (next.rest, inv.rest, up) at c.next_child_after-next.ensures in
    let names = ap (λ (z : Auditor). z.names.items) inv.rest in
    let old = word_held c.loop-next.self.words.given in
    let new = word_held b.words.given in
    record {
      read = next.read;
      rest = next.rest ∙ ap (λ (z : Auditor). record z { child = b.child; words = b.words }) inv.rest;
      child = n.child;
      most = n.most;
      given = pass_given m a.names.items parent (x + 1) (end_of a.count c.next_child_after-next.result) new
          (omega arith) n.later n.none (more_given m a.names.items parent x old new lo (rw c.in-Some.is at inv.given)
          (λ k. next.words k ∙ ap₂ (λ ns p. given_over p (node_read m (slice_index ns x)) old k) names
          (ap (λ ns. up_at m ns x) names ∙ up)));
    }

pub returns-clause-words : goal.returns-clause-words
returns-clause-words g c =
    let a = c.args.self.now in
    given_all (g.M.Frames.memory c.args.mem.now) a c.loop-next.self c.args.y a.count
    (slice_index a.names.items c.args.y) refl refl (rw c.in_default.is at c.loop-next.invariant.given)
