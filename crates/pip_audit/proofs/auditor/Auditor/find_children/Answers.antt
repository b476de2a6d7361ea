use Rattle.std.proofs.Common.{◌≡◌, ◌+◌, ◌-◌, ◌<◌, length, refl, ap, ◌∙◌, subst, arith}
use Rattle.std.specs.Prelude.{slice_index}
use Rattle.std.proofs.lemmas.List.{get_or_default}
use Rattle.pip_audit.specs.declared.auditor.Auditor.{Auditor}
use Rattle.pip_audit.specs.Families.{HasChildren, TakesChild, up_at}
use Rattle.pip_audit.specs.Reading.{IsRead}
use Rattle.pip_audit.proofs.EachNode.{count_some, name_fits, name_inside}
use Rattle.pip_audit.proofs.Families.{none_found, one_found}
use Rattle.pip_audit.proofs.Walks.{ended, walks_found}
use Rattle.pip_audit.proofs.auditor.Auditor.find_children.Goals as goal

pub loop-j-init : goal.loop-j-init
loop-j-init g c =
    let m = g.M.Frames.memory c.args.mem.now in
    let a = c.args.self.now in
    let w = c.requires.walks in
    let some = count_some m a w.others w.has_read in
    let same : a.count ≡ a.count - 1 + 1 = omega (arith, some) in
    record {
      rest = refl;
      room = c.forget.ensures.room (length m) w.has_read.room.family;
      some = omega arith;
      found = subst (HasChildren m a.names.items a.count c.forget.new.self) same
          (none_found m a.names.items a.count c.forget.new.self c.forget.ensures.none);
    }

pub word-parent-requires-clause-frame : goal.word-parent-requires-clause-frame
word-parent-requires-clause-frame g c =
    let m = g.M.Frames.memory c.args.mem.now in
    let a = c.args.self.now in
    let s = c.loop-j.self in
    let j = c.loop-j.j in
    let w = c.requires.walks in
    let some = c.loop-j.invariant.some in
    let below = c.loop-j-test.true in
    let hi : a.count - j < a.count = omega (arith, some, below) in
    let name : c.index.result.now ≡ slice_index a.names.items (a.count - j) =
    rw c.loop-j.invariant.rest at c.index.ensures
    ∙ get_or_default a.names.items (a.count - j) c.index.result.now 0 (name_fits m a w.others w.has_read _ hi) in
    rw name (name_inside m a w.others (g.met.M.Frames.bounds c.args.mem.now).0 w.has_read (a.count - j) hi)

pub loop-j-preserved : goal.loop-j-preserved
loop-j-preserved g c =
    let m = g.M.Frames.memory c.args.mem.now in
    let a = c.args.self.now in
    let s = c.loop-j.self in
    let j = c.loop-j.j in
    let w = c.requires.walks in
    let inv = c.loop-j.invariant in
    let some = inv.some in
    let below = c.loop-j-test.true in
    let hi : a.count - j < a.count = omega (arith, some, below) in
    let same : a.count - j ≡ a.count - (j + 1) + 1 = omega (arith, below) in
    let name : c.index.result.now ≡ slice_index a.names.items (a.count - j) =
    rw inv.rest at c.index.ensures
    ∙ get_or_default a.names.items (a.count - j) c.index.result.now 0 (name_fits m a w.others w.has_read _ hi) in
    let taken : TakesChild (a.count - j) (up_at m a.names.items (a.count - j)) s.family c.take.new.self =
    rw (c.word-parent.ensures.word, name, inv.rest) at c.take.ensures.taken in
    record {
      rest = ap (λ (z : Auditor). record z { family = c.take.new.self }) inv.rest;
      room = c.take.ensures.room (length m) inv.room;
      some = omega arith;
      found = subst (HasChildren m a.names.items a.count c.take.new.self) same
          (one_found m a.names.items a.count s.family c.take.new.self (a.count - j) (omega (arith, below)) hi
          inv.room.first inv.found taken);
    }

pub returns : goal.returns
returns g c =
    let m = g.M.Frames.memory c.args.mem.now in
    let a = c.args.self.now in
    let f = c.loop-j.self.family in
    let inv = c.loop-j.invariant in
    let past = c.loop-j-test.false in
    let same : a.count - c.loop-j.j + 1 ≡ 1 = omega (arith, past) in
    let read : IsRead m (record a { family = f }) =
    ended m (record a { family = f }) (walks_found m a f c.requires.walks inv.room) c.requires.known c.requires.whole
    (subst (HasChildren m a.names.items a.count f) same inv.found) in
    record { read = rw inv.rest read }
