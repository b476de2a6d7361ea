use Rattle.std.proofs.Common.{◌++◌, ◌∙◌, refl, subst, arith}
use Rattle.pip_script.specs.Lines.{HoldsLine, IsLineless, still}
use Rattle.pip_io.proofs.Pacing.{paced_after}
use Rattle.pip_search_commands.specs.MenuReading.{BeginsMenu, menu_said}
use Rattle.pip_search_commands.specs.MenuText.{line_said}
use Rattle.pip_search_commands.proofs.MenuReads.{bad_line, begins_menu, ends_menu, few_lines, last_bad, last_menu}
use Rattle.pip_search_commands.proofs.MenuReads.{next_line}
use Rattle.pip_search_commands.proofs.MenuReads.{read_held, room_left, too_long, unread}
use Rattle.pip_search_commands.proofs.commands.against.menu.read_menu.Goals as goal

pub next_line-requires-clause-paced : goal.next_line-requires-clause-paced
next_line-requires-clause-paced g c =
    let was = c.loop-line.invariant in
    let i = c.loop-line.input in
    let paced = paced_after g.S.Source.allows BeginsMenu (IsLineless i) _ _ _ _
    (g.K.Sink.history c.args.joint.now.sink.now) (was.at.lines ++ i.bytes) was.no_faults
    (read_held c.loop-line.line (menu_said c.loop-line.menu) i.bytes
    (g.S.Source.history c.args.joint.now.source.now).left
    (g.S.Source.history c.loop-line.joint.source.now).left was.at)
    (begins_menu c.loop-line.line (menu_said c.loop-line.menu) i.bytes
    (g.S.Source.history c.args.joint.now.source.now).left
    (g.S.Source.history c.loop-line.joint.source.now).left was.at i refl) c.requires.paced in
    rw was.sink paced

pub returns-in_default-clause-reads : goal.returns-in_default-clause-reads
returns-in_default-clause-reads g c = (
  unread c.loop-line.line (menu_said c.loop-line.menu) c.loop-line.input c.next_line.new.self
      (g.S.Source.history c.args.joint.now.source.now).left (g.S.Source.history c.loop-line.joint.source.now).left
      (g.S.Source.history c.next_line.new.joint.source.now).left c.loop-line.invariant.at c.next_line.ensures.kept
      c.in_default.ensures.part,
  rw (← c.loop-line.invariant.no_faults) c.in_default.ensures.cause.failed,
)

pub returns-in-Err-clause-reads : goal.returns-in-Err-clause-reads
returns-in-Err-clause-reads g c = (
  bad_line c.loop-line.line (menu_said c.loop-line.menu) c.loop-line.input c.next_line.new.self
      (g.S.Source.history c.args.joint.now.source.now).left (g.S.Source.history c.loop-line.joint.source.now).left
      (g.S.Source.history c.next_line.new.joint.source.now).left c.loop-line.invariant.at c.in-Ok.ensures.kept
      c.in-Newline.count
      c.head.result.now c.head.ensures (rw c.in-Newline.is at c.in-Ok.ensures.line) c.in-Err.kind
      c.in-Err.ensures,
  c.in-Ok.ensures.cause.no_faults ∙ c.loop-line.invariant.no_faults,
)

pub returns-in-Ok-add_line-clause-reads : goal.returns-in-Ok-add_line-clause-reads
returns-in-Ok-add_line-clause-reads g c = (
  last_menu c.loop-line.line (menu_said c.loop-line.menu) c.loop-line.input c.next_line.new.self
      (g.S.Source.history c.args.joint.now.source.now).left (g.S.Source.history c.loop-line.joint.source.now).left
      (g.S.Source.history c.next_line.new.joint.source.now).left c.loop-line.invariant.at c.in-Ok.ensures.kept
      c.in-Last.count
      c.head-in-Last.result.now c.head-in-Last.ensures (rw c.in-Last.is at c.in-Ok.ensures.line)
      (menu_said c.add_line-in-Last.new.menu)
      c.in-Ok-add_line.ensures,
  c.in-Ok.ensures.cause.no_faults ∙ c.loop-line.invariant.no_faults,
)

pub returns-in-Err-add_line-clause-reads : goal.returns-in-Err-add_line-clause-reads
returns-in-Err-add_line-clause-reads g c = (
  last_bad c.loop-line.line (menu_said c.loop-line.menu) c.loop-line.input c.next_line.new.self
      (g.S.Source.history c.args.joint.now.source.now).left (g.S.Source.history c.loop-line.joint.source.now).left
      (g.S.Source.history c.next_line.new.joint.source.now).left c.loop-line.invariant.at c.in-Ok.ensures.kept
      c.in-Last.count
      c.head-in-Last.result.now c.head-in-Last.ensures (rw c.in-Last.is at c.in-Ok.ensures.line)
      c.in-Err-add_line.kind
      c.in-Err-add_line.ensures,
  c.in-Ok.ensures.cause.no_faults ∙ c.loop-line.invariant.no_faults,
)

pub returns-in-End-clause-reads : goal.returns-in-End-clause-reads
returns-in-End-clause-reads g c = (
  ends_menu c.loop-line.line (menu_said c.loop-line.menu) c.loop-line.input c.next_line.new.self
      (g.S.Source.history c.args.joint.now.source.now).left (g.S.Source.history c.loop-line.joint.source.now).left
      (g.S.Source.history c.next_line.new.joint.source.now).left c.loop-line.invariant.at c.in-Ok.ensures.kept
      (rw c.in-End.is at c.in-Ok.ensures.line),
  c.in-Ok.ensures.cause.no_faults ∙ c.loop-line.invariant.no_faults,
)

pub returns-in-TooLong-clause-reads : goal.returns-in-TooLong-clause-reads
returns-in-TooLong-clause-reads g c = (
  too_long c.loop-line.line (menu_said c.loop-line.menu) c.loop-line.input c.next_line.new.self
      (g.S.Source.history c.args.joint.now.source.now).left (g.S.Source.history c.loop-line.joint.source.now).left
      (g.S.Source.history c.next_line.new.joint.source.now).left c.loop-line.invariant.at c.in-Ok.ensures.kept
      (rw c.in-TooLong.is at c.in-Ok.ensures.line),
  c.in-Ok.ensures.cause.no_faults ∙ c.loop-line.invariant.no_faults,
)

pub loop-line-preserved : goal.loop-line-preserved
loop-line-preserved g c =
    let was = c.loop-line.invariant in
    let good = c.in_default-add_line.ensures in
    let first = was.first in
    let few = few_lines c.loop-line.line (menu_said c.loop-line.menu) (line_said c.head.result.now) (menu_said
    c.add_line.new.menu)
    good in
    let holds = subst (HoldsLine (still c.loop-line.input) c.next_line.new.self
    (g.S.Source.history c.next_line.new.joint.source.now).left) c.in-Newline.is c.in-Ok.ensures.line in
    record {
      at = next_line c.loop-line.line (menu_said c.loop-line.menu) c.loop-line.input c.next_line.new.self
          (g.S.Source.history c.args.joint.now.source.now).left (g.S.Source.history c.loop-line.joint.source.now).left
          (g.S.Source.history c.next_line.new.joint.source.now).left c.loop-line.invariant.at c.in-Ok.ensures.kept
          c.in-Newline.count c.head.result.now
          c.head.ensures holds (menu_said c.add_line.new.menu) c.take.new.self c.take.ensures.bytes c.take.ensures.room
          good;
      first = omega arith;
      few = omega arith;
      room = room_left c.loop-line.line (menu_said c.loop-line.menu) c.loop-line.input c.next_line.new.self
          (g.S.Source.history c.args.joint.now.source.now).left (g.S.Source.history c.loop-line.joint.source.now).left
          (g.S.Source.history c.next_line.new.joint.source.now).left c.loop-line.invariant.at c.in-Ok.ensures.kept
          c.in-Newline.count c.head.result.now
          c.head.ensures holds c.take.new.self c.take.ensures.bytes c.take.ensures.room was.first was.room;
      name = c.in-Ok.ensures.same_source ∙ was.name;
      sink = c.in-Ok.ensures.sink ∙ was.sink;
      is_open = c.in-Ok.ensures.is_open c.in-Newline.count (rw c.in-Newline.is);
      no_faults = c.in-Ok.ensures.cause.no_faults ∙ was.no_faults;
    }
