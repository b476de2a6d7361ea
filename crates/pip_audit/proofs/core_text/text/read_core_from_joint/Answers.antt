use Rattle.std.proofs.Common.{rules, arith, ◌++◌, length, Ok, sym, subst, ap, ◌∙◌, refl}
use Rattle.std.proofs.lemmas.Result.{err_from_is_err_and}
use Rattle.pip_script.specs.Lines.{HoldsLine, IsLineless, still}
use Rattle.pip_io.specs.Causes.{RoseByOne}
use Rattle.pip_io.specs.Pacing.{MayRead}
use Rattle.pip_io.specs.Moments.{streams}
use Rattle.pip_io.proofs.Pacing.{paced_after}
use Rattle.pip_audit.specs.Core.{Bad, Ends, Goes, core_step}
use Rattle.pip_audit.specs.CoreRead.{BeginsLines, state_at}
use Rattle.pip_audit.specs.Lines.{core_line}
use Rattle.pip_audit.proofs.Reading.{after_line, at_kept, bad_end, bad_step, after_kept, goes_on, more_text}
use Rattle.pip_audit.proofs.Reading.{room_after, whole_text}
use Rattle.pip_audit.proofs.Rising.{step_rises}
use Rattle.pip_audit.proofs.Unread.{lines_at, lines_after, read_failed, unread_at, unread_after}
use Rattle.pip_audit.proofs.core_text.text.read_core_from_joint.Goals as goal

pub returns-in_err-count-clause-reads : goal.returns-in_err-count-clause-reads
returns-in_err-count-clause-reads g c =
    let was = c.loop-k.invariant in
    let n = length (g.M.Frames.memory c.args.mem.now) in
    let p = err_from_is_err_and c.from_residual.result c.from_residual.ensures.1 in
    read_failed n (g.S.Source.history c.args.joint.now.source.now).faults
    (g.S.Source.history c.next_line.new.joint.source.now).faults
    _ _
    c.from_residual.result p.0 _ p.1 p.2
    (unread_at n c.loop-k.k (state_at c.loop-k.place (g.M.Frames.memory c.loop-k.mem)) (still c.loop-k.input)
    c.loop-k.input.bytes c.next_line.new.self _ _ _ was.at c.in_err-count.ensures.kept c.in_err-count.ensures.part)
    (subst (λ k. RoseByOne k (g.S.Source.history c.next_line.new.joint.source.now).faults) was.no_faults
    c.in_err-count.ensures.cause.failed)

pub returns-in_err-next_line-in-Ends-clause-reads : goal.returns-in_err-next_line-in-Ends-clause-reads
returns-in_err-next_line-in-Ends-clause-reads g c =
    let was = c.loop-k.invariant in
    let n = length (g.M.Frames.memory c.args.mem.now) in
    let m = g.M.Frames.memory c.loop-k.mem in
    let u = g.M.Frames.memory c.take_line-step.new.mem in
    let s = state_at c.loop-k.place m in
    let p = err_from_is_err_and c.from_residual-in_err-next_line-in-Ends.result
    c.from_residual-in_err-next_line-in-Ends.ensures.1 in
    read_failed n (g.S.Source.history c.args.joint.now.source.now).faults
    (g.S.Source.history c.next_line-in-Ends.new.joint.source.now).faults _ _
    c.from_residual-in_err-next_line-in-Ends.result p.0 _ p.1 p.2
    (unread_after n c.loop-k.k u (still c.take.new.self) c.take.new.self.bytes c.next_line-in-Ends.new.self _ _ _
    (after_line n (length m) c.loop-k.k _ _ s (Ends u) c.next_line.new.self _ _ _ _ _ _ _ was.at
    c.in_ok-count.ensures.kept c.in-Newline.is c.in_ok-count.ensures.line was.count c.head.ensures
    c.take.ensures.bytes c.in-Ends.ensures.step)
    c.in_err-next_line-in-Ends.ensures.kept c.in_err-next_line-in-Ends.ensures.part)
    (subst (λ k. RoseByOne k (g.S.Source.history c.next_line-in-Ends.new.joint.source.now).faults)
    (c.in_ok-count.ensures.cause.no_faults ∙ was.no_faults) c.in_err-next_line-in-Ends.ensures.cause.failed)

pub returns-in_default : goal.returns-in_default
returns-in_default g c =
    let was = c.loop-k.invariant in
    let n = length (g.M.Frames.memory c.args.mem.now) in
    let room = was.room in
    let low = c.loop-k-test.true in
    record {
      reads = (
        bad_end n c.loop-k.k (state_at c.loop-k.place (g.M.Frames.memory c.loop-k.mem))
            (g.S.Source.history c.args.joint.now.source.now).left
            (g.S.Source.history c.next_line.new.joint.source.now).left
            c.next_line.new.self
            (at_kept n c.loop-k.k _ c.loop-k.input.bytes c.next_line.new.self.bytes _ _ _ c.in_ok-count.ensures.kept
            was.at)
            (still c.loop-k.input) c.in_ok-count.field-0 (omega (arith, room, low)) c.in_ok-count.ensures.line
            c.in_default.not-Newline,
        c.in_ok-count.ensures.cause.no_faults ∙ was.no_faults,
      );
      same_source = search rules;
      sink = search rules;
      count = was.count;
    }

pub returns-in-Bad-clause-reads : goal.returns-in-Bad-clause-reads
returns-in-Bad-clause-reads g c =
    let was = c.loop-k.invariant in
    let n = length (g.M.Frames.memory c.args.mem.now) in
    let m = g.M.Frames.memory c.loop-k.mem in
    let s = state_at c.loop-k.place m in (
      bad_step n c.loop-k.k Bad c.take.new.self.bytes _ _ refl
          (after_line n (length m) c.loop-k.k _ _ s Bad c.next_line.new.self _ _ _ _ _ _ _ was.at
          c.in_ok-count.ensures.kept c.in-Newline.is c.in_ok-count.ensures.line was.count c.head.ensures
          c.take.ensures.bytes c.in-Bad.ensures.step),
      c.in_ok-count.ensures.cause.no_faults ∙ was.no_faults,
    )

pub returns-in-End-clause-reads : goal.returns-in-End-clause-reads
returns-in-End-clause-reads g c =
    let was = c.loop-k.invariant in
    let n = length (g.M.Frames.memory c.args.mem.now) in
    let m = g.M.Frames.memory c.loop-k.mem in
    let u = g.M.Frames.memory c.take_line-step.new.mem in
    let s = state_at c.loop-k.place m in
    let end = subst (HoldsLine (still c.take.new.self) c.next_line-in-Ends.new.self _) c.in-End.is
    c.in_ok-next_line-in-Ends.ensures.line in (
      whole_text n c.loop-k.k u _ _ c.next_line-in-Ends.new.self
          (after_kept n c.loop-k.k (Ends u) c.take.new.self.bytes c.next_line-in-Ends.new.self.bytes _ _ _
          c.in_ok-next_line-in-Ends.ensures.kept
          (after_line n (length m) c.loop-k.k _ _ s (Ends u) c.next_line.new.self _ _ _ _ _ _ _ was.at
          c.in_ok-count.ensures.kept c.in-Newline.is c.in_ok-count.ensures.line was.count c.head.ensures
          c.take.ensures.bytes c.in-Ends.ensures.step))
          (still c.take.new.self) end,
      c.in_ok-next_line-in-Ends.ensures.cause.no_faults ∙ c.in_ok-count.ensures.cause.no_faults ∙ was.no_faults,
    )

pub returns-in_default-2 : goal.returns-in_default-2
returns-in_default-2 g c =
    let was = c.loop-k.invariant in
    let n = length (g.M.Frames.memory c.args.mem.now) in
    let m = g.M.Frames.memory c.loop-k.mem in
    let u = g.M.Frames.memory c.take_line-step.new.mem in
    let s = state_at c.loop-k.place m in
    record {
      reads = (
        more_text n c.loop-k.k u _ _ c.next_line-in-Ends.new.self
            (after_kept n c.loop-k.k (Ends u) c.take.new.self.bytes c.next_line-in-Ends.new.self.bytes _ _ _
            c.in_ok-next_line-in-Ends.ensures.kept
            (after_line n (length m) c.loop-k.k _ _ s (Ends u) c.next_line.new.self _ _ _ _ _ _ _ was.at
            c.in_ok-count.ensures.kept c.in-Newline.is c.in_ok-count.ensures.line was.count c.head.ensures
            c.take.ensures.bytes c.in-Ends.ensures.step))
            (still c.take.new.self) c.in_ok-next_line-in-Ends.field-0 c.in_ok-next_line-in-Ends.ensures.line
            c.in_default-2.not-End,
        c.in_ok-next_line-in-Ends.ensures.cause.no_faults ∙ c.in_ok-count.ensures.cause.no_faults ∙ was.no_faults,
      );
      same_source = search rules;
      sink = search rules;
      count = c.take_line-step.ensures.count ∙ was.count;
    }

pub loop-k-preserved : goal.loop-k-preserved
loop-k-preserved g c =
    let was = c.loop-k.invariant in
    let n = length (g.M.Frames.memory c.args.mem.now) in
    let m = g.M.Frames.memory c.loop-k.mem in
    let u = state_at c.in-Goes.next (g.M.Frames.memory c.take_line-step.new.mem) in
    let s = state_at c.loop-k.place m in
    let rises = step_rises n s u (core_line c.head.result.now) was.placed
    (sym (c.in-Goes.ensures.step ∙ ap (λ x. core_step x s (core_line c.head.result.now)) was.count)) in
    let more = rises.more in let rose = was.rose in let first = was.first in
    record {
      at = goes_on n c.loop-k.k (Goes u) u c.take.new.self.bytes _ _ refl
          (after_line n (length m) c.loop-k.k _ _ s (Goes u) c.next_line.new.self _ _ _ _ _ _ _ was.at
          c.in_ok-count.ensures.kept c.in-Newline.is c.in_ok-count.ensures.line was.count c.head.ensures
          c.take.ensures.bytes c.in-Goes.ensures.step);
      placed = rises.placed;
      rose = omega (arith, more, rose, first);
      first = omega (arith, first);
      room = room_after c.loop-k.k c.in-Newline.count (still c.loop-k.input) c.next_line.new.self c.take.new.self
          _ _ c.in-Newline.is c.in_ok-count.ensures.line c.take.ensures.bytes c.take.ensures.room was.first was.room;
      count = c.take_line-step.ensures.count ∙ was.count;
      name = search rules;
      sink = search rules;
      is_open = c.in_ok-count.ensures.is_open c.in-Newline.count (ap Ok c.in-Newline.is);
      no_faults = c.in_ok-count.ensures.cause.no_faults ∙ was.no_faults;
    }

pub next_line-requires-clause-paced : goal.next_line-requires-clause-paced
next_line-requires-clause-paced g c =
    let was = c.loop-k.invariant in
    let n = length (g.M.Frames.memory c.args.mem.now) in
    let s = state_at c.loop-k.place (g.M.Frames.memory c.loop-k.mem) in
    let paced = paced_after g.S.Source.allows (BeginsLines n) (IsLineless c.loop-k.input) _ _ _ _
    (g.K.Sink.history c.args.joint.now.sink.now) (was.at.taken ++ c.loop-k.input.bytes) was.no_faults was.at.read
    (lines_at n c.loop-k.k s c.loop-k.input _ _ was.at) c.requires.paced in
    subst (λ s. MayRead g.S.Source.allows (IsLineless c.loop-k.input) (streams g.S.Source.history g.K.Sink.history
    c.loop-k.joint.source.now s.now)) (sym was.sink) paced

pub next_line-requires-in-Ends-clause-paced : goal.next_line-requires-in-Ends-clause-paced
next_line-requires-in-Ends-clause-paced g c =
    let was = c.loop-k.invariant in
    let n = length (g.M.Frames.memory c.args.mem.now) in
    let m = g.M.Frames.memory c.loop-k.mem in
    let u = g.M.Frames.memory c.take_line-step.new.mem in
    let s = state_at c.loop-k.place m in
    let at = after_line n (length m) c.loop-k.k _ _ s (Ends u) c.next_line.new.self _ _ _ _ _ _ _ was.at
    c.in_ok-count.ensures.kept c.in-Newline.is c.in_ok-count.ensures.line was.count c.head.ensures
    c.take.ensures.bytes c.in-Ends.ensures.step in
    let paced = paced_after g.S.Source.allows (BeginsLines n) (IsLineless c.take.new.self) _ _ _ _
    (g.K.Sink.history c.args.joint.now.sink.now)
    (at.taken ++ c.take.new.self.bytes) (c.in_ok-count.ensures.cause.no_faults ∙ was.no_faults) at.read
    (lines_after n c.loop-k.k u c.take.new.self _ _ at) c.requires.paced in
    subst (λ s. MayRead g.S.Source.allows (IsLineless c.take.new.self)
    (streams g.S.Source.history g.K.Sink.history c.next_line.new.joint.source.now s.now))
    (sym (c.in_ok-count.ensures.sink ∙ was.sink)) paced
