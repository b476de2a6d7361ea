use Rattle.std.proofs.Common.{sym, subst}
use Rattle.std.proofs.lemmas.Result.{on_ok_weaker}
use Rattle.pip_asm.specs.Seen.{IsInRange, cell_of, statement_of}
use Rattle.pip_asm.specs.Emitted.{SaysMore, StartsWith, first_head, line_words}
use Rattle.pip_asm.proofs.Keeping.{says_cell, says_nothing}
use Rattle.pip_asm.proofs.Standing.{stands}
use Rattle.pip_asm.proofs.reading.Passed.place.Goals as goal

pub plan-requires-clause-stage : goal.plan-requires-clause-stage
plan-requires-clause-stage c = stands c.args.self.now.stage c.args.said _ c.requires.stands c.in-Plans.is

pub hold-requires-clause-stage : goal.hold-requires-clause-stage
hold-requires-clause-stage c = stands c.args.self.now.stage c.args.said _ c.requires.stands c.in-Holds.is

pub zeros-requires-clause-stage : goal.zeros-requires-clause-stage
zeros-requires-clause-stage c = stands c.args.self.now.stage c.args.said _ c.requires.stands c.in-Zeros.is

pub returns-in-Frames-clause-proper : goal.returns-in-Frames-clause-proper
returns-in-Frames-clause-proper c =
    let p = c.requires.proper in
    let at = stands c.args.self.now.stage c.args.said _ c.requires.stands c.in-Frames.is in
    record {
      size = p.size;
      least = p.least;
      plans = p.plans;
      frames = rw c.in-Frames.is at c.requires.within;
      marks = p.marks;
      names = p.names;
      written = p.written;
      front = rw at at p.front;
    }

pub returns-in-Cpus-clause-proper : goal.returns-in-Cpus-clause-proper
returns-in-Cpus-clause-proper c =
    let p = c.requires.proper in
    let at = stands c.args.self.now.stage c.args.said _ c.requires.stands c.in-Cpus.is in
    record {
      size = p.size;
      least = p.least;
      plans = p.plans;
      frames = p.frames;
      marks = p.marks;
      names = p.names;
      written = p.written;
      front = rw at at p.front;
    }

pub returns-in-Plans-clause-says : goal.returns-in-Plans-clause-says
returns-in-Plans-clause-says c =
    on_ok_weaker c.plan.result
    (λ e. rw c.in-Plans.is (says_nothing c.args.self.now.written c.plan.new.self.written e))
    c.plan.ensures.written

pub returns-in-Names-clause-says : goal.returns-in-Names-clause-says
returns-in-Names-clause-says c =
    on_ok_weaker c.name.result
    (λ e. rw c.in-Names.is (says_nothing c.args.self.now.written c.name.new.self.written e))
    c.name.ensures.written

pub returns-in-Holds-clause-says : goal.returns-in-Holds-clause-says
returns-in-Holds-clause-says c =
    on_ok_weaker c.hold.result
    (λ e. rw c.in-Holds.is (says_cell c.args.self.now.written c.hold.new.self.written c.args.number
    c.args.self.now.stage c.args.self.now.at c.args.self.now.size (cell_of c.in-Holds.cell) e))
    c.hold.ensures.says
