use Rattle.std.proofs.Common.{rules}
use Rattle.pip_cpu.proofs.Stages.{poll_cut, polled_on, polled_end_on}
use Rattle.pip_cpu.proofs.Working.{poll_takes, polled_takes}
use Rattle.pip_cpu.proofs.turns.turn.Goals as goal

pub returns-in-Err-clause-acts : goal.returns-in-Err-clause-acts
returns-in-Err-clause-acts g c =
    λ w h. poll_cut _ _ _ w _ _ _ _ _ _ c.in-Switched.is (c.poll-outcome.ensures.event w h) c.in-Err.ensures.wrote

pub returns-in_default : goal.returns-in_default
returns-in_default g c = record {
  acts = λ w h. let f = c.poll-outcome.ensures.event w h in
      polled_on _ _ _ _ w _ _ _ c.in_default.not-Switched c.in_default.not-Idle f.0 (c.fetch.ensures.acts _ f.1);
  end = λ w h. let f = c.poll-outcome.ensures.event w h in
      polled_end_on _ w _ _ c.in_default.not-Switched c.in_default.not-Idle f.0 (c.fetch.ensures.end _ f.1);
  cause = search rules;
  count = search rules;
  work = polled_takes _ _ c.args.t c.args.cpu _ _ _ _ c.poll-outcome.ensures.event c.in_default.not-Switched
      c.in_default.not-Idle c.poll-outcome.ensures.work c.fetch.ensures.work;
}

pub returns-in-Ok-clause-work : goal.returns-in-Ok-clause-work
returns-in-Ok-clause-work g c = poll_takes _ c.args.t c.args.cpu _ _ c.poll-outcome.ensures.work

pub returns-in-Err-clause-work : goal.returns-in-Err-clause-work
returns-in-Err-clause-work g c = poll_takes _ c.args.t c.args.cpu _ _ c.poll-outcome.ensures.work

pub returns-in-Idle-clause-work : goal.returns-in-Idle-clause-work
returns-in-Idle-clause-work g c = poll_takes _ c.args.t c.args.cpu _ _ c.poll-outcome.ensures.work
