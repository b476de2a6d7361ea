use Rattle.std.proofs.Common.{rules}
use Rattle.pip_cpu.proofs.Stages.{fetched_cut, fetch_cut}
use Rattle.pip_cpu.proofs.Working.{fetch_takes, fetched_takes}
use Rattle.pip_cpu.proofs.turns.fetch.Goals as goal

pub returns-in-Err-clause-acts : goal.returns-in-Err-clause-acts
returns-in-Err-clause-acts g c = λ w h. let f = c.fetch-outcome.ensures.event w h in
    fetched_cut _ _ _ w _ _ _ _ f.0 c.in-Word.is (c.in-Err.ensures.acts _ f.1)

pub returns-in-Err-write_moved : goal.returns-in-Err-write_moved
returns-in-Err-write_moved g c = record {
  acts = λ w h. fetch_cut _ _ _ w _ _ _ c.in_default.not-Word (c.fetch-outcome.ensures.event w h)
      c.in-Err-write_moved.ensures.wrote;
  end = λ w h. tt;
  cause = search rules;
  count = search rules;
  work = fetch_takes _ c.args.t c.args.cpu _ _ c.fetch-outcome.ensures.work;
}

pub returns-in-Ok-clause-work : goal.returns-in-Ok-clause-work
returns-in-Ok-clause-work g c = fetched_takes _ _ c.args.t c.args.cpu _ _ _ _ c.fetch-outcome.ensures.event _
    c.in-Word.is c.fetch-outcome.ensures.work c.execute.ensures.work

pub returns-in-Err-clause-work : goal.returns-in-Err-clause-work
returns-in-Err-clause-work g c = fetched_takes _ _ c.args.t c.args.cpu _ _ _ _ c.fetch-outcome.ensures.event _
    c.in-Word.is c.fetch-outcome.ensures.work c.execute.ensures.work

pub returns-in-Ok-write_moved-clause-work : goal.returns-in-Ok-write_moved-clause-work
returns-in-Ok-write_moved-clause-work g c = fetch_takes _ c.args.t c.args.cpu _ _ c.fetch-outcome.ensures.work
