use Rattle.std.proofs.Common.{rules}
use Rattle.pip_every.proofs.Doing.{did, line_came}
use Rattle.pip_every.proofs.deeds.act_from_menu.Goals as goal

pub returns-in-Switched-clause-acts : goal.returns-in-Switched-clause-acts
returns-in-Switched-clause-acts g c = λ w h.
    line_came _ _ _ _ w _ _ _ _ _ _ c.in-Switched.is (c.poll-outcome.ensures.event w h) c.write_moved.ensures.wrote

pub returns-in-Some : goal.returns-in-Some
returns-in-Some g c = record {
  acts = λ w h. let f = c.poll-outcome.ensures.event w h in
      rw c.in-Some.is (did _ _ _ _ w _ _ _ c.in_default.not-Switched f.0 (c.do_deed.ensures.acts _ f.1));
  count = search rules;
}
