use Rattle.std.proofs.Common.{[], ◌∷◌, ap, arith, length-append}
use Rattle.pip_model.specs.Soak.{is_done, is_idle, is_parked, is_switched, is_word}
use Rattle.pip_soak.proofs.Sums.{count_no, replies_more}
use Rattle.pip_soak.proofs.counts.Counts.add.Goals as goal

pub returns-in-Reply : goal.returns-in-Reply
returns-in-Reply c os few k = record {
  events =
      let e = k.events in
      let long = length-append os (c.args.outcome ∷ []) in
      let more = c.one_more-self.ensures.more (omega (arith, e, few)) in
      omega (arith, e, long, more);
  words = count_no is_word os c.args.outcome _ (ap is_word c.in-Reply.is) k.words;
  done = count_no is_done os c.args.outcome _ (ap is_done c.in-Reply.is) k.done;
  switched = count_no is_switched os c.args.outcome _ (ap is_switched c.in-Reply.is) k.switched;
  parked = count_no is_parked os c.args.outcome _ (ap is_parked c.in-Reply.is) k.parked;
  idle = count_no is_idle os c.args.outcome _ (ap is_idle c.in-Reply.is) k.idle;
  replies = replies_more _ _ os c.args.outcome c.in-Reply.status c.in-Reply.value c.in-Reply.is few
      c.add_reply.ensures.place c.add_reply.ensures.others k.replies;
}
