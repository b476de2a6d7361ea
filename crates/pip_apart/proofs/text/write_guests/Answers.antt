use Rattle.std.proofs.Common.{rules, ◌∙◌}
use Rattle.std.proofs.lemmas.Result.{MatchResult-from_err}
use Rattle.pip_io.proofs.Piecewise.{cut_here, one_more}
use Rattle.pip_apart.specs.Searches.{CanBeShown, alone_of}
use Rattle.pip_apart.specs.Texts.{guest_text}
use Rattle.pip_apart.proofs.Writing.{all_at, read_at}
use Rattle.pip_apart.proofs.text.write_guests.Goals as goal

pub write_guest-requires : goal.write_guest-requires
write_guest-requires g c =
    all_at CanBeShown c.args.guests.now c.loop-k.k c.index-guests-k.result c.requires
    (read_at c.args.guests.now c.loop-k.k c.index-guests-k.result c.loop-k-test.true c.index-guests-k.is)

pub returns-in_err-write_guest : goal.returns-in_err-write_guest
returns-in_err-write_guest g c = record {
  wrote = MatchResult-from_err c.from_residual.result _ _ c.from_residual.ensures.0 (λ _.
      cut_here (λ x. guest_text (alone_of x)) _ _ _ c.args.guests.now c.loop-k.k c.index-guests-k.result
      (read_at c.args.guests.now c.loop-k.k c.index-guests-k.result c.loop-k-test.true c.index-guests-k.is)
      c.loop-k.invariant.wrote c.in_err-write_guest.ensures.wrote);
  cause = search rules;
}

pub loop-k-preserved : goal.loop-k-preserved
loop-k-preserved g c = record {
  wrote = one_more (λ x. guest_text (alone_of x)) _ _ _ c.args.guests.now c.loop-k.k c.index-guests-k.result
      (read_at c.args.guests.now c.loop-k.k c.index-guests-k.result c.loop-k-test.true c.index-guests-k.is)
      c.loop-k.invariant.wrote c.in_ok-write_guest.ensures.wrote;
  no_faults = c.in_ok-write_guest.ensures.cause.no_faults ∙ c.loop-k.invariant.no_faults;
}
