use Rattle.std.proofs.Common.{◌∙◌, ◌&&◌, ◌||◌, ap, not, sym}
use Rattle.std.specs.Prelude.{nat_lt}
use Rattle.std.proofs.lemmas.Bool.{le-leb}
use Rattle.pip_model.specs.Answers.{five_of}
use Rattle.pip_guests.specs.Sights as tests
use Rattle.pip_away.specs.Blind.{sight_of}
use Rattle.pip_away.proofs.Calling.{saved_maybe, saved_never}
use Rattle.pip_away.proofs.calls.yield_misses.Goals as goal

pub returns-then-not-target_misses : goal.returns-then-not-target_misses
returns-then-not-target_misses g c t x s laid found = sym (ap (λ b. b
    && (not (nat_lt (five_of c.args.args.now).x2 256)
    || tests.save_passes c.args.blind.now.own.items (sight_of c.args.blind.now) t c.args.caller (five_of
    c.args.args.now).x2))
    (sym (c.target_misses.ensures t x s laid found) ∙ c.if-not-target_misses.true))

pub returns-then-save-ge-NOT_SAVED : goal.returns-then-save-ge-NOT_SAVED
returns-then-save-ge-NOT_SAVED g c t x s laid found = le-leb 256 _ c.if-save-ge-NOT_SAVED.true ∙ sym (ap (λ b. b
    && (not (nat_lt (five_of c.args.args.now).x2 256)
    || tests.save_passes c.args.blind.now.own.items (sight_of c.args.blind.now) t c.args.caller (five_of
    c.args.args.now).x2))
    (sym (c.target_misses.ensures t x s laid found) ∙ c.if-not-target_misses.false)
    ∙ saved_never (five_of c.args.args.now).x2 _ c.if-save-ge-NOT_SAVED.true)

pub returns-else-save-ge-NOT_SAVED : goal.returns-else-save-ge-NOT_SAVED
returns-else-save-ge-NOT_SAVED g c t x s laid found = c.save_misses.ensures t x s laid found ∙ sym (ap (λ b. b
    && (not (nat_lt (five_of c.args.args.now).x2 256)
    || tests.save_passes c.args.blind.now.own.items (sight_of c.args.blind.now) t c.args.caller (five_of
    c.args.args.now).x2))
    (sym (c.target_misses.ensures t x s laid found) ∙ c.if-not-target_misses.false)
    ∙ saved_maybe (five_of c.args.args.now).x2 _ c.if-save-ge-NOT_SAVED.false)
