use Rattle.std.proofs.Common.{ℕ, ◌++◌, ◌∙◌, ap, length, take, arith, length-append}
use Rattle.pip_io.proofs.Taken.{Appends-trans}
use Rattle.pip_io.proofs.Pieces.{front_and_rest}
use Rattle.pip_io.proofs.traits.write_all.Goals as goal

pub loop-rest-preserved : goal.loop-rest-preserved
loop-rest-preserved g c =
    let had = c.loop-rest.invariant.done in
    let wrote = c.in-Ok.ensures in
    record {
      no_faults = wrote.cause.no_faults ∙ c.loop-rest.invariant.no_faults;
      done = (
        had.0 ++ take c.in-Ok.taken c.loop-rest.rest.now,
        Appends-trans _ _ _ _ _ had.1 wrote.bytes,
        front_and_rest had.0 c.loop-rest.rest.now c.args.text.now c.in-Ok.taken had.2,
      );
      empty = λ none. absurd (omega (arith, ap length had.2, ap length none, length-append {A = ℕ}));
    }
