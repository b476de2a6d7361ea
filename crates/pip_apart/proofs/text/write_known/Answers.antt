use Rattle.std.proofs.Common.{rules, ◌++◌, map}
use Rattle.std.proofs.lemmas.Result.{MatchResult-from_err}
use Rattle.std.specs.Prelude.{flat_map}
use Rattle.pip_io.proofs.Piecewise.{part_longer, wrote_of}
use Rattle.pip_apart.specs.Found.{hold_apart}
use Rattle.pip_apart.specs.Searches.{alone_of, known_of}
use Rattle.pip_apart.specs.Texts.{apart_line, guest_text, root_line, taken_line}
use Rattle.pip_apart.proofs.Writing.{guests_text}
use Rattle.pip_apart.proofs.text.write_known.Goals as goal

pub returns : goal.returns
returns g c = record {
  wrote =
      let k = c.args.known.now in
      wrote_of _ _ _ (flat_map guest_text (map alone_of k.guests.items))
      (root_line k.root ++ taken_line k.line ++ apart_line (hold_apart (known_of k))) c.write_end.result
      (rw (guests_text k.guests.items c.as_slice.result.now c.as_slice.ensures.value) at
      c.in_ok-write_guests.ensures.wrote)
      (rw (← c.hold_apart.ensures) c.write_end.ensures.wrote);
  cause = search rules;
}

pub returns-in_err-write_guests : goal.returns-in_err-write_guests
returns-in_err-write_guests g c = record {
  wrote = MatchResult-from_err c.from_residual.result _ _ c.from_residual.ensures.0 (λ _.
      let k = c.args.known.now in
      part_longer _ _ (flat_map guest_text (map alone_of k.guests.items))
      (root_line k.root ++ taken_line k.line ++ apart_line (hold_apart (known_of k)))
      (rw (← guests_text k.guests.items c.as_slice.result.now c.as_slice.ensures.value)
      c.in_err-write_guests.ensures.wrote));
  cause = search rules;
}
