use Rattle.std.proofs.Common.{rules, ◌≡◌, ◌++◌, arith, length}
use Rattle.std.proofs.lemmas.Result.{MatchResult-from_err}
use Rattle.std.specs.Prelude.{flat_map}
use Rattle.pip_io.proofs.Taken.{Appends-trans}
use Rattle.pip_every.specs.Texts.{verdict_line}
use Rattle.pip_io.proofs.Piecewise.{part_after, part_longer, wrote_of}
use Rattle.pip_apart.specs.Searches.{alone_of}
use Rattle.pip_apart.specs.Texts.{guest_line, turn_line}
use Rattle.pip_apart.proofs.text.write_guest.Goals as goal

pub returns : goal.returns
returns g c = record {
  wrote =
      let s = c.args.guest.now in
      let count : c.len.result ≡ length s.search.visits.items = omega arith in
      let head = guest_line s.top s.cpus.items in
      let lines = flat_map (turn_line s.cpus.items) (alone_of s).lines in
      wrote_of _ _ _ (head ++ lines) (verdict_line (length s.search.visits.items) s.end) c.write_verdict.result
      (Appends-trans _ _ _ head lines
      (rw (← c.as_slice.ensures.value) c.in_ok-write_head.ensures.wrote)
      c.in_ok-write_lines.ensures.wrote)
      (rw (← count) c.write_verdict.ensures.wrote);
  cause = search rules;
}

pub returns-in_err-write_head : goal.returns-in_err-write_head
returns-in_err-write_head g c = record {
  wrote = MatchResult-from_err c.from_residual.result _ _ c.from_residual.ensures.0 (λ _.
      let s = c.args.guest.now in
      let head = guest_line s.top s.cpus.items in
      let lines = flat_map (turn_line s.cpus.items) (alone_of s).lines in
      part_longer _ _ (head ++ lines) (verdict_line (length s.search.visits.items) s.end)
      (part_longer _ _ head lines
      (rw (← c.as_slice.ensures.value) c.in_err-write_head.ensures.wrote)));
  cause = search rules;
}

pub returns-in_err-write_lines : goal.returns-in_err-write_lines
returns-in_err-write_lines g c = record {
  wrote = MatchResult-from_err c.from_residual-in_err-write_lines.result _ _
      c.from_residual-in_err-write_lines.ensures.0 (λ _.
      let s = c.args.guest.now in
      let head = guest_line s.top s.cpus.items in
      let lines = flat_map (turn_line s.cpus.items) (alone_of s).lines in
      part_longer _ _ (head ++ lines) (verdict_line (length s.search.visits.items) s.end)
      (part_after _ _ _ head lines
      (rw (← c.as_slice.ensures.value) c.in_ok-write_head.ensures.wrote)
      c.in_err-write_lines.ensures.wrote));
  cause = search rules;
}
