use Rattle.std.proofs.Common.{◌≡◌, ◌<◌, arith, length}
use Rattle.std.proofs.lemmas.List.{get_or_read}
use Rattle.pip_search.specs.Naming.{HasProbed}
use Rattle.pip_search.proofs.names.look_from.Goals as goal

pub returns-then-contents-eq0 : goal.returns-then-contents-eq0
unfolding HasProbed
returns-then-contents-eq0 g c =
    let cells = c.args.table.now.cells.items in
    let low : c.loop-cell.cell < length cells = omega arith in
    let read = get_or_read cells c.loop-cell.cell c.index-contents.result.now low c.index-contents.ensures 0 in (
      c.loop-cell.cell,
      (
        (omega arith),
        (
          (omega arith),
          ((omega arith), c.loop-cell.invariant),
        ),
      ),
    )

pub returns-in-Some : goal.returns-in-Some
unfolding HasProbed
returns-in-Some g c = c.in-Some.ensures

pub returns : goal.returns
unfolding HasProbed
returns g c =
    let end : c.loop-cell.cell ≡ c.args.end = omega arith in
    rw (← end) c.loop-cell.invariant
