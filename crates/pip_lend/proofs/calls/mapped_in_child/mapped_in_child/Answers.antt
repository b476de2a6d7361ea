use Rattle.std.proofs.Common.{◌∙◌, ◌*◌, ◌/◌, ap, sym}
use Rattle.std.proofs.lemmas.Result.{err_from_is_err_and}
use Rattle.pip_base.specs.declared.outcome.Status.TheVariants as S
use Rattle.pip_model.specs.FullRows.{full_rows, row_word}
use Rattle.pip_model.specs.declared.level.Level.TheVariants.{Shadow1}
use Rattle.pip_model.proofs.Frames.Laid.{laid_space}
use Rattle.pip_model.proofs.Trees.Lookup.{found_name}
use Rattle.pip_kern.proofs.Climb.{part_node, part_rows}
use Rattle.pip_lend.proofs.MappedInChild.Call.{find-accepted, find-misplaced, find-refused, find-unmapped, row_by_word}
use Rattle.pip_lend.proofs.MappedInChild.Call.{zero_word}
use Rattle.pip_lend.proofs.calls.mapped_in_child.mapped_in_child.Goals as goal

pub leaf_word-requires : goal.leaf_word-requires
leaf_word-requires g c = part_node (g.M.Frames.memory c.args.mem.now) c.args.caller c.requires

pub given-requires : goal.given-requires
given-requires g c = part_rows (g.M.Frames.memory c.args.mem.now) c.args.caller c.requires

pub returns-in_err-check_places-clause-answer : goal.returns-in_err-check_places-clause-answer
returns-in_err-check_places-clause-answer g c t x s lays found =
    let p = err_from_is_err_and c.from_residual.result c.from_residual.ensures.1 in
    rw (
      p.1,
      p.2,
    ) (find-misplaced t c.args.caller c.args.v c.in_err-check_places.field-0.0 c.in_err-check_places.ensures)

pub returns-then-leaf_word-eq0-clause-answer : goal.returns-then-leaf_word-eq0-clause-answer
returns-then-leaf_word-eq0-clause-answer g c t x s lays found =
    let space = laid_space t s (g.M.Frames.memory c.args.mem.now) lays c.args.caller x found in
    let word = c.leaf_word.ensures.word x (full_rows t x) space (found_name t c.args.caller x found) in
    let none = zero_word (full_rows t x c.of_address-page.result) (sym word ∙ c.if-leaf_word-eq0.true) in
    find-refused t c.args.caller c.args.v S.NotMapped (find-unmapped t s c.args.caller x found c.args.v
    c.in_ok-check_places.ensures.0 (ap (full_rows t x) (sym c.of_address-page.ensures) ∙ none))

pub returns-clause-answer : goal.returns-clause-answer
returns-clause-answer g c t x s lays found =
    let space = laid_space t s (g.M.Frames.memory c.args.mem.now) lays c.args.caller x found in
    let name = found_name t c.args.caller x found in
    let word = c.leaf_word.ensures.word x (full_rows t x) space name in
    let r = row_by_word (full_rows t x c.of_address-page.result) c.leaf_word.result word c.if-leaf_word-eq0.false in
    let all = find-accepted t s c.args.caller x found c.args.v c.in_ok-check_places.ensures.0 r.0
    (ap (full_rows t x) (sym c.of_address-page.ensures) ∙ r.1) in
    let given = c.given.ensures.word x (full_rows t x) space name ∙ ap (row_word Shadow1) r.1 in
    (all.0, all.1 ∙ sym (c.born_of.ensures ∙ ap (λ w. w / 4096 * 4096) given))
