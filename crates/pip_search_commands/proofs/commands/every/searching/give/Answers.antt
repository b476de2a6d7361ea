use Rattle.std.proofs.lemmas.Result.{MatchResult-from_err}
use Rattle.pip_io.proofs.Piecewise.{part_after, part_longer, wrote_of}
use Rattle.pip_search_commands.specs.MenuReading.{menu_said}
use Rattle.pip_search_commands.specs.Searches.{answers_text, found_text}
use Rattle.pip_search_commands.proofs.commands.every.searching.give.Goals as goal

pub returns-in_err-give_found-clause-wrote : goal.returns-in_err-give_found-clause-wrote
returns-in_err-give_found-clause-wrote g c =
    MatchResult-from_err c.from_residual.result _ _ c.from_residual.ensures.0 (λ _.
    part_longer _ _ (found_text c.args.head.now c.args.told.now) _ c.in_err-give_found.ensures.wrote)

pub returns-in_err-give_replies-clause-wrote : goal.returns-in_err-give_replies-clause-wrote
returns-in_err-give_replies-clause-wrote g c =
    MatchResult-from_err c.from_residual-in_err-give_replies.result _ _ c.from_residual-in_err-give_replies.ensures.0 (λ
    _. part_after _ _ _ (found_text c.args.head.now c.args.told.now) _ c.in_ok-give_found.ensures.wrote
    (part_longer _ _ (answers_text c.args.head.now c.args.told.now (menu_said c.args.menu.now)) _
    c.in_err-give_replies.ensures.wrote))

pub returns-clause-wrote : goal.returns-clause-wrote
returns-clause-wrote g c =
    wrote_of _ _ _ (found_text c.args.head.now c.args.told.now) _ c.give_away.result c.in_ok-give_found.ensures.wrote
    (wrote_of _ _ _ (answers_text c.args.head.now c.args.told.now (menu_said c.args.menu.now)) _ c.give_away.result
    c.in_ok-give_replies.ensures.wrote c.give_away.ensures.wrote)
