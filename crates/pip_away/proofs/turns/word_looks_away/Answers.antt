use Rattle.std.proofs.Common.{◌∙◌, ap, sym}
use Rattle.std.specs.Prelude.{option_map}
use Rattle.pip_away.specs.Blind.{sight_of}
use Rattle.pip_away.proofs.Turning.{runs_with, word_nobody, word_ran}
use Rattle.pip_away.proofs.turns.word_looks_away.Goals as goal

pub effect_looks_away-requires-clause-ctx : goal.effect_looks_away-requires-clause-ctx
effect_looks_away-requires-clause-ctx g c w s = runs_with c.args.blind.now.own.items (sight_of c.args.blind.now) w
    c.args.cpu c.in-Some.ctx.now
    (sym (c.ctx.ensures w s) ∙ ap (option_map (λ x. x.now)) c.in-Some.is)

pub returns-in-None-clause-away : goal.returns-in-None-clause-away
returns-in-None-clause-away g c w s = word_nobody c.args.blind.now.own.items (sight_of c.args.blind.now) w
    c.args.cpu c.args.word
    (sym (c.ctx.ensures w s) ∙ ap (option_map (λ x. x.now)) c.in-None.is)

pub returns-in-Some-clause-away : goal.returns-in-Some-clause-away
returns-in-Some-clause-away g c w s = c.effect_looks_away.ensures.away w s
    ∙ word_ran c.args.blind.now.own.items (sight_of c.args.blind.now) w c.args.cpu c.args.word c.in-Some.ctx.now
    (sym (c.ctx.ensures w s) ∙ ap (option_map (λ x. x.now)) c.in-Some.is) _ c.effect_of_word-effect.ensures.same
