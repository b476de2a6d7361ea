use Rattle.std.proofs.Common.{◌∙◌, sym}
use Rattle.pip_search.proofs.Running.{runs_along_more, runs_none}
use Rattle.pip_search.proofs.ways.runs_along.Goals as goal

pub loop-choice-init : goal.loop-choice-init
loop-choice-init c = c.new-runs.ensures.items ∙ sym (rw runs_none)

pub loop-choice-preserved : goal.loop-choice-preserved
loop-choice-preserved c =
    runs_along_more c.args.choices.now c.loop-choice.choice-index c.loop-choice.runs.items c.add_choice.new.runs.items
    c.loop-choice-test.true c.loop-choice.invariant c.in_ok-add_choice.ensures
