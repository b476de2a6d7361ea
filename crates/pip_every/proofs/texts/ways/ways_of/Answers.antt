use Rattle.std.proofs.Common.{ap, ◌∙◌, arith, length, ◌<◌, [], ◌∷◌, map}
use Rattle.std.proofs.lemmas.List.{map-append}
use Rattle.pip_every.proofs.LabelLines.{runs_next}
use Rattle.pip_every.proofs.texts.ways.ways_of.Goals as goal

pub loop-k-preserved : goal.loop-k-preserved
loop-k-preserved c =
    let less : c.loop-k.k < length c.args.search.now.found.items =
    omega (arith, c.loop-k-test.true, c.len-k-end.ensures) in
    ap (λ ways. map (λ way. way.items) ways) c.in_ok-push.ensures.items
    ∙ (map-append (λ way. way.items) c.loop-k.ways.items (c.in_ok-runs.field-0 ∷ [])
    ∙ runs_next c.args.search.now.visits.items c.args.search.now.found.items c.loop-k.k _
    c.in_ok-runs.field-0.items less c.loop-k.invariant c.in_ok-runs.ensures.way)
