-- With an empty menu it is the search without one.
use Rattle.std.proofs.Common.{length, subst}
use Rattle.pip_search.specs.Summary.{IsTold}
use Rattle.pip_search.specs.Ways.{witnesses_of}
use Rattle.pip_every.specs.Menus.{menu_model}
use Rattle.pip_every.specs.Moments.{Scope, first_moment}
use Rattle.pip_every.proofs.Keying.{if_ok}
use Rattle.pip_every.proofs.Usual.{told_usual}
use Rattle.pip_every.proofs.searching.search.Goals as goal

pub returns-clause-told : goal.returns-clause-told
returns-clause-told c = if_ok c.search_against.result _ _ (λ r e n words b.
    let first = c.args.mem.block.frames in
    let s : Scope = record { cpus = c.args.cpus; lines = c.args.lines.now; from = c.args.from } in
    told_usual first s (first_moment words n c.args.cpus) c.args.most c.args.limit
    (witnesses_of r.1 r.0.visits.items r.0.found.items) (length r.0.visits.items) r.1
    (subst (λ ds. IsTold (menu_model first (record { scope = s; may = ds })) (first_moment words n c.args.cpus)
    c.args.most c.args.limit (witnesses_of r.1 r.0.visits.items r.0.found.items) (length r.0.visits.items) r.1)
    c.new-may.ensures.items (e n words b))) c.search_against.ensures.told

pub returns-clause-explains : goal.returns-clause-explains
returns-clause-explains c = if_ok c.search_against.result _ _ (λ r e n words b.
    rw (← c.new-may.ensures.items) (e n words b)) c.search_against.ensures.explains
