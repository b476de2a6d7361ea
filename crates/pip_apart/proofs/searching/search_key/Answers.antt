use Rattle.std.proofs.Common.{ap, length}
use Rattle.pip_apart.proofs.Telling.{guests_have_one_key, if_one}
use Rattle.pip_apart.proofs.searching.search_key.Goals as goal

pub returns-clause-told : goal.returns-clause-told
returns-clause-told g c =
    let s = c.args.guest.now in
    if_one c.explore.result _ _ c.explore.ensures.told (λ r told w k.
    told (guests_have_one_key g.F.First.words (length s.machine.cpus) s.top s.cpus.items) w k)

pub returns-clause-count : goal.returns-clause-count
returns-clause-count g c = ap (λ b. b.machine) c.explore.ensures.base
