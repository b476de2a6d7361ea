-- Where the words were made last, they are those of the key.
use Rattle.std.proofs.Common.{◌≡◌, subst}
use Rattle.pip_search.specs.Keys.{IsAtHand, visits_of}
use Rattle.pip_search.proofs.searching.bring_key.Goals as goal

pub returns-then-is_fresh-clause-hand : goal.returns-then-is_fresh-clause-hand
returns-then-is_fresh-clause-hand c =
    let vs = visits_of c.args.search.now in
    let words = c.args.buffers.now.to.items in
    let h = c.requires.fresh (c.is_fresh.ensures.some c.if-is_fresh.true) in
    let is : c.swap.new.x.items ≡ words = cc in
    rw is (subst (λ k. IsAtHand vs k words) (c.is_fresh.ensures.same c.if-is_fresh.true) h.1)
