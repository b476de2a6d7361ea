use Rattle.std.proofs.Common.{◌≡◌, subst, sym, ◌∙◌}
use Rattle.std.specs.Prelude.{Some}
use Rattle.pip_model.specs.Cache.{holding}
use Rattle.pip_tlb.proofs.Kept.{kept}
use Rattle.pip_tlb.proofs.cache.Cache.keep.Goals as goal

pub invariant_of-self : goal.invariant_of-self
invariant_of-self c =
    let (count, hits, misses, unused, _) = c.self.invariant in
    let held = subst (λ p. Some c.in-Some.entry ≡ holding p c.args.part c.args.v) (sym c.self.view_is)
    (sym c.in-Some.is ∙ c.held.ensures) in (
      count,
      hits,
      misses,
      unused,
      kept c.self.inside.places c.args.part c.args.v c.number.result c.in-Some.entry
          c.number.ensures.same held (c.if-contains.ensures tt),
    )
