use Rattle.std.proofs.Common.{◌/◌, ◌%◌, ◌∙◌, ap, refl, subst, sym}
use Rattle.std.specs.Prelude.{Ok}
use Rattle.pip_base.specs.declared.types.Access.TheVariants.{Fetch}
use Rattle.pip_base.specs.declared.types.Size.TheVariants.{Word}
use Rattle.pip_model.specs.Cache.{Agrees}
use Rattle.pip_mmu.specs.Cached.{HasCached}
use Rattle.pip_mmu.proofs.Keeping.{kept_reached}
use Rattle.pip_mmu.proofs.Places.{load_is, place_inside}
use Rattle.pip_mmu.proofs.cached.fetch_through.Goals as goal

pub read_at-requires : goal.read_at-requires
read_at-requires g c =
    let s = c.requires.0 in
    let (aligned, may) = c.in-Some.ensures.page in
    place_inside s.tree _ c.args.part c.args.pc Word Fetch s.node s.sound s.laid s.found
    (c.in-Some.page, c.args.pc % 4096 / 4) (kept_reached s.tree c.args.cache.now c.args.part c.args.pc
    c.in-Some.page s.node s.found c.requires.1 may aligned)

pub returns-in-Some-clause-answer : goal.returns-in-Some-clause-answer
returns-in-Some-clause-answer g c t x s lays found agree =
    let (aligned, may) = c.in-Some.ensures.page in
    ap Ok c.read_at.ensures.value
    ∙ load_is t _ c.args.part c.args.pc Word Fetch x s lays found (
      c.in-Some.page,
      c.args.pc % 4096
          / 4,
    ) (kept_reached t c.args.cache.now c.args.part c.args.pc c.in-Some.page x found agree may aligned) _ refl

pub fetch_and_keep-requires : goal.fetch_and_keep-requires
fetch_and_keep-requires g c =
    subst (HasCached (g.M.Frames.memory c.args.mem.now) c.args.part) (sym c.in-None.ensures.counts) c.requires

pub returns-in-None-clause-answer : goal.returns-in-None-clause-answer
returns-in-None-clause-answer g c t x s lays found agree =
    c.fetch_and_keep.ensures.answer t x s lays found (subst (Agrees t) (sym c.in-None.ensures.counts) agree)

pub returns-in-None-clause-agrees : goal.returns-in-None-clause-agrees
returns-in-None-clause-agrees g c t x s lays found agree =
    c.fetch_and_keep.ensures.agrees t x s lays found (subst (Agrees t) (sym c.in-None.ensures.counts) agree)
