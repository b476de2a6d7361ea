use Rattle.std.proofs.Common.{subst, sym}
use Rattle.pip_model.specs.Cache.{Agrees}
use Rattle.pip_mmu.proofs.cached.fetch_and_keep.Goals as goal

pub returns-clause-agrees : goal.returns-clause-agrees
returns-clause-agrees g c t x s lays found agree =
    subst (Agrees t) (sym c.keep.ensures) (c.load_through-fetched.ensures.agrees t x s lays found agree)
