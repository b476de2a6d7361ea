use Rattle.std.proofs.Common.{◌≡◌, ℕ, zero, suc, sym, ap, ◌∙◌, Option, Some, None}
use Rattle.std.specs.Prelude.{replicate, slice_index_or}
use Rattle.pip_model.specs.declared.cached.Entry.{Entry}
use Rattle.pip_model.specs.Cache.{Places, no_entries}
use Rattle.pip_kern.proofs.RootFilled.{root_stands}
use Rattle.pip_test_kernel.proofs.mmu.check.Goals as goal

-- no place of empty ones holds anything
nothing_at : (n k : ℕ) (e : Entry) → slice_index_or {A = Option Entry} (replicate n None) k None ≡ Some e → ⊥
nothing_at zero k e h = cc
nothing_at (suc n) zero e h = cc
nothing_at (suc n) (suc k) e h = nothing_at n k e h

pub loop-step-init : goal.loop-step-init
unfolding no_entries
loop-step-init g c =
    let bounds = g.met.M.Frames.bounds c.args.mem.now in (
      root_stands _ bounds.0 bounds.1 (g.M.Frames.memory c.boot.new.mem) c.boot.ensures.layout c.new-root.result
          c.new-root.ensures,
      λ k e is.
          absurd (nothing_at 64 k e (ap (λ (c : Places). slice_index_or c.at k None) (sym c.new-cache.ensures) ∙ is)),
    )
