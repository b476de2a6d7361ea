-- What runs in a sound world can be read back off its words.
use Rattle.std.proofs.Common.{◌≡◌, ℕ, zero, suc, ◌^◌, ◌<◌, List, [], ◌∷◌, Option, Some, None, unwrap_or, slice_get}
use Rattle.std.proofs.Common.{refl, arith}
use Rattle.std.specs.List.{AllByRecursion}
use Rattle.pip_model.specs.Lists.{In}
use Rattle.pip_model.specs.Tree.{config, names_of, nodes, row_pages}
use Rattle.pip_model.specs.Worlds.{IsSoundWorld, World, runs_on}
use Rattle.pip_model.specs.declared.processors.Occupant.{Occupant}
use Rattle.pip_model.proofs.Events.Soundness.{runs_named}
use Rattle.pip_model.proofs.OnLists.Members.{In-append_left, In-map_from}
use Rattle.pip_model.proofs.Trees.Ancestors.{name-config}
use Rattle.pip_model.proofs.Trees.Numbers.{name_positive, page_small}
use Rattle.pip_every.specs.Reading.{IsRunnable, MayRun}

name_low : (w : World) → IsSoundWorld w → (q : ℕ) → In q (names_of (nodes w.tree)) → q < 2 ^ 20
name_low w s q i =
    let (x, j, e) = In-map_from (λ x. x.name) q (nodes w.tree) i in
    omega (
      arith,
      page_small w.tree x.name s.tree x j
          (In-append_left x.name (config x) (row_pages x) (name-config w.tree s.tree x j)),
    )

runnable : (w : World) → IsSoundWorld w → (i : ℕ) (r : Occupant) → runs_on w i ≡ Some r → IsRunnable r
runnable w s i r e =
    let named : In r.name (names_of (nodes w.tree)) = s.names_nodes r.name (runs_named w i r s e) in record {
      least = name_positive w.tree s.tree r.name named;
      most = name_low w s r.name named;
      registers = (s.contexts i r e).count;
    }

each_may_run : (os : List (Option Occupant)) → ((i : ℕ) (r : Occupant) → unwrap_or (slice_get os i) None ≡ Some r
    → IsRunnable r) → AllByRecursion MayRun os
each_may_run [] h = tt
each_may_run (None ∷ os) h = (tt, each_may_run os (λ i r e. h (suc i) r e))
each_may_run (Some r ∷ os) h = (h zero r refl, each_may_run os (λ i q e. h (suc i) q e))

pub all_may_run : (w : World) → IsSoundWorld w → AllByRecursion MayRun w.cpus
all_may_run w s = each_may_run w.cpus (runnable w s)
