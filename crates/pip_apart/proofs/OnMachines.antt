-- What a machine tells of the guests that run on its processors.
use Rattle.std.proofs.Common.{◌≡◌, ℕ, ◌==◌, Bool, false, refl}
use Rattle.std.proofs.Common.{sym, ap, ◌∙◌, subst, Option, Some, None, length}
use Rattle.std.specs.Prelude.{option_map}
use Rattle.pip_base.specs.Memory.{Memory}
use Rattle.pip_model.specs.Layout.{LaysOut}
use Rattle.pip_model.specs.Partitions.{HasPartition, InEach}
use Rattle.pip_model.specs.Tree.{find_node}
use Rattle.pip_model.specs.Worlds.{World, runs_on}
use Rattle.pip_model.specs.declared.processors.Occupant.{Occupant}
use Rattle.pip_model.proofs.Trees.Ancestry.{root_is_one}
use Rattle.pip_model.proofs.Trees.Lookup.{root_found}
use Rattle.pip_switch.specs.Standing.{StandsAs, State}
use Rattle.pip_apart.specs.Tops.{first_taken, names_root, top_at, top_by, top_of}
use Rattle.pip_apart.proofs.Machines.{part_node}

-- the guest of what runs there
pub top_tells : (p : State) (w : World) (m : Memory) (cpu part : ℕ) (o : Option ℕ) → StandsAs p w → m ≡ p.memory
    → option_map (λ r. r.name) (runs_on w cpu) ≡ Some part → InEach m part (λ t x. o ≡ top_of t part)
    → o ≡ top_at w cpu
top_tells p w m cpu part o s same e h =
    let (x, f) = part_node w cpu part s.bare.sound e in
    cc (h w.tree x s.bare.sound.tree (subst (LaysOut w.tree) (sym same) s.bare.shows.laid) f, go (runs_on w cpu) e)
  where
    go : (r : Option Occupant) → option_map (λ r. r.name) r ≡ Some part → top_by w.tree r ≡ top_of w.tree part
    go None q = cc
    go (Some r) q = let name : r.name ≡ part = cc in rw name

-- where nothing runs there is none
pub none_tells : (w : World) (cpu : ℕ) → option_map (λ r. r.name) (runs_on w cpu) ≡ None → None ≡ top_at w cpu
none_tells w cpu e = sym (go (runs_on w cpu) e)
  where
    go : (r : Option Occupant) → option_map (λ r. r.name) r ≡ None → top_by w.tree r ≡ None
    go None q = refl
    go (Some r) q = cc

pub no_root : (w : World) (cpu : ℕ) → option_map (λ r. r.name) (runs_on w cpu) ≡ None
    → false ≡ names_root w.tree (runs_on w cpu)
no_root w cpu e = sym (go (runs_on w cpu) e)
  where
    go : (r : Option Occupant) → option_map (λ r. r.name) r ≡ None → names_root w.tree r ≡ false
    go None q = refl
    go (Some r) q = cc

-- as many processors
pub as_many : (p : State) (w : World) → StandsAs p w → length w.cpus ≡ length p.cpus
as_many p w s = rw s.bare.shows.cpus

-- the root stands
pub root_stands : (p : State) (w : World) (m : Memory) → StandsAs p w → m ≡ p.memory → HasPartition m 1
root_stands p w m s same = record {
  tree = w.tree;
  node = w.tree.root;
  sound = s.bare.sound.tree;
  laid = rw same s.bare.shows.laid;
  found = subst (λ n. find_node w.tree n ≡ Some w.tree.root) (root_is_one w.tree s.bare.sound.tree) (root_found w.tree);
}

-- the first line that the root might take
pub taken_tells : (p : State) (w : World) (m : Memory) (o : Option ℕ) → StandsAs p w → m ≡ p.memory
    → InEach m 1 (λ t x. o ≡ first_taken t) → o ≡ first_taken w.tree
taken_tells p w m o s same h =
    h w.tree w.tree.root s.bare.sound.tree (rw same s.bare.shows.laid)
    (subst (λ n. find_node w.tree n ≡ Some w.tree.root) (root_is_one w.tree s.bare.sound.tree) (root_found w.tree))
