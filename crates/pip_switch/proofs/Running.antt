-- Who runs.
use Rattle.std.proofs.Common.{◌≡◌, ◌&&◌, ◌||◌, not, ℕ, Bool, List, [], ◌∷◌, refl, sym, ap, ◌∙◌, subst, Option, Some}
use Rattle.std.proofs.Common.{None}
use Rattle.std.specs.Prelude.{◌==◌, option_map, slice_get, unwrap_or}
use Rattle.std.specs.List.{list_any}
use Rattle.pip_base.specs.Memory.{Memory}
use Rattle.pip_model.specs.Handlers.{save}
use Rattle.pip_model.specs.Layout.{LaysOut}
use Rattle.pip_model.specs.Lists.{has}
use Rattle.pip_model.specs.Partitions.{HasPartition, InEach, IsHeld}
use Rattle.pip_model.specs.Sound.{IsSound}
use Rattle.pip_model.specs.Tree.{Node, Tree, find_node}
use Rattle.pip_model.specs.Worlds.{World, running, runs_on, save_running}
use Rattle.pip_model.specs.declared.processors.Occupant.{Occupant}
use Rattle.pip_model.proofs.Frames.ControlLays.{root_stands}
use Rattle.pip_model.proofs.Trees.Lookup.{name_found}
use Rattle.pip_model.proofs.Events.Soundness.{runs_named}
use Rattle.pip_switch.specs.Occupied.{CanSave, IsNamed, names_on, on_cpu, part_on, runs_name}
use Rattle.pip_switch.specs.Standing.{HasWorld, StandsFor}

-- ---- a name among those that run

-- it is one of them where it runs on one processor
pub any_runs : (p : ℕ) (cs : List (Option Occupant)) → list_any (λ c. runs_name p c) cs ≡ has (names_on cs) p
any_runs p [] = refl
any_runs p (None ∷ cs) = any_runs p cs
any_runs p (Some r ∷ cs) = ap (λ b. (r.name == p) || b) (any_runs p cs)

-- whether another name than p runs there
pub busy_in : (w : World) (cs slice : List (Option Occupant)) → w.cpus ≡ cs → slice ≡ cs → (to p : ℕ) (b v : Bool)
    → b ≡ (not (to == p) && list_any (λ c. runs_name to c) slice) → b ≡ v → (not (to == p) && has (running w) to) ≡ v
busy_in w cs slice w_is slice_is to p b v b_is v_is =
    ap (λ k. not (to == p) && has (names_on k) to) w_is ∙ ap (λ z. not (to == p) && z) (sym (any_runs to cs)
    ∙ ap (λ k. list_any (λ c. runs_name to c) k) (sym slice_is)) ∙ sym b_is ∙ v_is

-- ---- what runs on one processor

-- the partition that runs there is that of what runs there
pub part_of : (o : Option Occupant) (p : ℕ) → option_map (λ (r : Occupant). r.name) o ≡ Some p
    → (r : Occupant) × (o ≡ Some r) × (r.name ≡ p)
part_of None p e = cc
part_of (Some r) p e = (r, refl, cc)

pub none_of : (o : Option Occupant) → option_map (λ (r : Occupant). r.name) o ≡ None → o ≡ None
none_of None e = refl
none_of (Some r) e = cc

module _ (m : Memory) (cs : List (Option Occupant)) (cpu : ℕ) where
  module _ (w : World) (s : StandsFor m cs w) where
    pub runs_there : runs_on w cpu ≡ on_cpu cs cpu
    runs_there = ap (λ k. unwrap_or (slice_get k cpu) None) s.shows.cpus

    -- it is a partition of the tree
    pub part_found : (p : ℕ) → part_on cs cpu ≡ Some p → (x : Node) × (find_node w.tree p ≡ Some x)
    part_found p on =
        let (r, is, name) = part_of (on_cpu cs cpu) p on in
        subst (λ q. (x : Node) × (find_node w.tree q ≡ Some x)) name (name_found w.tree s.sound.tree r.name
        (s.sound.names_nodes r.name (runs_named w cpu r s.sound (runs_there ∙ is))))

    pub named_there : IsNamed w.tree (on_cpu cs cpu)
    named_there = go (on_cpu cs cpu) refl
      where
        go : (o : Option Occupant) → on_cpu cs cpu ≡ o → IsNamed w.tree o
        go None is = tt
        go (Some r) is = part_found r.name (ap (option_map (λ (z : Occupant). z.name)) is)

  -- so it stands, and its context can be saved
  pub part_stands : HasWorld m cs → (p : ℕ) → part_on cs cpu ≡ Some p → HasPartition m p
  part_stands h p on = let (x, found) = part_found h.world h.stands p on in
      record { tree = h.world.tree; node = x; sound = h.stands.sound.tree; laid = h.stands.shows.laid; found = found }

  pub can_save : HasWorld m cs → CanSave m (on_cpu cs cpu)
  can_save h = go (on_cpu cs cpu) refl
    where
      go : (o : Option Occupant) → on_cpu cs cpu ≡ o → CanSave m o
      go None is = tt
      go (Some r) is = (
        part_stands h r.name (ap (option_map (λ (z : Occupant). z.name)) is),
        h.stands.sound.contexts cpu r (runs_there h.world h.stands ∙ is),
      )

-- the root stands, by its name
pub root_held : (m : Memory) (cs : List (Option Occupant)) → HasWorld m cs → HasPartition m 1
root_held m cs h = root_stands h.world.tree h.stands.sound.tree m h.stands.shows.laid

-- ---- what is saved

-- what runs there is saved
pub saved_some : (m n : Memory) (o : Option Occupant) (r : Occupant) → o ≡ Some r
    → InEach m r.name (λ t x. IsHeld (save t r.name 63 r.ctx) n) → (t : Tree) → IsSound t → LaysOut t m → IsNamed t o
    → IsHeld (save_running t o) n
saved_some m n o r is held t s laid named =
    let (x, found) = subst (IsNamed t) is named in
    subst (λ q. IsHeld (save_running t q) n) (sym is) (held t x s laid found)

pub saved_none : (m : Memory) (o : Option Occupant) → o ≡ None → (t : Tree) → IsSound t → LaysOut t m
    → IsHeld (save_running t o) m
saved_none m o is t s laid = subst (λ q. IsHeld (save_running t q) m) (sym is) (s, laid)

pub can_some : (m : Memory) (o : Option Occupant) (r : Occupant) → o ≡ Some r → CanSave m o → CanSave m (Some r)
can_some m o r is h = subst (CanSave m) is h

-- what runs there is one
pub same_some : (o : Option Occupant) (r q : Occupant) → o ≡ Some r → o ≡ Some q → r ≡ q
same_some o r q is also = let both : Some r ≡ Some q = sym is ∙ also in cc

pub none_or_some : (o : Option Occupant) (r : Occupant) → o ≡ None → o ≡ Some r → ⊥
none_or_some o r is also = let both : ◌≡◌ {A = Option Occupant} None (Some r) = sym is ∙ also in cc

-- who runs there in the world
pub runner_in : (m : Memory) (cs : List (Option Occupant)) (cpu : ℕ) (w : World) → StandsFor m cs w → (p : ℕ)
    → part_on cs cpu ≡ Some p → (r : Occupant) × (runs_on w cpu ≡ Some r) × (on_cpu cs cpu ≡ Some r)
runner_in m cs cpu w s p on = let (r, is, name) = part_of (on_cpu cs cpu) p on in (r, runs_there m cs cpu w s ∙ is, is)
