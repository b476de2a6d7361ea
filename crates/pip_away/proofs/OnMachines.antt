-- What a machine says of the partition that runs on a processor.
use Rattle.std.proofs.Common.{◌≡◌, ℕ, Bool, true, false, refl, sym, ap, ◌∙◌, ◌≢◌, ◌==◌, ◌&&◌, eq-eqb, ne_eqb, ◌||◌}
use Rattle.std.proofs.Common.{length, not, subst, List, [], ◌∷◌, Option, Some, None}
use Rattle.std.specs.Prelude.{Err, Ok, nat_lt, option_map}
use Rattle.pip_base.specs.Memory.{Memory}
use Rattle.pip_base.specs.declared.types.Ctx.{Ctx}
use Rattle.pip_model.specs.Happens.{fault_vector}
use Rattle.pip_model.specs.Layout.{LaysOut}
use Rattle.pip_model.specs.Lists.{has}
use Rattle.pip_model.specs.Partitions.{HasPartition, InEach}
use Rattle.pip_model.specs.Reach.{Faulted, Place, Reached, reach}
use Rattle.pip_model.specs.Handlers.{is_reached}
use Rattle.pip_mmu.specs.Answers.{place_answer}
use Rattle.pip_mmu.specs.declared.faults.AccessFault.{AccessFault}
use Rattle.pip_base.specs.declared.types.Access.TheVariants.{Fetch}
use Rattle.pip_base.specs.declared.types.Size.{Size}
use Rattle.pip_base.specs.declared.types.Size.TheVariants.{Word}
use Rattle.pip_model.specs.Tree.{Node, Tree, chain, children, find_node}
use Rattle.pip_model.specs.Worlds.{IsSoundWorld, World, running, runs_on}
use Rattle.pip_model.specs.declared.processors.Occupant.{Occupant}
use Rattle.pip_model.proofs.Events.Soundness.{runs_named}
use Rattle.pip_model.proofs.Trees.Ancestry.{root_is_one}
use Rattle.pip_model.proofs.Trees.Lookup.{name_found, root_found}
use Rattle.pip_guests.specs.Sights.{Sight}
use Rattle.pip_guests.specs.Sights as T
use Rattle.pip_switch.specs.Plain.{plain_world}
use Rattle.pip_switch.specs.Standing.{StandsAs, State}

-- a partition by its name is confined
abbrev pub confined_by : List ℕ → Tree → ℕ → Bool
confined_by own t p = has own p && (not (p == t.root.name) && nat_lt (length (children t p)) 1)

module _ (own : List ℕ) (t : Tree) (p : ℕ) where
  abbrev no_exits : Bool
  no_exits = nat_lt (length (children t p)) 1

  pub other_confined : has own p ≡ false → false ≡ confined_by own t p
  other_confined e = sym (ap (λ b. b && (not (p == t.root.name) && no_exits)) e)

  module _ (e : has own p ≡ true) where
    pub root_confined : p ≡ t.root.name → false ≡ confined_by own t p
    root_confined is = sym (ap (λ b. b && (not (p == t.root.name) && no_exits)) e
        ∙ ap (λ b. not b && no_exits) (eq-eqb p t.root.name is))

    pub leaf_confined : p ≢ t.root.name → no_exits ≡ confined_by own t p
    leaf_confined ne = sym (ap (λ b. b && (not (p == t.root.name) && no_exits)) e
        ∙ ap (λ b. not b && no_exits) (ne_eqb p t.root.name ne))

-- the node of what runs
pub runner_node : (w : World) (cpu : ℕ) (r : Occupant) → IsSoundWorld w → runs_on w cpu ≡ Some r
    → (x : Node) × (find_node w.tree r.name ≡ Some x)
runner_node w cpu r s e = name_found w.tree s.tree r.name (s.names_nodes r.name (runs_named w cpu r s e))

some_runs : (o : Option Occupant) (part : ℕ) → option_map (λ r. r.name) o ≡ Some part
    → (r : Occupant) × (o ≡ Some r) × (r.name ≡ part)
some_runs None part e = cc
some_runs (Some r) part e = (r, refl, cc)

-- its pc
pub pc_here : (w : World) (cpu : ℕ) (r : Occupant) → runs_on w cpu ≡ Some r → (x : Ctx)
    → Some x ≡ option_map (λ r. r.ctx) (runs_on w cpu) → x.pc ≡ r.ctx.pc
pc_here w cpu r on x e = let same : Some x ≡ Some r.ctx = e ∙ ap (option_map (λ r. r.ctx)) on in cc

pub pc_nowhere : (w : World) (cpu : ℕ) (r : Occupant) → runs_on w cpu ≡ Some r
    → None ≡ option_map (λ r. r.ctx) (runs_on w cpu) → 0 ≡ r.ctx.pc
pc_nowhere w cpu r on e = let bad : ◌≡◌ {A = Option Ctx} None (Some r.ctx) = e ∙ ap (option_map (λ r. r.ctx)) on in cc

pub none_runs : (o : Option Occupant) → option_map (λ r. r.name) o ≡ None → (f : Occupant → Bool)
    → true ≡ T.if_runs o f
none_runs None e f = refl
none_runs (Some r) e f = cc

module _ (p : State) (w : World) (s : StandsAs p w) (m : Memory) (same : m ≡ p.memory) where
  pub laid_here : LaysOut w.tree m
  laid_here = subst (LaysOut w.tree) (sym same) s.bare.shows.laid

  -- the root stands
  pub root_here : HasPartition m 1
  root_here = record {
    tree = w.tree;
    node = w.tree.root;
    sound = s.bare.sound.tree;
    laid = laid_here;
    found = subst (λ n. find_node w.tree n ≡ Some w.tree.root) (root_is_one w.tree s.bare.sound.tree)
        (root_found w.tree);
  }

  module _ (cpu part : ℕ) (runs : option_map (λ r. r.name) (runs_on w cpu) ≡ Some part) where
    part_found : (x : Node) × (find_node w.tree part ≡ Some x)
    part_found =
        let (r, on, name) = some_runs (runs_on w cpu) part runs in
        subst (λ n. (x : Node) × (find_node w.tree n ≡ Some x)) name (runner_node w cpu r s.bare.sound on)

    pub part_here : HasPartition m part
    part_here = record {
      tree = w.tree;
      node = part_found.0;
      sound = s.bare.sound.tree;
      laid = laid_here;
      found = part_found.1;
    }

    -- what is so in each tree is so in the world's
    pub told_here : (P : Tree → Type 0) → InEach m part (λ t x. P t) → P w.tree
    told_here P h = h w.tree part_found.0 s.bare.sound.tree laid_here part_found.1

    -- and a test of what runs is one of the partition
    pub test_here : (f : Occupant → Bool) (g : ℕ → Bool) → ((r : Occupant) → f r ≡ g r.name) → (b : Bool)
        → b ≡ g part → b ≡ T.if_runs (runs_on w cpu) f
    test_here f g same b e =
        let (r, on, name) = some_runs (runs_on w cpu) part runs in
        e ∙ ap g (sym name) ∙ sym (same r) ∙ sym (ap (λ o. T.if_runs o f) on)

    -- nor one that asks more of it
    pub run_here : (f : Occupant → Bool) (b : Bool)
        → ((r : Occupant) → runs_on w cpu ≡ Some r → r.name ≡ part → b ≡ f r) → b ≡ T.if_runs (runs_on w cpu) f
    run_here f b h =
        let (r, on, name) = some_runs (runs_on w cpu) part runs in
        h r on name ∙ sym (ap (λ o. T.if_runs o f) on)

-- ---- caches don't matter

module _ (own : List ℕ) (sight : Sight) (w : World) where
  handlers_same : (k : ℕ) (qs : List Node) → T.handlers_pass own sight (plain_world w.tree w.cpus) k qs
      ≡ T.handlers_pass own sight w k qs
  handlers_same k [] = refl
  handlers_same k (q ∷ qs) =
      ap (λ b. (has (running w) q.name || T.handler_passes own sight w.tree q.name k) && b) (handlers_same k qs)

  above_same : (k : ℕ) (qs : List Node) → T.above_pass own sight (plain_world w.tree w.cpus) k qs
      ≡ T.above_pass own sight w k qs
  above_same k [] = refl
  above_same k (q ∷ qs) = handlers_same k qs

  module _ (cs : List (Option Occupant)) (same : cs ≡ w.cpus) (p : ℕ) where
    pub delivery_same : (k : ℕ) → T.delivery_passes own sight (plain_world w.tree cs) p k
        ≡ T.delivery_passes own sight w p k
    delivery_same k = ap (λ c. T.delivery_passes own sight (plain_world w.tree c) p k) same
        ∙ ap (λ b. b && T.save_passes own sight w.tree p 63) (above_same k (chain w.tree p))

    pub load_same : (q : Reached) → T.load_passes own sight (plain_world w.tree cs) p q
        ≡ T.load_passes own sight w p q
    load_same (Place g i) = refl
    load_same (Faulted f) = delivery_same (fault_vector f)

    pub store_same : (z : Size) (q : Reached) → T.store_passes own sight (plain_world w.tree cs) p z q
        ≡ T.store_passes own sight w p z q
    store_same z (Place g i) = refl
    store_same z (Faulted f) = delivery_same (fault_vector f)

    -- a fetch, by the partition and its pc
    pub fetched_by : (pc : ℕ) (r : Occupant) → r.name ≡ p → pc ≡ r.ctx.pc → has own p ≡ false → (b : Bool)
        → b ≡ T.load_passes own sight (plain_world w.tree cs) p (reach w.tree p pc Fetch Word)
        → b ≡ (not (has own r.name) && T.load_passes own sight w r.name (reach w.tree r.name r.ctx.pc Fetch Word))
    fetched_by pc r name at off b is = is ∙ load_same (reach w.tree p pc Fetch Word)
        ∙ ap (λ n. T.load_passes own sight w n (reach w.tree n pc Fetch Word)) (sym name)
        ∙ ap (λ k. T.load_passes own sight w r.name (reach w.tree r.name k Fetch Word)) at
        ∙ sym (ap (λ c. not c && T.load_passes own sight w r.name (reach w.tree r.name r.ctx.pc Fetch Word))
        (ap (has own) name ∙ off))

pub place_reached : (q : Reached) (y : ℕ × ℕ) → Ok y ≡ place_answer q → true ≡ is_reached q
place_reached (Place g i) y e = refl
place_reached (Faulted f) y e = cc

pub fault_reached : (q : Reached) (f : AccessFault) → Err f ≡ place_answer q → false ≡ is_reached q
fault_reached (Place g i) f e = cc
fault_reached (Faulted h) f e = refl
