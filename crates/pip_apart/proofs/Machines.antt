-- What a machine tells of the guest that runs on its processors.
use Rattle.std.proofs.Common.{◌≡◌, ◌≢◌, ℕ, ◌==◌, ◌&&◌, ◌↔◌, inl, inr, Bool, true, false, refl, sym, ap, ◌∙◌}
use Rattle.std.proofs.Common.{subst, Option, Some, None, slice_index}
use Rattle.std.specs.Prelude.{option_map}
use Rattle.std.proofs.lemmas.Bool.{ne_eqb}
use Rattle.pip_base.specs.Memory.{Memory}
use Rattle.pip_base.specs.declared.outcome.Outcome.{Outcome}
use Rattle.pip_base.specs.declared.outcome.Outcome.TheVariants as O
use Rattle.pip_base.specs.declared.types.Ctx.{Ctx}
use Rattle.pip_model.specs.Effects.{word_effect}
use Rattle.pip_model.specs.Events as E
use Rattle.pip_model.specs.InstrRead.{instr_of}
use Rattle.pip_model.specs.Layout.{LaysOut}
use Rattle.pip_model.specs.Lists.{In, has}
use Rattle.pip_model.specs.Local.{actor}
use Rattle.pip_model.specs.Midway.{OnChain, here, over}
use Rattle.pip_model.specs.Partitions.{HasPartition, InEach}
use Rattle.pip_model.specs.Poll.{occupant_name}
use Rattle.pip_model.specs.Sound.{IsSound}
use Rattle.pip_model.specs.Tree.{Node, Tree, ancestry, find_node}
use Rattle.pip_model.specs.Turn.{outcome_of}
use Rattle.pip_model.specs.Worlds.{IsSoundWorld, World, runs_on}
use Rattle.pip_model.specs.declared.processors.Occupant.{Occupant}
use Rattle.pip_model.proofs.OnLists.Members.{has_in, in_has}
use Rattle.pip_model.proofs.Events.Soundness.{runs_named}
use Rattle.pip_model.proofs.Trees.Ancestry.{ancestry_over, over_ancestry}
use Rattle.pip_model.proofs.Trees.Chains.{above_chain, chain_over}
use Rattle.pip_model.proofs.Trees.Free.{tests_agree}
use Rattle.pip_model.proofs.Trees.Lookup.{found_in, found_name, name_found, parent_found}
use Rattle.pip_switch.specs.Standing.{StandsAs, State}
use Rattle.pip_apart.specs.Company.{runs_below}
use Rattle.pip_apart.specs.Kept.{asks_by, asks_next, yields_by}
use Rattle.pip_apart.proofs.Company.{none_below}

-- ---- chains of parents

-- the top of a chain is there
chain_top : (t : Tree) → IsSound t → (a b : ℕ) → OnChain t a b → (x : Node) → find_node t b ≡ Some x
    → (y : Node) × (find_node t a ≡ Some y)
chain_top t s a _ here x e = (x, e)
chain_top t s a b (over z k r) x e = let (p, q) = parent_found t s b z k in chain_top t s a z.up r p q

chain_in : (t : Tree) → IsSound t → (a b : ℕ) (x : Node) → find_node t b ≡ Some x → OnChain t a b
    → In a (ancestry t b)
chain_in t s a b x e h =
    let (y, d) = chain_top t s a b h x e in
    let i = over_ancestry t s y x (found_in t a y d) (chain_over t s a b h y x d e) in
    rw (← found_name t a y d) (subst (λ n. In y.name (ancestry t n)) (found_name t b x e) i)

in_chain : (t : Tree) → IsSound t → (a b : ℕ) (x : Node) → find_node t b ≡ Some x → In a (ancestry t b)
    → OnChain t a b
in_chain t s a b x e h =
    let name = found_name t b x e in
    let i = found_in t b x e in
    let (z, j, n, o) = ancestry_over t s x i a (rw name h) in
    elim o [
      | inl same ↦ rw (← n, same, name) here
      | inr above ↦ rw (← n) (subst (OnChain t z.name) name (above_chain t s z x above))
    ]

-- ---- what runs

-- the node of what runs on a processor
pub part_node : (w : World) (cpu part : ℕ) → IsSoundWorld w → option_map (λ r. r.name) (runs_on w cpu) ≡ Some part
    → (x : Node) × (find_node w.tree part ≡ Some x)
part_node w cpu part s e = go (runs_on w cpu) refl e
  where
    go : (o : Option Occupant) → runs_on w cpu ≡ o → option_map (λ r. r.name) o ≡ Some part
        → (x : Node) × (find_node w.tree part ≡ Some x)
    go None k q = cc
    go (Some r) k q = let name : r.name ≡ part = cc in
        subst (λ n. (x : Node) × (find_node w.tree n ≡ Some x)) name
        (name_found w.tree s.tree r.name (s.names_nodes r.name (runs_named w cpu r s k)))

pub part_stands : (p : State) (w : World) (m : Memory) (cpu part : ℕ) → StandsAs p w → m ≡ p.memory
    → option_map (λ r. r.name) (runs_on w cpu) ≡ Some part → HasPartition m part
part_stands p w m cpu part s same e =
    let (x, f) = part_node w cpu part s.bare.sound e in
    record {
      tree = w.tree;
      node = x;
      sound = s.bare.sound.tree;
      laid = rw same s.bare.shows.laid;
      found = f;
    }

-- whether it is below the top of the guest
pub part_below : (p : State) (w : World) (m : Memory) (top cpu part : ℕ) (b : Bool) → StandsAs p w → m ≡ p.memory
    → option_map (λ r. r.name) (runs_on w cpu) ≡ Some part → InEach m part (λ t x. (b ≡ true) ↔ OnChain t top part)
    → b ≡ runs_below w top cpu
part_below p w m top cpu part b s same e h =
    let sound = s.bare.sound in
    let (x, f) = part_node w cpu part sound e in
    let tells = h w.tree x sound.tree (rw same s.bare.shows.laid) f in
    let name : actor w (E.Poll cpu) ≡ part = go (runs_on w cpu) e in
    tests_agree b (has (ancestry w.tree (actor w (E.Poll cpu))) top)
    (λ q. in_has top _ (rw name (chain_in w.tree sound.tree top part x f (tells.0 q))))
    (λ q. tells.1 (in_chain w.tree sound.tree top part x f
    (rw (← name) (has_in top (ancestry w.tree (actor w (E.Poll cpu))) q))))
  where
    go : (o : Option Occupant) → option_map (λ r. r.name) o ≡ Some part → occupant_name o ≡ part
    go None q = cc
    go (Some r) q = cc

pub none_runs : (p : State) (w : World) (top cpu : ℕ) → StandsAs p w
    → option_map (λ r. r.name) (runs_on w cpu) ≡ None → false ≡ runs_below w top cpu
none_runs p w top cpu s e = sym (none_below w top cpu s.bare.sound (go (runs_on w cpu) e))
  where
    go : (o : Option Occupant) → option_map (λ r. r.name) o ≡ None → o ≡ None
    go None q = refl
    go (Some r) q = cc

-- ---- what it asks

other_register : (a b : Bool) → ((a && false) && b) ≡ false
other_register true b = refl
other_register false b = refl

-- where r1 isn't 0 it asks no parent
pub asks_none : (p : ℕ) (w : World) (cpu : ℕ) (x : Ctx) → option_map (λ r. r.ctx) (runs_on w cpu) ≡ Some x
    → slice_index x.regs 1 ≢ 0 → false ≡ asks_next p w cpu
asks_none p w cpu x e d = sym (go (runs_on w cpu) (outcome_of w (E.Fetch cpu)) e)
  where
    go : (o : Option Occupant) (a : Outcome) → option_map (λ r. r.ctx) o ≡ Some x → asks_by p o a ≡ false
    go None a q = cc
    go (Some r) O.Done q = refl
    go (Some r) (O.Reply n v) q = refl
    go (Some r) (O.Switched from to k) q = refl
    go (Some r) (O.Parked from k) q = refl
    go (Some r) O.Idle q = refl
    go (Some r) (O.Word u) q =
        let same : r.ctx ≡ x = cc in
        let z : (slice_index r.ctx.regs 1 == 0) ≡ false =
        ne_eqb (slice_index r.ctx.regs 1) 0 (λ n. d (rw (← same, n))) in
        rw (z, other_register (r.name == p) (yields_by (word_effect r.ctx u (instr_of u))))
