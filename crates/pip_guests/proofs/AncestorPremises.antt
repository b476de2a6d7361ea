-- The premises on what partitions above do are needed: without one of them the root of the computed world changes its
-- child 13.
use Rattle.std.proofs.Common.{◌≡◌, ◌≢◌, ℕ, inl, inr, [], ◌∷◌, refl, sym, ap, ◌∙◌, subst, arith, Option, Some, None}
use Rattle.pip_base.specs.declared.types.Size.TheVariants.{Word}
use Rattle.pip_model.specs.Answers.{Five}
use Rattle.pip_model.specs.Events.{Event, IsEvent}
use Rattle.pip_model.specs.Events as E
use Rattle.pip_model.specs.Happens.{event}
use Rattle.pip_model.specs.Lists.{In}
use Rattle.pip_model.specs.Local.{IsBelow, actor}
use Rattle.pip_model.specs.Poll.{occupant_name}
use Rattle.pip_model.specs.Tree.{ancestry, names_of, node, nodes}
use Rattle.pip_model.specs.Worlds.{IsSoundWorld, World, runs_on}
use Rattle.pip_model.specs.declared.call_name.MemoryCall.TheVariants.{DeletePartition}
use Rattle.pip_model.specs.declared.processors.Occupant.{Occupant}
use Rattle.pip_model.proofs.Events.Soundness.{event-sound}
use Rattle.pip_guests.specs.Guests.{IsSameGuest}
use Rattle.pip_guests.specs.Limits.{CallsMatter, FaultsMatter, IsCallOnMemory}
use Rattle.pip_guests.specs.Limits.{IsYieldAnywhere, PlacesMatter, StoresMatter, TargetsMatter}
use Rattle.pip_guests.proofs.Premises.{enters, enters_are, five, gives, gives_are, made, made_sound, words}

not_root : (w : World) → w.tree.root.name ≡ 1 → 13 ≢ w.tree.root.name
not_root w root e = let one : ◌≡◌ {A = ℕ} 13 1 = cc in omega arith

root_alone : In {A = ℕ} 13 (1 ∷ []) → ⊥
root_alone i = elim i [ inl e ↦ omega arith | inr j ↦ j ]

-- the root makes the event
runs_root : (w : World) (e : Event) → actor w e ≡ 1 → w.tree.root.name ≡ 1 → In (actor w e) (names_of (nodes w.tree))
runs_root w e who root = inl (cc)

off_root : (w : World) (e : Event) → actor w e ≡ 1 → ancestry w.tree 1 ≡ 1 ∷ [] → In 13 (ancestry w.tree (actor w e))
    → ⊥
off_root w e who line h = root_alone (rw (who, line) at h)

-- ---- the root deletes 13

abbrev deletes : Five
deletes = five 0x401000 0 0 0 0

deletes_are : IsEvent (E.Call 0 1 deletes)
deletes_are = let z = words 0 (omega arith) in (words 1 (omega arith), (omega arith, (z, (z, (z, (z, tt))))))

is_call : IsCallOnMemory 13 made (E.Call 0 1 deletes)
is_call = record { cpu = 0; number = 1; arguments = deletes; call = DeletePartition; is = refl; named = refl }

pub calls_matter : CallsMatter
calls_matter law =
    let e = E.Call 0 1 deletes in
    let g = law made 13 e made_sound deletes_are (inr (inr (inl refl))) (not_root made refl)
    (runs_root made e refl refl) (off_root made e refl refl) is_call in
    let there : IsBelow (event made (E.Call 0 1 deletes)).world.tree 13 (node made.tree 13) =
    (g.below.nodes (node made.tree 13)).0 (inr (inr (inl refl)), inl refl) in
    elim there.0 [
      | inl e ↦ let n : ◌≡◌ {A = ℕ} 13 1 = ap (λ x. x.name) e in omega arith
      | inr i ↦ elim i [ inl e ↦ let n : ◌≡◌ {A = ℕ} 13 22 = ap (λ x. x.name) e in omega arith | inr j ↦ j ]
    ]

-- ---- the root yields to 13, and saves nothing

is_yield : IsYieldAnywhere 13 made (E.Call 0 8 enters)
is_yield = record { cpu = 0; number = 8; arguments = enters; is = refl; named = refl; saved = λ g i e h. cc }

pub targets_matter : TargetsMatter
targets_matter law = go (runs_on entered 0) refl refl
  where
    entered : World
    entered = (event made (E.Call 0 8 enters)).world

    same : IsSameGuest 13 made entered
    same = law made 13 (E.Call 0 8 enters) made_sound enters_are (inr (inr (inl refl))) (not_root made refl)
        (runs_root made (E.Call 0 8 enters) refl refl) (off_root made (E.Call 0 8 enters) refl refl) is_yield

    go : (o : Option Occupant) → runs_on entered 0 ≡ o → occupant_name o ≡ 13 → ⊥
    go None k n = omega arith
    go (Some r) k n =
        let here : In 13 (ancestry entered.tree 13) = inl refl in
        let runs = same.runs_back 0 r (subst (λ m. In 13 (ancestry entered.tree m)) (sym n) here) k in
        let name : ◌≡◌ {A = ℕ} 1 13 = ap occupant_name runs ∙ n in
        omega arith

-- ---- the root stores to a word of 13's page

pub stores_matter : StoresMatter
stores_matter law =
    let g = law made 13 gives made_sound gives_are (inr (inr (inl refl))) (not_root made refl)
    (runs_root made gives refl refl) (off_root made gives refl refl) (record {
      cpu = 0;
      va = 0x409008;
      size = Word;
      value = 5;
      is = refl;
      saved = λ g i e h. elim h [ inl k ↦ cc | inr j ↦ j ];
    }) in
    let word : ◌≡◌ {A = ℕ} 5 0xfffff000 = g.below.words 21 2 (inl refl) (omega arith) in
    omega arith

-- ---- the root's block for vector 63 is in 13's page

abbrev placed : World
placed = (event made (E.Store 0 0xfffff0fc Word 0x409000)).world

placed_sound : IsSoundWorld placed
placed_sound = event-sound made (E.Store 0 0xfffff0fc Word 0x409000) made_sound (omega arith, omega arith)

-- it yields to 22, and is saved there
abbrev leaves : Five
leaves = five 0x40a000 64 63 0 0

leaves_are : IsEvent (E.Call 0 8 leaves)
leaves_are = let z = words 0 (omega arith) in
    (words 8 (omega arith), (omega arith, (words 64 (omega arith), (words 63 (omega arith), (z, (z, tt))))))

pub places_matter : PlacesMatter
places_matter law =
    let e = E.Call 0 8 leaves in
    let g = law placed 13 e placed_sound leaves_are (inr (inr (inl refl))) (not_root placed refl)
    (runs_root placed e refl refl) (off_root placed e refl refl) (record {
      cpu = 0;
      number = 8;
      arguments = leaves;
      is = refl;
      named = refl;
      target = λ i. elim i [ inl e ↦ omega arith | inr j ↦ elim j [ inl e ↦ omega arith | inr k ↦ k ] ];
    }) in
    let word : ◌≡◌ {A = ℕ} 0x400000 0x22100000 = g.below.words 21 0 (inl refl) (omega arith) in
    omega arith

-- it loads where it has no page, and is saved there
pub faults_matter : FaultsMatter
faults_matter law =
    let e = E.Load 0 0x20000000 Word in
    let g = law placed 13 e placed_sound (omega arith) (inr (inr (inl refl))) (not_root placed refl)
    (runs_root placed e refl refl) (off_root placed e refl refl)
    (record { cpu = 0; va = 0x20000000; size = Word; is = refl }) in
    let word : ◌≡◌ {A = ℕ} 0x400000 0x22100000 = g.below.words 21 0 (inl refl) (omega arith) in
    omega arith
