-- Each form of the laws for machines, applied to machines that took the events.
use Rattle.std.proofs.Common.{List, [], ◌∷◌, ◌++◌, inl, inr, refl}
use Rattle.std.specs.List.{AllByRecursion}
use Rattle.pip_model.specs.Events.{Event, IsEvent}
use Rattle.pip_guests.specs.Ancestors.{AncestorsOnMachines}
use Rattle.pip_guests.specs.Guests as G
use Rattle.pip_guests.specs.Machines.{MachinesAreLeftAlike, MachinesDependOnGuests, MachinesDependOnInputs}
use Rattle.pip_guests.specs.Machines.{MachinesKeepGuestsApart, MachinesLeaveGuestsAlone, MachinesLeaveOtherGuestsAlone}
use Rattle.pip_guests.specs.Machines.{MachinesRunGuestsAsAlone, MachinesRunOnInputs}
use Rattle.pip_guests.proofs.Elsewhere.{same_world}
use Rattle.pip_test_every.specs.Met.{MeetsAlone, MeetsAncestors, MeetsApart, MeetsDepends, MeetsInputs, MeetsLeft}
use Rattle.pip_test_every.specs.Met.{MeetsLists, MeetsOthers, MeetsSteps, Took}
use Rattle.pip_test_every.specs.Prepared.{later_slot, masked_world, other_slot, own_load, own_store, own_trap}
use Rattle.pip_test_every.specs.Prepared.{pair_world, root_removal, root_store, root_world, root_yield, their_store}
use Rattle.pip_test_every.proofs.Events.{took_one}
use Rattle.pip_test_every.proofs.Worlds.{aside, entry_is, fits, load_inside, load_is, masked_same, off_13, off_line}
use Rattle.pip_test_every.proofs.Worlds.{pair_not_root, pair_there, removal_is, root_not_root, root_store_is}
use Rattle.pip_test_every.proofs.Worlds.{root_there, runs_alike, runs_root, steps_alike, store_inside, store_is}
use Rattle.pip_test_every.proofs.Worlds.{their_store_inside, their_store_is, trap_is, trap_leaves, turn_events}

pub others_met : MachinesLeaveOtherGuestsAlone → Took pair_world (own_store ∷ []) → MeetsOthers pair_world own_store 13
others_met law t =
    let m = took_one pair_world own_store t in
    record {
      machine = m;
      is = store_is;
      own = refl;
      not_root = pair_not_root;
      below = inl refl;
      so = law m.first m.last own_store m.outcome 13 m.takes store_is refl pair_world m.stands pair_not_root (inl refl);
    }

pub depends_met : MachinesDependOnGuests → Took pair_world (own_load ∷ []) → Took masked_world (own_load ∷ [])
    → MeetsDepends pair_world masked_world own_load 13
depends_met law one two =
    let m = took_one pair_world own_load one in
    let n = took_one masked_world own_load two in
    let same = masked_same m.stands.bare.sound in
    record {
      left = m;
      right = n;
      is = load_is;
      not_root = pair_not_root;
      same = same;
      inside = load_inside;
      so = law m.first m.last n.first n.last own_load m.outcome n.outcome 13 m.takes n.takes load_is pair_world
          masked_world m.stands n.stands pair_not_root same load_inside;
    }

pub left_met : MachinesAreLeftAlike → Took pair_world (own_trap ∷ []) → Took masked_world (own_trap ∷ [])
    → MeetsLeft pair_world masked_world own_trap 13
left_met law one two =
    let m = took_one pair_world own_trap one in
    let n = took_one masked_world own_trap two in
    let same = masked_same m.stands.bare.sound in
    record {
      left = m;
      right = n;
      is = trap_is;
      not_root = pair_not_root;
      same = same;
      leaving = trap_leaves;
      so = law m.first m.last n.first n.last own_trap m.outcome n.outcome 13 m.takes n.takes trap_is pair_world
          masked_world m.stands n.stands pair_not_root same trap_leaves;
    }

pub apart_met : MachinesLeaveGuestsAlone → Took pair_world (their_store ∷ []) → MeetsApart pair_world their_store 13
apart_met law t =
    let m = took_one pair_world their_store t in
    record {
      machine = m;
      is = their_store_is;
      there = pair_there;
      not_root = pair_not_root;
      elsewhere = inr aside;
      so = law m.first m.last their_store m.outcome 13 m.takes their_store_is pair_world m.stands pair_there
          pair_not_root (inr aside);
    }

pub ancestors_met : AncestorsOnMachines → Took root_world (root_removal ∷ [])
    → MeetsAncestors root_world root_removal 13
ancestors_met law t =
    let m = took_one root_world root_removal t in
    let off = off_line root_world root_removal refl refl in
    let runs = runs_root root_world root_removal refl refl in
    record {
      machine = m;
      is = removal_is;
      there = root_there;
      not_root = root_not_root;
      runs = runs;
      outside = off;
      no_matter = off_13;
      so = law m.first m.last root_removal m.outcome 13 m.takes removal_is root_world m.stands root_there
          root_not_root runs off off_13;
    }

pub lists_met : MachinesKeepGuestsApart → Took pair_world (their_store ∷ own_store ∷ [])
    → Took pair_world (own_store ∷ []) → MeetsLists pair_world (their_store ∷ own_store ∷ []) 13
lists_met law m n =
    let es : List Event = their_store ∷ own_store ∷ [] in
    let are : AllByRecursion IsEvent es = (their_store_is, (store_is, tt)) in
    let fit = fits m.stands.bare.sound in
    record {
      all = m;
      few = n;
      there = pair_there;
      not_root = pair_not_root;
      are = are;
      fit = fit;
      so = law pair_world 13 es m.first m.last n.first n.last m.outcomes n.outcomes m.stands n.stands m.takes n.takes
          pair_there pair_not_root are fit;
    }

pub alone_met : MachinesRunGuestsAsAlone → Took pair_world (own_store ∷ their_store ∷ [])
    → Took pair_world (own_store ∷ []) → Took pair_world (their_store ∷ [])
    → MeetsAlone pair_world (own_store ∷ their_store ∷ []) (own_store ∷ []) (their_store ∷ []) 13 22
alone_met law m a b =
    let es : List Event = own_store ∷ their_store ∷ [] in
    let xs : List Event = own_store ∷ [] in
    let ys : List Event = their_store ∷ [] in
    let are : AllByRecursion IsEvent es = (store_is, (their_store_is, tt)) in
    let among : G.Among es xs ys = G.left own_store (G.right their_store G.none) in
    let stay : G.AllStayOrLeave 13 pair_world xs = (inl store_inside, tt) in
    let others_stay : G.AllStayOrLeave 22 pair_world ys = (inl their_store_inside, tt) in
    record {
      both = m;
      one = a;
      other = b;
      there = pair_there;
      aside = aside;
      are = are;
      among = among;
      stay = stay;
      others_stay = others_stay;
      so = law pair_world 13 22 es xs ys m.first m.last
          a.first a.last b.first b.last m.outcomes a.outcomes b.outcomes m.stands a.stands b.stands m.takes a.takes
          b.takes pair_there aside are among stay others_stay;
    }

pub inputs_met : MachinesDependOnInputs → Took root_world (root_yield ∷ own_store ∷ [])
    → Took root_world (root_store ∷ root_yield ∷ own_store ∷ [])
    → MeetsInputs root_world root_world (root_yield ∷ own_store ∷ []) (root_store ∷ root_yield ∷ own_store ∷ []) 13
inputs_met law m n =
    let es : List Event = root_yield ∷ own_store ∷ [] in
    let fs : List Event = root_store ∷ root_yield ∷ own_store ∷ [] in
    let are : AllByRecursion IsEvent es = (entry_is, (store_is, tt)) in
    let are_there : AllByRecursion IsEvent fs = (root_store_is, (entry_is, (store_is, tt))) in
    let same = same_world 13 root_world in
    let alike = runs_alike m.stands.bare.sound in
    record {
      left = m;
      right = n;
      there = root_there;
      not_root = root_not_root;
      same = same;
      are = are;
      are_there = are_there;
      alike = alike;
      so = law root_world root_world 13 es fs m.first m.last n.first n.last m.outcomes n.outcomes m.stands n.stands
          m.takes n.takes root_there root_not_root same are are_there alike;
    }

pub steps_met : MachinesRunOnInputs → Took pair_world (turn_events 0)
    → Took pair_world (turn_events 1 ++ turn_events 0)
    → MeetsSteps pair_world pair_world [] [] (later_slot ∷ []) (other_slot ∷ later_slot ∷ []) 13
steps_met law m n =
    let same = same_world 13 pair_world in
    let inputs = steps_alike m.stands.bare.sound in
    record {
      left = m;
      right = n;
      there = pair_there;
      not_root = pair_not_root;
      same = same;
      inputs = inputs;
      so = law pair_world pair_world 13 [] [] (later_slot ∷ []) (other_slot ∷ later_slot ∷ []) m.first m.last n.first
          n.last m.outcomes n.outcomes m.stands n.stands m.takes n.takes pair_there pair_not_root same inputs;
    }
