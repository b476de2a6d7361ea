-- From what the calls of the lower crates answer to the model's answers and replies.
use Rattle.pip_switch.specs.Plain.{plain_world}
use Rattle.std.proofs.Common.{◌≡◌, ◌≢◌, ℕ, zero, suc, ◌<◌, ◌&&◌, cond, false, inl, inr, List, [], ◌∷◌, length, get_or}
use Rattle.std.proofs.Common.{refl, sym, ap, ap₂, ◌∙◌, subst, arith, Option, Some, None}
use Rattle.std.specs.Prelude.{All, Err, Ok, Result, option_map, slice_set}
use Rattle.pip_base.specs.Memory.{Memory}
use Rattle.pip_base.specs.declared.outcome.Outcome.{Outcome}
use Rattle.pip_base.specs.declared.outcome.Outcome.TheVariants as O
use Rattle.pip_base.specs.declared.outcome.Status.{Status}
use Rattle.pip_base.specs.declared.outcome.Status.TheVariants as S
use Rattle.pip_birth.specs.Deleting.{HasPartitions}
use Rattle.pip_kern.specs.Calls.{Does, DoesWithValue, IsAnswer}
use Rattle.pip_model.specs.Answers.{Answer, Five, accept, answer_unless, refuse}
use Rattle.pip_model.specs.Events as E
use Rattle.pip_model.specs.Cache.{Places, all_emptied}
use Rattle.pip_model.specs.Happens.{IsSwitching, what_happens, by_runner, call, call_named, empties, is_accepted}
use Rattle.pip_model.specs.Happens.{on_running}
use Rattle.pip_model.specs.declared.call_name.MemoryCall.TheVariants.{AddVAddr, Collect, CountToMap, CreatePartition}
use Rattle.pip_model.specs.declared.call_name.MemoryCall.TheVariants.{DeletePartition, MappedInChild, Prepare}
use Rattle.pip_model.specs.declared.call_name.MemoryCall.TheVariants.{RemoveVAddr}
use Rattle.pip_model.specs.declared.call_name.CallName.{CallName}
use Rattle.pip_model.specs.declared.call_name.CallName.TheVariants.{Masks, OnMemory, Unknown, Yields}
use Rattle.pip_model.specs.Layout.{LaysOut}
use Rattle.pip_model.specs.Lists.{In}
use Rattle.pip_model.specs.Partitions.{HasPartition, InEach, IsHeld}
use Rattle.pip_model.specs.Switching.{reply_happens, reply_unless, yield}
use Rattle.pip_model.specs.Tree.{Tree, names_of, nodes}
use Rattle.pip_model.specs.Worlds.{Happened, World, runs_on}
use Rattle.pip_model.specs.declared.processors.Occupant.{Occupant}
use Rattle.pip_switch.specs.Answering.{answer_named, takes_by_name}
use Rattle.pip_switch.specs.Occupied.{names_on, on_cpu, part_on, with_answer}
use Rattle.pip_switch.specs.Standing.{Came, CameWith, HasWorld, StandsFor}
use Rattle.pip_switch.proofs.Happening.{came_so}
use Rattle.pip_switch.proofs.Running.{none_of, part_found, part_of, runs_there}

-- ---- what calls do

-- a call that only asks leaves the memory
pub asked-does : (call : Tree → Answer) (p : ℕ) (status : Status) (value : ℕ) (m : Memory) → ((t : Tree) → (call t).tree
    ≡ t) → InEach m p (λ t x. (status ≡ (call t).status) × (value ≡ (call t).value)) → Does call p status value m m
asked-does call p status value m same is = record {
  answer = is;
  tree = λ t x s laid found. subst (λ u. IsHeld u m) (sym (same t)) (s, laid);
  refused = λ ne. refl;
  count = refl;
}

pub asked-gives : (call : Tree → Answer) (p : ℕ) (r : Result ℕ Status) (m : Memory) → ((t : Tree) → (call t).tree ≡ t)
    → HasPartition m p → InEach m p (λ t x. IsAnswer r (call t)) → DoesWithValue call p r m m
asked-gives call p (Ok value) m same k is =
    asked-does call p S.Ok value m same (λ t x s laid found. let a = is t x s laid found in (sym a.0, sym a.1))
asked-gives call p (Err status) m same k is = (
  (is k.tree k.node k.sound k.laid k.found).1,
  asked-does call p status 0 m same (λ t x s laid found. let a = is t x s laid found in (sym a.0, sym a.2)),
)

-- a call that changes only the tree's control is always carried out
pub done-does : (p : ℕ) (f : Tree → Tree) (m n : Memory) → length n ≡ length m → InEach m p (λ t x. IsHeld (f t) n)
    → Does (λ t. accept 0 (f t)) p S.Ok 0 m n
done-does p f m n count held =
    record { answer = λ t x s laid found. (refl, refl); tree = held; refused = λ ne. absurd (ne refl); count = count }

-- a call that only asks leaves the tree
pub asked_tree : (t : Tree) (v : ℕ) (o : Option Status) → (answer_unless t o (accept v t)).tree ≡ t
asked_tree t v None = refl
asked_tree t v (Some s) = refl

-- what a call does, by another name for it
pub same-does : {X : Type 0} (call : X → Tree → Answer) (p : ℕ) {k j : X} → k ≡ j → (status : Status) (value : ℕ)
    (m n : Memory) → Does (call j) p status value m n → Does (call k) p status value m n
same-does call p is status value m n does = subst (λ l. Does (call l) p status value m n) (sym is) does

-- ---- who runs

get_in : (xs : List ℕ) (k d : ℕ) → k < length xs → In (get_or xs k d) xs
get_in [] k d low = absurd (omega arith)
get_in (x ∷ xs) zero d low = inl refl
get_in (x ∷ xs) (suc k) d low = inr (get_in xs k d (omega arith))

-- the names that run are partitions
pub are_running : (m : Memory) (cs : List (Option Occupant)) → HasWorld m cs → (rs : List ℕ) → rs ≡ names_on cs
    → HasPartitions m rs
are_running m cs h rs is =
    let w = h.world in
    let each : All (λ (r : ℕ). In r (names_of (nodes w.tree))) (names_on w.cpus) =
    λ k d low. h.stands.sound.names_nodes (get_or (names_on w.cpus) k d) (get_in (names_on w.cpus) k d low) in
    record {
      tree = w.tree;
      sound = h.stands.sound.tree;
      laid = h.stands.shows.laid;
      each =
          subst (λ z. All (λ (r : ℕ). In r (names_of (nodes w.tree))) z) (ap names_on h.stands.shows.cpus ∙ sym is)
          each;
    }

-- ---- what a call takes

-- a call looks at no cache
answer_seen : (w : World) (name : CallName) (p : ℕ) (a : Five)
    → answer_named name (plain_world w.tree w.cpus) p a ≡ answer_named name w p a
answer_seen w (OnMemory CreatePartition) p a = refl
answer_seen w (OnMemory DeletePartition) p a = refl
answer_seen w (OnMemory CountToMap) p a = refl
answer_seen w (OnMemory Prepare) p a = refl
answer_seen w (OnMemory Collect) p a = refl
answer_seen w (OnMemory AddVAddr) p a = refl
answer_seen w (OnMemory RemoveVAddr) p a = refl
answer_seen w (OnMemory MappedInChild) p a = refl
answer_seen w Yields p a = refl
answer_seen w (Masks b) p a = refl
answer_seen w Unknown p a = refl

-- whether it empties the caches, by its status and value
empties_is : (w : World) (name : CallName) (p : ℕ) (a : Five) → empties name w p a
    ≡ (is_accepted (answer_named name w p a).status && takes_by_name name (answer_named name w p a).value)
empties_is w (OnMemory k) p a = refl
empties_is w Yields p a = refl
empties_is w (Masks b) p a = refl
empties_is w Unknown p a = refl

-- ---- replies

-- every call but yield is replied to
called : (w : World) (cpu : ℕ) (r : Occupant) (a : Five) (name : CallName) → (IsSwitching name → ⊥)
    → call name w cpu r a ≡ reply_happens w cpu r (answer_named name w r.name a)
called w cpu r a (OnMemory c) h = refl
called w cpu r a Yields h = absurd (h tt)
called w cpu r a (Masks b) h = refl
called w cpu r a Unknown h = refl

not_switching : (name : CallName) → name ≢ Yields → IsSwitching name → ⊥
not_switching (OnMemory k) d h = h
not_switching Yields d h = d refl
not_switching (Masks b) d h = h
not_switching Unknown d h = h

module _ (m n : Memory) (cs ds : List (Option Occupant)) (w : World) (s : StandsFor m cs w)
    (cpu : ℕ) (r : Occupant) where
  -- a reply goes into r0 and r1
  pub came_replied : (k : Answer) (status : Status) (value : ℕ) → (status ≡ k.status) × (value ≡ k.value)
      → IsHeld k.tree n
      → ds ≡ slice_set cs cpu (Some (with_answer status value r)) → Came (reply_happens w cpu r k)
      (O.Reply status value) n ds
  came_replied k status value told held is = record {
    outcome = ap₂ O.Reply told.0 told.1;
    shows = record {
      laid = held.1;
      cpus =
          ap (λ c. slice_set c cpu (Some (with_answer k.status k.value r))) s.shows.cpus
          ∙ ap₂ (λ q v. slice_set cs cpu (Some (with_answer q v r))) (sym told.0) (sym told.1) ∙ sym is;
    };
  }

  -- a call that is refused is replied to so
  pub came_refused : (o : Option Status) (h : Happened) (status : Status) → o ≡ Some status → n ≡ m
      → ds ≡ slice_set cs cpu (Some (with_answer status 0 r)) → Came (reply_unless w cpu r o h) (O.Reply status 0) n ds
  came_refused o h status e same is =
      came_so _ _ (O.Reply status 0) n ds (ap (λ z. reply_unless w cpu r z h) e)
      (came_replied (refuse w.tree status) status 0
      (refl, refl) (s.sound.tree, subst (LaysOut w.tree) (sym same) s.shows.laid) is)

  -- a call looks at the tree and the processors alone
  same_answer : (name : CallName) (p : ℕ) (a : Five)
      → answer_named name (plain_world w.tree cs) p a ≡ answer_named name w p a
  same_answer name p a =
      ap (λ c. answer_named name (plain_world w.tree c) p a) (sym s.shows.cpus) ∙ answer_seen w name p a

  -- a call that does not switch, by what runs there
  came_answered : runs_on w cpu ≡ Some r → (number : ℕ) → call_named number ≢ Yields
      → (a : Five) (status : Status) (value : ℕ)
      → Does (λ t. answer_named (call_named number) (plain_world t cs) r.name a) r.name status value m n
      → ds ≡ slice_set cs cpu (Some (with_answer status value r)) → (ks ls : List Places) → w.caches ≡ ks
      → ls ≡ cond (is_accepted status && takes_by_name (call_named number) value) (all_emptied ks) ks
      → CameWith w (E.Call cpu number a) (O.Reply status value) n ds ls
  came_answered runs number d a status value does is ks ls k_is l_is =
      let (x, found) = part_found m cs cpu w s r.name
      (ap (option_map (λ (z : Occupant). z.name)) (sym (runs_there m cs cpu w s) ∙ runs)) in
      let told = subst (λ z. (status ≡ z.status) × (value ≡ z.value)) (same_answer (call_named number) r.name a)
      (does.answer w.tree x s.sound.tree s.shows.laid found) in (
        came_so _ _ (O.Reply status value) n ds (ap (λ o. on_running w cpu o (λ r. call (call_named number) w cpu r a))
            runs ∙ called w cpu r a (call_named number) (not_switching (call_named number) d))
            (came_replied (answer_named (call_named number) w r.name a) status value told
            (subst (λ z. IsHeld z.tree n) (same_answer (call_named number) r.name a)
            (does.tree w.tree x s.sound.tree s.shows.laid found))
            is),
        l_is ∙ ap₂ (λ b c. cond b (all_emptied c) c) (ap₂ (λ q v. is_accepted q && takes_by_name (call_named number) v)
            told.0 told.1 ∙ sym (empties_is w (call_named number) r.name a)) (sym k_is)
            ∙ sym (ap (λ o. by_runner w.caches o
            (λ r. cond (empties (call_named number) w r.name a) (all_emptied w.caches) w.caches)) runs),
      )

-- how a call came out, by the partition that runs there and by the name of the call
pub came_call : (m n : Memory) (cs ds : List (Option Occupant)) (w : World) → StandsFor m cs w → (cpu p : ℕ)
    → part_on cs cpu ≡ Some p → (number : ℕ) (name : CallName) → name ≡ call_named number → name ≢ Yields
    → (a : Five) (status : Status) (value : ℕ)
    → Does (λ t. answer_named name (plain_world t cs) p a) p status value m n
    → ((r : Occupant) → on_cpu cs cpu ≡ Some r → ds ≡ slice_set cs cpu (Some (with_answer status value r)))
    → (ks ls : List Places) → w.caches ≡ ks
    → ls ≡ cond (is_accepted status && takes_by_name name value) (all_emptied ks) ks
    → (o : Outcome) → o ≡ O.Reply status value
    → CameWith w (E.Call cpu number a) o n ds ls
came_call m n cs ds w s cpu p on number name named d a status value does set ks ls k_is l_is o so =
    let (r, is, found) = part_of (on_cpu cs cpu) p on in
    subst (λ z. CameWith w (E.Call cpu number a) z n ds ls) (sym so)
    (came_answered m n cs ds w s cpu r (runs_there m cs cpu w s ∙ is) number (λ e. d (named ∙ e)) a status value
    (subst (λ q. Does (λ t. answer_named (call_named number) (plain_world t cs) q a) q status value m n) (sym found)
    (subst (λ k. Does (λ t. answer_named k (plain_world t cs) p a) p status value m n) named does))
    (set r is) ks ls k_is
    (subst (λ k. ls ≡ cond (is_accepted status && takes_by_name k value) (all_emptied ks) ks) named l_is))

-- a call that switches, and one where nothing runs, changes no cache
pub came_switched : (w : World) (cpu number : ℕ) (a : Five) (o : Outcome) (n : Memory) (ds : List (Option Occupant))
    (ks : List Places) → IsSwitching (call_named number) → Came (what_happens w (E.Call cpu number a)) o n ds
    → w.caches ≡ ks
    → CameWith w (E.Call cpu number a) o n ds ks
came_switched w cpu number a o n ds ks switches came k_is = (came, sym k_is ∙ sym (go (runs_on w cpu)))
  where
    off : (name : CallName) (p : ℕ) → IsSwitching name → empties name w p a ≡ false
    off (OnMemory k) p h = absurd h
    off Yields p h = refl
    off (Masks b) p h = absurd h
    off Unknown p h = absurd h

    go : (o : Option Occupant) → by_runner w.caches o
        (λ r. cond (empties (call_named number) w r.name a) (all_emptied w.caches) w.caches) ≡ w.caches
    go None = refl
    go (Some r) = ap (λ b. cond b (all_emptied w.caches) w.caches) (off (call_named number) r.name switches)

-- yield, by the partition that runs there
pub came_yield : (m n : Memory) (cs ds : List (Option Occupant)) (w : World) → StandsFor m cs w → (cpu p : ℕ)
    → part_on cs cpu ≡ Some p → (number : ℕ) → Yields ≡ call_named number → (a : Five) (o : Outcome)
    → ((r : Occupant) → runs_on w cpu ≡ Some r → Came (yield w cpu r a) o n ds)
    → (ks : List Places) → w.caches ≡ ks → CameWith w (E.Call cpu number a) o n ds ks
came_yield m n cs ds w s cpu p on number named a o yields ks k_is =
    let (r, is, found) = part_of (on_cpu cs cpu) p on in
    let runs = runs_there m cs cpu w s ∙ is in
    came_switched w cpu number a o n ds ks (subst IsSwitching named tt)
    (subst (λ k. Came (on_running w cpu (runs_on w cpu) (λ r. call k w cpu r a)) o n ds) named
    (came_so _ _ o n ds (ap (λ z. on_running w cpu z (λ r. call Yields w cpu r a)) runs) (yields r runs)))
    k_is
