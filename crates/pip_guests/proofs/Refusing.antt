-- Faults and traps that do the same; calls that are refused; saves.
use Rattle.std.proofs.Common.{◌≡◌, ◌≢◌, ℕ, [], refl, sym, ap, ◌∙◌, Option, Some, None}
use Rattle.pip_base.specs.declared.outcome.Outcome.TheVariants as O
use Rattle.pip_base.specs.declared.outcome.Status.{Status}
use Rattle.pip_base.specs.declared.outcome.Status.TheVariants as S
use Rattle.pip_base.specs.declared.types.Ctx.{Ctx}
use Rattle.pip_model.specs.Answers.{Answer, Five, accept, answer_unless, child_name, child_of, first_met, page_of}
use Rattle.pip_model.specs.AddVAddr.{add_refusals, tree_with_row}
use Rattle.pip_model.specs.Collect.{collect_refusals, first_va, returned_pages, table_for, tree_without_table}
use Rattle.pip_model.specs.CreatePartition.{create_refusals, tree_with_newborn}
use Rattle.pip_model.specs.DeletePartition.{delete_refusals, tree_without_subtree}
use Rattle.pip_model.specs.MappedInChild.{find_refusals, holder_born}
use Rattle.pip_model.specs.RemoveVAddr.{remove_refusals, tree_without_row}
use Rattle.pip_model.specs.CountToMap.{count_refusals, pages_needed}
use Rattle.pip_model.specs.Deliver.{deliver}
use Rattle.pip_model.specs.Events as E
use Rattle.pip_model.specs.Handlers.{handler}
use Rattle.pip_model.specs.Happens.{answer, call, call_named, on_running, what_happens}
use Rattle.pip_model.specs.Prepare.{PageChain, Pages, Refused, page_chain, prepare_with}
use Rattle.pip_model.specs.Switching.{node_name, reply_unless, target_node, yield_happens, yield_refusals}
use Rattle.pip_model.specs.Tree.{Tree, dir, holder, vpage}
use Rattle.pip_model.specs.Worlds.{Happened, World, running, runs_on}
use Rattle.pip_model.specs.declared.call_name.CallName.{CallName}
use Rattle.pip_model.specs.declared.call_name.CallName.TheVariants.{Masks, OnMemory, Unknown, Yields}
use Rattle.pip_model.specs.declared.call_name.MemoryCall.{MemoryCall}
use Rattle.pip_model.specs.declared.call_name.MemoryCall.TheVariants.{AddVAddr, Collect, CountToMap, CreatePartition}
use Rattle.pip_model.specs.declared.call_name.MemoryCall.TheVariants.{DeletePartition, MappedInChild, Prepare}
use Rattle.pip_model.specs.declared.call_name.MemoryCall.TheVariants.{RemoveVAddr}
use Rattle.pip_model.specs.declared.processors.Occupant.{Occupant}
use Rattle.pip_guests.specs.Exits.{FetchFaultsAreTraps, LoadFaultsAreTraps, RefusedIsUnseen}
use Rattle.pip_guests.specs.Exits.{StoreFaultsAreTraps, UntakenWordsDoNotMatter}
use Rattle.pip_guests.proofs.Alikes.{tree_alike_same}
use Rattle.pip_guests.proofs.Turning.{fetch_by}

trap_by : (w : World) (cpu k a b : ℕ) (r : Occupant) → runs_on w cpu ≡ Some r
    → what_happens w (E.Trap cpu k a b) ≡ deliver w cpu r k a b
trap_by w cpu k a b r e = rw e

pub load_faults_are_traps : LoadFaultsAreTraps
load_faults_are_traps w cpu va z r f e q =
    rw (e, q, ← trap_by w cpu _ va _ r e)

pub store_faults_are_traps : StoreFaultsAreTraps
store_faults_are_traps w cpu va z x r f e q =
    rw (e, q, ← trap_by w cpu _ va _ r e)

pub fetch_faults_are_traps : FetchFaultsAreTraps
fetch_faults_are_traps w cpu r f e q =
    rw (fetch_by w cpu r e, q, ← trap_by w cpu _ r.ctx.pc _ r e)

pub untaken_words_do_not_matter : UntakenWordsDoNotMatter
untaken_words_do_not_matter w cpu k a b c d r e n =
    cc (trap_by w cpu k a b r e, trap_by w cpu k c d r e)

-- ---- refusals

-- an answer is accepted, or leaves the tree
abbrev Kept : Tree → Answer → Type 0
Kept t a = a.status ≢ S.Ok → a.tree ≡ t

kept_unless : (t : Tree) (o : Option Status) (a : Answer) → Kept t a → Kept t (answer_unless t o a)
kept_unless t None a k = k
kept_unless t (Some s) a k = λ n. refl

kept_ok : (t : Tree) (o : Option Status) (v : ℕ) (u : Tree) → Kept t (answer_unless t o (accept v u))
kept_ok t o v u = kept_unless t o (accept v u) (λ n. absurd (n refl))

kept : (w : World) (p : ℕ) (a : Five) (c : MemoryCall) → Kept w.tree (answer c w p a)
kept w p a CreatePartition =
    kept_ok w.tree (first_met (create_refusals w.tree p a)) 0 (tree_with_newborn w.tree p a)
kept w p a DeletePartition = kept_ok w.tree (first_met (delete_refusals w.tree (running w) p a.x0)) 0
    (tree_without_subtree w.tree (child_name w.tree p a.x0))
kept w p a CountToMap = kept_unless w.tree (first_met (count_refusals w.tree p a.x0 a.x1))
    (accept (pages_needed (child_of w.tree p a.x0) (vpage a.x1)) w.tree) (λ n. refl)
kept w p a Prepare =
    let k = pages_needed (child_of w.tree p a.x0) (vpage a.x1) in
    kept_unless w.tree (first_met (count_refusals w.tree p a.x0 a.x1)) _ (by (page_chain w.tree p k [] a.x2))
  where
    by : (q : PageChain) → Kept w.tree (prepare_with w.tree (child_name w.tree p a.x0) (vpage a.x1)
        (pages_needed (child_of w.tree p a.x0) (vpage a.x1)) q)
    by (Refused s) = λ n. refl
    by (Pages gs) = λ n. absurd (n refl)
kept w p a Collect =
    let x = child_of w.tree p a.x0 in
    let gs = returned_pages x (table_for x (vpage a.x1)) in
    kept_ok w.tree (first_met (collect_refusals w.tree p a.x0 a.x1)) (first_va gs)
    (tree_without_table w.tree (child_name w.tree p a.x0) (dir (vpage a.x1)) gs)
kept w p a AddVAddr = kept_ok w.tree (first_met (add_refusals w.tree p a.x0 a.x1 a.x2 a.x3)) 0
    (tree_with_row w.tree (child_name w.tree p a.x1)
    (record { at = vpage a.x2; frame = page_of w.tree p a.x0; rights = a.x3 }))
kept w p a RemoveVAddr = kept_ok w.tree (first_met (remove_refusals w.tree p a.x0 a.x1)) 0
    (tree_without_row w.tree (child_name w.tree p a.x0) (vpage a.x1))
kept w p a MappedInChild = kept_unless w.tree (first_met (find_refusals w.tree p a.x0))
    (accept (holder_born (holder w.tree p (page_of w.tree p a.x0))) w.tree) (λ n. refl)

reply_status : (s t : Status) (u v : ℕ) → O.Reply s u ≡ O.Reply t v → s ≡ t
reply_status s t u v e = cc

pub refused_is_unseen : RefusedIsUnseen
refused_is_unseen own look w cpu number a r s v k i e n =
    let f = ap (λ o. on_running w cpu o (λ r. call (call_named number) w cpu r a)) k in (
      rw k (i, tt),
      rw e tt,
      rw (f, by (call_named number) (sym (ap (λ h. h.outcome) f) ∙ e)) (tree_alike_same look w.tree),
    )
  where
    yields : (o : Option Status) (h : Happened) → (h.outcome ≡ O.Reply s v → h.world.tree ≡ w.tree)
        → (reply_unless w cpu r o h).outcome ≡ O.Reply s v → (reply_unless w cpu r o h).world.tree ≡ w.tree
    yields None h m e = m e
    yields (Some z) h m e = refl

    by : (c : CallName) → (call c w cpu r a).outcome ≡ O.Reply s v → (call c w cpu r a).world.tree ≡ w.tree
    by (OnMemory c) e =
        kept w r.name a c (λ q. n (rw (← reply_status (answer c w r.name a).status s (answer c w r.name a).value v e)
        q))
    by Yields e =
        let q = target_node w.tree r.name a.x0 in
        yields (first_met (yield_refusals w r.name a q)) _ (enters (node_name q) (handler w.tree (node_name q) a.x1)) e
      where
        enters : (m : ℕ) (c : Option Ctx)
            → (yield_happens w cpu r a m c).outcome ≡ O.Reply s v → (yield_happens w cpu r a m c).world.tree ≡ w.tree
        enters m None e = refl
        enters m (Some c) e = cc
    by (Masks b) e = absurd (n (sym (reply_status S.Ok s 0 v e)))
    by Unknown e = refl
