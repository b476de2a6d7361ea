-- Every event keeps what the caches hold true.
use Rattle.std.proofs.Common.{◌≡◌, ℕ, zero, suc, ◌*◌, ◌+◌, ◌%◌, ◌/◌, ◌==◌, ◌⊎◌, inl, inr, Bool, true, false, not, cond}
use Rattle.std.proofs.Common.{List, [], ◌∷◌, refl, sym, ap, ◌∙◌, subst, Option, Some, None}
use Rattle.std.specs.Prelude.{bit_and, replicate, slice_index_or, slice_set, unwrap_or}
use Rattle.pip_base.specs.declared.types.Access.{Access}
use Rattle.pip_base.specs.declared.types.Access.TheVariants.{Load, Store, Fetch}
use Rattle.pip_base.specs.declared.types.Size.{Size}
use Rattle.pip_base.specs.declared.types.Size.TheVariants.{Byte, Word}
use Rattle.pip_model.specs.Answers.{Five}
use Rattle.pip_model.specs.Cache.{Agrees, AllAgree, IsUsable, Places, places_after_access, all_emptied, cache_at}
use Rattle.pip_model.specs.Cache.{cache_after_access, counted_lookup, empty_caches, with_new_entry, holding}
use Rattle.pip_model.specs.Cache.{filled_on_miss, after_lookup, no_entries}
use Rattle.pip_model.specs.Events as E
use Rattle.pip_model.specs.Events.{Event, IsEvent}
use Rattle.pip_model.specs.Happens.{access_number, what_happens, by_runner, call, call_named, caches_after, empties}
use Rattle.pip_model.specs.Happens.{event, fault_number, fault_vector, load_happens, on_running, wrote}
use Rattle.pip_model.specs.declared.call_name.CallName.{CallName}
use Rattle.pip_model.specs.declared.call_name.CallName.TheVariants.{Masks, OnMemory, Unknown, Yields}
use Rattle.pip_model.specs.Poll.{lines_with}
use Rattle.pip_model.specs.Reach.{Faulted, Hidden, Place, Reached, Right, is_misaligned, reach, reach_by_row, right}
use Rattle.pip_model.specs.Sound.{IsSound}
use Rattle.pip_model.specs.Deliver.{deliver}
use Rattle.pip_model.specs.Tree.{Node, Row, Tree, find_node, hidden, node, row_at, vpage}
use Rattle.pip_model.specs.Worlds.{IsCached, IsSoundWorld, World, boot_world_with, done, with_running, runs_on}
use Rattle.pip_model.specs.declared.cached.Entry.{Entry}
use Rattle.pip_model.specs.declared.processors.Occupant.{Occupant}
use Rattle.pip_model.proofs.Calls.Laws.{KeepsEntries}
use Rattle.pip_model.proofs.Calls.Table.{laws_of}
use Rattle.pip_model.proofs.Events.Kept.{deliver_control, loaded_control, masked_control, pending_control, poll_control}
use Rattle.pip_model.proofs.Events.Kept.{yield_control}
use Rattle.pip_model.proofs.Events.Soundness.{runs_named}
use Rattle.pip_model.proofs.Trees.Free.{IsName}
use Rattle.pip_model.proofs.Trees.Lookup.{name_found, node_is}

-- ---- no entries

nothing_at : (n k : ℕ) (e : Entry) → slice_index_or {A = Option Entry} (replicate n None) k None ≡ Some e → ⊥
nothing_at zero k e h = cc
nothing_at (suc n) zero e h = cc
nothing_at (suc n) (suc k) e h = nothing_at n k e h

nothing_agrees : (t : Tree) (c : Places) → c.at ≡ no_entries → Agrees t c
unfolding no_entries
nothing_agrees t c none k e h = absurd (nothing_at 64 k e (cc))

emptied_at : (cs : List Places) (cpu : ℕ) → (cache_at (all_emptied cs) cpu).at ≡ no_entries
emptied_at [] cpu = refl
emptied_at (c ∷ cs) zero = refl
emptied_at (c ∷ cs) (suc cpu) = emptied_at cs cpu

empty_at : (n cpu : ℕ) → (cache_at (empty_caches n) cpu).at ≡ no_entries
empty_at zero cpu = refl
empty_at (suc n) zero = refl
empty_at (suc n) (suc cpu) = empty_at n cpu

-- ---- an access

-- an item of a list after a write is the one written, or as before
pub set_get : {X : Type 0} (xs : List X) (j k : ℕ) (y d : X)
    → (slice_index_or (slice_set xs j y) k d ≡ y) ⊎ (slice_index_or (slice_set xs j y) k d ≡ slice_index_or xs k d)
set_get [] j k y d = inr refl
set_get (x ∷ xs) zero zero y d = inl refl
set_get (x ∷ xs) zero (suc k) y d = inr refl
set_get (x ∷ xs) (suc j) zero y d = inr refl
set_get (x ∷ xs) (suc j) (suc k) y d = set_get xs j k y d

pub agrees_filled : (t : Tree) (c : Places) (e : Entry) → Agrees t c → IsUsable t e → Agrees t (with_new_entry c e)
agrees_filled t c e old new k y h = elim (set_get c.at (e.vpage % 64) k (Some e) None) [
  | inl q ↦ subst (IsUsable t) (cc) new
  | inr q ↦ old k y (cc)
]

-- a count changes no place
pub agrees_counted : (t : Tree) (c : Places) (o : Option Entry) → Agrees t c → Agrees t (counted_lookup c o)
agrees_counted t c None h = h
agrees_counted t c (Some e) h = h

-- the page of a row that is reached isn't hidden
open_row : (t : Tree) (va : ℕ) (a : Access) (r : Row) (g i : ℕ) → reach_by_row t va a (Some r) ≡ Place g i
    → hidden t r.frame ≡ false
open_row t va a r g i e = go (hidden t r.frame) (not (bit_and (right a) r.rights == right a)) refl e
  where
    go : (h f : Bool) → hidden t r.frame ≡ h → cond h (Faulted Hidden)
        (cond f (Faulted Right) (Place r.frame (va % 4096 / 4))) ≡ Place g i → hidden t r.frame ≡ false
    go true f k q = cc
    go false f k q = k

agrees_learned : (t : Tree) (x : Node) (p va v : ℕ) (a : Access) (c : Places) (held : Option Entry) (o : Option Row)
    (q : Reached) → find_node t p ≡ Some x → row_at x.rows v ≡ o → reach_by_row t va a o ≡ q → Agrees t c
    → Agrees t (filled_on_miss c p v held o q)
agrees_learned t x p va v a c (Some e) o q f k w h = h
agrees_learned t x p va v a c None None q f k w h = h
agrees_learned t x p va v a c None (Some r) (Faulted z) f k w h = h
agrees_learned t x p va v a c None (Some r) (Place g i) f k w h = agrees_filled t c _ h
    (record { node = x; found = f; row = r; at = k; page = refl; rights = refl; seen = open_row t va a r g i w })

agrees_cached : (t : Tree) (p va : ℕ) (a : Access) (c : Places) → IsSound t → IsName t p → Agrees t c
    → Agrees t (cache_after_access t c p va a)
agrees_cached t p va a c s n h =
    let (x, f) = name_found t s p n in
    agrees_learned t x p va (vpage va) a (after_lookup c p (vpage va)) (holding c p (vpage va))
    (row_at (node t p).rows (vpage va)) (reach t p va a Byte) f
    (rw (← node_is t p x f)) refl (agrees_counted t c (holding c p (vpage va)) h)

agree_accessed : (t : Tree) (cs : List Places) (cpu p va : ℕ) (a : Access) (z : Size) → IsSound t → IsName t p
    → AllAgree t cs → AllAgree t (places_after_access t cs cpu p va a z)
agree_accessed t cs cpu p va a z s n h = go (is_misaligned va z)
  where
    go : (b : Bool) → AllAgree t (cond b cs (slice_set cs cpu (cache_after_access t (cache_at cs cpu) p va a)))
    go true = h
    go false = λ j. elim (set_get cs cpu j (cache_after_access t (cache_at cs cpu) p va a) _) [
      | inl q ↦ rw (← q) at (agrees_cached t p va a (cache_at cs cpu) s n (h cpu))
      | inr q ↦ rw q (h j)
    ]

agree_kept : (t u : Tree) (cs : List Places) → KeepsEntries t u → AllAgree t cs → AllAgree u cs
agree_kept t u cs keep h cpu k e q = keep e (h cpu k e q)

-- ---- calls that do not empty the caches

call_entries : (k : CallName) (w : World) (cpu : ℕ) (r : Occupant) (a : Five) → IsSound w.tree → IsName w.tree r.name
    → empties k w r.name a ≡ false → KeepsEntries w.tree (call k w cpu r a).world.tree
call_entries (OnMemory k) w cpu r a s n h = ((laws_of k).keeps w r.name a s n).entries h
call_entries Yields w cpu r a s n h = (yield_control w cpu r a).entries
call_entries (Masks b) w cpu r a s n h = (masked_control r.name b w.tree).entries
call_entries Unknown w cpu r a s n h = λ e u. u

agree_called : (k : CallName) (w : World) (cpu : ℕ) (r : Occupant) (a : Five) → IsSound w.tree → IsName w.tree r.name
    → IsCached w → AllAgree (call k w cpu r a).world.tree (cond (empties k w r.name a) (all_emptied w.caches) w.caches)
agree_called k w cpu r a s n h = go (empties k w r.name a) refl
  where
    go : (b : Bool) → empties k w r.name a ≡ b
        → AllAgree (call k w cpu r a).world.tree (cond b (all_emptied w.caches) w.caches)
    go true e = λ j. nothing_agrees _ (cache_at (all_emptied w.caches) j) (emptied_at w.caches j)
    go false e = agree_kept w.tree _ w.caches (call_entries k w cpu r a s n e) h

-- ---- events

-- a store changes words alone
wrote_entries : (w : World) (cpu : ℕ) (r : Occupant) (va : ℕ) (z : Size) (x : ℕ) (q : Reached)
    → KeepsEntries w.tree (wrote w cpu r va z x q).world.tree
wrote_entries w cpu r va z x (Place g i) = λ e u.
    search
wrote_entries w cpu r va z x (Faulted f) =
    (deliver_control w cpu r (fault_vector f) va (16 * access_number Store + fault_number f)).entries

module _ (w : World) (s : IsSoundWorld w) (h : IsCached w) where
  named : (cpu : ℕ) (r : Occupant) → runs_on w cpu ≡ Some r → IsName w.tree r.name
  named cpu r e = s.names_nodes r.name (runs_named w cpu r s e)

  accesses : (cpu : ℕ) (r : Occupant) (va : ℕ) (a : Access) (z : Size) (u : Tree) → runs_on w cpu ≡ Some r
      → KeepsEntries w.tree u → AllAgree u (places_after_access w.tree w.caches cpu r.name va a z)
  accesses cpu r va a z u e keep =
      agree_kept w.tree u _ keep (agree_accessed w.tree w.caches cpu r.name va a z s.tree (named cpu r e) h)

  cached_after : (e : Event) → AllAgree (what_happens w e).world.tree (caches_after w e)
  cached_after (E.Load cpu va z) = go (runs_on w cpu) refl
    where
      go : (o : Option Occupant) → runs_on w cpu ≡ o
          → AllAgree (on_running w cpu o (λ r. load_happens w cpu r va Load z
          (reach w.tree r.name va Load z))).world.tree
          (by_runner w.caches o (λ r. places_after_access w.tree w.caches cpu r.name va Load z))
      go None e = h
      go (Some r) e =
          accesses cpu r va Load z _ e (loaded_control w cpu r va Load z (reach w.tree r.name va Load z)).entries
  cached_after (E.Store cpu va z x) = go (runs_on w cpu) refl
    where
      go : (o : Option Occupant) → runs_on w cpu ≡ o
          → AllAgree (on_running w cpu o (λ r. wrote w cpu r va z x (reach w.tree r.name va Store z))).world.tree
          (by_runner w.caches o (λ r. places_after_access w.tree w.caches cpu r.name va Store z))
      go None e = h
      go (Some r) e = accesses cpu r va Store z _ e (wrote_entries w cpu r va z x (reach w.tree r.name va Store z))
  cached_after (E.Fetch cpu) = go (runs_on w cpu) refl
    where
      go : (o : Option Occupant) → runs_on w cpu ≡ o → AllAgree (on_running w cpu o
          (λ r. load_happens w cpu r r.ctx.pc Fetch Word (reach w.tree r.name r.ctx.pc Fetch Word))).world.tree
          (by_runner w.caches o (λ r. places_after_access w.tree w.caches cpu r.name r.ctx.pc Fetch Word))
      go None e = h
      go (Some r) e = accesses cpu r r.ctx.pc Fetch Word _ e
          (loaded_control w cpu r r.ctx.pc Fetch Word (reach w.tree r.name r.ctx.pc Fetch Word)).entries
  cached_after (E.Trap cpu k a b) = go (runs_on w cpu)
    where
      go : (o : Option Occupant) → AllAgree (on_running w cpu o (λ r. deliver w cpu r k a b)).world.tree w.caches
      go None = h
      go (Some r) = agree_kept w.tree _ w.caches (deliver_control w cpu r k a b).entries h
  cached_after (E.Call cpu number a) = go (runs_on w cpu) refl
    where
      go : (o : Option Occupant) → runs_on w cpu ≡ o
          → AllAgree (on_running w cpu o (λ r. call (call_named number) w cpu r a)).world.tree
          (by_runner w.caches o (λ r. cond (empties (call_named number) w r.name a) (all_emptied w.caches) w.caches))
      go None e = h
      go (Some r) e = agree_called (call_named number) w cpu r a s.tree (named cpu r e) h
  cached_after (E.Raise j) =
      agree_kept w.tree _ w.caches (pending_control (lines_with j w.tree.root.pending) w.tree).entries h
  cached_after (E.Poll cpu) = agree_kept w.tree _ w.caches (poll_control w cpu (runs_on w cpu)).entries h
  cached_after (E.SetContext cpu c) = go (runs_on w cpu)
    where
      go : (o : Option Occupant) → AllAgree (on_running w cpu o
          (λ r. done (with_running w cpu (Some (record r { ctx = c }))))).world.tree w.caches
      go None = h
      go (Some r) = h

pub event-cached : (w : World) (e : Event) → IsSoundWorld w → IsCached w → IsEvent e → IsCached (event w e).world
event-cached w e s h v = cached_after w s h e

pub boot-cached : (words : ℕ → ℕ → ℕ) (n c : ℕ) → IsCached (boot_world_with words n c)
boot-cached words n c cpu = nothing_agrees _ (cache_at (empty_caches c) cpu) (empty_at c cpu)
