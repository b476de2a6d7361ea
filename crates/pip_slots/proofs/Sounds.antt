-- A child that is built leaves the world sound, since each of the stores and calls that build it does.
use Rattle.std.proofs.Common.{◌≡◌, ℕ, zero, suc, ◌+◌, ◌≤◌, ◌<◌, inl, inr, true, false, cond, List, length, refl}
use Rattle.std.proofs.Common.{sym, ap₂, Some, arith}
use Rattle.pip_base.specs.declared.types.Size.TheVariants.{Word}
use Rattle.pip_model.specs.AddVAddr.{add_vaddr}
use Rattle.pip_model.specs.Answers.{Five}
use Rattle.pip_model.specs.Cache.{all_emptied}
use Rattle.pip_model.specs.Events.{IsEvent}
use Rattle.pip_model.specs.Events as E
use Rattle.pip_model.specs.Happens.{answer, by_runner, call, call_named, empties, is_accepted, on_running}
use Rattle.pip_model.specs.Sound.{IsWord}
use Rattle.pip_model.specs.Worlds.{IsSoundWorld, World, runs_on, with_caches}
use Rattle.pip_model.specs.declared.call_name.CallName.TheVariants.{OnMemory}
use Rattle.pip_model.specs.declared.call_name.MemoryCall.{MemoryCall}
use Rattle.pip_model.specs.declared.call_name.MemoryCall.TheVariants.{AddVAddr, CreatePartition, Prepare}
use Rattle.pip_model.specs.declared.processors.Occupant.{Occupant}
use Rattle.pip_model.proofs.Events.Soundness.{event-sound}
use Rattle.pip_parent.specs.declared.wants.Want.{Want}
use Rattle.pip_parent.specs.Built.{lacks_right, lists_more}
use Rattle.pip_parent.specs.Pool.{first_five, pool_at}
use Rattle.pip_parent.specs.Stages.{CanLink, IsBuilder, built_world, link_caches, link_words, replying}
use Rattle.pip_parent.specs.Stages.{tabled_world, value_of, world_after_answer, world_before}
use Rattle.pip_parent.specs.Wants.{is_bad, need, opened_before, opens, pages_used, place, want_at}
use Rattle.pip_parent.proofs.Counting.{place_opens, place_within}
use Rattle.pip_parent.proofs.Meeting.{met}
use Rattle.pip_parent.proofs.Opening.{opened_world}
use Rattle.pip_model.proofs.Locality.OneEvent.{at_set_here}
use Rattle.pip_parent.proofs.Stored.{link_next, with_words}
use Rattle.pip_parent.proofs.Whole.{created_world}
use Rattle.pip_parent.proofs.Whole as W
use Rattle.pip_native.specs.Rooms.{HasRoomForChildren}
use Rattle.pip_native.specs.Watching.{child_wants, pool_of}
use Rattle.pip_native.proofs.Building.{builder, lacks_none}
use Rattle.pip_native.proofs.Pools.{IsPlace, pool_page}

-- a call on memory by what runs on processor 0
sound_call : (c : MemoryCall) (number : ℕ) (a : Five) → call_named number ≡ OnMemory c → IsEvent (E.Call 0 number a)
    → (w : World) → IsSoundWorld w → (r : Occupant) → runs_on w 0 ≡ Some r
    → IsSoundWorld (world_after_answer c w 0 r (answer c w r.name a))
sound_call c number a e ev w s r k =
    rw (← ap₂ (λ n o. (with_caches (by_runner w.caches o
    (λ r. cond (empties n w r.name a) (all_emptied w.caches) w.caches))
    (on_running w 0 o (λ r. call n w 0 r a))).world) e k) (event-sound w (E.Call 0 number a) s ev)

module _ (w : World) (r : Occupant) (pool : List ℕ) (ws : List Want) (b : IsBuilder w 0 r pool)
    (room : need ws ≤ length pool) (words : (k : ℕ) → k < length pool → IsWord (pool_at pool k))
    (some : 5 ≤ length pool) where
  -- the child is made
  first_sound : IsSoundWorld (world_before w 0 r pool ws 0)
  first_sound = created_world IsSoundWorld IsSoundWorld w 0 r pool ws b room
      (sound_call CreatePartition 0 (first_five pool) refl (
        omega arith,
        (
          words 0 (omega arith),
          (
            words 1 (omega arith),
            (
              words 2 (omega arith),
              (
                words 3 (omega arith),
                (words 4 (omega arith), tt),
              ),
            ),
          ),
        ),
      )) b.world

  -- pages are linked
  linked : (first stores : ℕ) → first + stores < length pool → (v : World) → IsSoundWorld v → (q : Occupant)
      → runs_on v 0 ≡ Some q → (n : ℕ) → n ≤ stores → CanLink v.tree q.name pool first stores
      → IsSoundWorld (with_words v (link_words v.tree q.name pool first n)
      (link_caches v.tree v.caches 0 q.name pool first n))
  linked first stores within v s q k zero l can = s
  linked first stores within v s q k (suc n) l can =
      rw (← link_next v q 0 pool first n k (can n (omega arith)))
      (event-sound (with_words v (link_words v.tree q.name pool first n)
      (link_caches v.tree v.caches 0 q.name pool first n))
      (E.Store 0 (pool_at pool (first + n)) Word (pool_at pool (suc (first + n))))
      (linked first stores within v s q k n (omega arith) can)
      (words (first + n) (omega arith), words (suc (first + n)) (omega arith)))

  -- a want is met
  module _ (i : ℕ) (low : i < length ws) (fits : (j : ℕ) → j < length ws → is_bad ws j ≡ false)
      (o : opens ws i ≡ true) (va : IsWord (want_at ws i).va) (rights : IsWord (want_at ws i).rights)
      (may : lacks_right w.tree r.name pool ws i ≡ false) (before : IsSoundWorld (world_before w 0 r pool ws i)) where
    abbrev table : World
    table = tabled_world w 0 r pool ws i 0 (value_of ws i)

    table_sound : IsSoundWorld table
    table_sound =
        let p = place_opens ws i o in
        let q = place_within ws i low in
        let z : 0 < length pool = omega arith in
        opened_world w 0 r pool ws i b room low fits IsSoundWorld IsSoundWorld IsSoundWorld (pages_used ws i)
        (suc (suc (lists_more (opened_before ws i)))) refl refl o
        (λ v s x k can. linked (pages_used ws i) (suc (suc (lists_more (opened_before ws i))))
        (omega arith) v s x k (suc (suc (lists_more (opened_before ws i)))) (omega arith) can)
        (sound_call Prepare 3
        (record { x0 = pool_at pool 0; x1 = (want_at ws i).va; x2 = pool_at pool (pages_used ws i); x3 = 0; x4 = 0 })
        refl (
          omega arith,
          (
            words 0 z,
            (
              va,
              (
                words (pages_used ws i) (omega arith),
                (omega arith, (omega arith, tt)),
              ),
            ),
          ),
        )) before

    -- the table's world, and no other
    abbrev IsTable : World → Type 0
    IsTable u = u ≡ table

    next_sound : IsSoundWorld (world_before w 0 r pool ws (suc i))
    next_sound =
        let q = place_within ws i low in
        let z : 0 < length pool = omega arith in
        let a = is_accepted (add_vaddr table.tree r.name (pool_at pool (place ws i)) (pool_at pool 0)
        (want_at ws i).va (want_at ws i).rights).status in
        let there : runs_on table 0 ≡ Some (replying r 0 (value_of ws i)) =
        at_set_here (Some (replying r 0 (value_of ws i))) w.cpus 0 r b.runs in
        let m = met IsTable IsSoundWorld w 0 r pool ws i b room low fits a (place ws i) refl
        (λ u e x k. sound_call AddVAddr 5 (record {
          x0 = pool_at pool (place ws i);
          x1 = pool_at pool 0;
          x2 = (want_at ws i).va;
          x3 = (want_at ws i).rights;
          x4 = 0;
        }) refl (
          omega arith,
          (
            words (place ws i) (omega arith),
            (
              words 0 z,
              (
                va,
                (
                  rights,
                  (omega arith, tt),
                ),
              ),
            ),
          ),
        ) u (rw e table_sound) x k)
        (λ u e x k.
        let here : Some x ≡ Some (replying r 0 (value_of ws i)) = rw (← k, e, there) in
        let same : x ≡ replying r 0 (value_of ws i) = cc in
        sym (ap₂ (λ v n. is_accepted (add_vaddr v.tree n (pool_at pool (place ws i)) (pool_at pool 0)
        (want_at ws i).va (want_at ws i).rights).status) e (rw same))) refl in
        rw (m.0, may) at m.1

-- the pages of a pool have words for addresses
pool_word : (n i k : ℕ) → n ≤ 8 → i < n → k < 13 → IsWord (pool_at (pool_of n i) k)
pool_word n i k most low l =
    let (m, e, p) = pool_page n i k l in
    let b = below m p in
    rw e (omega arith)
  where
    below : (m : ℕ) → IsPlace n i k m → m < 200
    below m (inl (a, f)) = omega arith
    below m (inr (inl (a, f))) = omega arith
    below m (inr (inr (a, f))) = omega arith

wants_fit : (j : ℕ) → j < 2 → is_bad child_wants j ≡ false
wants_fit zero l = refl
wants_fit (suc zero) l = refl
wants_fit (suc (suc j)) l = absurd (let z : ⊥ = omega arith in z)

pub built_sound : (n i : ℕ) → n ≤ 8 → i < n → (w : World) → IsSoundWorld w → HasRoomForChildren n i w → (r : Occupant)
    → runs_on w 0 ≡ Some r → r.name ≡ w.tree.root.name
    → IsSoundWorld (built_world w 0 r (pool_of n i) child_wants)
built_sound n i most low w s h r k q =
    let pool = pool_of n i in
    let b = W.builder s (builder n i most low w s h r k q) in
    let room : need child_wants ≤ length pool = omega arith in
    let words = λ (j : ℕ) (l : j < length pool). pool_word n i j most low l in
    let some : 5 ≤ length pool = omega arith in
    let made = first_sound w r pool child_wants b room words some in
    let one = next_sound w r pool child_wants b room words some 0 (omega arith) wants_fit refl (omega arith) (omega
    arith)
    (lacks_none n i most low w s h r q 0 (omega arith)) made in
    next_sound w r pool child_wants b room words some 1 (omega arith) wants_fit refl (omega arith) (omega arith)
    (lacks_none n i most low w s h r q 1 (omega arith)) one
