-- The stores before the children are built: words and caches change, and nothing else.
use Rattle.std.proofs.Common.{◌≡◌, ℕ, zero, suc, ◌+◌, ◌*◌, ◌/◌, ◌%◌, ◌≤◌, ◌<◌, true, List, refl, sym, ap, ◌∙◌, subst}
use Rattle.std.proofs.Common.{arith, inr, Option, Some}
use Rattle.pip_base.specs.declared.types.Access.TheVariants.{Store}
use Rattle.pip_base.specs.declared.types.Size.TheVariants.{Word}
use Rattle.pip_model.specs.Cache.{Places, places_after_access}
use Rattle.pip_model.specs.Happens.{by_runner, on_running, with_word, wrote}
use Rattle.pip_model.specs.Reach.{Place, reach}
use Rattle.pip_model.specs.Tree.{free, vpage}
use Rattle.pip_model.specs.Worlds.{IsSoundWorld, World, runs_on, with_caches}
use Rattle.pip_model.specs.declared.processors.Occupant.{Occupant}
use Rattle.pip_parent.proofs.Stored.{with_words}
use Rattle.pip_native.specs.Watching.{fresh, page_address, pages_taken, after_store, with_entry, with_handlers}
use Rattle.pip_native.specs.Rooms.{HasRoomForChildren}
use Rattle.pip_native.proofs.Open.{IsOpen, open_page, open_top, reached}

-- v is w with other words and caches
pub record AsWords (w v : World) : Type 0 where
  pub words : ℕ → Option (ℕ → ℕ)
  pub caches : List Places
  pub same : v ≡ with_words w words caches

pub as_itself : (w : World) → AsWords w w
as_itself w = record { words = w.tree.words; caches = w.caches; same = refl }

store_on : (w : World) (words : ℕ → Option (ℕ → ℕ)) (cs : List Places) (r : Occupant) (va x g j : ℕ)
    → runs_on w 0 ≡ Some r → reach w.tree r.name va Store Word ≡ Place g j
    → after_store (with_words w words cs) va x ≡ with_words w (with_word (record w.tree { words = words }) g j x).words
    (places_after_access w.tree cs 0 r.name va Store Word)
store_on w words cs r va x g j runs at =
    ap (λ o. (with_caches (by_runner cs o (λ r. places_after_access w.tree cs 0 r.name va Store Word))
    (on_running (with_words w
    words cs) 0 o (λ r. wrote (with_words w words cs) 0 r va Word x (reach w.tree r.name va Store Word)))).world)
    runs
    ∙ ap (λ z. (with_caches (places_after_access w.tree cs 0 r.name va Store Word)
    (wrote (with_words w words cs) 0 r va Word x z)).world) at

stored_as : (w v : World) (r : Occupant) (va x g j : ℕ) → runs_on w 0 ≡ Some r
    → reach w.tree r.name va Store Word ≡ Place g j → AsWords w v → AsWords w (after_store v va x)
stored_as w v r va x g j runs at h = record {
  words = (with_word (record w.tree { words = h.words }) g j x).words;
  caches = places_after_access w.tree h.caches 0 r.name va Store Word;
  same = ap (λ u. after_store u va x) h.same ∙ store_on w h.words h.caches r va x g j runs at;
}

-- so there is room as before
pub room_kept : (n i : ℕ) (w v : World) → AsWords w v → HasRoomForChildren n i w → HasRoomForChildren n i v
room_kept n i w v a h = subst (HasRoomForChildren n i) (sym a.same)
    (record { runner = h.runner; runs = h.runs; root = h.root; frames = h.frames; top = h.top; left = h.left })

module _ (n i : ℕ) (w : World) (s : IsSoundWorld w) (h : HasRoomForChildren n i w) where
  store_at : (v : ℕ) → IsOpen w.tree v → (va x : ℕ) → vpage va ≡ v → va % 4 ≡ 0 → (u : World) → AsWords w u
      → AsWords w (after_store u va x)
  store_at v o va x at four u a = stored_as w u h.runner va x o.row.frame (va % 4096 / 4) h.runs
      (ap (λ p. reach w.tree p va Store Word) h.root ∙ reached w.tree s.tree v o va at four) a

  pub handlers_as : (k : ℕ) → k ≤ 256 → AsWords w (with_handlers w k)
  handlers_as zero l = as_itself w
  handlers_as (suc k) l = store_at 0xfffff (open_top w.tree s.tree h.top) (0xfffff000 + 4 * k) 0xfffff400
      (omega arith) (omega arith) (with_handlers w k) (handlers_as k (omega arith))

  pub entry_as : n ≤ 8 → i < n → AsWords w (with_entry w n i)
  entry_as most low =
      let k = n + 12 * i + 11 in
      let inside : k < pages_taken n = omega arith in
      let at : vpage (page_address k) ≡ 1024 + k = omega arith in
      let o = open_page w.tree s.tree n k most h.frames inside
      (subst (λ v. free w.tree w.tree.root.name v ≡ true) at (h.left k (inr (omega arith, inside)))) in
      store_at (1024 + k) o (fresh n i 11 + 0x400) 0x400000 (omega arith) (omega arith)
      (after_store w (fresh n i 11 + 0xfc) 0xfffff400)
      (store_at (1024 + k) o (fresh n i 11 + 0xfc) 0xfffff400 (omega arith) (omega arith) w (as_itself w))
