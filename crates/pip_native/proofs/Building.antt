-- The root can build child i of its pool, and then there is room for the next.
use Rattle.std.proofs.Common.{◌≡◌, ◌≢◌, ℕ, zero, suc, ◌+◌, ◌≤◌, ◌<◌, ◌==◌, inl, Bool, true, false, not, List, length}
use Rattle.std.proofs.Common.{refl, sym, ap, ◌∙◌, subst, arith, Some, bit_and}
use Rattle.std.specs.Prelude.{is_some, option_map, unwrap_or}
use Rattle.pip_model.specs.Accepted.{CanBeGiven}
use Rattle.pip_model.specs.Answers.{is_mapped, page_of, rights_at}
use Rattle.pip_model.specs.Tree.{Node, Tree, free, held_pages, holds, is_place, vpage}
use Rattle.pip_model.specs.Worlds.{IsSoundWorld, World, runs_on}
use Rattle.pip_model.specs.declared.processors.Occupant.{Occupant}
use Rattle.pip_model.proofs.OnLists.Members.{has_in}
use Rattle.pip_model.proofs.Trees.Free.{address-usable, usable_same}
use Rattle.pip_parent.specs.declared.built.Built.{Built}
use Rattle.pip_parent.specs.declared.built.BuildError.{BuildError}
use Rattle.pip_parent.specs.declared.built.BuildError.TheVariants as R
use Rattle.pip_parent.specs.Wants.{need}
use Rattle.pip_parent.specs.Built.{built_before, child_with, lacks_right}
use Rattle.pip_parent.specs.Contract.{Builds, CanBuild, RefusesToBuild}
use Rattle.pip_parent.specs.Pool.{HasPool, pool_at}
use Rattle.pip_parent.specs.Stages.{built_world, caches_before, replying}
use Rattle.pip_parent.proofs.Child.{holds_used}
use Rattle.pip_parent.proofs.Lent.{new_other, usable_at}
use Rattle.pip_parent.proofs.Seen.{still_free}
use Rattle.pip_parent.proofs.Steps.{runs_at}
use Rattle.pip_native.specs.Watching.{child_wants, page_address, pool_of, with_built, with_child, with_entry}
use Rattle.pip_native.specs.Rooms.{HasRoomForChildren, IsLeftPage}
use Rattle.pip_native.proofs.Open.{IsOpen, open_page, open_top}
use Rattle.pip_native.proofs.Pools.{IsPlace, left_apart, left_before, left_taken, one_place, page_at, page_place}
use Rattle.pip_native.proofs.Pools.{place_left, pool_page, same_page}

module _ (n i : ℕ) (most : n ≤ 8) (low : i < n) (w : World) (s : IsSoundWorld w) (h : HasRoomForChildren n i w) where
  abbrev t : Tree
  t = w.tree

  abbrev root : ℕ
  root = w.tree.root.name

  abbrev pool : List ℕ
  pool = pool_of n i

  left_open : (k : ℕ) → IsLeftPage n i k → IsOpen t (vpage (page_address k))
  left_open k l =
      let e = page_at k in
      subst (IsOpen t) (sym e) (open_page t s.tree n k most h.frames (left_taken n i k (omega arith) l)
      (subst (λ v. free t root v ≡ true) e (h.left k l)))

  pool_open : (k : ℕ) → k < 13 → IsOpen t (vpage (pool_at pool k))
  pool_open k l = let (m, e, p) = pool_page n i k l in
      subst (λ a. IsOpen t (vpage a)) (sym e) (left_open m (place_left n i k m low l p))

  rights_there : (v : ℕ) → IsOpen t v → rights_at t root v ≡ 7
  rights_there v o = ap (λ r. unwrap_or (option_map (λ r. r.rights) r) 0) o.found ∙ o.rights

  pub has_pool : HasPool t root pool
  has_pool = record {
    places = λ k l. let (m, e, p) = pool_page n i k l in subst (λ a. is_place a ≡ true) (sym e) (page_place m);
    mapped = λ k l. ap is_some (pool_open k l).found;
    free = λ k l. (pool_open k l).free;
    writable = λ k l. ap (λ r. bit_and 3 r == 3) (rights_there (vpage (pool_at pool k)) (pool_open k l));
    differ = λ j k a b e.
        let (m, f, p) = pool_page n i j a in
        let (z, g, q) = pool_page n i k b in
        let same = same_page m z (sym f ∙ e ∙ g) in
        one_place n i j k z low (subst (IsPlace n i j) same p) q;
  }

  pub builder : (r : Occupant) → runs_on w 0 ≡ Some r → r.name ≡ root → CanBuild w 0 r pool
  builder r runs is = record { runs = runs; pool = subst (λ p. HasPool t p pool) (sym is) has_pool }

  -- no right is lacked
  pub lacks_none : (r : Occupant) → r.name ≡ root → (j : ℕ) → j < 2 → lacks_right t r.name pool child_wants j ≡ false
  lacks_none r is zero l = ap (λ p. lacks_right t p pool child_wants 0) is
      ∙ ap (λ x. not (bit_and 7 x == 7)) (rights_there (vpage (pool_at pool 8)) (pool_open 8 (omega arith)))
  lacks_none r is (suc zero) l = ap (λ p. lacks_right t p pool child_wants 1) is
      ∙ ap (λ x. not (bit_and 3 x == 3)) (rights_there (vpage (pool_at pool 12)) (pool_open 12 (omega arith)))
  lacks_none r is (suc (suc j)) l = absurd (let z : ⊥ = omega arith in z)

  room : need child_wants ≤ length pool
  room = omega arith

  abbrev child : Node
  child = child_with t root pool child_wants 2 2

  other : child.name ≢ root
  other = new_other t root pool child_wants s.tree (inl refl) has_pool room 2 2

  -- a page that is none of the pool is not held by the child
  apart : (a : ℕ) → CanBeGiven t root a → ((k : ℕ) → k < 13 → a ≡ pool_at pool k → ⊥)
      → holds child (page_of t root a) ≡ false
  apart a u ne = go (holds child (page_of t root a)) refl
    where
      go : (b : Bool) → holds child (page_of t root a) ≡ b → b ≡ false
      go false e = refl
      go true e =
          let (k, l, q) = holds_used t root pool child_wants 2 (page_of t root a)
          (has_in (page_of t root a) (held_pages child) e) in
          absurd (ne k (omega arith) (usable_same t root s.tree (inl refl) a (pool_at pool k) u
          (usable_at t root pool child_wants s.tree (inl refl) has_pool room k (omega arith)) q))

  free_again : (a : ℕ) → is_place a ≡ true → is_mapped t root (vpage a) ≡ true → free t root (vpage a) ≡ true → ((k : ℕ)
      → k < 13 → a ≡ pool_at pool k → ⊥) → free (built_before t root pool child_wants 2) root (vpage a) ≡ true
  free_again a p m f ne = still_free t root child (built_before t root pool child_wants 2).words other refl a f
      (apart a (address-usable t root a p m f) ne)

  module _ (r : Occupant) (runs : runs_on w 0 ≡ Some r) (is : r.name ≡ root) where
    built_room : HasRoomForChildren n (i + 1) (built_world w 0 (record r { name = root }) pool child_wants)
    built_room = record {
      runner = replying (record r { name = root }) 0 0;
      runs = runs_at w 0 (record r { name = root }) (built_before t root pool child_wants 2)
          (caches_before w 0 root pool child_wants 2) 0 0 (runs ∙ ap (λ p. Some (record r { name = p })) is);
      root = refl;
      frames = h.frames;
      top = free_again 0xfffff000 refl (mapped_top) h.top (λ k l e. let (m, f, p) = pool_page n i k l in
          let q = left_taken n i m (omega arith) (place_left n i k m low l p) in
          let z : ⊥ = omega arith in z);
      left = λ k l. free_again (page_address k) (page_place k) (ap is_some (left_open k (left_before n i k l)).found)
          (h.left k (left_before n i k l))
          (λ j a e. let (m, f, p) = pool_page n i j a in left_apart n i j k m low a p l (same_page k m (e ∙ f)));
    }
      where
        mapped_top : is_mapped t root (vpage 0xfffff000) ≡ true
        mapped_top = ap is_some (open_top t s.tree h.top).found

    pub room_next : HasRoomForChildren n (i + 1) (built_world w 0 r pool child_wants)
    room_next =
        subst (λ p. HasRoomForChildren n (i + 1) (built_world w 0 (record r { name = p }) pool child_wants)) (sym is)
        built_room

-- child i of n was built in a world with its handler
module _ (n i : ℕ) (most : n ≤ 8) (low : i < n) (w : World) (s : IsSoundWorld (with_entry w n i))
    (h : HasRoomForChildren n i (with_entry w n i)) (A B : World → Type 0) (a : A (with_entry w n i)) where
  abbrev before : World
  before = with_entry w n i

  its_builder : CanBuild before 0 h.runner (pool_of n i)
  its_builder = builder n i most low before s h h.runner h.runs h.root

  -- no refusal comes
  pub never : (e : BuildError) → RefusesToBuild A B 0 (pool_of n i) child_wants e → ⊥
  never (R.Want zero) x = let e = x.0.1 in absurd (no_true e)
    where
      no_true : false ≡ true → ⊥
      no_true e = cc
  never (R.Want (suc zero)) x = let e = x.0.1 in absurd (no_true e)
    where
      no_true : false ≡ true → ⊥
      no_true e = cc
  never (R.Want (suc (suc j))) x = let z : ⊥ = omega arith in z
  never (R.Short have needs) x = let e = x.1 in let f = x.2 in let r = room n i most low before s h in
      let z : ⊥ = omega arith in z
  never (R.NoRight j) x =
      let e = (x.3 before h.runner its_builder a).0 in
      let f = lacks_none n i most low before s h h.runner h.root j x.2 in
      grind (arith, e, f)

  pub child_done : (b : Built) → Builds A B 0 (pool_of n i) child_wants b
      → B (with_child w n i) × HasRoomForChildren n (i + 1) (with_child w n i)
  child_done b x =
      let same = ap (λ o. with_built before o (pool_of n i)) h.runs in (
        subst B (sym same) (x.4 before h.runner its_builder a).1,
        subst (HasRoomForChildren n (i + 1)) (sym same) (room_next n i most low before s h h.runner h.runs h.root),
      )
