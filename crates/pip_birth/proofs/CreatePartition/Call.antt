-- createPartition from one step of the code to the next.
use Rattle.std.proofs.Common.{◌≡◌, ◌≢◌, ℕ, ◌+◌, ◌*◌, ◌≤◌, arith, ◌-◌, ◌/◌, List, [], ◌∷◌, ◌++◌, drop, get_or, length}
use Rattle.std.proofs.Common.{take, inl, inr, refl}
use Rattle.std.proofs.Common.{sym, ap, ◌∙◌, subst, Some, None}
use Rattle.pip_base.specs.declared.types.Pair.{Pair}
use Rattle.pip_base.specs.Words.{as_descriptor, shadow1_word}
use Rattle.pip_base.specs.Memory.{Memory}
use Rattle.pip_model.specs.Answers.{Five, first_met, page_of, pair_frames, five_of}
use Rattle.pip_model.specs.CreatePartition.{create_partition, create_refusals, tree_with_newborn, newborn}
use Rattle.pip_model.specs.Layout.{LaysOut}
use Rattle.pip_model.specs.Partitions.{HasPartition, IsHeld}
use Rattle.pip_model.specs.NodeIn.{OthersStay, Space}
use Rattle.pip_model.specs.Sound.{IsSound}
use Rattle.pip_model.specs.Tree.{Base, Node, Tree, base_pairs, chain, config, find_node}
use Rattle.pip_model.proofs.Frames.Lays.{PagesStay-trans}
use Rattle.pip_model.proofs.Trees.Lookup.{cases_option, found_is_name}
use Rattle.pip_kern.specs.Giving.{GivesPageIn, GivesPagesIn}
use Rattle.pip_kern.specs.Giving.{CanGiveEach, CanGivePage, CanGivePages, HasGiven, GivesPage, GivesFurtherPages}
use Rattle.pip_birth.specs.Newborn.{AreFrames, bare}
use Rattle.pip_birth.proofs.CreatePartition.Tree.{create-accepted, are_frames, born_some, can_give_first, can_give_rest}
use Rattle.pip_birth.proofs.CreatePartition.Tree.{create-lays, find_old, create-refused}
use Rattle.pip_kern.proofs.Giving.{giving_start}

-- ---- the caller afterwards

-- the caller is a node of the new tree
pub caller_stays : (t : Tree) → IsSound t → (p : ℕ) (x : Node) → find_node t p ≡ Some x → (a : Five)
    → find_node (create_partition t p a).tree p ≡ Some x
caller_stays t s p x found a = elim (cases_option (first_met (create_refusals t p a))) [
  | inl none ↦ rw (create-accepted t p a none, find_old t s p x found a none p (found_is_name t p x found), found)
  | inr q ↦ rw (create-refused t p a q.0 q.1, found)
]

-- so it can call again
pub create-stands : (m n : Memory) (p : ℕ) (s : HasPartition m p) (a : Five)
    → IsHeld (create_partition s.tree p a).tree n → HasPartition n p
create-stands m n p s a after = record {
  tree = (create_partition s.tree p a).tree;
  node = s.node;
  sound = after.0;
  laid = after.1;
  found = caller_stays s.tree s.sound p s.node s.found a;
}

-- ---- an accepted call

others_are : (b : Base) (base : List Pair) → base ≡ base_pairs b
    → take (length base - 1) (drop 1 base) ≡ b.mmu ∷ b.shadow1 ∷ b.shadow2 ∷ b.list ∷ []
others_are b base is = rw is

module _ (t : Tree) (s : IsSound t) (p : ℕ) (x : Node) (found : find_node t p ≡ Some x) (xs : List ℕ) (base : List Pair)
    (tested : (first_met (create_refusals t p (five_of xs)) ≡ None)
    × (base ≡ base_pairs (newborn t p (five_of xs)).base)) where
  abbrev a : Five
  a = five_of xs

  abbrev pub y : Node
  y = newborn t p a

  module _ (m : Memory) (lays : LaysOut t m) (born : ℕ) (place : born ≡ get_or xs 0 0 / 4096) where
    -- the descriptor can be given
    pub first_can : CanGivePage m p born (shadow1_word as_descriptor born)
    first_can = record {
      tree = t;
      child = y;
      given = [];
      frame = page_of t p a.x0;
      can = can_give_first t s p x found a tested.0 born place;
      up = refl;
      midway = giving_start t s m lays y;
    }

    pub first_some : born ≢ 0
    first_some e = born_some t s p x found a tested.0 (cc)

    module _ (m1 : Memory) (give_says : GivesPage p born (shadow1_word as_descriptor born) m m1) (pages : List Pair)
        (pages_are : pages ≡ base) where
      abbrev others : List Pair
      others = take (length pages - 1) (drop 1 pages)

      first_given : HasGiven t y (y.base.descriptor.frame ∷ []) m m1
      first_given = give_says t y [] (page_of t p a.x0) (can_give_first t s p x found a tested.0 born place) refl
          (giving_start t s m lays y)

      are : others ≡ y.base.mmu ∷ y.base.shadow1 ∷ y.base.shadow2 ∷ y.base.list ∷ []
      are = others_are y.base pages (cc (tested.1))

      each : CanGiveEach t y born others
      unfolding are
      each = rw are (can_give_rest t s p x found a tested.0 born place)

      -- then the others
      pub others_can : CanGivePages m1 p born others
      unfolding each first_given
      others_can = record {
        tree = t;
        child = y;
        given = y.base.descriptor.frame ∷ [];
        each = each;
        up = refl;
        midway = first_given.midway;
      }

      -- within a bound on the steps
      pub created_in : (before between after : ℕ)
          → GivesPageIn p born (shadow1_word as_descriptor born) m before between
          → GivesPagesIn p born others (length others) m1 between after → after ≤ before + 35 * length (chain t p) + 10
      unfolding are each first_given
      created_in before between after one rest =
          let four : length others ≡ 4 = rw are in
          omega (
            arith,
            one t y [] (page_of t p a.x0) (can_give_first t s p x found a tested.0 born place) refl
                (giving_start t s m lays y),
            subst (λ n. after ≤ between + n * (7 * length (chain t p) + 2)) four
                (rest t y (y.base.descriptor.frame ∷ []) each refl first_given.midway),
          )

      module _ (m2 : Memory) (gives_say : GivesFurtherPages p born others (pair_frames others) m1 m2) where
        all_given : HasGiven t y (config y) m1 m2
        unfolding are each first_given
        all_given = rw are at (gives_say t y (y.base.descriptor.frame ∷ []) each refl first_given.midway)

        -- then the five pages can be written
        pub base_frames : AreFrames m2 base
        unfolding all_given
        base_frames = rw tested.1 (are_frames t s p x found a tested.0 m2 _ all_given.midway)

        -- which lays out the new tree
        pub created_laid : (n : Memory) → ((b : Base) → base_pairs b ≡ base
            → Space n (bare b p) (λ v. None) × OthersStay (bare b p) m2 n) → LaysOut (tree_with_newborn t p a) n
        unfolding all_given first_given
        created_laid n says =
            let new = says y.base (sym tested.1) in
            create-lays t s p x found a tested.0 m m2 n lays all_given.midway
            (PagesStay-trans t m m1 m2 first_given.stay all_given.stay) new.0 new.1
