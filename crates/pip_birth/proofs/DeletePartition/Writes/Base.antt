-- The base of a partition, as its descriptor names it.
use Rattle.std.proofs.Common.{◌≡◌, ℕ, ◌<◌, ◌^◌, List, [], ◌∷◌, ◌∙◌, subst, arith, length}
use Rattle.pip_base.specs.declared.types.Pair.{Pair}
use Rattle.pip_base.specs.Memory.{Memory, word_at}
use Rattle.pip_model.specs.NodeWords.{descriptor_word}
use Rattle.pip_model.specs.declared.level.Level.{Level}
use Rattle.pip_model.specs.declared.level.Level.TheVariants.{Mmu, Shadow1, Shadow2}
use Rattle.pip_model.specs.NodeIn.{HasNode, NodeIn}
use Rattle.pip_model.specs.Tree.{Node, base_pairs}
use Rattle.pip_model.proofs.Nodes.Reads.{directory_inside, list_inside, name_inside, read_descriptor}

pub part_inside : (m : Memory) (part : ℕ) → HasNode m part → part < length m
part_inside m part h = rw (← h.name) (name_inside m h.node h.cells h.is_in)

module _ (m : Memory) (part : ℕ) (x : Node) (cells : Level → ℕ → ℕ) (n : NodeIn m x cells) (name : x.name ≡ part) where
  pub word_is : (i : ℕ) → i < 1024 → word_at m part i ≡ descriptor_word x i
  word_is i low = rw (← name) (read_descriptor m x cells n i low)

  pub small_self : word_at m part 1 < 2 ^ 20
  small_self = omega (arith, word_is 1 (omega arith), name_inside m x cells n)

  pub small_mmu : word_at m part 3 < 2 ^ 20
  small_mmu = omega (arith, word_is 3 (omega arith), directory_inside m x cells n Mmu)

  pub small_shadow1 : word_at m part 5 < 2 ^ 20
  small_shadow1 = omega (arith, word_is 5 (omega arith), directory_inside m x cells n Shadow1)

  pub small_shadow2 : word_at m part 7 < 2 ^ 20
  small_shadow2 = omega (arith, word_is 7 (omega arith), directory_inside m x cells n Shadow2)

  pub small_list : word_at m part 9 < 2 ^ 20
  small_list = omega (arith, word_is 9 (omega arith), list_inside m x cells n 0 (omega arith))

  -- five pages with these words are the base
  pub base_is : (a b c d e : Pair) → a.va ≡ word_at m part 0 → a.frame ≡ word_at m part 1 → b.va ≡ word_at m part 2
      → b.frame ≡ word_at m part 3 → c.va ≡ word_at m part 4 → c.frame ≡ word_at m part 5
      → d.va ≡ word_at m part 6 → d.frame ≡ word_at m part 7 → e.va ≡ word_at m part 8 → e.frame ≡ word_at m part 9
      → ◌≡◌ {A = List Pair} (a ∷ b ∷ c ∷ d ∷ e ∷ []) (base_pairs x.base)
  base_is a b c d e a0 a1 b0 b1 c0 c1 d0 d1 e0 e1 = λ j.
      record { va = (a0 ∙ word_is 0 (omega arith)) j; frame = (a1 ∙ word_is 1 (omega arith)) j }
      ∷ record { va = (b0 ∙ word_is 2 (omega arith)) j; frame = (b1 ∙ word_is 3 (omega arith)) j }
      ∷ record { va = (c0 ∙ word_is 4 (omega arith)) j; frame = (c1 ∙ word_is 5 (omega arith)) j }
      ∷ record { va = (d0 ∙ word_is 6 (omega arith)) j; frame = (d1 ∙ word_is 7 (omega arith)) j }
      ∷ record { va = (e0 ∙ word_is 8 (omega arith)) j; frame = (e1 ∙ word_is 9 (omega arith)) j }
      ∷ []
