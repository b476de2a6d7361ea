-- Worlds that look alike: the relation, both ways and one after another.
use Rattle.std.proofs.Common.{ℕ, List, [], ◌∷◌, refl, sym, ap, ◌∙◌, Option, Some, None}
use Rattle.pip_model.specs.Tree.{Tree}
use Rattle.pip_model.specs.Worlds.{World}
use Rattle.pip_model.specs.declared.processors.Occupant.{Occupant}
use Rattle.pip_guests.specs.Outside.{Alike, AlikeCpus, AlikeOn, AlikeTrees, AlikeWord}
use Rattle.pip_guests.proofs.Runners.{cpus_alike_back, cpus_alike_same}

pub word_alike_same : (look : ℕ → ℕ → ℕ → ℕ) (g : ℕ) (o : Option (ℕ → ℕ)) → AlikeWord look g o o
word_alike_same look g o = record { there = refl; words = λ i. refl }

-- the same tree
pub tree_alike_same : (look : ℕ → ℕ → ℕ → ℕ) (t : Tree) → AlikeTrees look t t
tree_alike_same look t = record { nodes = refl; words = λ g. word_alike_same look g (t.words g) }

pub alike_same : (own : List ℕ) (look : ℕ → ℕ → ℕ → ℕ) (w : World) → Alike own look w w
alike_same own look w =
    record {
      tree = record {
        nodes = refl;
        words = λ g. word_alike_same look g (w.tree.words g);
      };
      cpus = cpus_alike_same own w.cpus;
    }

pub trees_back : (look : ℕ → ℕ → ℕ → ℕ) (t u : Tree) → AlikeTrees look t u → AlikeTrees look u t
trees_back look t u a = record {
  nodes = sym (ap {A = Tree} (λ x. record x { words = t.words }) a.nodes);
  words = λ g. record { there = sym (a.words g).there; words = λ i. sym ((a.words g).words i) };
}

pub alike_back : (own : List ℕ) (look : ℕ → ℕ → ℕ → ℕ) (w v : World) → Alike own look w v → Alike own look v w
alike_back own look w v a =
    record { tree = trees_back look w.tree v.tree a.tree; cpus = cpus_alike_back own w.cpus v.cpus a.cpus }

pub trees_on : (look : ℕ → ℕ → ℕ → ℕ) (t u x : Tree) → AlikeTrees look t u → AlikeTrees look u x → AlikeTrees look t x
trees_on look t u x a b = record {
  nodes = ap {A = Tree} (λ y. record y { words = x.words }) a.nodes ∙ b.nodes;
  words = λ g. record {
    there = (a.words g).there ∙ (b.words g).there;
    words = λ i. (a.words g).words i ∙ (b.words g).words i;
  };
}

on_alike_on : (own : List ℕ) (o p q : Option Occupant) → AlikeOn own o p → AlikeOn own p q → AlikeOn own o q
on_alike_on own None None None a b = tt
on_alike_on own None None (Some z) a b = absurd b
on_alike_on own None (Some y) q a b = absurd a
on_alike_on own (Some x) None q a b = absurd a
on_alike_on own (Some x) (Some y) None a b = absurd b
on_alike_on own (Some x) (Some y) (Some z) a b =
    (a.0 ∙ b.0, (λ n. a.1 n ∙ b.1 (λ i. n (rw a.0 i))))

cpus_on : (own : List ℕ) (os ps qs : List (Option Occupant)) → AlikeCpus own os ps → AlikeCpus own ps qs
    → AlikeCpus own os qs
cpus_on own [] [] [] a b = tt
cpus_on own [] [] (q ∷ qs) a b = absurd b
cpus_on own [] (p ∷ ps) qs a b = absurd a
cpus_on own (o ∷ os) [] qs a b = absurd a
cpus_on own (o ∷ os) (p ∷ ps) [] a b = absurd b
cpus_on own (o ∷ os) (p ∷ ps) (q ∷ qs) a b = (on_alike_on own o p q a.0 b.0, cpus_on own os ps qs a.1 b.1)

pub alike_on : (own : List ℕ) (look : ℕ → ℕ → ℕ → ℕ) (w v x : World) → Alike own look w v → Alike own look v x
    → Alike own look w x
alike_on own look w v x a b = record {
  tree = trees_on look w.tree v.tree x.tree a.tree b.tree;
  cpus = cpus_on own w.cpus v.cpus x.cpus a.cpus b.cpus;
}
