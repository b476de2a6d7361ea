-- What a descriptor says of where the tables are noted.
use Rattle.std.proofs.Common.{◌≡◌, ℕ, suc, ◌<◌, ◌≤◌, ◌^◌, true, List, [], ◌∷◌, map, length, refl, sym, ap, subst, arith}
use Rattle.std.proofs.Common.{eqb}
use Rattle.std.specs.List.{list_any}
use Rattle.std.proofs.lemmas.Map.Steps.{length-le_from_distinct_below}
use Rattle.pip_base.specs.Memory.{Memory, word_at}
use Rattle.pip_model.specs.declared.level.Level.{Level}
use Rattle.pip_model.specs.declared.level.Level.TheVariants.{Mmu, Shadow1, Shadow2}
use Rattle.pip_model.specs.NodeIn.{NodeIn}
use Rattle.pip_model.specs.Tree.{Node, Table}
use Rattle.pip_model.proofs.Trees.Depth.{any_member, distinct_by_test}
use Rattle.pip_model.proofs.OnLists.Members.{In-map_from}
use Rattle.pip_model.proofs.Nodes.Reads.{directory_inside, list_inside, name_inside, read_descriptor}
use Rattle.pip_space.specs.Tables.{AreTableRoots, AreInside}
use Rattle.pip_space.specs.declared.table_roots.TableRoots.{TableRoots}

length-indexes : (ts : List Table) → length (map (λ t. t.index) ts) ≡ length ts
length-indexes [] = refl
length-indexes (t ∷ ts) = rw (length-indexes ts)

module _ (m : Memory) (x : Node) (cells : Level → ℕ → ℕ) (n : NodeIn m x cells) where
  -- a node has at most 1024 tables
  pub few_tables : length x.tables ≤ 1024
  few_tables =
      rw (← length-indexes x.tables) (length-le_from_distinct_below (map (λ t. t.index) x.tables) 1024
      (distinct_by_test (map (λ t. t.index) x.tables) n.dirs) small)
    where
      small : (q : ℕ) → list_any (eqb q) (map (λ t. t.index) x.tables) ≡ true → q < 1024
      small q h =
          let (b, j, e) = In-map_from (λ t. t.index) q x.tables (any_member q (map (λ t. t.index) x.tables) h) in
          rw e (n.small_dirs b j)

  module _ (part : ℕ) (name : x.name ≡ part) where
    pub part_inside : part < length m
    part_inside = rw (← name) (name_inside m x cells n)

    pub read_list_frame : word_at m part 9 ≡ x.base.list.frame
    read_list_frame = rw (← name) (read_descriptor m x cells n 9 (omega arith))

    pub read_tables : word_at m part 12 ≡ length x.tables
    read_tables = rw (← name) (read_descriptor m x cells n 12 (omega arith))

    pub list_small : word_at m part 9 < 2 ^ 20
    list_small = omega (arith, read_list_frame, list_inside m x cells n 0 (omega arith))

  -- they are frames of the memory
  pub roots_inside : (h : TableRoots) → AreTableRoots x h → AreInside m h
  roots_inside h a = record {
    part = omega (arith, name_inside m x cells n);
    mmu = omega (arith, directory_inside m x cells n Mmu);
    shadow1 = omega (arith, directory_inside m x cells n Shadow1);
    shadow2 = omega (arith, directory_inside m x cells n Shadow2);
  }
