-- Where a node has the tables of a level.
use Rattle.std.specs.Prelude.{ℕ, Option, option_map}
use Rattle.pip_model.specs.NodeWords.{table_page}
use Rattle.pip_model.specs.declared.level.Level.{Level}
use Rattle.pip_model.specs.declared.level.Level.TheVariants.{Mmu, Shadow1, Shadow2}
use Rattle.pip_model.specs.Tree.{Node, table_at}

-- the index of the descriptor's word that has the frame of the directory
abbrev pub descriptor_index : Level → ℕ
descriptor_index Mmu = 3
descriptor_index Shadow1 = 5
descriptor_index Shadow2 = 7

-- the frame of the table of a directory index, if there is one
abbrev pub table_frame_at : Level → Node → ℕ → Option ℕ
table_frame_at level x i = option_map (λ b. (table_page level b).frame) (table_at x.tables i)
