-- One word of a table of the first shadow that becomes 0, in the words of one node.
use Rattle.std.proofs.Common.{◌≡◌, ℕ, zero, suc, ◌<◌, ◌/◌, ◌%◌, ◌^◌, inl, List, [], ◌∷◌, refl, sym, ap, ◌∙◌, arith}
use Rattle.std.proofs.Common.{Some}
use Rattle.std.specs.Prelude.{slice_index}
use Rattle.std.proofs.Math.ListN.{set}
use Rattle.pip_base.specs.Words.{directory_word}
use Rattle.pip_base.specs.Memory.{Memory, frame_at, put_word, word_at}
use Rattle.pip_model.specs.FullRows.{cells_of}
use Rattle.pip_model.specs.NodeIn.{NodeIn}
use Rattle.pip_model.specs.NodeWords.{TablePage, directory_entry, role}
use Rattle.pip_model.specs.declared.level.Level.{Level}
use Rattle.pip_model.specs.declared.level.Level.TheVariants.{Shadow1}
use Rattle.pip_model.specs.Tree.{Node}
use Rattle.pip_model.proofs.Nodes.Reads.{read_directory}
use Rattle.pip_model.proofs.Nodes.Roles.{role_of_table, table_found}
use Rattle.pip_space.specs.Levels.{table_frame_at}
use Rattle.pip_space.proofs.Tables.{entry_some, given_word, level_put, page_table, read_place, row_put, with_given}
use Rattle.pip_kern.proofs.Marking.{NameSays, OthersSay}

-- ---- lists

pub set-set : {X : Type 0} (xs : List X) (i : ℕ) (a b : X) → set (set xs i a) i b ≡ set xs i b
set-set [] i a b = refl
set-set (x ∷ xs) zero a b = refl
set-set (x ∷ xs) (suc i) a b = rw (set-set xs i a b)

-- ---- the table

-- the page of a table is one of the node's, as what it is
pub page_role : (m : Memory) (x : Node) (cells : Level → ℕ → ℕ) → NodeIn m x cells → (level : Level) (i f : ℕ)
    → table_frame_at level x i ≡ Some f → role x f ≡ Some (TablePage level i)
page_role m x cells n level i f e =
    let (b, at, page) = page_table level x i f e in
    let (on, index) = table_found x.tables i b at in
    rw (← page, role_of_table x n.once level b on, index)

-- the table of the first shadow is the same for each node of a name
same_page : (m : Memory) (x z : Node) (a b : Level → ℕ → ℕ) → NodeIn m x a → NodeIn m z b → z.name ≡ x.name → (i f : ℕ)
    → i < 1024 → table_frame_at Shadow1 x i ≡ Some f → table_frame_at Shadow1 z i ≡ Some f
same_page m x z a b n k same i f low e =
    let (t, at, page) = page_table Shadow1 x i f e in
    let top : x.base.shadow1.frame ≡ z.base.shadow1.frame =
    cc (read_place m x a n z.name (sym same) Shadow1 5 refl, read_place m z b k z.name refl Shadow1 5 refl) in
    let word : word_at m x.base.shadow1.frame i ≡ directory_word f =
    rw (read_directory m x a n Shadow1 i low, at, page) in
    entry_some m z b k Shadow1 i f low (rw (← top, word))

-- one word of it becomes 0
module _ (m l : Memory) (x : Node) (cells : Level → ℕ → ℕ) (n : NodeIn m x cells)
    (name f p : ℕ) (is : x.name ≡ name) (low : p < 2 ^ 20) (page : table_frame_at Shadow1 x (p / 1024) ≡ Some f)
    (written : l ≡ put_word m f (p % 1024) 0) where
  page_of : (z : Node) (b : Level → ℕ → ℕ) → NodeIn m z b → z.name ≡ name → table_frame_at Shadow1 z (p / 1024) ≡ Some f
  page_of z b k same = same_page m x z cells b n k (cc) (p / 1024) f (omega arith) page

  pub named_free : NameSays m l name p 0
  unfolding page_of
  named_free z rows r space same at =
      row_put m l z rows space p Shadow1 r (record r { given = 0 }) 0 at
      (with_given r 0 (space.packed p r at) (inl refl)) (given_word r 0) refl
      (level_put m l z (cells_of rows) space.node Shadow1 p p f 0 refl low (page_of z (cells_of rows) space.node same)
      written).0

  pub others_free : OthersSay m l name
  unfolding page_of
  others_free z b k same = (level_put m l z b k Shadow1 p p f 0 refl low (page_of z b k same) written).1
