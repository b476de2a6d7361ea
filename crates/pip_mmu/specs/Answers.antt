-- What the calls answer, and what a store leaves, by what the model says is reached.
use Rattle.std.specs.Prelude.{ℕ, ◌/◌, ◌%◌, Result, Ok, Err}
use Rattle.pip_base.specs.declared.types.Size.{Size}
use Rattle.pip_model.specs.Happens.{read_of, with_word, written_over}
use Rattle.pip_model.specs.Reach.{Faulted, Place, Reached}
use Rattle.pip_model.specs.Tree.{Tree, word_of}
use Rattle.pip_mmu.specs.Faults.{access_fault, translation_fault}
use Rattle.pip_mmu.specs.declared.faults.AccessFault.{AccessFault}
use Rattle.pip_mmu.specs.declared.faults.MmuFault.{MmuFault}

-- the word that an address names in a page, or what is instead of a page
abbrev pub word_in : {E : Type 0} → ℕ → Result ℕ E → Result (ℕ × ℕ) E
word_in va (Ok frame) = Ok (frame, va % 4096 / 4)
word_in va (Err e) = Err e

-- what a translation says is reached: a frame and the index of a word in it, or a fault
abbrev pub reached_of : Result (ℕ × ℕ) MmuFault → Reached
reached_of (Ok p) = Place p.0 p.1
reached_of (Err f) = Faulted (translation_fault f)

-- the place that is reached
abbrev pub place_answer : Reached → Result (ℕ × ℕ) AccessFault
place_answer (Place g i) = Ok (g, i)
place_answer (Faulted f) = Err (access_fault f)

-- a load or a fetch gives what it reads of the word there
abbrev pub load_answer : Tree → ℕ → Size → Reached → Result ℕ AccessFault
load_answer t va size (Place g i) = Ok (read_of va size (word_of (t.words g) i))
load_answer t va size (Faulted f) = Err (access_fault f)

-- a store gives nothing
abbrev pub store_answer : Reached → Result (Unit {0}) AccessFault
store_answer (Place g i) = Ok tt
store_answer (Faulted f) = Err (access_fault f)

-- it leaves the tree with the word written over, and after a fault the same tree
abbrev pub tree_stored : Tree → ℕ → Size → ℕ → Reached → Tree
tree_stored t va size x (Place g i) = with_word t g i (written_over va size x (word_of (t.words g) i))
tree_stored t va size x (Faulted f) = t
