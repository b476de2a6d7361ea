use Rattle.std.proofs.Common.{◌≡◌, ◌≢◌, ℕ, ◌<◌, ◌*◌, ◌+◌, replicate, length, arith, subst, lit<}
use Rattle.pip_base.specs.Memory.{Memory, put_word, zeros}
use Rattle.pip_base.proofs.Memory.{length-replicate_zeros, IsMemory-replicate_zeros, word_at-replicate_zeros}
use Rattle.pip_table.specs.Table.{IsDirectory, IsFurther}
use Rattle.pip_table.proofs.Laws.{IsDirectory-none, IsFurther-none, IsFurther-put_entry}
use Rattle.pip_test_tables.proofs.table.install.Goals as goal

-- over any number of frames, so that no memory is computed
IsDirectory-fresh : (n : ℕ) (m : Memory) (top : ℕ) → m ≡ replicate n (zeros 1024) → top < n → IsDirectory m top
IsDirectory-fresh n m top fresh small =
    let l = length-replicate_zeros n in
    let inside : top < length (replicate n (zeros 1024)) = omega arith in
    rw fresh (IsDirectory-none (replicate n (zeros 1024)) top (IsMemory-replicate_zeros n) inside
    (λ i i_in. word_at-replicate_zeros n top i))

IsFurther-fresh : (n : ℕ) (m : Memory) (top f : ℕ) → m ≡ replicate n (zeros 1024) → f < n → f ≢ top → IsFurther m top f
IsFurther-fresh n m top f fresh small other =
    let l = length-replicate_zeros n in
    let inside : f < length (replicate n (zeros 1024)) = omega arith in
    rw fresh
    (IsFurther-none (replicate n (zeros 1024)) top f inside other (λ i i_in. word_at-replicate_zeros n top i))

IsFurther-second : (k : ℕ) (m n : Memory) (top i f g : ℕ) → m ≡ replicate k (zeros 1024) → top < k → i < 1024
    → n ≡ put_word m top i (f * 4096 + 1) → g < k → g ≢ top → f ≢ g → IsFurther n top g
IsFurther-second k m n top i f g fresh small_top i_in written small beside other =
    rw written (IsFurther-put_entry m top i (f * 4096 + 1) g (IsDirectory-fresh k m top fresh small_top) i_in
    (IsFurther-fresh k m top g fresh small beside) (λ e. other (omega arith)))

pub set_dir-requires-clause-table : goal.set_dir-requires-clause-table
set_dir-requires-clause-table g c =
    let small : c.new-top.result < 16 = omega arith in
    IsDirectory-fresh 16 _ c.new-top.result c.requires small

pub set_dir-requires-2-clause-table : goal.set_dir-requires-2-clause-table
set_dir-requires-2-clause-table g c =
    let small : c.new.result < 16 = omega arith in
    let other : c.new.result ≢ c.new-top.result = λ e. omega arith in
    c.set_dir.ensures.table (IsFurther-fresh 16 _ c.new-top.result c.new.result c.requires small other)

pub returns : goal.returns
returns g c =
    let small_top : c.new-top.result < 16 = omega arith in
    let small : c.new-2.result < 16 = omega arith in
    let beside : c.new-2.result ≢ c.new-top.result = λ e. omega arith in
    let other : c.new.result ≢ c.new-2.result = λ e. omega arith in
    subst (λ (top : ℕ). IsDirectory (g.M.Frames.memory c.set_dir-2.new.mem) top) c.new-top.ensures
    (c.set_dir-2.ensures.table (IsFurther-second 16 _ _ c.new-top.result 1 c.new.result c.new-2.result c.requires
    small_top (lit< tt) c.set_dir.ensures.words small beside other))
