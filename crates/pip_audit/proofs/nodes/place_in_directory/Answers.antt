use Rattle.std.proofs.Common.{ℕ, List, arith, sym, ap, ◌∙◌, cond, ◌==◌, ne_eqb, eq-eqb, Some, None, Option}
use Rattle.pip_base.specs.Memory.{word_at}
use Rattle.pip_base.specs.Words.{directory_word}
use Rattle.pip_model.specs.ReadOff.{place_of_table}
use Rattle.pip_model.proofs.Audit.Over.{first_hit, first_none}
use Rattle.pip_audit.proofs.nodes.place_in_directory.Goals as goal

place : List (List ℕ) → ℕ → ℕ → ℕ → Option ℕ
place m f g i = cond (word_at m f i == directory_word g) (Some i) None

pub returns-then-word-wanted : goal.returns-then-word-wanted
unfolding place_of_table place
returns-then-word-wanted g c =
    let m = g.M.Frames.memory c.args.mem.now in
    let is = sym c.word.ensures.word ∙ c.if-word-wanted.true ∙ c.pack_dir-wanted.ensures in
    let below = c.loop-i-test.true in
    sym (first_hit (place m c.args.directory c.args.table) 0 1024 c.loop-i.i c.loop-i.i (omega arith)
    (omega (arith, below))
    (ap (λ b. cond b (Some c.loop-i.i) None)
    (eq-eqb (word_at m c.args.directory c.loop-i.i) (directory_word c.args.table) is))
    (λ j lo hi. ap (λ b. cond b (Some j) None)
    (ne_eqb (word_at m c.args.directory j) (directory_word c.args.table) (c.loop-i.invariant j hi))))

pub returns : goal.returns
unfolding place_of_table place
returns g c =
    let m = g.M.Frames.memory c.args.mem.now in
    let past = c.loop-i-test.false in
    sym (first_none (place m c.args.directory c.args.table) 0 1024 (λ k lo hi.
    ap (λ b. cond b (Some k) None) (ne_eqb (word_at m c.args.directory k) (directory_word c.args.table)
    (c.loop-i.invariant k (omega (arith, past, hi))))))
