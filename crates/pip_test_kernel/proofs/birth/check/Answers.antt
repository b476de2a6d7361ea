use Rattle.std.proofs.Common.{◌≡◌, ℕ, ◌&&◌, true, ap, arith, sym, subst, ◌∙◌, Some, None}
use Rattle.std.specs.Prelude.{if◌then◌else◌, is_some, nat_le, nat_lt}
use Rattle.std.proofs.lemmas.Bool.Decides.{nat_tests}
use Rattle.pip_base.specs.Memory.{Memory, put_word}
use Rattle.pip_model.specs.Boot.{boot_root, boot_tree, first_user, zero_words}
use Rattle.pip_model.specs.Happens.{with_word}
use Rattle.pip_model.specs.Layout.{LaysOut}
use Rattle.pip_model.specs.Partitions.{HasPartition}
use Rattle.pip_model.specs.Tree.{find_node}
use Rattle.pip_model.proofs.Trees.Boot.{boot-sound}
use Rattle.pip_model.proofs.Frames.Stored.{stored_lays}
use Rattle.pip_model.proofs.Events.Soundness.{store-sound}
use Rattle.pip_test_kernel.proofs.birth.check.Goals as goal

-- the root stands where a word was written into its page in frame 14
word_written : (n : ℕ) → n ≡ 32 → (m k : Memory) → LaysOut (boot_tree n) m → (part f : ℕ) → part ≡ 1 → f ≡ 14
    → k ≡ put_word m f 7 0xffffffff → HasPartition k part
word_written n n_is m k lays part f part_is f_is is =
    let user : (nat_le (first_user n) 14 && nat_lt 14 n) ≡ true = grind (arith, nat_tests) in
    let page : is_some ((boot_tree n).words 14) ≡ true = ap (λ b. is_some (if b then Some zero_words else None)) user in
    record {
      tree = with_word (boot_tree n) 14 7 0xffffffff;
      node = boot_root n;
      sound = store-sound (boot_tree n) 14 7 0xffffffff (omega arith) (boot-sound n (omega arith) (omega arith)) page;
      laid = subst (LaysOut (with_word (boot_tree n) 14 7 0xffffffff)) (sym (is ∙ ap (λ g. put_word m g 7 0xffffffff)
          f_is)) (stored_lays (boot_tree n) m lays 14 7 0xffffffff page (omega arith) (omega arith));
      found = ap (find_node (boot_tree n)) part_is;
    }

pub check_calls-requires : goal.check_calls-requires
check_calls-requires g c =
    word_written _ c.requires.frames (g.M.Frames.memory c.boot.new.mem) (g.M.Frames.memory c.set_word.new.self)
    c.boot.ensures.layout c.new-2.result c.new.result c.new-2.ensures c.new.ensures c.set_word.ensures.words
