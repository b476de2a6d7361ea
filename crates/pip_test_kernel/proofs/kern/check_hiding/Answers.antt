use Rattle.std.proofs.Common.{◌≡◌, ℕ, ◌≤◌, ◌+◌, false, sym, ap, ◌∙◌, arith}
use Rattle.pip_base.specs.Memory.{Memory}
use Rattle.pip_model.specs.Boot.{boot_root, boot_tree, first_user}
use Rattle.pip_model.specs.Booting.{user_row}
use Rattle.pip_model.specs.Layout.{LaysOut}
use Rattle.pip_model.specs.Midway.{tree_rows}
use Rattle.pip_model.specs.Tree.{find_node}
use Rattle.pip_model.proofs.Trees.Boot.{boot-sound}
use Rattle.pip_model.proofs.Frames.Booting.{root_row}
use Rattle.pip_model.proofs.Frames.Midway.{laid_midway}
use Rattle.pip_kern.specs.Hiding.{CanSetUser}
use Rattle.pip_kern.proofs.RootFilled.{frame_at_place}
use Rattle.pip_kern.proofs.UserBits.{can_set_again, can_set_user}
use Rattle.pip_test_kernel.proofs.kern.check_hiding.Goals as goal

-- the root maps its second page at vpage 0x401
second_page : (n : ℕ) → 16 ≤ n → n ≤ 4096 → (m : Memory) → LaysOut (boot_tree n) m → (part v : ℕ) → part ≡ 1 → v ≡ 1025
    → CanSetUser m part v
second_page n least most m lays part v part_is v_is =
    let sound = boot-sound n least most in
    let row = root_row n least most v (first_user n
    + 1) (sym (frame_at_place n least most v (first_user n + 1) (omega arith) (omega arith) (omega arith))) in
    can_set_user m (boot_tree n) (tree_rows (boot_tree n)) part v (boot_root n) (user_row (first_user n + 1)) sound
    (laid_midway (boot_tree n) sound m lays) (ap (find_node (boot_tree n)) part_is)
    (ap (λ p. tree_rows (boot_tree n) p v) part_is ∙ sym row)

pub hide-requires : goal.hide-requires
hide-requires g c =
    let bounds = g.met.M.Frames.bounds c.args.mem.now in
    second_page _ bounds.0 bounds.1 (g.M.Frames.memory c.boot.new.mem) c.boot.ensures.layout c.new-root.result
    c.new-second.result c.new-root.ensures c.new-second.ensures

pub show-requires : goal.show-requires
show-requires g c =
    let bounds = g.met.M.Frames.bounds c.args.mem.now in
    let s = second_page _ bounds.0 bounds.1 (g.M.Frames.memory c.boot.new.mem) c.boot.ensures.layout c.new-root.result
    c.new-second.result c.new-root.ensures c.new-second.ensures in
    can_set_again _ _ c.new-root.result c.new-second.result false s
    (c.hide.ensures.user s.tree s.rows s.node s.row s.sound s.midway s.found s.at)
