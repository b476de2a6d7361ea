use Rattle.std.proofs.Common.{◌≡◌, ◌<◌, ℕ, length, true}
use Rattle.std.specs.Prelude.{is_some, slice_index_or}
use Rattle.pip_model.specs.Layout.{LaysOut}
use Rattle.pip_model.specs.Sound.{IsWord}
use Rattle.pip_model.specs.Tree.{Tree}
use Rattle.pip_image.specs.Loading.{filled_before}
use Rattle.pip_image.proofs.load.fill_page.Given as goal

abbrev pub invariant-loop-i : goal.invariant-loop-i
invariant-loop-i g l = record {
  lays : (t : Tree) → is_some (t.words l.frame) ≡ true → LaysOut t (g.M.Frames.memory l.fn.mem)
      → LaysOut (filled_before t l.frame l.i l.words) (g.M.Frames.memory l.mem);
  count : length (g.M.Frames.memory l.mem) ≡ length (g.M.Frames.memory l.fn.mem);
  small : (j : ℕ) → j < l.i → IsWord (slice_index_or l.words j 0);
}
