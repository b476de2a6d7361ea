use Rattle.std.proofs.Common.{◌≡◌, length, map}
use Rattle.pip_every.specs.Again.{IsSaid, shown_line}
use Rattle.pip_every.proofs.Saying.{AreYet}
use Rattle.pip_every.proofs.again.say_all.Given as goal

-- the labels of the lines before this one were said
abbrev pub invariant-loop-line : goal.invariant-loop-line
invariant-loop-line g l = record {
  base : g.S.System.base l.system ≡ g.S.System.base l.fn.system;
  count : length l.all.items ≡ l.line-index;
  said : (x : (g.S.System.model (g.S.System.base l.fn.system)).State)
      → (g.S.System.model (g.S.System.base l.fn.system)).stands l.fn.start x
      → AreYet (λ line r. IsSaid (g.S.System.model (g.S.System.base l.fn.system)) l.fn.width x (shown_line line)
      l.fn.extent r) (map (λ v. v.items) l.fn.lines) l.all.items;
}
