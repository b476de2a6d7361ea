use Rattle.std.proofs.Common.{◌≡◌, length}
use Rattle.pip_model.specs.Worlds.{World}
use Rattle.pip_native.specs.Rooms.{HasRoomForChildren}
use Rattle.pip_native.specs.Watching.{addresses, with_children}
use Rattle.pip_native.proofs.children.build_children.Given as goal

-- the first i children
abbrev pub invariant-loop-i : goal.invariant-loop-i
invariant-loop-i g l = record {
  world : (w : World) → g.P.Port.stands l.fn.port w → HasRoomForChildren l.fn.n 0 w
      → g.P.Port.stands l.port (with_children w l.fn.n l.i) × HasRoomForChildren l.fn.n l.i
      (with_children w l.fn.n l.i);
  len : length l.children.items ≡ l.i;
  items : l.children.items ≡ addresses l.fn.n l.i;
  count : g.P.Port.count l.port ≡ g.P.Port.count l.fn.port;
}
