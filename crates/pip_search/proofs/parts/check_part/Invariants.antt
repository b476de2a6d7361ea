use Rattle.std.proofs.Common.{◌≡◌, ℕ, List, [], ◌+◌, ◌-◌, ◌≤◌, length, vec_len}
use Rattle.pip_search.specs.Certificates.{HasStop}
use Rattle.pip_search.specs.Parts.{ArePacked, IsGrowing, IsWalked, portion_of, stop_at, stops}
use Rattle.pip_search.specs.Systems.{LeadsAlong}
use Rattle.pip_search.proofs.parts.check_part.Given as goal

abbrev pub invariant-loop-i : goal.invariant-loop-i
invariant-loop-i g l = record {
  base : g.S.System.base l.system ≡ g.S.System.base l.fn.system;
  growing : IsGrowing (g.S.System.model (g.S.System.base l.fn.system)) l.start l.part l.i 0;
  within : l.at ≤ length l.marks;
  begins : l.way ≡ [] → HasStop (stops l.part.keys.items) l.start 0;
  kept : ArePacked l.part.keys.items;
  low : l.i ≤ vec_len l.part.keys;
  walked : (first : List ℕ)
      × (LeadsAlong (g.S.System.model (g.S.System.base l.fn.system)) l.start l.way first
      × IsWalked (g.S.System.model (g.S.System.base l.fn.system)) l.marks (stop_at first (length l.way))
      (portion_of l.part) l.i l.at);
  few : vec_len l.part.keys ≤ l.at + 1;
}

abbrev pub decreases-loop-i : goal.decreases-loop-i
decreases-loop-i g l = length l.marks + 1 - l.i
