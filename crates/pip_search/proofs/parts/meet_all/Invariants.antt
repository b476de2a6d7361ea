use Rattle.std.proofs.Common.{◌≡◌, ℕ, List, ◌+◌, ◌<◌, ◌≤◌, length, vec_len}
use Rattle.pip_search.specs.Certificates.{HasStop, Stop}
use Rattle.pip_search.specs.Parts.{ArePacked, AreWordsAt, IsGrowing, IsWalked, IsWalkedOn, portion_of, stops}
use Rattle.pip_search.proofs.parts.meet_all.Given as goal

abbrev pub invariant-loop-choice : goal.invariant-loop-choice
invariant-loop-choice g l = record {
  base : g.S.System.base l.system ≡ g.S.System.base l.fn.system;
  growing : IsGrowing (g.S.System.model (g.S.System.base l.fn.system)) l.start l.part l.i l.choice;
  hand : AreWordsAt (stops l.part.keys.items) l.i l.buffers.from.items;
  within : l.at ≤ length l.marks;
  place : l.i < vec_len l.part.keys;
  keeps : (key : List ℕ) (n : ℕ) → HasStop (stops l.fn.part.keys.items) key n → HasStop (stops l.part.keys.items) key n;
  kept : ArePacked l.part.keys.items;
  least : vec_len l.fn.part.keys ≤ vec_len l.part.keys;
  walked : (from : Stop) → IsWalked (g.S.System.model (g.S.System.base l.fn.system)) l.marks from
      (portion_of l.fn.part) l.i l.first
      → IsWalkedOn (g.S.System.model (g.S.System.base l.fn.system)) l.marks from (portion_of l.part) l.i l.choice l.at;
  few : vec_len l.part.keys + l.first ≤ vec_len l.fn.part.keys + l.at;
}
