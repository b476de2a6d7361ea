use Rattle.std.proofs.Common.{◌≡◌, ◌+◌, ◌-◌, ◌*◌, ◌^◌, ◌≤◌, length}
use Rattle.pip_script.specs.Lines.{still}
use Rattle.pip_audit.specs.CoreRead.{state_at}
use Rattle.pip_audit.proofs.Reading.{IsAt}
use Rattle.pip_audit.proofs.Rising.{IsPlaced, weight}
use Rattle.pip_audit.proofs.core_text.text.read_core_from_joint.Given as goal

abbrev pub invariant-loop-k : goal.invariant-loop-k
invariant-loop-k g l = let n = length (g.M.Frames.memory l.fn.mem) in record {
  at : IsAt n l.k (state_at l.place (g.M.Frames.memory l.mem)) l.input.bytes
      (g.S.Source.history l.fn.joint.source.now).left (g.S.Source.history l.joint.source.now).left;
  placed : IsPlaced n l.place.frame l.place.group;
  rose : 8 * (l.k - 1) ≤ weight l.place.frame l.place.group;
  first : 1 ≤ l.k;
  room : 2 ^ 26 ≤ still l.input + 121 * (l.k - 1);
  count : length (g.M.Frames.memory l.mem) ≡ n;
  name : l.joint.source.ghost_name ≡ l.fn.joint.source.ghost_name;
  sink : l.joint.sink ≡ l.fn.joint.sink;
  is_open : g.S.Source.is_open l.joint.source.now;
  no_faults : (g.S.Source.history l.joint.source.now).faults ≡ (g.S.Source.history l.fn.joint.source.now).faults;
}
