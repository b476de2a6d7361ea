use Rattle.std.proofs.Common.{◌≡◌, ◌+◌, ◌-◌, ◌*◌, ◌^◌, ◌≤◌}
use Rattle.pip_script.specs.Lines.{still}
use Rattle.pip_search_commands.specs.MenuReading.{menu_said}
use Rattle.pip_search_commands.proofs.MenuReads.{IsAtLine}
use Rattle.pip_search_commands.proofs.commands.against.menu.read_menu.Given as goal

abbrev pub invariant-loop-line : goal.invariant-loop-line
invariant-loop-line g l = record {
  at : IsAtLine l.line (menu_said l.menu) l.input.bytes (g.S.Source.history l.fn.joint.source.now).left
      (g.S.Source.history l.joint.source.now).left;
  first : 1 ≤ l.line;
  few : l.line ≤ 65537;
  room : 2 ^ 24 ≤ still l.input + 121 * (l.line - 1);
  name : l.joint.source.ghost_name ≡ l.fn.joint.source.ghost_name;
  sink : l.joint.sink ≡ l.fn.joint.sink;
  is_open : g.S.Source.is_open l.joint.source.now;
  no_faults : (g.S.Source.history l.joint.source.now).faults ≡ (g.S.Source.history l.fn.joint.source.now).faults;
}
