-- A line is raised, or a processor has its turn.
use Rattle.std.proofs.slice.Lists.{any-default}
use Rattle.std.proofs.Common.{ℕ, ◌-◌, ◌≤◌, ◌<◌, length, arith}
use Rattle.pip_every.specs.Moments.{Scope}
use Rattle.pip_every.proofs.Choosing.{chosen_raise, chosen_turn}
use Rattle.pip_every.proofs.explorer.Explorer.choose_usual.Goals as goal

pub returns-then-choice-cpus-clause-made : goal.returns-then-choice-cpus-clause-made
returns-then-choice-cpus-clause-made g c m at same =
    let s : Scope = record {
      cpus = length c.args.self.now.machine.cpus;
      lines = c.args.self.now.lines.items;
      from = c.args.self.now.from;
    } in
    let le : length c.args.self.now.machine.cpus ≤ c.args.choice =
    omega arith in
    let i : ℕ = c.args.choice - c.cpus-cpus.result in
    let lt : i < length c.args.self.now.lines.items =
    omega arith in
    chosen_raise s m c.args.choice c.args.self.now.machine c.raise.new.self c.args.turns c.index-line.result.now
    c.args.self.now.label.bytes.items _ le (c.requires.opened le) same
    (rw (
      c.index-line.ensures,
      any-default c.args.self.now.lines.items i c.index-line.result.now 0 lt,
      c.cpus-cpus.ensures,
    )) c.requires.empty
    c.raise.ensures.event at

pub returns-in-Ok-clause-made : goal.returns-in-Ok-clause-made
returns-in-Ok-clause-made g c m at same =
    let s : Scope = record {
      cpus = length c.args.self.now.machine.cpus;
      lines = c.args.self.now.lines.items;
      from = c.args.self.now.from;
    } in
    let lt : c.args.choice < length c.args.self.now.machine.cpus =
    omega arith in
    let w = record m.world { caches = c.args.self.now.machine.caches } in
    chosen_turn s m c.args.choice c.args.self.now.machine c.turn.new.port c.args.turns c.turns_after.result
    c.args.self.now.label.bytes.items c.turn.new.sink.bytes.items c.in-Ok.end lt same c.turns_after.ensures
    c.requires.empty (c.in-Ok.ensures.end w at) (c.in-Ok.ensures.acts w at)
