use Rattle.std.proofs.Common.{◌≡◌, ◌-◌}
use Rattle.pip_native.specs.Choice.{first_alive, next_of}
use Rattle.pip_native.proofs.order.next_child.Given as goal

abbrev pub invariant-loop-before : goal.invariant-loop-before
invariant-loop-before l = next_of l.n l.alive l.last ≡ first_alive l.n l.alive l.last (l.n - l.before)
