use Rattle.std.proofs.Common.{◌≡◌, drop}
use Rattle.pip_model.specs.Worlds.{World}
use Rattle.pip_switch.specs.Standing.{StandsAs}
use Rattle.pip_away.specs.Blind.{sight_of}
use Rattle.pip_every.specs.Away.{deeds_pass}
use Rattle.pip_every.proofs.looking.deeds_look_away.Given as goal

-- those after the deeds that were looked at decide
abbrev pub invariant-loop-k : goal.invariant-loop-k
invariant-loop-k g l = (w : World) → StandsAs l.machine w
    → deeds_pass l.blind.own.items (sight_of l.blind) w l.cpu l.menu
    ≡ deeds_pass l.blind.own.items (sight_of l.blind) w l.cpu (drop l.k l.menu)
