-- What a machine stands for after an event.
use Rattle.std.proofs.Common.{◌≡◌, ℕ, ◌≤◌, List, Option, length, sym, ◌∙◌}
use Rattle.pip_base.specs.Memory.{Memory}
use Rattle.pip_base.specs.declared.outcome.Outcome.{Outcome}
use Rattle.pip_model.specs.Booted.{IsBooted}
use Rattle.pip_model.specs.Events.{Event, IsEvent}
use Rattle.pip_model.specs.Cache.{Places, empty_caches}
use Rattle.pip_model.specs.Happens.{what_happens, caches_after, event}
use Rattle.pip_model.specs.Worlds.{World, boot_cpus, boot_world_with}
use Rattle.pip_model.specs.declared.processors.Occupant.{Occupant}
use Rattle.pip_model.proofs.Events.Soundness.{boot_world-sound_with, event-sound}
use Rattle.pip_model.proofs.Events.Caching.{boot-cached, event-cached}
use Rattle.pip_switch.specs.Standing.{Came, CameWith, HasCachedWorld, HasWorld, StandsFor, StandsWith}

-- a machine that begins stands for the boot world
pub boot_stands : (m : Memory) (cs : List (Option Occupant)) (c : ℕ) → 1 ≤ c → c ≤ 4 → cs ≡ boot_cpus c
    → (n : ℕ) (words : ℕ → ℕ → ℕ) → IsBooted n words m → StandsFor m cs (boot_world_with words n c)
boot_stands m cs c least most is n words k = record {
  sound =
      boot_world-sound_with words n c k.least k.most least most k.small;
  shows = record { laid = k.laid; cpus = sym is };
}

-- so it does with empty caches
pub boot_stands_with : (m : Memory) (cs : List (Option Occupant)) (ks : List Places) (c : ℕ) → 1 ≤ c → c ≤ 4
    → cs ≡ boot_cpus c → ks ≡ empty_caches c → length ks ≡ length cs → (n : ℕ) (words : ℕ → ℕ → ℕ) → IsBooted n words m
    → StandsWith m cs ks (boot_world_with words n c)
boot_stands_with m cs ks c least most is none each n words k = record {
  bare =
      boot_stands m cs c least most is n words k;
  cached = boot-cached words n c;
  caches = sym none;
  each = each;
}

-- the world without its caches
pub bare_world : (m : Memory) (cs : List (Option Occupant)) (ks : List Places) → HasCachedWorld m cs ks → HasWorld m cs
bare_world m cs ks k = record { world = k.world; stands = k.stands.bare }

-- an event, which may depend on the world
module _ (m n : Memory) (cs ds : List (Option Occupant)) (ks ls : List Places) (cpus : length ds ≡ length cs)
    (each : length ls ≡ length ks)
    (e : World → Event) (o : World → Outcome) (is : (w : World) → StandsFor m cs w → IsEvent (e w))
    (came : (w : World) → StandsWith m cs ks w → CameWith w (e w) (o w) n ds ls) where
  after : (w : World) → StandsWith m cs ks w → StandsWith n ds ls (event w (e w)).world
  after w s =
      let c = came w s in
      record {
        bare = record {
          sound = event-sound w (e w) s.bare.sound (is w s.bare);
          shows = record { laid = c.0.shows.laid; cpus = c.0.shows.cpus };
        };
        cached = event-cached w (e w) s.bare.sound s.cached (is w s.bare);
        caches = sym c.1;
        each = each ∙ s.each ∙ sym cpus;
      }

  pub keeps_world : HasCachedWorld m cs ks → HasCachedWorld n ds ls
  keeps_world k = record { world = (event k.world (e k.world)).world; stands = after k.world k.stands }

  pub follows : (w : World) → StandsWith m cs ks w
      → (o w ≡ (event w (e w)).outcome) × StandsWith n ds ls (event w (e w)).world
  follows w s = ((came w s).0.outcome, after w s)

-- an event that changes no cache
pub quiet : (m n : Memory) (cs ds : List (Option Occupant)) (ks : List Places) (e : World → Event) (o : World → Outcome)
    → ((w : World) → caches_after w (e w) ≡ w.caches)
    → ((w : World) → StandsFor m cs w → Came (what_happens w (e w)) (o w) n ds)
    → (w : World) → StandsWith m cs ks w → CameWith w (e w) (o w) n ds ks
quiet m n cs ds ks e o still came w s = (came w s.bare, sym s.caches ∙ sym (still w))
