-- Tests, and what a turn makes at another step.
use Rattle.std.proofs.Common.{◌≡◌, ℕ, ◌&&◌, Bool, true, false, not, refl, sym, ap, ap₂}
use Rattle.std.proofs.Common.{◌∙◌}
use Rattle.pip_model.specs.Acts.{events_made}
use Rattle.pip_model.specs.Turn.{fetch_acts}
use Rattle.pip_model.specs.Worlds.{World}
use Rattle.pip_model.specs.declared.call_name.CallName.{CallName}
use Rattle.pip_model.specs.declared.call_name.CallName.TheVariants.{Masks, OnMemory, Unknown, Yields}
use Rattle.pip_guests.proofs.Numbers.{bare_events, fetch_bare}
use Rattle.pip_apart.specs.Kept.{is_yield}

-- both parts of a test
pub both : (a b : Bool) → (a && b) ≡ true → (a ≡ true) × (b ≡ true)
both true b e = (refl, e)
both false b e = cc

pub and_both : (a b : Bool) → a ≡ true → b ≡ true → (a && b) ≡ true
and_both a b e f = ap₂ (λ x y. x && y) e f

pub not_true : (b : Bool) → not b ≡ true → b ≡ true → ⊥
not_true true e f = cc
not_true false e f = cc

pub yields_to : (c : CallName) → is_yield c ≡ true → c ≡ Yields
yields_to (OnMemory c) e = cc
yields_to Yields e = refl
yields_to (Masks b) e = cc
yields_to Unknown e = cc

-- at another step a turn makes the same events
pub same_events : (w : World) (cpu t r : ℕ) → events_made (fetch_acts w t cpu) ≡ events_made (fetch_acts w r cpu)
same_events w cpu t r =
    cc (
      bare_events (record { step = t; cpu = cpu }) (fetch_acts w t cpu),
      fetch_bare cpu t r w,
      bare_events
          (record { step = r; cpu = cpu }) (fetch_acts w r cpu),
    )
