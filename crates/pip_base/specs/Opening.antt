-- A ledger that nobody has opened.
use Rattle.std.specs.Prelude.{◌≡◌, ◌<◌, ℕ}

-- a blank with this name and a number of parts, at least one, opens the ledger of that name with as many
abbrev pub CanOpen : ℕ → ℕ → ℕ → ℕ → Type 0
CanOpen name parts ledger ledger_parts = (name ≡ ledger) × (parts ≡ ledger_parts) × (0 < parts)
