-- The words of a base.
use Rattle.std.specs.Prelude.{ℕ, ◌<◌, List}
use Rattle.std.specs.List.{AllByRecursion}
use Rattle.pip_certificates.specs.declared.reading.BaseWord.{BaseWord}

-- words that n frames have
abbrev pub AreBaseWords : ℕ → List BaseWord → Type 0
AreBaseWords n base = AllByRecursion (λ b. (b.frame < n) × (b.index < 1024)) base
