-- The fronts of the base and of the way.
use Rattle.std.proofs.Common.{◌≡◌, ℕ, suc, ◌+◌, ◌-◌, ◌<◌, true, false, List, length, ap, arith, cond, Option, Some}
use Rattle.std.proofs.Common.{if◌then◌else◌}
use Rattle.pip_certificates.specs.PartText.{PartSaid, base_from, fault_at, fits_way, front_then, is_base}
use Rattle.pip_certificates.specs.PartText.{number_in, word_place, runs_from, with_base}
use Rattle.pip_certificates.specs.PartText.{with_run}
use Rattle.pip_certificates.specs.declared.faults.PartKind.TheVariants as K
use Rattle.pip_certificates.specs.declared.reading.Limits.{Limits}
use Rattle.pip_certificates.proofs.TextSteps.{Telling}

pub pred_suc : (n : ℕ) → 0 < n → n ≡ suc (n - 1)
pred_suc n some = omega arith

-- ---- a word of the base

module _ (l : Limits) (p : PartSaid) (least at : ℕ) where
  abbrev pub base_next : ℕ → List ℕ → Telling
  base_next n x rest = if is_base l least (number_in x 0) (number_in x 1)
      then base_from l (with_base p (number_in x 0) (number_in x 1) (number_in x 2))
      (word_place (number_in x 0) (number_in x 1) + 1) n (at + 12) rest
      else fault_at K.Base at

  pub base_front : (left : ℕ) → 0 < left
      → base_from l p least left at ≡ (λ bs. front_then 12 at bs (base_next (left - 1)))
  base_front left some = ap (λ k. base_from l p least k at) (pred_suc left some)

  pub base_good : (n : ℕ) (x : List ℕ) → is_base l least (number_in x 0) (number_in x 1) ≡ true
      → base_next n x ≡ base_from l (with_base p (number_in x 0) (number_in x 1) (number_in x 2))
      (word_place (number_in x 0) (number_in x 1) + 1) n (at + 12)
  base_good n x is = ap (λ b rest. cond b (base_from l (with_base p (number_in x 0) (number_in x 1) (number_in x 2))
      (word_place (number_in x 0) (number_in x 1) + 1) n (at + 12) rest) (fault_at K.Base at)) is

  pub base_bad : (n : ℕ) (x rest : List ℕ) → is_base l least (number_in x 0) (number_in x 1) ≡ false
      → base_next n x rest ≡ fault_at K.Base at
  base_bad n x rest is = rw is

-- ---- a run of the way

module _ (l : Limits) (p : PartSaid) (last : Option ℕ) (at : ℕ) where
  abbrev pub run_next : ℕ → List ℕ → Telling
  run_next n x rest = if fits_way l (length p.way) last (number_in x 0) (number_in x 1)
      then runs_from l (with_run p (number_in x 0) (number_in x 1)) (Some (number_in x 0)) n (at + 8) rest
      else fault_at K.Way at

  pub run_front : (left : ℕ) → 0 < left
      → runs_from l p last left at ≡ (λ bs. front_then 8 at bs (run_next (left - 1)))
  run_front left some = ap (λ k. runs_from l p last k at) (pred_suc left some)

  pub run_good : (n : ℕ) (x : List ℕ) → fits_way l (length p.way) last (number_in x 0) (number_in x 1) ≡ true
      → run_next n x ≡ runs_from l (with_run p (number_in x 0) (number_in x 1)) (Some (number_in x 0)) n (at + 8)
  run_good n x is = ap (λ b rest. cond b (runs_from l (with_run p (number_in x 0) (number_in x 1))
      (Some (number_in x 0)) n (at + 8) rest) (fault_at K.Way at)) is

  pub run_bad : (n : ℕ) (x rest : List ℕ) → fits_way l (length p.way) last (number_in x 0) (number_in x 1) ≡ false
      → run_next n x rest ≡ fault_at K.Way at
  run_bad n x rest is = rw is
