-- Words up to the last that isn't 0, and zeros after them.
use Rattle.std.specs.Prelude.{◌≡◌, refl, ℕ, suc, ◌<◌, ◌^◌, ◌==◌, Bool, true, false, cond, List, [], ◌∷◌, ◌++◌}
use Rattle.std.specs.Prelude.{replicate}
use Rattle.std.proofs.Common.{ap, sym, ◌∙◌, eqb-true}
use Rattle.pip_model.specs.DisText.{trim_on, without_last_zeros}

pub record Trims (ws ts : List ℕ) : Type 0 where
  pub zeros : ℕ
  pub whole : ts ++ replicate zeros 0 ≡ ws

first_by : (w : ℕ) (ws : List ℕ) (b : Bool) → (w == 0) ≡ b → Trims ws [] → Trims (w ∷ ws) (cond b [] (w ∷ []))
first_by w ws true e t = record {
  zeros = suc t.zeros;
  whole = cc (eqb-true w 0 e, t.whole);
}
first_by w ws false e t = record { zeros = t.zeros; whole = rw t.whole }

on : (w : ℕ) (ws ts : List ℕ) → Trims ws ts → Trims (w ∷ ws) (trim_on w ts)
on w ws [] t = first_by w ws (w == 0) refl t
on w ws (v ∷ vs) t = record { zeros = t.zeros; whole = rw t.whole }

pub trims : (ws : List ℕ) → Trims ws (without_last_zeros ws)
trims [] = record { zeros = 0; whole = refl }
trims (w ∷ ws) = on w ws (without_last_zeros ws) (trims ws)

abbrev pub AllWords : List ℕ → Type 0
AllWords [] = Unit {0}
AllWords (w ∷ ws) = (w < 2 ^ 32) × AllWords ws

pub words_left : (ts zs : List ℕ) → AllWords (ts ++ zs) → AllWords ts
words_left [] zs h = tt
words_left (t ∷ ts) zs h = (h.0, words_left ts zs h.1)
