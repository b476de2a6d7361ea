-- One processor among all: what is read there, and what is put there.
use Rattle.std.proofs.Common.{◌≡◌, ℕ, zero, suc, ◌<◌, List, [], ◌∷◌, length, length-set, refl, sym, ap, ap₂, ◌∙◌, arith}
use Rattle.std.proofs.Common.{Option, None}
use Rattle.std.specs.Prelude.{slice_index_or, slice_set}
use Rattle.std.specs.List.{refill}
use Rattle.std.proofs.lemmas.List.{get_or_default}
use Rattle.std.proofs.lemmas.Option.{unwrap_or-slice_get}
use Rattle.arrayvec.proofs.ArrayVecLemmas.{items-with_items}
use Rattle.pip_model.specs.declared.processors.Occupant.{Occupant}
use Rattle.pip_switch.specs.Occupied.{on_cpu}

-- what is read by the index
pub cell_read : (cs zs : List (Option Occupant)) → zs ≡ cs → (cpu : ℕ) → cpu < length cs → (d : Option Occupant)
    → slice_index_or zs cpu d ≡ on_cpu cs cpu
cell_read cs zs e cpu low d =
    ap (λ z. slice_index_or z cpu d) e ∙ get_or_default cs cpu d None low ∙ sym (unwrap_or-slice_get cs cpu None)

-- a write through the index
pub cell_put : {A : Type 0} (cs zs : List A) → zs ≡ cs → (cpu : ℕ) (new o : A) → new ≡ o
    → refill (length cs) cs (slice_set zs cpu new) ≡ slice_set cs cpu o
cell_put cs zs e cpu new o is =
    let long : length (slice_set zs cpu new) ≡ length cs = length-set zs cpu new ∙ ap length e in
    items-with_items (record { items = cs }) (slice_set zs cpu new) long ∙ ap₂ (λ z q. slice_set z cpu q) e is

-- what was put there runs there
pub put_there : (cs : List (Option Occupant)) (cpu : ℕ) (o : Option Occupant) → cpu < length cs
    → on_cpu (slice_set cs cpu o) cpu ≡ o
put_there [] cpu o low = absurd (omega arith)
put_there (c ∷ cs) zero o low = refl
put_there (c ∷ cs) (suc cpu) o low = put_there cs cpu o (omega arith)
