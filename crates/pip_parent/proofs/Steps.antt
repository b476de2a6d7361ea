-- A call where the caller's last call was answered.
use Rattle.std.proofs.Common.{◌≡◌, ℕ, zero, suc, List, [], ◌∷◌, refl, ap, ◌∙◌, Option, Some}
use Rattle.std.specs.Prelude.{slice_set}
use Rattle.pip_base.specs.Status.{status_number}
use Rattle.pip_model.specs.Answers.{Answer}
use Rattle.pip_model.specs.Cache.{Places}
use Rattle.pip_model.specs.declared.call_name.MemoryCall.{MemoryCall}
use Rattle.pip_model.specs.Switching.{with_reply}
use Rattle.pip_model.specs.Tree.{Tree}
use Rattle.pip_model.specs.Worlds.{World, runs_on}
use Rattle.pip_model.specs.declared.processors.Occupant.{Occupant}
use Rattle.pip_model.proofs.Locality.OneEvent.{at_set_here}
use Rattle.pip_parent.specs.Stages.{world_after_answer, caches_with, replying, world_at}

set_twice : (x y : Option Occupant) (cs : List (Option Occupant)) (i : ℕ)
    → slice_set (slice_set cs i x) i y ≡ slice_set cs i y
set_twice x y [] i = refl
set_twice x y (c ∷ cs) zero = refl
set_twice x y (c ∷ cs) (suc i) = ap (λ l. c ∷ l) (set_twice x y cs i)

reply_twice : (s v s' v' : ℕ) (xs : List ℕ) → with_reply s' v' (with_reply s v xs) ≡ with_reply s' v' xs
reply_twice s v s' v' [] = refl
reply_twice s v s' v' (a ∷ []) = refl
reply_twice s v s' v' (a ∷ b ∷ xs) = refl

pub runs_at : (w : World) (cpu : ℕ) (r : Occupant) (t : Tree) (cs : List Places) (s v : ℕ) → runs_on w cpu ≡ Some r
    → runs_on (world_at w cpu r t cs s v) cpu ≡ Some (replying r s v)
runs_at w cpu r t cs s v e = at_set_here (Some (replying r s v)) w.cpus cpu r e

pub again : (c : MemoryCall) (w : World) (cpu : ℕ) (r : Occupant) (t : Tree) (cs : List Places) (s v : ℕ) (a : Answer)
    → world_after_answer c (world_at w cpu r t cs s v) cpu (replying r s v) a
    ≡ world_at w cpu r a.tree (caches_with c cs a) (status_number a.status) a.value
again c w cpu r t cs s v a =
    ap (λ ps. record { tree = a.tree; cpus = ps; caches = caches_with c cs a }) (set_twice (Some (replying r s v))
    (Some (replying (replying r s v) (status_number a.status) a.value)) w.cpus cpu)
    ∙ ap (λ regs. record {
      tree = a.tree;
      cpus =
          slice_set w.cpus cpu (Some (record r { ctx = record r.ctx { regs = regs } }));
      caches = caches_with c cs a;
    })
    (reply_twice s v (status_number a.status) a.value r.ctx.regs)
