-- What runs on processors in two worlds that look alike.
use Rattle.std.proofs.Common.{◌≡◌, ℕ, zero, suc, List}
use Rattle.std.proofs.Common.{[], ◌∷◌, length, refl, sym, Option, Some, None}
use Rattle.std.specs.Prelude.{slice_set}
use Rattle.pip_model.specs.declared.processors.Occupant.{Occupant}
use Rattle.pip_model.proofs.Events.Soundness.{at_cpu, names_at}
use Rattle.pip_guests.specs.Outside.{AlikeCpus, AlikeOn}

pub names_same : (own : List ℕ) (os ps : List (Option Occupant)) → AlikeCpus own os ps → names_at os ≡ names_at ps
names_same own [] [] a = refl
names_same own [] (p ∷ ps) a = absurd a
names_same own (o ∷ os) [] a = absurd a
names_same own (None ∷ os) (None ∷ ps) a = names_same own os ps a.1
names_same own (None ∷ os) (Some q ∷ ps) a = absurd a.0
names_same own (Some r ∷ os) (None ∷ ps) a = absurd a.0
names_same own (Some r ∷ os) (Some q ∷ ps) a =
    rw (a.0.0, names_same own os ps a.1)

pub count_same : (own : List ℕ) (os ps : List (Option Occupant)) → AlikeCpus own os ps → length os ≡ length ps
count_same own [] [] a = refl
count_same own [] (p ∷ ps) a = absurd a
count_same own (o ∷ os) [] a = absurd a
count_same own (o ∷ os) (p ∷ ps) a = rw (count_same own os ps a.1)

pub at_alike : (own : List ℕ) (os ps : List (Option Occupant)) (i : ℕ) → AlikeCpus own os ps
    → AlikeOn own (at_cpu os i) (at_cpu ps i)
at_alike own [] [] i a = tt
at_alike own [] (p ∷ ps) i a = absurd a
at_alike own (o ∷ os) [] i a = absurd a
at_alike own (o ∷ os) (p ∷ ps) zero a = a.0
at_alike own (o ∷ os) (p ∷ ps) (suc i) a = at_alike own os ps i a.1

pub set_alike : (own : List ℕ) (os ps : List (Option Occupant)) (i : ℕ) (o p : Option Occupant) → AlikeCpus own os ps
    → AlikeOn own o p → AlikeCpus own (slice_set os i o) (slice_set ps i p)
set_alike own [] [] i o p a b = tt
set_alike own [] (y ∷ ps) i o p a b = absurd a
set_alike own (x ∷ os) [] i o p a b = absurd a
set_alike own (x ∷ os) (y ∷ ps) zero o p a b = (b, a.1)
set_alike own (x ∷ os) (y ∷ ps) (suc i) o p a b = (a.0, set_alike own os ps i o p a.1 b)

-- one processor alone is set, to what is alike of what it had
pub set_one : (own : List ℕ) (os ps : List (Option Occupant)) (i : ℕ) (o : Option Occupant) → AlikeCpus own os ps
    → AlikeOn own o (at_cpu ps i) → AlikeCpus own (slice_set os i o) ps
set_one own [] [] i o a b = tt
set_one own [] (y ∷ ps) i o a b = absurd a
set_one own (x ∷ os) [] i o a b = absurd a
set_one own (x ∷ os) (y ∷ ps) zero o a b = (b, a.1)
set_one own (x ∷ os) (y ∷ ps) (suc i) o a b = (a.0, set_one own os ps i o a.1 b)

pub on_alike_back : (own : List ℕ) (o p : Option Occupant) → AlikeOn own o p → AlikeOn own p o
on_alike_back own None None a = tt
on_alike_back own None (Some q) a = absurd a
on_alike_back own (Some r) None a = absurd a
on_alike_back own (Some r) (Some q) a = (sym a.0, (λ n. sym (a.1 (λ i. n (rw (← a.0) i)))))

pub cpus_alike_back : (own : List ℕ) (os ps : List (Option Occupant)) → AlikeCpus own os ps → AlikeCpus own ps os
cpus_alike_back own [] [] a = tt
cpus_alike_back own [] (p ∷ ps) a = absurd a
cpus_alike_back own (o ∷ os) [] a = absurd a
cpus_alike_back own (o ∷ os) (p ∷ ps) a = (on_alike_back own o p a.0, cpus_alike_back own os ps a.1)

pub on_alike_same : (own : List ℕ) (o : Option Occupant) → AlikeOn own o o
on_alike_same own None = tt
on_alike_same own (Some r) = (refl, (λ n. refl))

pub cpus_alike_same : (own : List ℕ) (os : List (Option Occupant)) → AlikeCpus own os os
cpus_alike_same own [] = tt
cpus_alike_same own (o ∷ os) = (on_alike_same own o, cpus_alike_same own os)
