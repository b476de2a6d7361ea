-- Events that machines take, one after another.
use Rattle.std.proofs.Common.{◌≡◌, ℕ, ◌<◌, nat_lt, true, cond, List, [], ◌∷◌, refl, ap, ◌∙◌, Option}
use Rattle.std.proofs.Common.{Some, None, arith, subst}
use Rattle.std.specs.Prelude.{◌≤◌, ◌-◌, drop, take, is_some, length, replicate, slice_index_or}
use Rattle.std.proofs.lemmas.Bool.{ltb-true}
use Rattle.std.proofs.lemmas.List.{length-replicate, take_rest}
use Rattle.pip_base.specs.declared.outcome.Outcome.{Outcome}
use Rattle.pip_base.specs.declared.outcome.Outcome.TheVariants as O
use Rattle.pip_base.specs.declared.types.Ctx.{Ctx}
use Rattle.pip_base.specs.Memory.{Memory, zeros}
use Rattle.pip_model.specs.Boot.{boot_tree, zero_words}
use Rattle.pip_model.specs.Booted.{HasBooted, IsBooted}
use Rattle.pip_model.specs.Events.{Event}
use Rattle.pip_model.specs.Events as E
use Rattle.pip_model.specs.Happens.{after, event, on_running}
use Rattle.pip_model.specs.Worlds.{World, done, runs_on, with_running}
use Rattle.pip_model.specs.declared.processors.Occupant.{Occupant}
use Rattle.pip_model.specs.Layout.{LaysOut}
use Rattle.pip_switch.specs.Isolation.{Takes, TakesAll}
use Rattle.pip_switch.specs.Standing.{StandsAs, State}
use Rattle.pip_switch.proofs.Isolating.{runs_are_the_models}
use Rattle.pip_test_every.specs.Asked.{all_asked, asked}
use Rattle.pip_test_every.specs.Met.{TookAll, TookOne, Took}
use Rattle.pip_test_every.specs.declared.asks.Ask.{Ask}

-- the number of a processor or a line that is there
pub below : (a b : ℕ) → nat_lt a b ≡ true → a < b
below = ltb-true

-- what a context that is set answers: done where something runs
pub context_set : (w : World) (cpu : ℕ) (c : Ctx) (o : Option Occupant) → runs_on w cpu ≡ o
    → cond (is_some o) O.Done O.Idle ≡ (event w (E.SetContext cpu c)).outcome
context_set w cpu c o e = go o (runs_on w cpu) e
  where
    go : (o r : Option Occupant) → r ≡ o → cond (is_some o) O.Done O.Idle
        ≡ (on_running w cpu r (λ r. done (with_running w cpu (Some (record r { ctx = c }))))).outcome
    go None None e = refl
    go (Some r) (Some q) e = refl
    go None (Some q) e = cc
    go (Some r) None e = cc

-- one event more, at the front
pub taken_more : (p m q : State) (e : Event) (o : Outcome) (es : List Event) → Takes p e o m → TookAll m es q
    → TookAll p (e ∷ es) q
taken_more p m q e o es takes (os, all) = (o ∷ os, (m, takes, all))

-- the same, where the events are asked for
pub taken_at : (p m q : State) (o : Outcome) (d : Ask) (list : List Ask) → 1 ≤ length list
    → Takes p (asked (slice_index_or list 0 d)) o m → TookAll m (all_asked (take (length list - 1) (drop 1 list))) q
    → TookAll p (all_asked list) q
taken_at p m q o d [] l takes all = absurd (omega (arith, l))
taken_at p m q o d (a ∷ more) l takes all =
    taken_more p m q (asked a) o (all_asked more) takes
    (subst (λ rest. TookAll m (all_asked rest) q) (take_rest (a ∷ more) 1) all)

-- where a machine stood for a world, it stands for the world after the events that it took
pub taken_after : (p q : State) (es : List Event) (w : World) → StandsAs p w → TookAll p es q → StandsAs q (after w es)
taken_after p q es w stands (os, all) = (runs_are_the_models p q es os all w stands).1

-- and took further events there
pub took_after : (p q r : State) (es fs : List Event) (w : World) → StandsAs p w → TookAll p es q → TookAll q fs r
    → Took (after w es) fs
took_after p q r es fs w stands taken (os, all) = record {
  first = q;
  last = r;
  outcomes = os;
  stands = taken_after p q es w stands taken;
  takes = all;
}

-- a list of one event
pub took_one : (w : World) (e : Event) → Took w (e ∷ []) → TookOne w e
took_one w e t = go t.outcomes t.takes
  where
    go : (os : List Outcome) → TakesAll t.first (e ∷ []) os t.last → TookOne w e
    go [] h = absurd h
    go (o ∷ []) h =
        let (r, takes, same) = h in
        record { first = t.first; last = r; outcome = o; stands = t.stands; takes = takes }
    go (o ∷ p ∷ os) h = let (r, takes, none) = h in absurd none

-- 64 frames that have booted
pub has_booted : (m : Memory) → IsBooted 64 (λ g. zero_words) m → HasBooted m
has_booted m b = record { frames = 64; words = λ g. zero_words; booted = b }

-- they have, where the boot tree was laid out in 64 frames of zeros
pub booted_zeros : (old new : Memory) → old ≡ replicate 64 (zeros 1024) → LaysOut (boot_tree (length old)) new
    → IsBooted 64 (λ g. zero_words) new
booted_zeros old new zero laid = record {
  least = omega arith;
  most = omega arith;
  small = λ f i low. omega arith;
  laid = subst (λ n. LaysOut (boot_tree n) new) (ap length zero ∙ length-replicate 64 (zeros 1024)) laid;
}
