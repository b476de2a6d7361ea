-- In how many steps a child is built.
use Rattle.std.proofs.Common.{◌≡◌, ℕ, suc, ◌+◌, List, [], ◌∷◌, ◌++◌, refl, subst, arith, true}
use Rattle.pip_base.specs.declared.outcome.Outcome.{Outcome}
use Rattle.pip_base.specs.declared.types.Size.TheVariants.{Word}
use Rattle.pip_model.specs.Events as E
use Rattle.pip_model.specs.Events.{Event}
use Rattle.pip_model.specs.Happens.{after, event}
use Rattle.pip_model.specs.Port.{Follows, TakesAtMost}
use Rattle.pip_model.specs.Soak.{five}
use Rattle.pip_model.specs.Work.{events_work}
use Rattle.pip_model.specs.Worlds.{World}
use Rattle.pip_parent.specs.Built.{lists_more}
use Rattle.pip_parent.specs.Events.{MakesEvents, events_before, lend_event, link_events, table_events}
use Rattle.pip_parent.specs.Pool.{pool_at}
use Rattle.pip_parent.specs.Wants.{opened_before, opens, pages_used, want_at}
use Rattle.pip_parent.specs.declared.wants.Want.{Want}

-- events and more events
after-append : (w : World) (es fs : List Event) → after w (es ++ fs) ≡ after (after w es) fs
after-append w [] fs = refl
after-append w (e ∷ es) fs = after-append (event w e).world es fs

work-append : (w : World) (es fs : List Event)
    → events_work w (es ++ fs) ≡ events_work w es + events_work (after w es) fs
work-append w [] fs = omega arith
work-append w (e ∷ es) fs = omega (arith, work-append (event w e).world es fs)

-- one, and some after others
pub one_event : (S T : World → Type 0) (e : Event) (o : Outcome) (a b : ℕ) → Follows S T e o → TakesAtMost S e a b
    → MakesEvents S T (e ∷ []) a b
one_event S T e o a b follows one = record {
  happen = λ w h. (follows w h).1;
  most = λ w h. let so = one w h in omega arith;
}

pub more_events : (S T U : World → Type 0) (es fs : List Event) (a b c : ℕ) → MakesEvents S T es a b
    → MakesEvents T U fs b c → MakesEvents S U (es ++ fs) a c
more_events S T U es fs a b c x y = record {
  happen = λ w h. rw (after-append w es fs) (y.happen (after w es) (x.happen w h));
  most = λ w h.
      let first = x.most w h in
      let rest = y.most (after w es) (x.happen w h) in
      omega (arith, work-append w es fs, first, rest);
}

-- one page more names the next, one want more is met, and a want has its table
module _ (S T U : World → Type 0) (cpu : ℕ) (pool : List ℕ) (a b c : ℕ) where
  pub link_on : (first k : ℕ) (o : Outcome) → MakesEvents S T (link_events cpu pool first k) a b
      → Follows T U (E.Store cpu (pool_at pool (first + k)) Word (pool_at pool (first + k + 1))) o
      → TakesAtMost T (E.Store cpu (pool_at pool (first + k)) Word (pool_at pool (first + k + 1))) b c
      → MakesEvents S U (link_events cpu pool first (k + 1)) a c
  link_on first k o so follows most =
      let e : k + 1 ≡ suc k = omega arith in
      let store = E.Store cpu (pool_at pool (first + k)) Word (pool_at pool (first + k + 1)) in
      rw e (more_events S T U _ _ a b c so (one_event T U store o b c follows most))

  pub met_on : (ws : List Want) (i : ℕ) → MakesEvents S T (events_before cpu pool ws i) a b
      → MakesEvents T U (table_events cpu pool ws i ++ lend_event cpu pool ws i ∷ []) b c
      → MakesEvents S U (events_before cpu pool ws (i + 1)) a c
  met_on ws i so met =
      let e : i + 1 ≡ suc i = omega arith in
      rw e (more_events S T U _ _ a b c so met)

  pub table_given : (ws : List Want) (i first stores : ℕ) → opens ws i ≡ true → first ≡ pages_used ws i
      → stores ≡ suc (suc (lists_more (opened_before ws i)))
      → MakesEvents S T (link_events cpu pool first stores) a b
      → MakesEvents T U (E.Call cpu 3 (five (pool_at pool 0) (want_at ws i).va (pool_at pool first) 0 0) ∷ []) b c
      → MakesEvents S U (table_events cpu pool ws i) a c
  table_given ws i first stores o f s linked given =
      let n = suc (suc (lists_more (opened_before ws i))) in
      let all = more_events S T U _ _ a b c (subst (λ k. MakesEvents S T (link_events cpu pool first k) a b) s linked)
      given in
      rw o (subst (λ k. MakesEvents S U (link_events cpu pool k n
      ++ E.Call cpu 3 (five (pool_at pool 0) (want_at ws i).va (pool_at pool k) 0 0) ∷ []) a c) f all)
