-- Events that are made one after another, and the load midway.
use Rattle.std.proofs.Common.{◌≡◌, ℕ, suc, ◌+◌, ◌*◌, ◌-◌, ◌≤◌, ◌<◌, List, [], ◌∷◌, ◌++◌, length, refl, sym, ap, ◌∙◌}
use Rattle.std.proofs.Common.{subst, append_assoc, arith, length-append}
use Rattle.std.proofs.lemmas.List.{append-nil}
use Rattle.pip_model.specs.Events.{Event}
use Rattle.pip_model.specs.Happens.{after, outcomes, event}
use Rattle.pip_model.specs.Soak.{drawn, soak_events, soak_step}
use Rattle.pip_model.specs.Worlds.{World}
use Rattle.pip_soak.specs.Asks.{events_of}
use Rattle.pip_soak.specs.Counts.{CountsOf, MakesAll}
use Rattle.pip_soak.specs.Soaked.{IsMidway}
use Rattle.pip_soak.specs.declared.asks.LoadStep.{LoadStep}
use Rattle.pip_soak.specs.declared.asks.LoadStep.TheVariants.{One, Prepare}
use Rattle.pip_soak.specs.declared.counts.Counts.{Counts}

-- ---- lists of events

after_more : (w : World) (es fs : List Event) → after w (es ++ fs) ≡ after (after w es) fs
after_more w [] fs = refl
after_more w (e ∷ es) fs = after_more (event w e).world es fs

answers_more : (w : World) (es fs : List Event) → outcomes w (es ++ fs) ≡ outcomes w es ++ outcomes (after w es) fs
answers_more w [] fs = refl
answers_more w (e ∷ es) fs = ap (λ l. (event w e).outcome ∷ l) (answers_more (event w e).world es fs)

answers_long : (w : World) (es : List Event) → length (outcomes w es) ≡ length es
answers_long w [] = refl
answers_long w (e ∷ es) = ap suc (answers_long (event w e).world es)

-- ---- made and counted

pub makes_none : (s : World → Type 0) (c : Counts) → MakesAll s s c c []
makes_none s c = record { worlds = λ w h. h; counts = λ w os h few k. subst (CountsOf c) (sym (append-nil os)) k }

pub makes_more : (s r q : World → Type 0) (b c d : Counts) (es fs : List Event) → MakesAll s r b c es
    → MakesAll r q c d fs → MakesAll s q b d (es ++ fs)
makes_more s r q b c d es fs x y = record {
  worlds = λ w h. subst q (sym (after_more w es fs)) (y.worlds (after w es) (x.worlds w h));
  counts = λ w os h few k.
      let both = length-append es fs in
      let first = length-append os (outcomes w es) in
      let long = answers_long w es in
      subst (CountsOf d)
      (append_assoc os (outcomes w es) (outcomes (after w es) fs) ∙ ap (λ l. os ++ l) (sym (answers_more w es fs)))
      (y.counts (after w es) (os ++ outcomes w es) (x.worlds w h)
      (omega (arith, few, both, first, long)) (x.counts w os h (omega (arith, few, both)) k));
}

-- ---- steps

step_short : (s : LoadStep) → length (events_of s) ≤ 3
step_short (One a) = omega arith
step_short (Prepare cpu x page place) = omega arith

-- ---- the load

pub midway_first : (s : World → Type 0) (c : Counts) (count seed left state : ℕ) → left ≡ count → state ≡ seed
    → IsMidway s s c c left state count seed
midway_first s c count seed left state e f =
    record { made = []; all = λ i. soak_events (e i) (f i); few = omega (arith, e); makes = makes_none s c }

pub midway_more : (s r q : World → Type 0) (none b c : Counts) (i count old new seed : ℕ) (step : LoadStep) → i < count
    → IsMidway s r none b (count - i) old count seed → soak_step old ≡ drawn (events_of step) new
    → MakesAll r q b c (events_of step) → IsMidway s q none c (count - (i + 1)) new count seed
midway_more s r q none b c i count old new seed step inside h e makes =
    let left : count - i ≡ suc (count - (i + 1)) = omega (arith, inside) in
    let next : soak_events (count - i) old ≡ events_of step ++ soak_events (count - (i + 1)) new =
    ap (λ n. soak_events n old) left ∙ ap (λ d. d.events ++ soak_events (count - (i + 1)) d.state) e in
    let few = h.few in
    let short = step_short step in
    let long = length-append h.made (events_of step) in
    record {
      made = h.made ++ events_of step;
      all = append_assoc h.made (events_of step) (soak_events (count - (i + 1)) new)
          ∙ (ap (λ l. h.made ++ l) (sym next) ∙ h.all);
      few = omega (arith, few, short, long, inside);
      makes = makes_more s r q none b c h.made (events_of step) h.makes makes;
    }

pub midway_last : (s r : World → Type 0) (none c : Counts) (i count state seed : ℕ) → count ≤ i
    → IsMidway s r none c (count - i) state count seed
    → MakesAll s r none c (soak_events count seed) × (length (soak_events count seed) ≤ 3 * count)
midway_last s r none c i count state seed over h =
    let left : count - i ≡ 0 = omega (arith, over) in
    let same : h.made ≡ soak_events count seed =
    sym (append-nil h.made) ∙ (ap (λ n. h.made ++ soak_events n state) (sym left) ∙ h.all) in
    let few = h.few in
    (subst (MakesAll s r none c) same h.makes, subst (λ l. length l ≤ 3 * count) same (omega (arith, few)))
