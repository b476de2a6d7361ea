-- Each line rises: there are never more than 129 for a frame.
use Rattle.std.proofs.Common.{◌≡◌, ℕ, ◌+◌, ◌*◌, ◌%◌, ◌≤◌, ◌<◌, Bool, true, false, ◌&&◌, ◌==◌, cond, List, Option, Some}
use Rattle.std.proofs.Common.{None, refl, sym, subst, arith, nat_le, nat_lt, not}
use Rattle.std.specs.Prelude.{IfSome}
use Rattle.std.specs.List.{list_any}
use Rattle.std.proofs.lemmas.Bool.{eqb-true, leb-true, ltb-true}
use Rattle.pip_base.specs.Memory.{put_words}
use Rattle.pip_audit.specs.declared.core_text.line.CoreLine.{CoreLine}
use Rattle.pip_audit.specs.declared.core_text.line.CoreLine.TheVariants as L
use Rattle.pip_audit.specs.Core.{Bad, CoreState, Ends, Goes, above, core_step, is_closed, on_group, takes_frame}
use Rattle.pip_audit.specs.Core.{takes_group}

abbrev pub weight : Option ℕ → Option ℕ → ℕ
weight None group = 0
weight (Some f) None = 1032 * f + 8
weight (Some f) (Some i) = 1032 * f + 16 + i

-- what was named last may be named
pub record IsPlaced (n : ℕ) (frame group : Option ℕ) : Type 0 where
  pub low : IfSome frame (λ f. f < n)
  pub even : IfSome group (λ i. (i ≤ 1016) × (i % 8 ≡ 0))

pub record Rises (n : ℕ) (s u : CoreState) : Type 0 where
  pub more : weight s.frame s.group + 8 ≤ weight u.frame u.group
  pub placed : IsPlaced n u.frame u.group

pub and_both : (a b : Bool) → (a && b) ≡ true → (a ≡ true) × (b ≡ true)
and_both true true h = (refl, refl)
and_both true false h = absurd cc
and_both false b h = absurd cc

-- a step that goes on had its condition
pub goes_if : (b : Bool) (s u : CoreState) → cond b (Goes s) Bad ≡ Goes u → (b ≡ true) × (s ≡ u)
goes_if true s u h = (refl, cc)
goes_if false s u h = absurd cc

to_frame : (n : ℕ) (s : CoreState) (f : ℕ) → IsPlaced n s.frame s.group → takes_frame n s.frame s.group f ≡ true
    → Rises n s (record { frame = Some f; group = None; memory = s.memory })
to_frame n s f at h =
    let closed = and_both (is_closed s.frame s.group) (above s.frame f && nat_lt f n) h in
    let tests = and_both (above s.frame f) (nat_lt f n) closed.1 in
    let low = ltb-true f n tests.1 in
    record {
      more = rise s.frame s.group at closed.0 tests.0;
      placed = record { low = low; even = tt };
    }
  where
    rise : (g i : Option ℕ) → IsPlaced n g i → is_closed g i ≡ true → above g f ≡ true → weight g i + 8 ≤ 1032 * f + 8
    rise None i at c a = omega arith
    rise (Some g) None at c a = absurd cc
    rise (Some g) (Some i) at c a = let l = ltb-true g f a in let b = at.even.0 in omega (arith, l, b)

to_group : (n : ℕ) (s : CoreState) (f : ℕ) (m : List (List ℕ)) (i : ℕ) (ws : List ℕ) → s.frame ≡ Some f
    → IsPlaced n s.frame s.group → takes_group s.group i ws ≡ true
    → Rises n s (record { frame = Some f; group = Some i; memory = m })
to_group n s f m i ws is at h =
    let tests = and_both (i % 8 == 0 && nat_le i 1016) (above s.group i && list_any (λ w. not (w == 0)) ws) h in
    let front = and_both (i % 8 == 0) (nat_le i 1016) tests.0 in
    let back = and_both (above s.group i) (list_any (λ w. not (w == 0)) ws) tests.1 in
    let even : i % 8 ≡ 0 = eqb-true (i % 8) 0 front.0 in
    let low : i ≤ 1016 = leb-true i 1016 front.1 in
    let at_f : IsPlaced n (Some f) s.group = subst (λ o. IsPlaced n o s.group) is at in
    record {
      more = subst (λ o. weight o s.group + 8 ≤ 1032 * f + 16 + i) (sym is) (rise s.group at_f back.0 even);
      placed = record { low = at_f.low; even = (low, even) };
    }
  where
    rise : (o : Option ℕ) → IsPlaced n (Some f) o → above o i ≡ true → i % 8 ≡ 0
        → weight (Some f) o + 8 ≤ 1032 * f + 16 + i
    rise None at a e = omega arith
    rise (Some j) at a e = let l = ltb-true j i a in let b = at.even.1 in omega (arith, l, b, e)

-- a line after which reading goes on rises
pub step_rises : (n : ℕ) (s u : CoreState) (line : Option CoreLine) → IsPlaced n s.frame s.group
    → core_step n s line ≡ Goes u → Rises n s u
step_rises n s u None at h = absurd cc
step_rises n s u (Some (L.Frame f)) at h =
    let g =
    goes_if (takes_frame n s.frame s.group f) (record { frame = Some f; group = None; memory = s.memory }) u h in
    subst (Rises n s) g.1 (to_frame n s f at g.0)
step_rises n s u (Some (L.Group i ws)) at h = go s.frame refl h
  where
    go : (o : Option ℕ) → s.frame ≡ o → on_group o s i ws ≡ Goes u → Rises n s u
    go None is h = absurd cc
    go (Some f) is h =
        let g = goes_if (takes_group s.group i ws)
        (record { frame = Some f; group = Some i; memory = put_words s.memory f i ws }) u h in
        subst (Rises n s) g.1 (to_group n s f (put_words s.memory f i ws) i ws is at g.0)
step_rises n s u (Some (L.End t)) at h = ends (is_closed s.frame s.group && nat_le t 10000000) h
  where
    ends : (b : Bool) → cond b (Ends s.memory) Bad ≡ Goes u → Rises n s u
    ends true h = absurd cc
    ends false h = absurd cc
