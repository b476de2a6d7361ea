-- How the root takes a line.
use Rattle.std.proofs.Common.{◌≡◌, ℕ, zero, suc, ◌+◌, ◌<◌, ◌≤◌, ◌&&◌, ◌||◌, ◌==◌, inl, inr, Bool, true, false, cond}
use Rattle.std.proofs.Common.{not, List, [], ◌∷◌, length, refl, sym, ap, ap₂, ◌∙◌, subst, arith, ne_eqb, eqb-true}
use Rattle.std.proofs.Common.{Option, Some, None}
use Rattle.std.specs.Prelude.{◌^◌, filter, nat_lt, slice_get, slice_set, sum_by, unwrap_or}
use Rattle.std.specs.List.{list_any}
use Rattle.std.proofs.Math.Pow.{pow_mono}
use Rattle.std.proofs.lemmas.List.Sums.{sum_by-cons}
use Rattle.std.proofs.lemmas.Bool.{cases_Bool, cases_eq, cases_lt, lt-ltb}
use Rattle.pip_base.specs.Memory.{Memory}
use Rattle.pip_base.specs.declared.outcome.Outcome.{Outcome}
use Rattle.pip_base.specs.declared.outcome.Outcome.TheVariants as O
use Rattle.pip_model.specs.Handlers.{handler}
use Rattle.pip_model.specs.Layout.{LaysOut}
use Rattle.pip_model.specs.Lists.{Distinct, In, has}
use Rattle.pip_model.specs.Events as E
use Rattle.pip_model.specs.Happens.{what_happens}
use Rattle.pip_model.specs.Poll.{lowest_line, may_take, none_taken, occupant_name, poll_line, take_line}
use Rattle.pip_model.specs.Sound.{AreLines}
use Rattle.pip_model.specs.Tree.{Tree}
use Rattle.pip_model.specs.Worlds.{World, with_running, running, runs_on, save_running, handler_context, with_masked}
use Rattle.pip_model.specs.Worlds.{with_pending}
use Rattle.pip_base.specs.declared.types.Ctx.{Ctx}
use Rattle.pip_model.specs.declared.processors.Occupant.{Occupant}
use Rattle.pip_model.proofs.Trees.Ancestry.{root_is_one}
use Rattle.pip_model.proofs.OnLists.Members.{has_in}
use Rattle.pip_switch.specs.Occupied.{names_on, on_cpu, runs_name}
use Rattle.pip_switch.specs.Pending.{Chosen, polled_outcome}
use Rattle.pip_switch.specs.Standing.{Came, StandsFor}
use Rattle.pip_switch.proofs.LineBits.{find_least, find_no, none_above}
use Rattle.pip_switch.proofs.Running.{any_runs, runs_there}

-- no line is pending where no bit is set
pub chosen_empty : (t : Tree) (js : List ℕ) → 0 ≡ sum_by (λ j. 2 ^ j) js → Chosen t js None
chosen_empty t [] is = refl
chosen_empty t (j ∷ js) is =
    let low : 0 ≤ j = omega (arith) in
    let some : 2 ^ 0 ≤ 2 ^ j = pow_mono {i = 0} {j = j} low in
    let all : sum_by (λ k. 2 ^ k) (j ∷ js) ≡ 2 ^ j + sum_by (λ k. 2 ^ k) js = sum_by-cons (λ k. 2 ^ k) j js in
    absurd (omega (arith, some, all, is))

-- so nothing is taken
pub came_untaken : (m : Memory) (cs : List (Option Occupant)) (cpu : ℕ) (w : World) → StandsFor m cs w
    → 0 ≡ sum_by (λ j. 2 ^ j) w.tree.root.pending → (o : Outcome) → o ≡ polled_outcome (on_cpu cs cpu)
    → Came (what_happens w (E.Poll cpu)) o m cs
came_untaken m cs cpu w s none o is = go (may_take w cpu (runs_on w cpu)) (lowest_line w w.tree.root.pending)
    (chosen_empty w.tree w.tree.root.pending none)
  where
    off : (r : Option Occupant) → runs_on w cpu ≡ r → Came (none_taken w r) o m cs
    off None e = record { outcome = is ∙ ap polled_outcome (sym (runs_there m cs cpu w s) ∙ e); shows = s.shows }
    off (Some r) e = record { outcome = is ∙ ap polled_outcome (sym (runs_there m cs cpu w s) ∙ e); shows = s.shows }

    go : (b : Bool) (j : Option ℕ) → j ≡ None
        → Came (cond b (poll_line w cpu (runs_on w cpu) j) (none_taken w (runs_on w cpu))) o m cs
    go false j e = off (runs_on w cpu) refl
    go true None e = off (runs_on w cpu) refl
    go true (Some j) e = cc

-- ---- who runs but on one processor

runs_any : (p : ℕ) (cs : List (Option Occupant)) (i : ℕ) → runs_name p (unwrap_or (slice_get cs i) None) ≡ true
    → list_any (λ c. runs_name p c) cs ≡ true
runs_any p [] i e = cc
runs_any p (c ∷ cs) zero e = ap (λ b. b || list_any (λ c. runs_name p c) cs) e
runs_any p (c ∷ cs) (suc i) e = ap (λ b. runs_name p c || b) (runs_any p cs i e) ∙ or_true (runs_name p c)
  where
    or_true : (b : Bool) → (b || true) ≡ true
    or_true true = refl
    or_true false = refl

-- it runs here: nowhere else
any_else : (p : ℕ) (cs : List (Option Occupant)) (i : ℕ) → Distinct (names_on cs)
    → runs_name p (unwrap_or (slice_get cs i) None) ≡ true → list_any (λ c. runs_name p c) (slice_set cs i None) ≡ false
any_else p [] i d e = cc
any_else p (None ∷ cs) zero d e = cc
any_else p (None ∷ cs) (suc i) d e = any_else p cs i d e
any_else p (Some r ∷ cs) zero d e = any_runs p cs ∙ elim (cases_Bool (has (names_on cs) p)) [
  | inl on ↦ absurd (d.0 (subst (λ k. In k (names_on cs)) (sym (eqb-true r.name p e)) (has_in p (names_on cs) on)))
  | inr off ↦ off
]
any_else p (Some r ∷ cs) (suc i) d e = ap₂ (λ a b. a || b) away (any_else p cs i d.1 e)
  where
    there : has (names_on cs) p ≡ true
    there = sym (any_runs p cs) ∙ runs_any p cs i e

    away : (r.name == p) ≡ false
    away = ne_eqb r.name p (λ q. d.0 (subst (λ k. In k (names_on cs)) (sym q) (has_in p (names_on cs) there)))

-- it does not run here
any_same : (p : ℕ) (cs : List (Option Occupant)) (i : ℕ) → runs_name p (unwrap_or (slice_get cs i) None) ≡ false
    → list_any (λ c. runs_name p c) (slice_set cs i None) ≡ list_any (λ c. runs_name p c) cs
any_same p [] i e = refl
any_same p (c ∷ cs) zero e = ap (λ b. b || list_any (λ c. runs_name p c) cs) (sym e)
any_same p (c ∷ cs) (suc i) e = ap (λ b. runs_name p c || b) (any_same p cs i e)

name_runs : (p : ℕ) (o : Option Occupant) → 0 < p → (occupant_name o == p) ≡ runs_name p o
name_runs p None h = ne_eqb 0 p (λ e. omega arith)
name_runs p (Some r) h = refl

-- ---- whether the root can take one

module _ (m : Memory) (cs : List (Option Occupant)) (cpu : ℕ) (o : Option Occupant) (o_is : o ≡ on_cpu cs cpu)
    (low : cpu < length cs) (w : World) (s : StandsFor m cs w) where
  here : runs_on w cpu ≡ o
  here = ap (λ k. unwrap_or (slice_get k cpu) None) s.shows.cpus ∙ sym o_is

  parts : (elsewhere named : Bool) → has (running (with_running w cpu None)) w.tree.root.name ≡ elsewhere
      → (occupant_name (runs_on w cpu) == w.tree.root.name) ≡ named
      → may_take w cpu (runs_on w cpu) ≡ (not elsewhere && ((not w.tree.root.masked || not named) && true))
  parts elsewhere named e n = ap₂ (λ a b. not a && ((not w.tree.root.masked || not b) && nat_lt cpu (length w.cpus))) e
      n ∙ ap (λ b. not elsewhere && ((not w.tree.root.masked || not named) && b)) (lt-ltb cpu (length w.cpus)
      (subst (λ k. cpu < length k) (sym s.shows.cpus) low))

  elsewhere_is : has (running (with_running w cpu None)) w.tree.root.name
      ≡ list_any (λ c. runs_name 1 c) (slice_set cs cpu None)
  elsewhere_is = sym (any_runs w.tree.root.name (slice_set w.cpus cpu None))
      ∙ ap₂ (λ p k. list_any (λ c. runs_name p c) (slice_set k cpu None)) (root_is_one w.tree s.sound.tree) s.shows.cpus

  named_is : (occupant_name (runs_on w cpu) == w.tree.root.name) ≡ runs_name 1 o
  named_is = ap₂ (λ q p. occupant_name q == p) here (root_is_one w.tree s.sound.tree) ∙ name_runs 1 o (omega arith)

  pub take_here : runs_name 1 o ≡ true → (masked : Bool) → masked ≡ w.tree.root.masked
      → not masked ≡ may_take w cpu (runs_on w cpu)
  take_here runs masked is =
      sym (parts false true
      (elsewhere_is ∙ any_else 1 cs cpu (subst (λ k. Distinct (names_on k)) s.shows.cpus s.sound.one_processor_each)
      (ap (λ q. runs_name 1 q) (sym o_is) ∙ runs)) (named_is ∙ runs) ∙ only w.tree.root.masked ∙ ap not (sym is))
    where
      only : (b : Bool) → (not false && ((not b || not true) && true)) ≡ not b
      only true = refl
      only false = refl

  pub take_away : runs_name 1 o ≡ false → (b : Bool) → b ≡ list_any (λ c. runs_name 1 c) cs
      → not b ≡ may_take w cpu (runs_on w cpu)
  take_away runs b is =
      sym (parts b false (elsewhere_is ∙ any_same 1 cs cpu (ap (λ q. runs_name 1 q) (sym o_is) ∙ runs) ∙ sym is)
      (named_is ∙ runs) ∙ only b w.tree.root.masked)
    where
      only : (b c : Bool) → (not b && ((not c || not false) && true)) ≡ not b
      only true c = refl
      only false true = refl
      only false false = refl

-- ---- a line is taken

module _ (m n : Memory) (cs ds : List (Option Occupant)) (w : World) (s : StandsFor m cs w)
    (cpu from j : ℕ) (h : Ctx) (from_is : from ≡ occupant_name (on_cpu cs cpu)) where
  pub came_take : LaysOut (with_pending (filter (λ i. not (i == j)) w.tree.root.pending)
      (with_masked 1 true (save_running w.tree (on_cpu cs cpu)))) n
      → (o : Occupant) → o ≡ record { name = 1; ctx = handler_context h (32 + j) 0 0 0 }
      → ds ≡ slice_set cs cpu (Some o)
      → Came (take_line w cpu (runs_on w cpu) j (Some h)) (O.Switched from 1 (32 + j)) n ds
  came_take laid o o_is is =
      let one = root_is_one w.tree s.sound.tree in
      let here = sym (runs_there m cs cpu w s) in
      record {
        outcome = ap₂ (λ a b. O.Switched a b (32 + j)) (from_is ∙ ap occupant_name here) (sym one);
        shows = record {
          laid = subst (λ q. LaysOut (with_pending (filter (λ i. not (i == j)) w.tree.root.pending)
              (with_masked w.tree.root.name true (save_running w.tree q))) n) here
              (subst (λ k. LaysOut (with_pending (filter (λ i. not (i == j)) w.tree.root.pending)
              (with_masked k true (save_running w.tree (on_cpu cs cpu)))) n) (sym one) laid);
          cpus = ap₂ (λ c k. slice_set c cpu (Some (record { name = k; ctx = handler_context h (32 + j) 0 0 0 })))
              s.shows.cpus one ∙ ap (λ q. slice_set cs cpu (Some q)) (sym o_is) ∙ sym is;
        };
      }

-- ---- the search for it

module _ (t : Tree) (js : List ℕ) (rise : AreLines 0 js)
    (line : ℕ) (before : (k : ℕ) → k < line → has js k ≡ true → handler t t.root.name (32 + k) ≡ None) where
  pub chosen_here : (h : Ctx) → cond (has js line) (handler t t.root.name (32 + line)) None ≡ Some h
      → Chosen t js (Some (line, h))
  chosen_here h e = go (has js line) refl e
    where
      go : (b : Bool) → has js line ≡ b → cond b (handler t t.root.name (32 + line)) None ≡ Some h
          → Chosen t js (Some (line, h))
      go true on is = (find_least (λ j. handler t t.root.name (32 + j)) 0 js rise line h on is before, is)
      go false on is = cc

  pub passed : cond (has js line) (handler t t.root.name (32 + line)) None ≡ None → (k : ℕ) → k < line + 1
      → has js k ≡ true → handler t t.root.name (32 + k) ≡ None
  passed e k low on = elim (cases_eq k line) [
    | inl same ↦ ap (λ j. handler t t.root.name (32 + j)) same
        ∙ sym (ap (λ b. cond b (handler t t.root.name (32 + line)) None) (ap (has js) (sym same) ∙ on)) ∙ e
    | inr n ↦ before k (omega (arith, low, n)) on
  ]

  pub chosen_none : 16 ≤ line → Chosen t js None
  chosen_none high = find_no (λ j. handler t t.root.name (32 + j)) js (λ k on. elim (cases_lt k 16) [
    | inl low ↦ before k (omega (arith, low, high)) on
    | inr over ↦ let no : true ≡ false = sym on ∙ none_above 0 k js rise over in cc
  ])
