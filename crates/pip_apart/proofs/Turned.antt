-- What a turn of a machine makes of the worlds of a key.
use Rattle.std.proofs.Common.{◌≡◌, ℕ, ◌&&◌, Bool, true, false, not, cond, List, [], ◌∷◌, ◌++◌, length, refl, sym, ap}
use Rattle.std.proofs.Common.{ap₂, ◌∙◌}
use Rattle.std.proofs.Common.{subst, Result, Ok, Err, IfOk, Option, Some}
use Rattle.std.proofs.lemmas.List.{append-nil}
use Rattle.pip_base.specs.Memory.{Memory}
use Rattle.pip_cpu.specs.Made.{Made}
use Rattle.pip_io.specs.Taken.{plain}
use Rattle.pip_model.specs.Acts.{after_acts, text_of}
use Rattle.pip_model.specs.Events as E
use Rattle.pip_model.specs.Lists.{has}
use Rattle.pip_model.specs.Poll.{occupant_name}
use Rattle.pip_model.specs.Tree.{Tree, ancestry}
use Rattle.pip_model.specs.Turn.{turn}
use Rattle.pip_model.specs.Worlds.{World}
use Rattle.pip_model.specs.declared.processors.Occupant.{Occupant}
use Rattle.std.specs.Prelude.{is_ok, unwrap_or, slice_get, None}
use Rattle.pip_every.specs.Choosing.{IsAtWorld}
use Rattle.pip_switch.specs.Standing.{StandsAs, StandsFor, State}
use Rattle.pip_switch.proofs.Elsewhere.{bare_with}
use Rattle.pip_every.specs.Keys.{IsKeyOf, key_words}
use Rattle.pip_every.proofs.Unseen.{IsBut, acts_same, event_same, other, turn_same}
use Rattle.pip_apart.specs.Alone.{guest_label, guest_world, mark, turns_scope}
use Rattle.pip_apart.specs.Company.{runs_below}
use Rattle.pip_apart.specs.Kept.{asks_by, asks_next, is_kept}
use Rattle.pip_apart.specs.Machines.{HasTurned}

-- ---- a turn

pub turned : (w : World) (top cpu : ℕ) (asks before after kept : Bool) (q r : State) (old new last : List ℕ)
    → Made (StandsAs q) (plain (Some old)) (plain (Some new)) w (turn w cpu 0) → old ≡ [] → r ≡ q → last ≡ new
    → before ≡ runs_below w top cpu → ((v : World) → StandsAs q v → after ≡ runs_below v top cpu)
    → kept ≡ (before && (not asks && after)) → HasTurned w top cpu asks r last kept
turned w top cpu asks before after kept q r old new last made none same ends b a is =
    let (front, grew, whole) = made.text.sends in
    record {
      world = rw same made.world.bare;
      label_is = rw (ends, grew, none, ← append-nil front, whole);
      kept_is = rw (is, b, a (after_acts w (turn w cpu 0)) made.world);
    }

-- how the three parts of the test come together
pub all_true : (b n a : Bool) → b ≡ true → n ≡ true → a ≡ (b && (n && a))
all_true b n a e f = sym (ap₂ (λ x y. x && (y && a)) e f)

pub second_false : (b n a : Bool) → b ≡ true → n ≡ false → n ≡ (b && (n && a))
second_false b n a e f = cc (ap₂ (λ x y. x && (y && a)) e f)

pub first_false : (b n a : Bool) → b ≡ false → b ≡ (b && (n && a))
first_false b n a e = rw (e, ← e)

-- ---- without caches

-- the same partition runs
runs_alike : (w v : World) (top cpu : ℕ) → IsBut w v → runs_below w top cpu ≡ runs_below v top cpu
runs_alike w v top cpu b = ap₂ (λ (t : Tree) (cs : List (Option Occupant)).
    has (ancestry t (occupant_name (unwrap_or (slice_get cs cpu) None))) top) b.tree b.cpus

asks_alike : (w v : World) (top cpu : ℕ) → IsBut w v → asks_next top w cpu ≡ asks_next top v cpu
asks_alike w v top cpu b = ap₂ (asks_by top) (rw b.cpus)
    (event_same w v (E.Fetch cpu) b).0

bare : (w : World) (p : State) → IsBut w (record w { caches = p.caches })
bare w p = record { tree = refl; cpus = refl }

-- what a turn was, of the world without the machine's caches
pub record Chose (w : World) (top cpu : ℕ) (q : State) (label : List ℕ) (kept : Bool) : Type 0 where
  pub kept_is : is_kept top w cpu ≡ kept
  pub label_is : label ≡ text_of (turn w cpu 0)
  pub world : StandsFor q.memory q.cpus (after_acts w (turn w cpu 0))

pub chose : (w : World) (top cpu : ℕ) (p1 p2 q : State) (asks kept : Bool) (label : List ℕ)
    → asks ≡ asks_next top (record w { caches = p1.caches }) cpu
    → HasTurned (record w { caches = p2.caches }) top cpu asks q label kept → Chose w top cpu q label kept
chose w top cpu p1 p2 q asks kept label e h =
    let v : World = record w { caches = p2.caches } in
    let b = bare w p2 in
    let acts = turn_same w v cpu 0 b in
    let after = acts_same (turn v cpu 0) w v b in
    let later : IsBut (after_acts w (turn w cpu 0)) (after_acts v (turn v cpu 0)) =
    rw acts after in
    record {
      kept_is = ap₂ (λ a x. runs_below w top cpu && (not a && x))
          (cc (asks_alike w (record w { caches = p1.caches }) top cpu (bare w p1)))
          (runs_alike (after_acts w (turn w cpu 0)) (after_acts v (turn v cpu 0)) top cpu later)
          ∙ sym h.kept_is;
      label_is = rw (h.label_is, ← acts);
      world = rw (← other (after_acts v (turn v cpu 0)) (after_acts w (turn w cpu 0))
          (record { tree = sym later.tree; cpus = sym later.cpus }))
          (bare_with q.memory q.cpus (after_acts v (turn v cpu 0)) (after_acts w (turn w cpu 0)).caches h.world);
    }

-- ---- where it leads

-- where it is kept
pub leads_kept : (first : Memory) (n top cpu : ℕ) (w : World) (q : State) (label key : List ℕ)
    → Chose w top cpu q label true → length q.memory ≡ length first → length q.cpus ≡ n
    → key ≡ key_words first 0 q.cpus q.memory
    → IsKeyOf first (turns_scope n) key (record { world = guest_world top w cpu; turns = 0 })
    × (label ≡ guest_label top w cpu)
leads_kept first n top cpu w q label key h frames count is =
    let v : World = after_acts w (turn w cpu 0) in
    let cpus_are : v.cpus ≡ q.cpus = h.world.shows.cpus in
    let next : guest_world top w cpu ≡ v = rw h.kept_is in
    let shows : guest_label top w cpu ≡ text_of (turn w cpu 0) =
    rw h.kept_is in (
      rw next (record {
        memory = q.memory;
        stands = subst (λ cs. StandsFor q.memory cs v) (sym cpus_are) h.world;
        frames = frames;
        cpus = ap length cpus_are ∙ count;
        whole = is ∙ ap (λ cs. key_words first 0 cs q.memory)
            (sym cpus_are);
      }),
      cc (h.label_is),
    )

-- where the guest leaves
pub leads_left : (first : Memory) (n top cpu : ℕ) (w : World) (q : State) (label key : List ℕ)
    → Chose w top cpu q label false → IsKeyOf first (turns_scope n) key (record { world = w; turns = 0 })
    → IsKeyOf first (turns_scope n) key (record { world = guest_world top w cpu; turns = 0 })
    × (mark ∷ label ≡ guest_label top w cpu)
leads_left first n top cpu w q label key h k =
    let next : guest_world top w cpu ≡ w = rw h.kept_is in
    let shows : guest_label top w cpu ≡ mark ∷ text_of (turn w cpu 0) =
    rw h.kept_is in (
      rw next k,
      rw h.label_is (sym shows),
    )

-- what two facts say of an answer that is no error
pub if_both : {T E : Type 0} (r : Result T E) (P Q R : T → Type 0) → IfOk r P → IfOk r Q
    → ((x : T) → P x → Q x → R x) → IfOk r R
if_both (Ok x) P Q R p q f = f x p q
if_both (Err e) P Q R p q f = tt

-- and of an answer by which a list was made
pub if_made : {T E : Type 0} (r : Result T E) (P : T → Type 0) (xs ys zs : List ℕ) → xs ≡ cond (is_ok r) ys zs
    → ((x : T) → xs ≡ ys → P x) → IfOk r P
if_made (Ok x) P xs ys zs e f = f x e
if_made (Err y) P xs ys zs e f = tt

-- ---- a choice

-- a machine p1 at a world of a key, of which it was asked what comes; a machine p2 there again, and q after the turn
pub chose_at : (first : Memory) (n top top1 top2 cpu : ℕ) (key : List ℕ) (w : World) (p1 between p2 q : State)
    (asks kept : Bool) (label : List ℕ) → IsKeyOf first (turns_scope n) key (record { world = w; turns = 0 })
    → ((v : World) → IsKeyOf first (turns_scope n) key (record { world = v; turns = 0 }) → IsAtWorld p1 v)
    → top1 ≡ top → ((v : World) → StandsAs p1 v → asks ≡ asks_next top1 v cpu) → length between.cpus ≡ n
    → ((v : World) → IsKeyOf first (turns_scope (length between.cpus)) key (record { world = v; turns = 0 })
    → IsAtWorld p2 v) → top2 ≡ top → ((v : World) → StandsAs p2 v → HasTurned v top2 cpu asks q label kept)
    → Chose w top cpu q label kept
chose_at first n top top1 top2 cpu key w p1 between p2 q asks kept label k at1 t1 asked count at2 t2 has =
    let v1 : World = record w { caches = p1.caches } in
    let v2 : World = record w { caches = p2.caches } in
    let k2 = subst (λ m. IsKeyOf first (turns_scope m) key (record { world = w; turns = 0 })) (sym count) k in
    chose w top cpu p1 p2 q asks kept label (rw (asked v1 (at1 w k), t1))
    (rw (← t2) (has v2 (at2 w k2)))
