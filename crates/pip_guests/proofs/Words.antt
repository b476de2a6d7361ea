-- The events of a turn are events: their numbers are words, since a context has words, and so has memory.
use Rattle.std.proofs.Common.{◌≡◌, ℕ, zero, suc, ◌+◌, ◌-◌, ◌*◌, ◌/◌, ◌%◌, ◌^◌, ◌<◌, ◌≤◌, ◌==◌, ◌&&◌, Bool, true, false}
use Rattle.std.proofs.Common.{cond, List, [], ◌∷◌, refl, sym, ap, ◌∙◌, subst, arith, Option, Some, None}
use Rattle.std.specs.Prelude.{bit_and, ℤ, pos, negsuc, nat_le, nat_lt, slice_get, slice_index, slice_set}
use Rattle.std.specs.Int.{w32}
use Rattle.std.specs.Int.Signed.{shr_z}
use Rattle.std.specs.List.{AllByRecursion}
use Rattle.std.proofs.Math.Facts.{Fits-lt-pow, Fits-of_lt, Fits-of_z, sfits_to_z}
use Rattle.std.proofs.Math.ListN.{length-set}
use Rattle.std.proofs.Math.Nat.{div-le_self, mod-le}
use Rattle.std.proofs.lemmas.Bool.Decides.{nat_tests}
use Rattle.std.proofs.lemmas.Nat.{and_le_l, or_of_32, xor_of_32}
use Rattle.pip_base.specs.declared.outcome.Outcome.{Outcome}
use Rattle.pip_base.specs.declared.outcome.Outcome.TheVariants as O
use Rattle.pip_base.specs.declared.types.Access.{Access}
use Rattle.pip_base.specs.declared.types.Access.TheVariants.{Load, Fetch}
use Rattle.pip_base.specs.declared.types.Ctx.{Ctx}
use Rattle.pip_base.specs.declared.types.Size.{Size}
use Rattle.pip_base.specs.declared.types.Size.TheVariants.{Byte, Word}
use Rattle.pip_model.specs.Acts.{events_made}
use Rattle.pip_model.specs.Effects.{bit, branch, traps_at_zero, effect, next, register, shift_signed, signed_word}
use Rattle.pip_model.specs.Effects.{with_high, word_effect, word_of_signed}
use Rattle.pip_model.specs.Events.{IsEvent, below_of}
use Rattle.pip_model.specs.Events as E
use Rattle.pip_model.specs.Happens.{access_number, fault_number, fault_vector, load_happens, on_running, read_of}
use Rattle.pip_model.specs.InstrRead.{instr_of, read_row}
use Rattle.pip_model.specs.InstrWords.{Opcode, fits, opcode_at, opcode_of, opcodes, reg_a, reg_b, reg_c}
use Rattle.pip_model.specs.InstrWords.{signed_immediate}
use Rattle.pip_model.specs.Local.{Succeeded}
use Rattle.pip_model.specs.Reach.{Faulted, Place, Reached, reach, word_reached}
use Rattle.pip_model.specs.Sound.{IsContext, IsWord}
use Rattle.pip_model.specs.Tree.{word_of}
use Rattle.pip_model.specs.Turn.{acts_after_fetch, acts_after_poll, effect_acts, fetch_acts, load_acts, outcome_of}
use Rattle.pip_model.specs.Turn.{store_acts, turn, word_acts, world_of}
use Rattle.pip_model.specs.Worlds.{IsSoundWorld, World, runs_on}
use Rattle.pip_model.specs.declared.effect.Effect.{Effect}
use Rattle.pip_model.specs.declared.effect.Effect.TheVariants as F
use Rattle.pip_model.specs.declared.processors.Occupant.{Occupant}
use Rattle.pip_model.proofs.Events.Soundness.{event-sound}
use Rattle.pip_model.proofs.Locality.OneEvent.{deliver-fails}
use Rattle.pip_model.proofs.Trees.Numbers.{word_found}
use Rattle.pip_guests.proofs.Moves.{fetch_by, load_by}

-- ---- contexts

words_set : (xs : List ℕ) (i v : ℕ) → IsWord v → AllByRecursion IsWord xs → AllByRecursion IsWord (slice_set xs i v)
words_set [] i v w h = tt
words_set (x ∷ xs) zero v w h = (w, h.1)
words_set (x ∷ xs) (suc i) v w h = (h.0, words_set xs i v w h.1)

word_at : (xs : List ℕ) (i : ℕ) → AllByRecursion IsWord xs → IsWord (slice_index xs i)
word_at [] i h = omega arith
word_at (x ∷ xs) zero h = h.0
word_at (x ∷ xs) (suc i) h = word_at xs i h.1

wraps : (n : ℕ) → IsWord (n % 2 ^ 32)
wraps n = omega arith

pub set_context : (x : Ctx) (pc a v : ℕ) → IsContext x → IsWord pc → IsWord v
    → IsContext (record { pc = pc; regs = slice_set x.regs a v })
set_context x pc a v k p w =
    record { pc = p; count = length-set x.regs a v ∙ k.count; regs = words_set x.regs a v w k.regs }

pub pc_context : (x : Ctx) (pc : ℕ) → IsContext x → IsWord pc → IsContext (record x { pc = pc })
pc_context x pc k p = assumption

-- ---- effects

-- the numbers of an effect are words, and its vector is one
abbrev pub HasWords : Effect → Type 0
HasWords (F.Sets a v) = IsWord v
HasWords (F.Goes pc) = IsWord pc
HasWords (F.Links a pc) = IsWord pc
HasWords (F.Loads a va z) = IsWord va
HasWords (F.Stores va v z) = IsWord va × (v < below_of z)
HasWords (F.Traps k a b) = (k < 256) × IsWord a × IsWord b
HasWords (F.Interrupts k) = k < 256
HasWords (F.Calls n) = IsWord n
HasWords (F.Shows v) = Unit {0}

-- what a word that fits a row does
abbrev Reads : Opcode → Type 0
Reads o = (x : Ctx) (w : ℕ) → IsContext x → fits w o.form ≡ true → HasWords (effect x (o.reads w))

either : (b : Bool) (m n : ℕ) → IsWord m → IsWord n → IsWord (cond b m n)
either true m n h k = h
either false m n h k = k

branches : (x : Ctx) (b : Bool) (z : ℤ) → HasWords (branch x b z)
branches x b z = either b _ _ (wraps _) (wraps _)

bits : (b : Bool) → IsWord (bit b)
bits b = either b 1 0 (omega arith) (omega arith)

divides : (x : Ctx) (c : ℕ) (e : Effect) → IsContext x → HasWords e → HasWords (traps_at_zero x c e)
divides x c e k h = go (c == 0)
  where
    go : (b : Bool) → HasWords (cond b (F.Traps 0 x.pc 0) e)
    go true = (omega arith, k.pc, omega arith)
    go false = h

below : (a b : ℕ) → a ≤ b → IsWord b → IsWord a
below a b l h = omega arith

shifts : (a s : ℕ) → IsWord a → IsWord (shift_signed a s)
shifts a s h = go (signed_word a) refl
  where
    go : (z : ℤ) → signed_word a ≡ z → IsWord (word_of_signed (shr_z z (2 ^ s)))
    go (pos n) e =
        let f : IsWord n =
        subst (λ z. IsWord (word_of_signed z)) e (Fits-lt-pow {w = w32} {n = word_of_signed (signed_word a)}
        (Fits-of_z {w = w32} {z = signed_word a} (sfits_to_z {w = w32} {n = a} (Fits-of_lt {w = w32} {n = a} h)))) in
        below (n / 2 ^ s) n (div-le_self n (2 ^ s)) f
    go (negsuc n) e = omega arith

low : (w : ℕ) → IsWord (w % 65536)
low w = omega arith

highs : (a w : ℕ) → IsWord (with_high a (w % 65536))
highs a w = omega arith

-- a vector that fits its form
vectors : (w : ℕ) (b c : Bool) → (b && c && nat_lt (w % 65536) 256) ≡ true → w % 65536 < 256
vectors w true true e = grind (arith, nat_tests, e)
vectors w true false e = cc
vectors w false c e = cc

-- row by row, as `opcodes` has them
all_rows : AllByRecursion Reads opcodes
all_rows =
    let reg = λ (x : Ctx) (i : ℕ) (k : IsContext x). word_at x.regs i k.regs in
    let quotient = λ (x : Ctx) (i c : ℕ) (k : IsContext x).
    below (register x i / c) (register x i) (div-le_self (register x i) c) (word_at x.regs i k.regs) in
    let rest = λ (x : Ctx) (i c : ℕ) (k : IsContext x).
    below (register x i % c) (register x i) (mod-le (register x i) c) (word_at x.regs i k.regs) in
    let meet = λ (x : Ctx) (i c : ℕ) (k : IsContext x).
    below (bit_and (register x i) c) (register x i) (and_le_l (register x i) c) (word_at x.regs i k.regs) in (
      (λ x w k f. reg x _ k),
      (
        (λ x w k f. low w),
        (
          (λ x w k f. highs _ w),
          (
            (λ x w k f. wraps _),
            (
              (λ x w k f. wraps _),
              (
                (λ x w k f. wraps _),
                (
                  (λ x w k f. divides x (register x (reg_c w)) (F.Sets (reg_a w)
                      (register x (reg_b w) / register x (reg_c w))) k (quotient x (reg_b w) (register x (reg_c w)) k)),
                  (
                    (λ x w k f. divides x (register x (reg_c w)) (F.Sets (reg_a w)
                        (register x (reg_b w) % register x (reg_c w))) k (rest x (reg_b w) (register x (reg_c w)) k)),
                    (
                      (λ x w k f. meet x _ _ k),
                      (
                        (λ x w k f. or_of_32 _ _ (reg x _ k) (reg x _ k)),
                        (
                          (λ x w k f. xor_of_32 _ _ (reg x _ k) (reg x _ k)),
                          (
                            (λ x w k f. wraps _),
                            (
                              (λ x w k f. quotient x _ _ k),
                              (
                                (λ x w k f. shifts _ _ (reg x _ k)),
                                (
                                  (λ x w k f. bits _),
                                  (
                                    (λ x w k f. bits _),
                                    (
                                      (λ x w k f. wraps _),
                                      (
                                        (λ x w k f. meet x _ _ k),
                                        (
                                          (λ x w k f. or_of_32 _ _ (reg x _ k) (low w)),
                                          (
                                            (λ x w k f. wraps _),
                                            (
                                              (λ x w k f. quotient x _ _ k),
                                              (
                                                (λ x w k f. wraps _),
                                                (
                                                  (λ x w k f. (wraps _, reg x _ k)),
                                                  (
                                                    (λ x w k f. wraps _),
                                                    (
                                                      (λ x w k f. (wraps _, omega arith)),
                                                      (
                                                        (λ x w k f. branches x _ (signed_immediate w)),
                                                        (
                                                          (λ x w k f. branches x _ (signed_immediate w)),
                                                          (
                                                            (λ x w k f. branches x _ (signed_immediate w)),
                                                            (
                                                              (λ x w k f. branches x _ (signed_immediate w)),
                                                              (
                                                                (λ x w k f. wraps _),
                                                                (
                                                                  (λ x w k f. reg x _ k),
                                                                  (
                                                                    (λ x w k f. low w),
                                                                    (
                                                                      (λ x w k f. vectors w (w / 65536 % 256
                                                                          == 0) (nat_le 64 (w % 65536)) f),
                                                                      ((λ x w k f. tt), tt),
                                                                    ),
                                                                  ),
                                                                ),
                                                              ),
                                                            ),
                                                          ),
                                                        ),
                                                      ),
                                                    ),
                                                  ),
                                                ),
                                              ),
                                            ),
                                          ),
                                        ),
                                      ),
                                    ),
                                  ),
                                ),
                              ),
                            ),
                          ),
                        ),
                      ),
                    ),
                  ),
                ),
              ),
            ),
          ),
        ),
      ),
    )

row_of : (os : List Opcode) (i : ℕ) (o : Opcode) → AllByRecursion Reads os → slice_get os i ≡ Some o → Reads o
row_of [] i o h e = cc
row_of (p ∷ os) zero o h e = let d : p ≡ o = cc in rw (← d) h.0
row_of (p ∷ os) (suc i) o h e = row_of os i o h.1 e

pub words_read : (x : Ctx) (u : ℕ) → IsContext x → IsWord u → HasWords (word_effect x u (instr_of u))
words_read x u k h = go (opcode_at (opcode_of u)) refl
  where
    at : (b : Bool) (o : Opcode) → cond b None (slice_get opcodes (opcode_of u - 1)) ≡ Some o → Reads o
    at true o e = cc
    at false o e = row_of opcodes (opcode_of u - 1) o all_rows e

    fit : (o : Opcode) (b : Bool) → fits u o.form ≡ b → Reads o
        → HasWords (word_effect x u (cond b (Some (o.reads u)) None))
    fit o true e r = r x u k e
    fit o false e r = (omega arith, k.pc, h)

    go : (o : Option Opcode) → opcode_at (opcode_of u) ≡ o → HasWords (word_effect x u (read_row u o))
    go None e = (omega arith, k.pc, h)
    go (Some o) e = fit o (fits u o.form) refl (at (opcode_of u == 0) o e)

-- ---- events

-- what a load or a fetch gives
loaded_word : (w : World) (cpu : ℕ) (r : Occupant) (va : ℕ) (c : Access) (z : Size) (q : Reached) (v : ℕ)
    → IsSoundWorld w → reach w.tree r.name va c z ≡ q → (load_happens w cpu r va c z q).outcome ≡ O.Word v → IsWord v
loaded_word w cpu r va c z (Faulted f) v s e o = absurd (deliver-fails w cpu r (fault_vector f) va
    (16 * access_number c + fault_number f) (rw o tt))
loaded_word w cpu r va c z (Place g i) v s e o =
    let m = word_of (w.tree.words g) i in
    let d : read_of va z m ≡ v = cc in
    rw (← d) (part z m (word_found w.tree r.name va c z m s.tree (ap (word_reached w.tree) e)))
  where
    part : (z : Size) (m : ℕ) → IsWord m → IsWord (read_of va z m)
    part Word m h = h
    part Byte m h = omega arith

load_word : (w : World) (cpu va : ℕ) (z : Size) (v : ℕ) → IsSoundWorld w → outcome_of w (E.Load cpu va z) ≡ O.Word v
    → IsWord v
load_word w cpu va z v s e = go (runs_on w cpu) refl
  where
    go : (o : Option Occupant) → runs_on w cpu ≡ o → IsWord v
    go None k = let d =
        ap (λ o. (on_running w cpu o (λ r. load_happens w cpu r va Load z (reach w.tree r.name va Load z))).outcome) k
        in
        let idle : O.Idle ≡ O.Word v = cc in cc
    go (Some r) k = loaded_word w cpu r va Load z (reach w.tree r.name va Load z) v s refl
        (rw (← load_by w r cpu va z k, e))

fetch_word : (w : World) (cpu v : ℕ) → IsSoundWorld w → outcome_of w (E.Fetch cpu) ≡ O.Word v → IsWord v
fetch_word w cpu v s e = go (runs_on w cpu) refl
  where
    go : (o : Option Occupant) → runs_on w cpu ≡ o → IsWord v
    go None k = let d = ap (λ o. (on_running w cpu o
        (λ r. load_happens w cpu r r.ctx.pc Fetch Word (reach w.tree r.name r.ctx.pc Fetch Word))).outcome) k in
        let idle : O.Idle ≡ O.Word v = cc in cc
    go (Some r) k = loaded_word w cpu r r.ctx.pc Fetch Word (reach w.tree r.name r.ctx.pc Fetch Word) v s refl
        (rw (← fetch_by w r cpu k, e))

module _ (w : World) (cpu t : ℕ) (x : Ctx) (s : IsSoundWorld w) (k : IsContext x) where
  loads_are : (a va : ℕ) (z : Size) (o : Outcome) → outcome_of w (E.Load cpu va z) ≡ o
      → AllByRecursion IsEvent (events_made (load_acts t cpu x a o))
  loads_are a va z (O.Word v) e = (set_context x (next x) a v k (wraps _) (load_word w cpu va z v s e), tt)
  loads_are a va z O.Done e = tt
  loads_are a va z (O.Reply st v) e = tt
  loads_are a va z (O.Switched from to j) e = tt
  loads_are a va z (O.Parked from j) e = tt
  loads_are a va z O.Idle e = tt

  stores_are : (o : Outcome) → AllByRecursion IsEvent (events_made (store_acts t cpu x o))
  stores_are O.Done = (pc_context x (next x) k (wraps _), tt)
  stores_are (O.Word v) = tt
  stores_are (O.Reply st v) = tt
  stores_are (O.Switched from to j) = tt
  stores_are (O.Parked from j) = tt
  stores_are O.Idle = tt

  effect_are : (f : Effect) → HasWords f → AllByRecursion IsEvent (events_made (effect_acts w t cpu x f))
  effect_are (F.Sets a v) h = (set_context x (next x) a v k (wraps _) h, tt)
  effect_are (F.Goes pc) h = (pc_context x pc k h, tt)
  effect_are (F.Links a pc) h = (set_context x pc a (next x) k h (wraps _), tt)
  effect_are (F.Loads a va z) h = (h, loads_are a va z (outcome_of w (E.Load cpu va z)) refl)
  effect_are (F.Stores va v z) h = (h, stores_are (outcome_of w (E.Store cpu va z v)))
  effect_are (F.Traps v a b) h = (h, tt)
  effect_are (F.Interrupts v) h = (pc_context x (next x) k (wraps _), ((h, omega arith, omega arith), tt))
  effect_are (F.Calls n) h = let reg = λ (i : ℕ). word_at x.regs i k.regs in
      (pc_context x (next x) k (wraps _), ((h, (reg 1, (reg 2, (reg 3, (reg 4, (reg 5, tt)))))), tt))
  effect_are (F.Shows v) h = (pc_context x (next x) k (wraps _), tt)

-- all that a turn does after its poll
pub fetch_are : (w : World) (cpu t : ℕ) → IsSoundWorld w → AllByRecursion IsEvent (events_made (fetch_acts w t cpu))
fetch_are w cpu t s = (tt, go (outcome_of w (E.Fetch cpu)) refl)
  where
    after : World
    after = world_of w (E.Fetch cpu)

    sound : IsSoundWorld after
    sound = event-sound w (E.Fetch cpu) s tt

    runs : (u : ℕ) (o : Option Occupant) → IsWord u → runs_on after cpu ≡ o
        → AllByRecursion IsEvent (events_made (word_acts after t cpu u o))
    runs u None h e = tt
    runs u (Some r) h e = let k = sound.contexts cpu r e in
        effect_are after cpu t r.ctx sound k (word_effect r.ctx u (instr_of u)) (words_read r.ctx u k h)

    go : (o : Outcome) → outcome_of w (E.Fetch cpu) ≡ o → AllByRecursion IsEvent
        (events_made (acts_after_fetch after t cpu o))
    go (O.Word u) e = runs u (runs_on after cpu) (fetch_word w cpu u s e) refl
    go O.Done e = tt
    go (O.Reply st v) e = tt
    go (O.Switched from to j) e = tt
    go (O.Parked from j) e = tt
    go O.Idle e = tt

-- all that a turn does
pub turn_are : (w : World) (cpu t : ℕ) → IsSoundWorld w → AllByRecursion IsEvent (events_made (turn w cpu t))
turn_are w cpu t s = (tt, go (outcome_of w (E.Poll cpu)))
  where
    after : World
    after = world_of w (E.Poll cpu)

    rest : AllByRecursion IsEvent (events_made (fetch_acts after t cpu))
    rest = fetch_are after cpu t (event-sound w (E.Poll cpu) s tt)

    go : (o : Outcome) → AllByRecursion IsEvent (events_made (acts_after_poll after t cpu o))
    go (O.Word u) = rest
    go O.Done = rest
    go (O.Reply st v) = rest
    go (O.Switched from to j) = tt
    go (O.Parked from j) = rest
    go O.Idle = tt
