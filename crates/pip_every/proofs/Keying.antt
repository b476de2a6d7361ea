-- What a key tells of the moments that have it.
use Rattle.std.proofs.Common.{◌≡◌, ℕ, ◌≤◌, List, [], ◌∷◌, ◌++◌, length, drop, take, ◌-◌}
use Rattle.std.proofs.Common.{Option, Result, Ok, Err, IfOk, slice_index, sym, ap₂, subst}
use Rattle.std.proofs.Common.{arith}
use Rattle.std.proofs.Math.Logic.{∥∥₁_elim}
use Rattle.std.proofs.Math.Nat.{ℕ_set}
use Rattle.std.proofs.lemmas.List.{take_rest}
use Rattle.pip_base.specs.Memory.{IsMemory, Memory}
use Rattle.pip_every.specs.Changes.{changes}
use Rattle.pip_every.proofs.Mixed.{changes_written}
use Rattle.pip_model.specs.Cache.{all_emptied}
use Rattle.pip_model.specs.Worlds.{World}
use Rattle.pip_model.specs.declared.processors.Occupant.{Occupant}
use Rattle.pip_switch.specs.Rewinding.{ArePlaces, rewritten}
use Rattle.pip_switch.specs.Standing.{HasCachedWorld, HasWorld, StandsAs, StandsFor, State}
use Rattle.pip_switch.proofs.Elsewhere.{rewound}
use Rattle.pip_every.specs.Choosing.{IsAtWorld, IsMade}
use Rattle.pip_every.specs.Keys.{AreChanged, IsKeyOf, key_words, processor_words}
use Rattle.pip_every.specs.Moments.{Moment, Scope, moment_at}
use Rattle.pip_every.specs.Menus.{Menu}
use Rattle.pip_every.specs.Reading.{StartsWithAll}
use Rattle.pip_every.specs.declared.menus.May.{May}
use Rattle.pip_every.proofs.Choosing.{at_bare}
use Rattle.pip_every.proofs.Runnable.{all_may_run}

-- the parts of a key
pub record HasParts (first : Memory) (key : List ℕ) (n : ℕ) (m : Moment) (memory : Memory) : Type 0 where
  pub begins : StartsWithAll (drop 1 key) n m.world.cpus (changes first memory)
  pub places : ArePlaces (length first) (changes first memory)
  pub same : rewritten first (changes first memory) ≡ memory
  pub turns : slice_index key 0 ≡ m.turns
  pub some : 1 ≤ length key

pub parts : (first : Memory) (g : Scope) (key : List ℕ) (m : Moment) → IsMemory first → (k : IsKeyOf first g key m)
    → HasParts first key g.cpus m k.memory
parts first g key m shape k =
    let written = changes_written first k.memory shape k.stands.shows.laid.shape k.frames in
    let rest : List ℕ = processor_words m.world.cpus ++ changes first k.memory in
    let some : 1 ≤ length (m.turns ∷ rest) = omega arith in
    record {
      begins = record {
        run = all_may_run m.world k.stands.sound;
        count_is = k.cpus;
        whole = rw k.whole;
      };
      places = written.0;
      same = written.1;
      turns = rw k.whole;
      some = rw k.whole some;
    }

a_cache_each : (p : State) → length p.caches ≡ length p.cpus
a_cache_each p = ∥∥₁_elim p.world (ℕ_set (length p.caches) (length p.cpus))
    (λ (k : HasCachedWorld p.memory p.cpus p.caches). k.stands.each)

-- there is a world of what was read
pub record HasRead (first : Memory) (n : ℕ) (cpus : List (Option Occupant)) (words : List ℕ) : Type 0 where
  pub places : ArePlaces (length first) words
  pub count : length cpus ≡ n
  pub world : HasWorld (rewritten first words) cpus

-- the words after the first are those of the processors, and then of the memory
pub key_begins : {first : Memory} {g : Scope} {key : List ℕ} {m : Moment} {n : ℕ} → IsMemory first
    → (k : IsKeyOf first g key m) → n ≡ g.cpus
    → StartsWithAll (take (length key - 1) (drop 1 key)) n m.world.cpus (changes first k.memory)
key_begins {first} {g} {key} {m} {n} shape k same =
    rw (take_rest key 1) (subst (λ v. StartsWithAll (drop 1 key) v m.world.cpus (changes first k.memory)) (sym same)
    (parts first g key m shape k).begins)

-- so they can be read
pub can_read : {first : Memory} {g : Scope} {key : List ℕ} {m : Moment} {n : ℕ} → IsMemory first
    → IsKeyOf first g key m → n ≡ g.cpus → (os : List (Option Occupant))
    × ((rest : List ℕ) × StartsWithAll (take (length key - 1) (drop 1 key)) n os rest)
can_read {first} {g} {key} {m} {n} shape k same =
    (m.world.cpus, (changes first k.memory, key_begins shape k same))

-- a key of a moment, of which this was read
module _ {first : Memory} {g : Scope} {key : List ℕ} {m : Moment} {n : ℕ} {cpus : List (Option Occupant)}
    {words : List ℕ} (shape : IsMemory first) (k : IsKeyOf first g key m) (same : n ≡ g.cpus)
    (read : (os : List (Option Occupant)) (rest : List ℕ) → StartsWithAll (take (length key - 1) (drop 1 key)) n os rest
    → (cpus ≡ os) × (words ≡ rest)) where
  -- it is what runs at the moment, and how its memory differs
  pub was_read : (cpus ≡ m.world.cpus) × (words ≡ changes first k.memory)
  was_read = read m.world.cpus (changes first k.memory) (key_begins shape k same)

  -- so there is a world of it
  pub has_read : HasRead first g.cpus cpus words
  has_read =
      let h : HasParts first key g.cpus m k.memory = parts first g key m shape k in
      let r = was_read in
      record {
        places = rw r.1 h.places;
        count = rw (r.0, k.cpus);
        world = record {
          world = m.world;
          stands = rw r.1 (subst (λ v. StandsFor v cpus m.world) (sym h.same)
              (subst (λ v. StandsFor k.memory v m.world) (sym r.0) k.stands));
        };
      }

  -- the words that were read are its changed words
  pub changed_words : AreChanged first words
  changed_words =
      let h : HasParts first key g.cpus m k.memory = parts first g key m shape k in
      let r = was_read in
      record {
        memory = k.memory;
        frames = k.frames;
        are = r.1;
        whole = rw (r.1, h.same);
      }

  -- a machine that was taken there is at the moment
  pub moved_to : (p q : State) → g.cpus ≡ length p.cpus → q.memory ≡ rewritten first words → q.cpus ≡ cpus
      → q.caches ≡ all_emptied p.caches → IsAtWorld q m.world
  moved_to p q count memory runs emptied =
      let h : HasParts first key g.cpus m k.memory = parts first g key m shape k in
      let r = was_read in
      let memory_is : q.memory ≡ k.memory = rw (memory, r.1, h.same) in
      let cpus_are : q.cpus ≡ m.world.cpus = cc (r.0) in
      rewound q.memory q.cpus p.caches q.caches emptied
      (rw (a_cache_each p, ← count, ← k.cpus, ← cpus_are)) m.world
      (rw memory_is (subst (λ v. StandsFor k.memory v m.world) (sym cpus_are) k.stands))

-- the moment after a choice has the key of the machine that made it
pub keyed : (first : Memory) (g : Scope) (n : Moment) (shown : List ℕ) (q : State) (turns : ℕ) (label key : List ℕ)
    → IsMade n shown q turns label → length q.memory ≡ length first → length q.cpus ≡ g.cpus
    → key ≡ key_words first turns q.cpus q.memory → IsKeyOf first g key n
keyed first g n shown q turns label key h frames count is =
    let stands : StandsFor q.memory q.cpus n.world = at_bare n q h.world in
    let cpus_are : n.world.cpus ≡ q.cpus = stands.shows.cpus in
    record {
      memory = q.memory;
      stands = rw (← cpus_are) at stands;
      frames = frames;
      cpus = rw (cpus_are, count);
      whole = rw (is, h.turns_are, ← cpus_are);
    }

-- the moment at a world has the key that was added of a machine that stands for it
pub begun : {first : Memory} {g : Scope} {p q : State} {start key : List ℕ} (w : World) → StandsAs p w → q ≡ p
    → length q.memory ≡ length first → length q.cpus ≡ g.cpus → start ≡ []
    → key ≡ start ++ key_words first 0 q.cpus q.memory → IsKeyOf first g key (moment_at w)
begun {first} {g} {p} {q} w stands same frames count none is =
    let s : StandsAs q w = rw same stands in
    let cpus_are : w.cpus ≡ q.cpus = s.bare.shows.cpus in
    record {
      memory = q.memory;
      stands = rw (← cpus_are) at s.bare;
      frames = frames;
      cpus = rw (cpus_are, count);
      whole = rw (is, none, ← cpus_are);
    }

-- scopes with the same processors, lines and first turn are one
pub scope_is : (a b : ℕ) (ls ms : List ℕ) (f h : ℕ) → a ≡ b → ls ≡ ms → f ≡ h
    → ◌≡◌ {A = Scope} (record { cpus = a; lines = ls; from = f }) (record { cpus = b; lines = ms; from = h })
scope_is a b ls ms f h one two three =
    let s : ℕ → List ℕ → ℕ → Scope = λ x xs y. record { cpus = x; lines = xs; from = y } in
    rw (one, two, three)

-- and so are menus
pub menu_is : (s t : Scope) (ds es : List May) → s ≡ t → ds ≡ es
    → ◌≡◌ {A = Menu} (record { scope = s; may = ds }) (record { scope = t; may = es })
menu_is s t ds es one two =
    let f : Scope → List May → Menu = λ x xs. record { scope = x; may = xs } in ap₂ f one two

-- what holds of an answer that is no error
pub if_ok : {T E : Type 0} (r : Result T E) (P Q : T → Type 0) → ((x : T) → P x → Q x) → IfOk r P → IfOk r Q
if_ok (Ok x) P Q f h = f x h
if_ok (Err e) P Q f h = tt

-- and by two facts
pub if_both : {T E : Type 0} (r : Result T E) (P Q R : T → Type 0) → ((x : T) → P x → Q x → R x) → IfOk r P → IfOk r Q
    → IfOk r R
if_both (Ok x) P Q R f h k = f x h k
if_both (Err e) P Q R f h k = tt
