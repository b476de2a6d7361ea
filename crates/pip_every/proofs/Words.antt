-- The words of what runs on processors are written and read one processor after another.
use Rattle.std.proofs.Common.{◌≡◌, ℕ, zero, suc, ◌+◌, ◌-◌, ◌^◌, ◌<◌, ◌≤◌, List, [], ◌∷◌, ◌++◌, length, take, drop}
use Rattle.std.proofs.Common.{replicate, slice_get, slice_index, Option, Some, None, refl, sym, ap, subst, ◌∙◌, arith}
use Rattle.std.specs.Prelude.{option_map, unwrap_or}
use Rattle.std.proofs.Common.{append_assoc, length-append}
use Rattle.std.specs.List.{AllByRecursion}
use Rattle.std.proofs.Math.Seq.{drop-append_seam, take-append_seam}
use Rattle.std.proofs.lemmas.Grind.{take_at_read}
use Rattle.std.proofs.lemmas.List.{length-take-le}
use Rattle.pip_model.specs.declared.processors.Occupant.{Occupant}
use Rattle.pip_switch.specs.Occupied.{part_on}
use Rattle.pip_every.specs.Keys.{processor_words, running_words, used, used_with}
use Rattle.pip_every.specs.Reading.{StartsWithOne, StartsWithAll, MayRun, HoldRegisters, read_occupant}

-- no more are used than there are
most_with : (n k m : ℕ) → k ≤ m → used_with n k ≤ suc m
most_with zero zero m le = omega arith
most_with zero (suc k) m le = omega arith
most_with (suc n) k m le = omega arith

pub used_most : (ns : List ℕ) → used ns ≤ length ns
used_most [] = omega arith
used_most (n ∷ ns) = most_with n (used ns) (length ns) (used_most ns)

-- with zeros they are all
whole_with : (n k : ℕ) (ns : List ℕ) → take k ns ++ replicate (length ns - k) 0 ≡ ns
    → take (used_with n k) (n ∷ ns) ++ replicate (suc (length ns) - used_with n k) 0 ≡ n ∷ ns
whole_with zero zero ns h =
    let all : suc (length ns) - 0 ≡ suc (length ns - 0) = omega arith in
    rw (all, h)
whole_with zero (suc k) ns h =
    let left : suc (length ns) - suc (suc k) ≡ length ns - suc k = omega arith in
    rw (left, h)
whole_with (suc n) k ns h =
    let left : suc (length ns) - suc k ≡ length ns - k = omega arith in
    rw (left, h)

used_whole : (ns : List ℕ) → take (used ns) ns ++ replicate (length ns - used ns) 0 ≡ ns
used_whole [] = refl
used_whole (n ∷ ns) = whole_with n (used ns) ns (used_whole ns)

-- a number at the end
used_with_more : (n k : ℕ) → used_with n (suc k) ≡ suc (suc k)
used_with_more zero k = refl
used_with_more (suc n) k = refl

pub used_zero : (ns : List ℕ) → used (ns ++ (0 ∷ [])) ≡ used ns
used_zero [] = refl
used_zero (n ∷ ns) = rw (used_zero ns)

pub used_all : (ns : List ℕ) (n : ℕ) → (n ≡ 0 → ⊥) → used (ns ++ (n ∷ [])) ≡ suc (length ns)
used_all [] zero some = absurd (some refl)
used_all [] (suc n) some = refl
used_all (m ∷ ns) n some = rw (used_all ns n some, used_with_more m (length ns))

-- the first k numbers end in this one
last_of : (ns : List ℕ) (k : ℕ) → 0 < k → k ≤ length ns
    → take k ns ≡ take (k - 1) ns ++ (slice_index ns (k - 1) ∷ [])
last_of ns k some most =
    let more : k - 1 + 1 ≡ k = omega arith in
    let lt : k - 1 < length ns = omega arith in
    cc ((take_at_read ns (k - 1) 0 lt).1)

-- so where it is 0 it is not used
pub used_before : (ns : List ℕ) (k : ℕ) → 0 < k → k ≤ length ns → slice_index ns (k - 1) ≡ 0
    → used (take (k - 1) ns) ≡ used (take k ns)
used_before ns k some most none =
    rw (← used_zero (take (k - 1) ns), ← none, ← last_of ns k some most)

-- else all k are
pub used_here : (ns : List ℕ) (k : ℕ) → 0 < k → k ≤ length ns → (slice_index ns (k - 1) ≡ 0 → ⊥)
    → k ≡ used (take k ns)
used_here ns k some most last =
    let long : length (take (k - 1) ns) ≡ k - 1 = length-take-le (k - 1) ns (omega arith) in
    let here : k ≡ suc (length (take (k - 1) ns)) = omega arith in
    cc (used_all (take (k - 1) ns) (slice_index ns (k - 1)) last, last_of ns k some most)

-- the words of a partition that runs, and others after them: it is what is read of them
pub read_running : (r : Occupant) (rest : List ℕ) → length r.ctx.regs ≡ 16
    → (read_occupant (running_words (Some r) ++ rest) ≡ r)
    × (drop (3 + used r.ctx.regs) (running_words (Some r) ++ rest) ≡ rest)
read_running r rest count =
    let k = used r.ctx.regs in
    let after : 3 + k ≡ suc (suc (suc k)) = omega arith in
    let own = take k r.ctx.regs in
    let long : length own ≡ k = length-take-le k r.ctx.regs (used_most r.ctx.regs) in
    let f : List ℕ → Occupant = λ regs. record { name = r.name; ctx = record { pc = r.ctx.pc; regs = regs } } in
    let regs : take k (own ++ rest) ≡ own = cc (take-append_seam own rest) in (
      rw (regs, ← count, used_whole r.ctx.regs),
      cc (drop-append_seam own rest),
    )

-- and the words hold its registers
holds : (r : Occupant) (rest : List ℕ) → length r.ctx.regs ≡ 16 → HoldRegisters (running_words (Some r) ++ rest)
holds r rest count =
    let k = used r.ctx.regs in
    let most : k ≤ length r.ctx.regs = used_most r.ctx.regs in
    let long : length (take k r.ctx.regs) ≡ k = length-take-le k r.ctx.regs most in
    let all = length-append (take k r.ctx.regs) rest in
    record {
      some = omega arith;
      few = omega arith;
      there = omega arith;
    }

pub can_hold : (ws : List ℕ) → (slice_index ws 0 ≡ 0 → ⊥) → (o : Option Occupant) (rest : List ℕ)
    → StartsWithOne ws o rest → HoldRegisters ws
can_hold ws some None rest b = absurd (some (rw b.whole))
can_hold ws some (Some q) rest b = rw b.whole (holds q rest b.runs.registers)

-- the first word isn't 0: a partition runs, and its words are these
pub read_some : (ws : List ℕ) → (slice_index ws 0 ≡ 0 → ⊥) → (o : Option Occupant) (rest : List ℕ)
    → StartsWithOne ws o rest → (Some (read_occupant ws) ≡ o) × (drop (3 + slice_index ws 2) ws ≡ rest)
read_some ws some None rest b = absurd (some (rw b.whole))
read_some ws some (Some q) rest b =
    let whole = read_running q rest b.runs.registers in (
      rw (b.whole, whole.0),
      rw (b.whole, whole.1),
    )

-- words that begin with those of some processors begin with those of the first of them
pub record Splits (ws : List ℕ) (n k : ℕ) (os : List (Option Occupant)) (rest : List ℕ) : Type 0 where
  pub first : Option Occupant
  pub others : List (Option Occupant)
  pub are : os ≡ first ∷ others
  pub begins : StartsWithOne ws first (processor_words others ++ rest)
  pub run : AllByRecursion MayRun others
  pub count : length others ≡ n - (k + 1)

pub splits : (ws : List ℕ) (n k : ℕ) (os : List (Option Occupant)) (rest : List ℕ) → k < n
    → StartsWithAll ws (n - k) os rest
    → Splits ws n k os rest
splits ws n k [] rest lt h = absurd (omega arith)
splits ws n k (o ∷ os) rest lt h = record {
  first = o;
  others = os;
  are = refl;
  begins = record {
    runs = h.run.0;
    whole = h.whole ∙ append_assoc (running_words o) (processor_words os) rest;
  };
  run = h.run.1;
  count = let c : suc (length os) ≡ n - k = h.count_is in omega arith;
}

-- what is known where the processors before number k were read
abbrev pub IsReading : List ℕ → ℕ → ℕ → List (Option Occupant) → List ℕ → Type 0
IsReading words count k cpus left = (os : List (Option Occupant)) (rest : List ℕ) → StartsWithAll words count os rest
    → (others : List (Option Occupant)) × ((cpus ++ others ≡ os) × StartsWithAll left (count - k) others rest)

-- one more was read
pub read_next : (words : List ℕ) (count k : ℕ) (cpus more : List (Option Occupant)) (runs : Option Occupant)
    (left after : List ℕ) → k < count → more ≡ cpus ++ (runs ∷ [])
    → ((o : Option Occupant) (rest : List ℕ) → StartsWithOne left o rest → (runs ≡ o) × (after ≡ rest))
    → IsReading words count k cpus left → IsReading words count (k + 1) more after
read_next words count k cpus more runs left after lt is reads h os rest b =
    let at = h os rest b in
    let s : Splits left count k at.0 rest = splits left count k at.0 rest lt at.1.1 in
    let r : (runs ≡ s.first) × (after ≡ processor_words s.others ++ rest) = reads s.first
    (processor_words s.others ++ rest) s.begins in (
      s.others,
      (
        rw (is, append_assoc cpus (runs ∷ []) s.others, r.0, ← s.are, at.1.0),
        record { run = s.run; count_is = s.count; whole = r.1 },
      ),
    )

-- what is known where those before number k were passed by
abbrev pub IsPassing : List ℕ → ℕ → ℕ → List ℕ → Type 0
IsPassing words count k left = (os : List (Option Occupant)) (rest : List ℕ) → StartsWithAll words count os rest
    → (others : List (Option Occupant)) × (((j : ℕ) → slice_get os (k + j) ≡ slice_get others j)
    × StartsWithAll left (count - k) others rest)

-- none was
pub passed_none : (words : List ℕ) (count : ℕ) → IsPassing words count 0 words
passed_none words count os rest b =
    let all : length os ≡ count = b.count_is in (
      os,
      (
        (λ j. let own : 0 + j ≡ j = omega arith in ap (slice_get os) own),
        record { run = b.run; count_is = omega arith; whole = b.whole },
      ),
    )

-- one more was
pub pass_next : (words : List ℕ) (count k : ℕ) (left after : List ℕ) → k < count
    → ((o : Option Occupant) (rest : List ℕ) → StartsWithOne left o rest → after ≡ rest)
    → IsPassing words count k left → IsPassing words count (k + 1) after
pass_next words count k left after lt passes h os rest b =
    let at = h os rest b in
    let s : Splits left count k at.0 rest = splits left count k at.0 rest lt at.1.1 in
    let r : after ≡ processor_words s.others ++ rest = passes s.first (processor_words s.others ++ rest) s.begins in (
      s.others,
      (
        (λ j. let more : k + 1 + j ≡ k + suc j = omega arith in
            ap (slice_get os) more ∙ (at.1.0 (suc j) ∙ ap (λ v. slice_get v (suc j)) s.are)),
        record { run = s.run; count_is = s.count; whole = r },
      ),
    )

-- a name that isn't 0 is a frame
pub can_name : (ws : List ℕ) → (slice_index ws 0 ≡ 0 → ⊥) → (o : Option Occupant) (rest : List ℕ)
    → StartsWithOne ws o rest → slice_index ws 0 < 2 ^ 20
can_name ws some None rest b = absurd (some (rw b.whole))
can_name ws some (Some q) rest b = rw b.whole b.runs.most

-- the first word says what runs
pub none_runs : (ws : List ℕ) → slice_index ws 0 ≡ 0 → (o : Option Occupant) (rest : List ℕ)
    → StartsWithOne ws o rest → None ≡ option_map (λ r. r.name) o
none_runs ws none None rest b = refl
none_runs ws none (Some q) rest b =
    let is : slice_index ws 0 ≡ q.name = rw b.whole in
    let least = b.runs.least in
    absurd (omega arith)

pub some_runs : (ws : List ℕ) (name : ℕ) → (slice_index ws 0 ≡ 0 → ⊥) → name ≡ slice_index ws 0
    → (o : Option Occupant) (rest : List ℕ) → StartsWithOne ws o rest → Some name ≡ option_map (λ r. r.name) o
some_runs ws name some is None rest b = absurd (some (rw b.whole))
some_runs ws name some is (Some q) rest b =
    let own : slice_index ws 0 ≡ q.name = rw b.whole in
    ap Some (is ∙ own)

-- so it says of the processor up to which all were passed by
pub name_there : (words : List ℕ) (count k : ℕ) (left : List ℕ) (name : Option ℕ) → k < count
    → ((o : Option Occupant) (rest : List ℕ) → StartsWithOne left o rest → name ≡ option_map (λ r. r.name) o)
    → IsPassing words count k left → (os : List (Option Occupant)) (rest : List ℕ) → StartsWithAll words count os rest
    → name ≡ part_on os k
name_there words count k left name lt says h os rest b =
    let at = h os rest b in
    let s : Splits left count k at.0 rest = splits left count k at.0 rest lt at.1.1 in
    let here : k + 0 ≡ k = omega arith in
    let there : slice_get os k ≡ Some s.first =
    ap (slice_get os) (sym here) ∙ (at.1.0 0 ∙ ap (λ v. slice_get v 0) s.are) in
    subst (λ v. name ≡ option_map (λ r. r.name) (unwrap_or v None)) (sym there)
    (says s.first (processor_words s.others ++ rest) s.begins)

-- all were read
none_left : (left : List ℕ) (others : List (Option Occupant)) (rest : List ℕ) (n : ℕ) → n ≡ 0
    → StartsWithAll left n others rest → (others ≡ []) × (left ≡ rest)
none_left left [] rest n none h = (refl, h.whole)
none_left left (o ∷ os) rest n none h =
    let c : suc (length os) ≡ n = h.count_is in absurd (omega arith)
