-- A key stands for one moment, but for its caches and the order of its nodes, and each moment has one.
use Rattle.std.proofs.Common.{◌≡◌, ℕ, suc, ◌<◌, List, [], ◌∷◌, ◌++◌, length, drop, Option, Some, None}
use Rattle.std.proofs.Common.{slice_index, refl, sym, ap₂, ◌∙◌, arith, append_assoc}
use Rattle.pip_base.specs.Memory.{Memory}
use Rattle.pip_base.proofs.Memory.{same_words}
use Rattle.pip_every.specs.Changes.{changes}
use Rattle.pip_model.specs.Layout.{HasSameLayout, LaysOut}
use Rattle.pip_model.specs.Tree.{Tree}
use Rattle.pip_model.specs.declared.processors.Occupant.{Occupant}
use Rattle.pip_model.proofs.Frames.Same.{frames-same}
use Rattle.pip_search.specs.Summary.{HasOneKey, IsTold, Witness}
use Rattle.pip_search.specs.declared.searching.Extent.{Extent}
use Rattle.pip_every.specs.Keys.{model_of, processor_words, running_words}
use Rattle.pip_every.specs.Menus.{Menu, menu_model}
use Rattle.pip_every.specs.Moments.{Moment, Scope}
use Rattle.pip_every.specs.Laws.{KeysTellMoments, MomentsHaveOneKey}
use Rattle.pip_every.specs.Reading.{StartsWithOne, StartsWithAll}
use Rattle.pip_every.proofs.Keying.{HasParts, parts}
use Rattle.pip_every.proofs.Words.{read_some}

-- trees with the same layout have one memory
pub one_memory : (t u : Tree) (m n : Memory) → HasSameLayout t u → LaysOut t m → LaysOut u n → m ≡ n
one_memory t u m n same a b =
    same_words m n a.shape b.shape (rw (a.count, same.frames, ← b.count))
    (λ f i fi ii.
    let ft : f < t.frames = omega arith in
    let fu : f < u.frames = omega arith in
    rw (a.word f i ft ii, same.word f i ft ii, ← b.word f i fu ii))

pub moments_have_one_key : MomentsHaveOneKey
moments_have_one_key first g m n key other turns cpus trees k l =
    let memory : k.memory ≡ l.memory = one_memory m.world.tree n.world.tree k.memory l.memory trees
    k.stands.shows.laid l.stands.shows.laid in
    rw (k.whole, turns, cpus, memory, ← l.whole)

-- words begin with those of one processor alone
read_once : (ws : List ℕ) (o p : Option Occupant) (rest more : List ℕ) → StartsWithOne ws o rest
    → StartsWithOne ws p more → (o ≡ p) × (rest ≡ more)
read_once ws None None rest more a b = (refl, cc (a.whole, b.whole))
read_once ws None (Some q) rest more a b =
    let e : 0 ≡ q.name = cc (a.whole, b.whole) in absurd (omega arith)
read_once ws (Some r) p rest more a b =
    let some : slice_index ws 0 ≡ 0 → ⊥ = λ e.
    let same : slice_index ws 0 ≡ r.name = rw a.whole in
    omega arith in
    let at = read_some ws some (Some r) rest a in
    let there = read_some ws some p more b in
    (sym at.0 ∙ there.0, sym at.1 ∙ there.1)

pub all_once : (os ps : List (Option Occupant)) (ws : List ℕ) (n : ℕ) (rest more : List ℕ) → StartsWithAll ws n os rest
    → StartsWithAll ws n ps more → (os ≡ ps) × (rest ≡ more)
all_once [] [] ws n rest more a b = (refl, sym a.whole ∙ b.whole)
all_once [] (p ∷ ps) ws n rest more a b =
    let e : suc (length ps) ≡ 0 = b.count_is ∙ sym a.count_is in absurd (omega arith)
all_once (o ∷ os) [] ws n rest more a b =
    let e : suc (length os) ≡ 0 = a.count_is ∙ sym b.count_is in absurd (omega arith)
all_once (o ∷ os) (p ∷ ps) ws n rest more a b =
    let once : (o ≡ p) × (processor_words os ++ rest ≡ processor_words ps ++ more) =
    read_once ws o p (processor_words os ++ rest) (processor_words ps ++ more)
    (record { runs = a.run.0; whole = a.whole ∙ append_assoc (running_words o) (processor_words os) rest })
    (record { runs = b.run.0; whole = b.whole ∙ append_assoc (running_words p) (processor_words ps) more }) in
    let count : suc (length ps) ≡ suc (length os) = b.count_is ∙ sym a.count_is in
    let others : (os ≡ ps) × (rest ≡ more) = all_once os ps (processor_words os ++ rest) (length os) rest more
    (record { run = a.run.1; count_is = refl; whole = refl })
    (record { run = b.run.1; count_is = omega arith; whole = once.1 }) in
    (ap₂ (λ x xs. x ∷ xs) once.0 others.0, others.1)

pub keys_tell_moments : KeysTellMoments
keys_tell_moments first g key m n shape k l =
    let a : HasParts first key g.cpus m k.memory = parts first g key m shape k in
    let b : HasParts first key g.cpus n l.memory = parts first g key n shape l in
    let once : (m.world.cpus ≡ n.world.cpus) × (changes first k.memory ≡ changes first l.memory) =
    all_once m.world.cpus n.world.cpus (drop 1 key) g.cpus (changes first k.memory) (changes first l.memory)
    a.begins b.begins in
    let memory : k.memory ≡ l.memory = rw (← a.same, once.1, b.same) in
    record {
      turns = sym a.turns ∙ b.turns;
      cpus = once.0;
      trees = frames-same m.world.tree n.world.tree l.memory k.stands.sound.tree l.stands.sound.tree
          (rw (← memory) k.stands.shows.laid) l.stands.shows.laid;
    }

-- so no moment has two keys
pub one_key : (first : Memory) (g : Scope) → HasOneKey (model_of first g)
one_key first g key other m k l =
    moments_have_one_key first g m m key other refl refl (record { frames = refl; word = λ f i fi ii. refl }) k l

-- what is said of one menu is said of the same menu
pub told_at : (first : Memory) (s t : Menu) (m : Moment) (most limit : ℕ) (ws : List Witness) (count : ℕ) (v : Extent)
    → s ≡ t → IsTold (menu_model first s) m most limit ws count v → IsTold (menu_model first t) m most limit ws count v
told_at first s t m most limit ws count v same h =
    rw (← same) h
