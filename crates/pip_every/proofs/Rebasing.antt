-- What a search says of a moment doesn't depend on the memory with which its keys compare.
use Rattle.std.proofs.Common.{◌≡◌, ℕ, List, length, refl, sym}
use Rattle.pip_base.specs.Memory.{IsMemory, Memory}
use Rattle.pip_every.specs.Changes.{changes}
use Rattle.pip_search.specs.Summary.{IsTold, Witness}
use Rattle.pip_search.specs.declared.searching.Extent.{Extent}
use Rattle.pip_every.specs.Keys.{IsKeyOf, key_words}
use Rattle.pip_every.specs.Menus.{Menu, menu_model}
use Rattle.pip_every.specs.Moments.{Moment, Scope}
use Rattle.pip_every.proofs.Keying.{HasParts, parts}
use Rattle.pip_every.proofs.OneKey.{all_once, one_key, one_memory}
use Rattle.pip_every.proofs.Rekeyed.{TellAlike, rekeyed}

-- some moment has the one key where a is the first memory, and the other where b is
pub record ArePartners (a b : Memory) (g : Scope) (key other : List ℕ) : Type 0 where
  pub moment : Moment
  pub one : IsKeyOf a g key moment
  pub two : IsKeyOf b g other moment

-- then each moment that has the one has the other
pub carried : (a b : Memory) (g : Scope) (key other : List ℕ) (n : Moment) → IsMemory a → length a ≡ length b
    → ArePartners a b g key other → IsKeyOf a g key n → IsKeyOf b g other n
carried a b g key other n shape count p l =
    let m : Moment = p.moment in
    let k = p.one in
    let x : HasParts a key g.cpus m k.memory = parts a g key m shape k in
    let y : HasParts a key g.cpus n l.memory = parts a g key n shape l in
    let once : (m.world.cpus ≡ n.world.cpus) × (changes a k.memory ≡ changes a l.memory) =
    all_once m.world.cpus n.world.cpus _ g.cpus (changes a k.memory) (changes a l.memory) x.begins y.begins in
    let memory : k.memory ≡ l.memory = rw (← x.same, once.1, y.same) in
    let here : p.two.memory ≡ k.memory = one_memory m.world.tree m.world.tree p.two.memory k.memory
    (record { frames = refl; word = λ f i fi ii. refl }) p.two.stands.shows.laid k.stands.shows.laid in
    record {
      memory = l.memory;
      stands = l.stands;
      frames = cc (l.frames);
      cpus = l.cpus;
      whole = rw (p.two.whole, ← x.turns, y.turns, once.0, here, memory);
    }

-- each moment with a key where a is the first memory has one where b is
pub has_partner : (a b : Memory) (g : Scope) (key : List ℕ) (m : Moment) → length a ≡ length b → IsKeyOf a g key m
    → (other : List ℕ) × IsKeyOf b g other m
has_partner a b g key m count k = (
  key_words b m.turns m.world.cpus k.memory,
  record { memory = k.memory; stands = k.stands; frames = cc (k.frames); cpus = k.cpus; whole = refl },
)

-- so keys tell moments apart alike
told_alike : (a b : Memory) (g : Menu) → IsMemory a → IsMemory b → length a ≡ length b
    → TellAlike (menu_model a g) (IsKeyOf a g.scope) (IsKeyOf b g.scope)
told_alike a b g of_a of_b same = record {
  on = λ key other m n k l h. carried a b g.scope key other n of_a same (record { moment = m; one = k; two = l }) h;
  back = λ key other m n k l h. carried b a g.scope other key n of_b (sym same)
      (record { moment = m; one = l; two = k }) h;
  some = λ key m k. has_partner a b g.scope key m same k;
  one = one_key a g.scope;
}

-- what is told where the keys compare with one memory is told where they compare with another
pub rebased : (a b : Memory) (g : Menu) (s : Moment) (most limit : ℕ) (ws : List Witness) (count : ℕ) (v : Extent)
    → IsMemory a → IsMemory b → length a ≡ length b → IsTold (menu_model a g) s most limit ws count v
    → IsTold (menu_model b g) s most limit ws count v
rebased a b g s most limit ws count v of_a of_b same h =
    rekeyed (menu_model a g) (IsKeyOf a g.scope) (IsKeyOf b g.scope) (told_alike a b g of_a of_b same) s most limit ws
    count v h
