-- What is known of a world is determined.
use Rattle.std.proofs.Common.{◌≡◌, ℕ, List, [], ◌∷◌, length, map, refl, sym, ap, ap₂, ◌∙◌, subst, arith}
use Rattle.std.specs.List.{AllByRecursion}
use Rattle.pip_base.specs.Memory.{IsMemory, Memory}
use Rattle.pip_model.specs.Worlds.{World}
use Rattle.pip_search.specs.Reached.{IsCovered}
use Rattle.pip_search.specs.Summary.{IsTold, Witness}
use Rattle.pip_search.specs.declared.searching.Extent.{Extent}
use Rattle.pip_search.specs.declared.searching.Extent.TheVariants.{Closed, Stopped, Within}
use Rattle.pip_search.proofs.Once.{says_once}
use Rattle.pip_every.proofs.Rebasing.{carried, has_partner}
use Rattle.pip_every.proofs.Rekeyed.{TellAlike, rekeyed}
use Rattle.pip_apart.specs.Alone.{guest_model, turns_scope}
use Rattle.pip_apart.specs.Found.{GuestAlone, IsFoundAt, KnownOnce}
use Rattle.pip_apart.specs.Searches.{IsGuestKey}
use Rattle.pip_apart.specs.Tops.{processors_of}
use Rattle.pip_apart.proofs.Telling.{guests_have_one_key}

-- ---- whatever frames the keys compare with

told_alike : (a b : Memory) (n p : ℕ) (cpus : List ℕ) → IsMemory a → IsMemory b → length a ≡ length b
    → TellAlike (guest_model a n p cpus) (IsGuestKey a n) (IsGuestKey b n)
told_alike a b n p cpus of_a of_b same = record {
  on = λ key other v w k l h. carried a b (turns_scope n) key other (record { world = w; turns = 0 }) of_a same
      (record { moment = record { world = v; turns = 0 }; one = k; two = l }) h;
  back = λ key other v w k l h. carried b a (turns_scope n) other key (record { world = w; turns = 0 }) of_b (sym same)
      (record { moment = record { world = v; turns = 0 }; one = l; two = k }) h;
  some = λ key w k. has_partner a b (turns_scope n) key (record { world = w; turns = 0 }) same k;
  one = guests_have_one_key a n p cpus;
}

-- ---- one guest

-- no choice is covered by every search
none_covered : (e : Extent) → IsCovered e 0
none_covered (Closed depth) = tt
none_covered (Within depth) = omega arith
none_covered (Stopped depth) = omega arith

-- what is searched of a world compares with as many frames as the world has
as_many : (first : Memory) (n p : ℕ) (cpus : List ℕ) (w : World) (most limit count : ℕ) (ws : List Witness) (e : Extent)
    → IsTold (guest_model first n p cpus) w most limit ws count e → length first ≡ w.tree.frames
as_many first n p cpus w most limit count ws e told =
    let k = (told.counted.all [] tt (none_covered e)).stands in
    sym k.frames ∙ k.stands.shows.laid.count

guest_once : (a b : Memory) (w : World) (most limit : ℕ) (g h : GuestAlone) → IsMemory a → IsMemory b → g.top ≡ h.top
    → IsFoundAt a w most limit g → IsFoundAt b w most limit h → g ≡ h
guest_once a b w most limit g h of_a of_b top f k =
    let n = length w.cpus in
    let cpus : g.cpus ≡ h.cpus = rw (f.cpus, top, ← k.cpus) in
    let here : IsTold (guest_model b n g.top g.cpus) w most limit h.lines h.count h.end =
    rw top (subst (λ cs. IsTold (guest_model b n h.top cs) w most limit h.lines h.count h.end) (sym cpus) k.told) in
    let same : length b ≡ length a = cc (
      as_many b n g.top g.cpus w most limit h.count h.lines h.end here,
      as_many a n
          g.top g.cpus w most limit g.count g.lines g.end f.told,
    ) in
    let there : IsTold (guest_model a n g.top g.cpus) w most limit h.lines h.count h.end =
    rekeyed (guest_model b n g.top g.cpus) (IsGuestKey b n) (IsGuestKey a n)
    (told_alike b a n g.top g.cpus of_b of_a same) w most limit h.lines h.count h.end here in
    let (lines, (count, end)) = says_once (guest_model a n g.top g.cpus) (guests_have_one_key a n g.top g.cpus) w most
    limit g.count h.count g.lines h.lines g.end h.end f.told there in
    rw (top, cpus, lines, count, end)

-- ---- all guests

guests_once : (a b : Memory) (w : World) (most limit : ℕ) (gs hs : List GuestAlone) → IsMemory a → IsMemory b
    → map (λ g. g.top) gs ≡ map (λ g. g.top) hs → AllByRecursion (IsFoundAt a w most limit) gs
    → AllByRecursion (IsFoundAt b w most limit) hs → gs ≡ hs
guests_once a b w most limit [] [] of_a of_b same f k = refl
guests_once a b w most limit [] (h ∷ hs) of_a of_b same f k = cc
guests_once a b w most limit (g ∷ gs) [] of_a of_b same f k = cc
guests_once a b w most limit (g ∷ gs) (h ∷ hs) of_a of_b same f k =
    let top : g.top ≡ h.top = cc in
    let others : map (λ g. g.top) gs ≡ map (λ g. g.top) hs = cc in
    ap₂ (λ x xs. x ∷ xs) (guest_once a b w most limit g h of_a of_b top f.0 k.0)
    (guests_once a b w most limit gs hs of_a of_b others f.1 k.1)

pub known_once : KnownOnce
known_once w most limit j k f g =
    let guests : j.guests ≡ k.guests = guests_once f.found.first g.found.first w most limit j.guests k.guests
    f.found.shape g.found.shape (f.found.tops_are ∙ sym g.found.tops_are) f.found.each g.found.each in
    rw (guests, f.root_is, ← g.root_is, f.line_is, ← g.line_is)
