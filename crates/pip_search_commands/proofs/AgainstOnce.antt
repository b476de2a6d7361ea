-- An input of `against` has one answer, and a search that closed names all that can be shown.
use Rattle.std.proofs.Common.{◌≡◌, ℕ, inl, inr, List, [], ◌∷◌, ◌++◌, Option, Some, Ok, Err, sym, ◌∙◌}
use Rattle.std.proofs.Common.{◌≢◌, ◌⊎◌, refl, subst, append-nil}
use Rattle.std.specs.Prelude.{Result, reverse}
use Rattle.pip_every.specs.Again.{IsSaid, shown_line}
use Rattle.pip_every.specs.Menus.{menu_model, usual_choices}
use Rattle.pip_every.specs.declared.again.Again.{Again}
use Rattle.pip_every.specs.declared.again.Again.TheVariants.{Can, Lost, Unknown}
use Rattle.pip_every.specs.Comes.{IsAvoidedBy, IsComing, own_classes}
use Rattle.pip_every.specs.declared.comes.Comes.{Comes}
use Rattle.pip_every.specs.declared.comes.Comes.TheVariants as C
use Rattle.pip_image.specs.Reading.{IsFaultWithin}
use Rattle.pip_model.specs.Images.{Image, image}
use Rattle.pip_model.specs.declared.image.ImageError.{ImageError}
use Rattle.pip_model.specs.declared.image.ImageError.TheVariants as F
use Rattle.pip_search.specs.Again.{CanComeAgain, IsLost}
use Rattle.pip_search.specs.Comes.{MustCome}
use Rattle.pip_search.specs.Reached.{IsCovered}
use Rattle.pip_search.specs.Systems.{Model}
use Rattle.pip_search.specs.Ways.{runs_of}
use Rattle.pip_search.specs.declared.ways.Run.{Run}
use Rattle.pip_search.specs.declared.searching.Extent.{Extent}
use Rattle.pip_search.specs.declared.searching.Extent.TheVariants.{Closed, Stopped, Within}
use Rattle.pip_search_commands.specs.AgainstLaw.{ClosedNamesMenus, InputsSayOnce, NoIsAvoided, NoIsLost, YesComes}
use Rattle.pip_search_commands.specs.AgainstLaw.{AsksComing, YesComesAgain, counts_said, loop_said, way_said}
use Rattle.pip_command_contracts.specs.ImageDues.{BeginsImage, IsFaultAnswer}
use Rattle.pip_search_commands.specs.SearchDues.{IsMenuAnswer, begun_moment, image_menu}
use Rattle.pip_command_contracts.specs.EndsBy.{Response}
use Rattle.pip_search_commands.specs.MenuText.{MenuSaid, menu_of}
use Rattle.pip_search_commands.specs.declared.commands.against.menu.MenuFault.{MenuFault}
use Rattle.pip_search_commands.specs.declared.start.Start.{Start}
use Rattle.pip_search_commands.proofs.EveryOnce.{differ_in_none, searched_alike}
use Rattle.pip_command_contracts.proofs.OneImage.{one_front, one_rest, too_long}

-- an image with a menu has no fault of its own
no_fault : (input : List ℕ) (e : ImageError) → image input ≡ Err e → IsFaultWithin e → BeginsImage input → ⊥
no_fault input e fault inside b = go b.after b.all
  where
    go : (after : List ℕ) → input ≡ b.front ++ after → ⊥
    go [] all =
        let z : ◌≡◌ {A = Result Image ImageError} (Err e) (Ok b.parsed) =
        rw (← fault, all, append-nil b.front, b.good) in
        absurd cc
    go (c ∷ after) all =
        let (at, long) = too_long b.front c after b.parsed b.good in
        let z : ◌≡◌ {A = Result Image ImageError} (Err e) (Err (F.Long at)) = rw (← fault, all, long) in
        let same : e ≡ F.Long at = cc in
        rw same at inside

faults_once : (input : List ℕ) (v u : Response) → IsFaultAnswer input v → IsFaultAnswer input u → v ≡ u
faults_once input v u a b =
    let z : ◌≡◌ {A = Result Image ImageError} (Err a.fault) (Err b.fault) = sym a.first ∙ b.first in
    let same : a.fault ≡ b.fault = cc in
    let both : Some v ≡ Some u =
    rw (← a.named, same, b.named) in
    cc

-- the labels of which it is asked whether they come: some, or none
cases_none : (ls : List (List ℕ)) → (ls ≡ []) ⊎ (ls ≢ [])
cases_none [] = inl refl
cases_none (l ∷ ls) = inr (λ e. absurd cc)

menus_once : (states from : ℕ) (depth : Option ℕ) (start : Start) (input : List ℕ) (b : BeginsImage input)
    (r : Result MenuSaid MenuFault) (v u : Response) → menu_of b.after ≡ r
    → IsMenuAnswer states from depth start b.parsed r v → IsMenuAnswer states from depth start b.parsed r u
    → (v ≡ u) ⊎ AsksComing input v u
menus_once states from depth start input b (Ok menu) v u is h k =
    let d = searched_alike menu states from depth start b.parsed v u h k in
    elim (cases_none menu.comes) [
      | inl none ↦ inl (differ_in_none b.parsed menu v u none d)
      | inr some ↦ inr (record { begins = b; menu = menu; read = is; some = some; differ = d })
    ]
menus_once states from depth start input b (Err fault) v u is h k = inl (cc)

pub inputs_say_once : InputsSayOnce
inputs_say_once states from depth start input v u (inl a) (inl b) = inl (faults_once input v u a b)
inputs_say_once states from depth start input v u (inl a) (inr b) =
    absurd (no_fault input a.fault a.first a.inside b.0)
inputs_say_once states from depth start input v u (inr a) (inl b) =
    absurd (no_fault input b.fault b.first b.inside a.0)
inputs_say_once states from depth start input v u (inr (x, a)) (inr (y, b)) =
    let front : y.front ≡ x.front =
    one_front y.front x.front y.after x.after y.parsed x.parsed (sym y.all ∙ x.all) y.good x.good in
    let after : y.after ≡ x.after =
    one_rest x.front y.after x.after (cc (y.all, x.all)) in
    let z : ◌≡◌ {A = Result Image ImageError} (Ok y.parsed) (Ok x.parsed) = rw (← y.good, front, x.good) in
    let image_is : y.parsed ≡ x.parsed = cc in
    menus_once states from depth start input x (menu_of x.after) v u refl a
    (rw (← image_is) (subst (λ bs. IsMenuAnswer states from depth start y.parsed (menu_of bs) u) after b))

pub closed_names_menus : ClosedNamesMenus
closed_names_menus menu states from depth most start i v s closed label choices some shown =
    let w = s.told.all label choices shown some (covered _ s.verdict closed) in
    search
  where
    covered : (k : ℕ) (d : Extent) → d ≡ Closed depth → IsCovered d k
    covered k d e = rw e tt

-- ---- what is said of labels

module _ (m : Model) (n : ℕ) (s : m.State) (label : List ℕ) where
  can_again : (end : Extent) → IsSaid m n s label end Can → CanComeAgain m n s label
  can_again (Closed depth) h = h
  can_again (Within depth) h = cc
  can_again (Stopped depth) h = cc

  lost_after : (end : Extent) (r : Again) (runs : List Run) → way_said r ≡ Some runs → IsSaid m n s label end r
      → (way : List ℕ) × ((runs ≡ reverse (runs_of way)) × IsLost m n s label way)
  lost_after end Can runs said h = cc
  lost_after end Unknown runs said h = cc
  lost_after (Closed depth) (Lost way) runs said (cs, (is, h)) =
      let same : way.items ≡ runs = cc in (cs, (cc, h))
  lost_after (Within depth) (Lost way) runs said h = cc
  lost_after (Stopped depth) (Lost way) runs said h = cc

pub yes_comes_again : YesComesAgain
yes_comes_again menu states from most start i v s j label at is =
    can_again (menu_model s.first (image_menu i from menu.may)) (usual_choices (image_menu i from menu.may))
    (begun_moment i start) (shown_line label) s.verdict (s.said.each j label Can at is)

pub no_is_lost : NoIsLost
no_is_lost menu states from most start i v s j label r runs at is said =
    lost_after (menu_model s.first (image_menu i from menu.may)) (usual_choices (image_menu i from menu.may))
    (begun_moment i start) (shown_line label) s.verdict r runs said (s.said.each j label r at is)

module _ (m : Model) (classes : List ℕ) (s : m.State) (label : List ℕ) where
  must_come : (end : Extent) (r : Comes) (counts : List ℕ) → counts_said r ≡ Some counts
      → IsComing m classes s label end r → MustCome m classes s label counts
  must_come (Closed depth) (C.Must found) counts said h = let same : found.items ≡ counts = cc in
      rw (← same) h
  must_come end (C.Avoided way round) counts said h = cc
  must_come end C.Unknown counts said h = cc
  must_come (Within depth) (C.Must found) counts said h = cc
  must_come (Stopped depth) (C.Must found) counts said h = cc

  avoided_by : (end : Extent) (r : Comes) (way round : List Run) → loop_said r ≡ Some (way, round)
      → IsComing m classes s label end r → IsAvoidedBy m classes s label way round
  avoided_by (Closed depth) (C.Avoided own over) way round said h =
      let both : ◌≡◌ {A = List Run × List Run} (own.items, over.items) (way, round) = cc in
      subst (λ p. IsAvoidedBy m classes s label p.0 p.1) both h
  avoided_by end (C.Must counts) way round said h = cc
  avoided_by end C.Unknown way round said h = cc
  avoided_by (Within depth) (C.Avoided own over) way round said h = cc
  avoided_by (Stopped depth) (C.Avoided own over) way round said h = cc

pub yes_comes : YesComes
yes_comes menu states from most start i v s j label r counts at is said =
    must_come (menu_model s.first (image_menu i from menu.may))
    (own_classes (usual_choices (image_menu i from menu.may))) (begun_moment i start) (shown_line label) s.verdict r
    counts said (s.coming.each j label r at is)

pub no_is_avoided : NoIsAvoided
no_is_avoided menu states from most start i v s j label r way round at is said =
    avoided_by (menu_model s.first (image_menu i from menu.may))
    (own_classes (usual_choices (image_menu i from menu.may))) (begun_moment i start) (shown_line label) s.verdict r
    way round said (s.coming.each j label r at is)
