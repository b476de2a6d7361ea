-- Two searches of one image say the same.
use Rattle.std.proofs.Common.{◌≡◌, ℕ, suc, ◌<◌, List, [], ◌∷◌, ◌++◌, Option, refl, sym, ap₂, ◌∙◌, subst}
use Rattle.std.proofs.Common.{Bool, arith, false, true}
use Rattle.std.specs.Prelude.{codes, reverse}
use Rattle.pip_away.specs.Blind.{LeftOut, leaves_out}
use Rattle.pip_base.specs.Memory.{Memory}
use Rattle.pip_base.proofs.Memory.{same_words}
use Rattle.pip_every.specs.Again.{AreSaid, IsSaid, shown_line}
use Rattle.pip_every.specs.Away.{IsAwayReply, SayTheSame}
use Rattle.pip_every.proofs.Passing.{said_once}
use Rattle.pip_every.specs.declared.away.Away.{Away}
use Rattle.pip_every.specs.declared.away.Away.TheVariants as A
use Rattle.pip_every.specs.Moments.{Moment}
use Rattle.pip_every.specs.Comes.{AreComing, IsComing, own_classes}
use Rattle.pip_every.specs.Menus.{Menu, menu_model, usual_choices}
use Rattle.pip_every.specs.declared.again.Again.{Again}
use Rattle.pip_every.specs.declared.again.Again.TheVariants.{Can, Lost, Unknown}
use Rattle.pip_every.specs.declared.comes.Comes.{Comes}
use Rattle.pip_every.specs.declared.comes.Comes.TheVariants as C
use Rattle.pip_every.proofs.OneKey.{one_key}
use Rattle.pip_every.proofs.Usual.{told_usual}
use Rattle.pip_model.specs.Booted.{IsBooted}
use Rattle.pip_model.specs.Images.{Image, image_word}
use Rattle.pip_search.specs.Again.{IsLost}
use Rattle.pip_search.specs.Summary.{IsTold}
use Rattle.pip_search.specs.Systems.{Model}
use Rattle.pip_search.specs.Ways.{runs_of}
use Rattle.pip_search.specs.declared.searching.Extent.{Extent}
use Rattle.pip_search.specs.declared.searching.Extent.TheVariants.{Closed, Stopped, Within}
use Rattle.pip_search.specs.declared.ways.Run.{Run}
use Rattle.pip_search.proofs.Avoided.{not_avoided}
use Rattle.pip_search.proofs.Once.{no_later_both, says_once}
use Rattle.pip_search_commands.specs.AgainstLaw.{DifferInComing, EmptyMenusSayEvery, IsNoContradiction}
use Rattle.pip_search_commands.specs.SearchDues.{IsSearchedAgainst, begun_moment, image_menu, image_scope, most_choices}
use Rattle.pip_search_commands.specs.declared.start.Start.{Start}
use Rattle.pip_command_contracts.specs.EndsBy.{Response}
use Rattle.pip_search_commands.specs.EveryLaw.{SearchesSayOnce}
use Rattle.pip_command_contracts.specs.Planned.{lines_planned}
use Rattle.pip_search_commands.specs.EveryText.{again_front, again_text, away_text, away_words, comes_text}
use Rattle.pip_search_commands.specs.EveryText.{said_words, seen_words}
use Rattle.pip_search_commands.specs.MenuText.{MenuSaid, no_menu}

-- one memory boots with these words
pub same_first : (n : ℕ) (words : ℕ → ℕ → ℕ) (m k : Memory) → IsBooted n words m → IsBooted n words k → m ≡ k
same_first n words m k a b =
    same_words m k a.laid.shape b.laid.shape (a.laid.count ∙ sym b.laid.count)
    (λ f i less inside. let at = subst (λ c. f < c) a.laid.count less in
    cc (a.laid.word f i at inside, b.laid.word f i at inside))

-- ---- what is said of labels

module _ (m : Model) (n : ℕ) (s : m.State) (end : Extent) (cpus : ℕ) (ls : List ℕ) where
  words_once : (label : List ℕ) (a b : Again) → IsSaid m n s label end a → IsSaid m n s label end b
      → said_words cpus ls a ≡ said_words cpus ls b
  words_once label a b h k = go end a b h k
    where
      same_ways : (way other : List Run) (cs ds : List ℕ) → way ≡ reverse (runs_of cs) → other ≡ reverse (runs_of ds)
          → IsLost m n s label cs → IsLost m n s label ds → way ≡ other
      same_ways way other cs ds is also h k =
          rw (is, no_later_both cs ds (h.first ds k.can k.lost) (k.first cs h.can h.lost), ← also)

      go : (end : Extent) (a b : Again) → IsSaid m n s label end a → IsSaid m n s label end b
          → said_words cpus ls a ≡ said_words cpus ls b
      go (Closed depth) Can Can h k = refl
      go (Closed depth) Can (Lost way) h (cs, (is, k)) = absurd (k.lost (h cs k.can))
      go (Closed depth) Can Unknown h k = absurd k
      go (Closed depth) (Lost way) Can (cs, (is, h)) k = absurd (h.lost (k cs h.can))
      go (Closed depth) (Lost way) (Lost other) (cs, (is, h)) (ds, (also, k)) =
          rw (same_ways way.items other.items cs ds is also h k)
      go (Closed depth) (Lost way) Unknown h k = absurd k
      go (Closed depth) Unknown b h k = absurd h
      go (Within depth) a b h k = cc
      go (Stopped depth) a b h k = cc

  rest_said : (l : List ℕ) (labels : List (List ℕ)) (r : Again) (said : List Again)
      → AreSaid m n s (l ∷ labels) end (r ∷ said) → AreSaid m n s labels end said
  rest_said l labels r said h = record {
    count = omega arith;
    each = λ j line x at is. h.each (suc j) line x at is;
  }

  text_once : (labels : List (List ℕ)) (said other : List Again) → AreSaid m n s labels end said
      → AreSaid m n s labels end other → again_text cpus ls labels said ≡ again_text cpus ls labels other
  text_once [] said other h k = refl
  text_once (l ∷ labels) [] other h k = let c = h.count in absurd (omega arith)
  text_once (l ∷ labels) (a ∷ said) [] h k = let c = k.count in absurd (omega arith)
  text_once (l ∷ labels) (a ∷ said) (b ∷ other) h k =
      ap₂ (λ x y. (codes "again " ++ (l ++ x)) ++ y)
      (words_once (shown_line l) a b (h.each 0 l a refl refl) (k.each 0 l b refl refl))
      (text_once labels said other (rest_said l labels a said h) (rest_said l labels b other k))

-- ---- what is said of labels that may come

-- two that are so don't contradict each other
agree_once : (m : Model) (classes : List ℕ) (s : m.State) (label : List ℕ) (end : Extent) (a b : Comes)
    → IsComing m classes s label end a → IsComing m classes s label end b → IsNoContradiction a b
agree_once m classes s label (Closed depth) (C.Must counts) (C.Avoided way round) h k =
    not_avoided m classes s label k.before k.over counts.items h k.avoided
agree_once m classes s label (Closed depth) (C.Avoided way round) (C.Must counts) h k =
    not_avoided m classes s label h.before h.over counts.items k h.avoided
agree_once m classes s label (Closed depth) (C.Must counts) (C.Must others) h k = tt
agree_once m classes s label (Closed depth) (C.Must counts) C.Unknown h k = tt
agree_once m classes s label (Closed depth) (C.Avoided way round) (C.Avoided other turn) h k = tt
agree_once m classes s label (Closed depth) (C.Avoided way round) C.Unknown h k = tt
agree_once m classes s label (Closed depth) C.Unknown b h k = tt
agree_once m classes s label (Within depth) a b h k = rw h tt
agree_once m classes s label (Stopped depth) a b h k = rw h tt

-- ---- what is said of the words that are left out

same_words_away : (cpus : ℕ) (ls : List ℕ) (a b : Away) → SayTheSame a b → away_words cpus ls a ≡ away_words cpus ls b
same_words_away cpus ls A.Yes A.Yes h = refl
same_words_away cpus ls A.Unknown A.Unknown h = refl
same_words_away cpus ls (A.No way cpu) (A.No other k) (runs, one) = ap₂ (seen_words cpus ls) runs one
same_words_away cpus ls A.Yes (A.No way cpu) h = absurd h
same_words_away cpus ls A.Yes A.Unknown h = absurd h
same_words_away cpus ls A.Unknown A.Yes h = absurd h
same_words_away cpus ls A.Unknown (A.No way cpu) h = absurd h
same_words_away cpus ls (A.No way cpu) A.Yes h = absurd h
same_words_away cpus ls (A.No way cpu) A.Unknown h = absurd h

away_once : (first : Memory) (o : LeftOut) (g : Menu) (s : Moment) (cpus : ℕ) (ls : List ℕ) (end : Extent)
    (a b : Option Away) → IsAwayReply first o g s end a → IsAwayReply first o g s end b
    → away_text cpus ls a ≡ away_text cpus ls b
away_once first o g s cpus ls end a b h k = by_test (leaves_out o) refl
  where
    by_test : (t : Bool) → leaves_out o ≡ t → away_text cpus ls a ≡ away_text cpus ls b
    by_test true e =
        let (x, (is, said)) = h.asked e in
        let (y, (also, other)) = k.asked e in
        cc (same_words_away cpus ls x y (said_once first o g s end x y said other))
    by_test false e = cc (h.none e, k.none e)

-- an image and a menu have one text, but for what is said of labels that may come
pub searched_alike : (menu : MenuSaid) (states from : ℕ) (depth : Option ℕ) (start : Start) (i : Image) (v u : Response)
    → IsSearchedAgainst menu states from depth start i v → IsSearchedAgainst menu states from depth start i u
    → DifferInComing i menu v u
searched_alike menu states from depth start i v u a b =
    let words = image_word i.frames i.pages in
    let g = image_menu i from menu.may in
    let m = menu_model a.first g in
    let s = begun_moment i start in
    let first : b.first ≡ a.first = same_first i.frames words b.first a.first b.booted a.booted in
    let other : IsTold m s (most_choices depth) states b.found b.count b.verdict =
    rw (← first) b.told in
    let (ws, (count, verdict)) = says_once m (one_key a.first (image_scope i from)) s (most_choices depth) states
    a.count
    b.count a.found b.found a.verdict b.verdict a.told other in
    let said : AreSaid m (usual_choices g) s menu.again a.verdict b.again =
    rw verdict (subst (λ k. AreSaid (menu_model k g) (usual_choices g) s menu.again b.verdict b.again) first b.said) in
    let coming : AreComing m (own_classes (usual_choices g)) s menu.comes a.verdict b.comes =
    rw verdict (subst (λ k. AreComing (menu_model k g) (own_classes (usual_choices g)) s menu.comes b.verdict b.comes)
    first b.coming) in
    let lines : again_text i.cpus (lines_planned i.plans) menu.again a.again
    ≡ again_text i.cpus (lines_planned i.plans) menu.again b.again =
    text_once m (usual_choices g) s a.verdict i.cpus (lines_planned i.plans) menu.again a.again b.again a.said said in
    let front : again_front i a.found a.count a.verdict menu.again a.again
    ≡ again_front i b.found b.count b.verdict menu.again b.again =
    rw (ws, count, verdict, lines) in
    let looks : IsAwayReply a.first menu.out g s a.verdict b.away =
    rw verdict (subst (λ k. IsAwayReply k menu.out g s b.verdict b.away) first b.looks) in
    let away = away_once a.first menu.out g s i.cpus (lines_planned i.plans) a.verdict b.away a.away looks a.looks in
    let comes : List ℕ = comes_text i.cpus (lines_planned i.plans) menu.comes b.comes in
    record {
      front = again_front i a.found a.count a.verdict menu.again a.again;
      one = a.comes;
      other = b.comes;
      back = away_text i.cpus (lines_planned i.plans) a.away;
      first = a.text;
      second = cc (b.text);
      agree = λ j label x y at one two. agree_once m (own_classes (usual_choices g)) s (shown_line label) a.verdict x y
          (a.coming.each j label x at one) (coming.each j label y at two);
    }

-- where a menu asks of none they have one text
pub differ_in_none : (i : Image) (menu : MenuSaid) (v u : Response) → menu.comes ≡ [] → DifferInComing i menu v u
    → v ≡ u
differ_in_none i menu v u none d =
    let text : List Comes → List ℕ = comes_text i.cpus (lines_planned i.plans) menu.comes in
    let empty : (said : List Comes) → text said ≡ [] = λ said.
    rw none in
    cc (d.first, empty d.one, empty d.other, d.second)

pub searches_once : SearchesSayOnce
searches_once states from depth start i v u a b =
    differ_in_none i no_menu v u refl (searched_alike no_menu states from depth start i v u a b)

-- with a menu without deeds a search is told of turns and lines alone
pub told_every : EmptyMenusSayEvery
told_every menu states from depth start i v x none =
    told_usual x.first (image_scope i from) (begun_moment i start) (most_choices depth) states x.found x.count
    x.verdict (rw none at x.told)
