-- What is said of whether all outside looks away, from the visits that pass and the first that doesn't.
use Rattle.std.proofs.Common.{◌≡◌, ℕ, ◌+◌, ◌<◌, Bool, inl, inr, true, false, List, length, Some, slice_get}
use Rattle.std.proofs.Common.{Option, refl, arith}
use Rattle.std.proofs.lemmas.Bool.{cases_lt}
use Rattle.pip_away.specs.Blind.{LeftOut, sight_in, leaves_out}
use Rattle.pip_base.specs.Memory.{Memory}
use Rattle.pip_model.specs.Worlds.{World}
use Rattle.pip_search.specs.Again.{HasClosed}
use Rattle.pip_search.specs.Keys.{Keyed, key_of, visits_of}
use Rattle.pip_search.specs.Reached.{AreChoices}
use Rattle.pip_search.specs.Ways.{way_to}
use Rattle.pip_search.specs.declared.searching.Extent.{Extent}
use Rattle.pip_search.specs.declared.searching.Extent.TheVariants.{Closed, Stopped, Within}
use Rattle.pip_search.specs.declared.searching.Search.{Search}
use Rattle.pip_search.proofs.Once.{no_later_both}
use Rattle.pip_search.proofs.Places.{get-below}
use Rattle.pip_search.proofs.Placing.{none_before, way_there, wherever}
use Rattle.pip_every.specs.Away.{IsAwayReply, IsAwaySaid, IsSeenFirst, ReplyTheSame, SayTheSame, looks_away}
use Rattle.pip_every.specs.Away.{passes_after}
use Rattle.pip_every.specs.Keys.{IsKeyOf}
use Rattle.pip_every.specs.Menus.{Menu, menu_model}
use Rattle.pip_every.specs.Moments.{Moment}
use Rattle.pip_every.specs.Passing.{IsFirstToFail, PassBefore, PassesUpTo}
use Rattle.pip_every.specs.declared.away.Away.{Away}
use Rattle.pip_every.specs.declared.away.Away.TheVariants.{No, Unknown, Yes}

-- one processor more
pub passes_more : (o : LeftOut) (g : Menu) (w : World) (n : ℕ) → PassesUpTo o g w n
    → looks_away o.own (sight_in o) g w n ≡ true → PassesUpTo o g w (n + 1)
passes_more o g w n before here j low = elim (cases_lt j n) [
  | inl less ↦ before j less
  | inr most ↦ let is : n ≡ j = omega arith in
      simp (← is) here
]

module _ (first : Memory) (o : LeftOut) (g : Menu) where
  -- one visit more
  pub visit_more : (vs : List Keyed) (n : ℕ) → PassBefore first o g vs n
      → ((u : Keyed) (m : Moment) → slice_get vs n ≡ Some u → IsKeyOf first g.scope (key_of u) m
      → PassesUpTo o g m.world g.scope.cpus) → PassBefore first o g vs (n + 1)
  visit_more vs n before here j u m low at own = elim (cases_lt j n) [
    | inl less ↦ before j u m less at own
    | inr most ↦ let is : j ≡ n = omega arith in here u m (rw (← is, at)) own
  ]

  module _ (start : List ℕ) (z : Search) (h : HasClosed (menu_model first g) start z) (s : Moment)
      (stands : IsKeyOf first g.scope start s) where
    -- all visits pass
    pub all_pass : PassBefore first o g (visits_of z) (length (visits_of z)) → (cs : List ℕ) (cpu : ℕ)
        → AreChoices (menu_model first g) cs → cpu < g.scope.cpus → passes_after first o g s cs cpu ≡ true
    all_pass all cs cpu can low = wherever (menu_model first g) start z h s stands
        (λ m. PassesUpTo o g m.world g.scope.cpus)
        (λ j u m at own. all j u m (get-below (visits_of z) j u at) at own) cs can cpu low

    -- this one is the first that doesn't
    pub one_fails : (place cpu : ℕ) → IsFirstToFail first o g (visits_of z) place cpu
        → IsSeenFirst first o g s (way_to z.visits.items place) cpu
    one_fails place cpu f =
        let (can, own) = way_there (menu_model first g) start z h s stands place f.visit f.at in
        let here = f.fails _ own in
        record {
          can = can;
          cpu = here.cpu;
          seen = here.seen;
          least = here.least;
          first = λ ds j can low off. none_before (menu_model first g) start z h s stands place f.visit f.at
              (λ m. PassesUpTo o g m.world g.scope.cpus) (λ k v m less at own. f.before k v m less at own) ds can
              (λ all. cc (all j low, off));
        }

-- what is said doesn't depend on the memory with which keys compare
seen_rebased : (a b : Memory) (o : LeftOut) (g : Menu) (s : Moment) (cs : List ℕ) (k : ℕ) → IsSeenFirst a o g s cs k
    → IsSeenFirst b o g s cs k
seen_rebased a b o g s cs k h = assumption

said_rebased : (a b : Memory) (o : LeftOut) (g : Menu) (s : Moment) (end : Extent) (r : Away)
    → IsAwaySaid a o g s end r → IsAwaySaid b o g s end r
said_rebased a b o g s (Closed depth) Yes h = h
said_rebased a b o g s (Closed depth) (No way cpu) (cs, (is, h)) = (cs, (is, seen_rebased a b o g s cs cpu h))
said_rebased a b o g s (Closed depth) Unknown h = h
said_rebased a b o g s (Within depth) r h = h
said_rebased a b o g s (Stopped depth) r h = h

pub rebased_away : (a b : Memory) (o : LeftOut) (g t : Menu) (s : Moment) (end : Extent) (r : Option Away) → g ≡ t
    → IsAwayReply a o g s end r → IsAwayReply b o t s end r
rebased_away a b o g t s end r same h = rw (← same)
    (record {
      asked = λ on. let (x, (is, said)) = h.asked on in (x, (is, said_rebased a b o g s end x said));
      none
          = h.none;
    })

-- ---- an answer is fixed

module _ (first : Memory) (o : LeftOut) (g : Menu) (s : Moment) where
  -- a state that fails where all pass
  no_both : (cs : List ℕ) (k : ℕ) → IsSeenFirst first o g s cs k
      → ((ds : List ℕ) (j : ℕ) → AreChoices (menu_model first g) ds → j < g.scope.cpus
      → passes_after first o g s ds j ≡ true) → ⊥
  no_both cs k h all = cc (all cs k h.can h.cpu, h.seen)

  same_cpu : (cs : List ℕ) (k j : ℕ) → IsSeenFirst first o g s cs k → IsSeenFirst first o g s cs j → k < j → ⊥
  same_cpu cs k j a b low = cc (b.least k low, a.seen)

  one_seen : (cs ds : List ℕ) (k j : ℕ) → IsSeenFirst first o g s cs k → IsSeenFirst first o g s ds j
      → (cs ≡ ds) × (k ≡ j)
  one_seen cs ds k j a b =
      let ways : cs ≡ ds = no_later_both cs ds (a.first ds j b.can b.cpu b.seen) (b.first cs k a.can a.cpu a.seen) in
      let c : IsSeenFirst first o g s ds k = rw (← ways) a in (
        ways,
        elim (cases_lt k j) [
          | inl less ↦ absurd (same_cpu ds k j c b less)
          | inr most ↦ elim (cases_lt j k) [
            | inl less ↦ absurd (same_cpu ds j k b c less)
            | inr least ↦ omega arith
          ]
        ],
      )

  pub said_once : (end : Extent) (a b : Away) → IsAwaySaid first o g s end a → IsAwaySaid first o g s end b
      → SayTheSame a b
  said_once (Closed depth) Yes Yes h k = tt
  said_once (Closed depth) Yes (No way cpu) h (cs, (is, k)) = no_both cs cpu k h
  said_once (Closed depth) (No way cpu) Yes (cs, (is, h)) k = no_both cs cpu h k
  said_once (Closed depth) (No way cpu) (No other j) (cs, (is, h)) (ds, (also, k)) =
      let (ways, cpus) = one_seen cs ds cpu j h k in
      (rw (is, ways, ← also), cpus)
  said_once (Within depth) Unknown Unknown h k = tt
  said_once (Stopped depth) Unknown Unknown h k = tt
  said_once (Closed depth) Unknown b h k = absurd h
  said_once (Closed depth) a Unknown h k = absurd k
  said_once (Within depth) Yes b h k = absurd cc
  said_once (Within depth) (No way cpu) b h k = absurd cc
  said_once (Within depth) a Yes h k = absurd cc
  said_once (Within depth) a (No way cpu) h k = absurd cc
  said_once (Stopped depth) Yes b h k = absurd cc
  said_once (Stopped depth) (No way cpu) b h k = absurd cc
  said_once (Stopped depth) a Yes h k = absurd cc
  said_once (Stopped depth) a (No way cpu) h k = absurd cc

  pub replies_once : (end : Extent) (a b : Option Away) → IsAwayReply first o g s end a → IsAwayReply first o g s end b
      → ReplyTheSame a b
  replies_once end a b h k = go (leaves_out o) refl
    where
      go : (c : Bool) → leaves_out o ≡ c → ReplyTheSame a b
      go true e =
          let (x, (is, said)) = h.asked e in
          let (y, (also, other)) = k.asked e in
          rw (is, also) (said_once end x y said other)
      go false e = rw (h.none e, k.none e) tt
