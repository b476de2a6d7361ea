use Rattle.std.proofs.Common.{◌≡◌, ℕ, ◌*◌, ◌^◌, ◌<◌, ◌≤◌, length, reverse, slice_index, subst}
use Rattle.std.proofs.Common.{rules, ◌+◌, arith}
use Rattle.pip_search.specs.Comes.{AreFalling, HasEach, PassesRanks, IsWalk, rank_at}
use Rattle.pip_search.specs.Keys.{visits_of}
use Rattle.pip_search.specs.Stages.{IsRankedOrLooped}
use Rattle.pip_search.proofs.Falling.{must_come}
use Rattle.pip_search.proofs.Looping.{are_falling, are_inside, is_avoided, said_after}
use Rattle.pip_search.proofs.Steps.{visit_count}
use Rattle.pip_search.proofs.coming.must_come.Goals as goal

pub returns-then-all_pass-clause-said : goal.returns-then-all_pass-clause-said
returns-then-all_pass-clause-said g c = λ x stands.
    let m = g.S.System.model (g.S.System.base c.args.system.now) in
    let z = c.args.search.now in
    let vs = visits_of z in
    let e = c.in_ok-targets.ensures in
    let targets = c.in_ok-targets.targets.items in
    let ranks = c.in_ok-ranks.ranks.ranks.items in
    let helpers = c.in_ok-ranks.ranks.helpers.items in
    let counts = c.in_ok-counts.counts.items in
    let columns = c.in-Some.columns in
    let classes = c.args.classes.now in
    let label = c.args.label.now in
    let all = visit_count z c.requires.closed.searching.keyed in
    let few : length vs < 2 ^ 32 = omega arith in
    let count : length targets ≡ length vs * m.choices = rw (e.count, ← all) in
    let passed : (e : ℕ) → e < length targets → PassesRanks classes ranks helpers columns m.choices targets e =
    rw (← c.count-width.ensures) (subst (λ ts. (e : ℕ) → e < length ts → PassesRanks classes ranks helpers columns
    c.count-width.result ts e) c.deref-4.ensures.value
    (subst (λ hs. (e : ℕ) → e < length c.deref-4.result.now → PassesRanks classes ranks hs columns c.count-width.result
    c.deref-4.result.now e) c.deref-3.ensures.value
    (subst (λ rs. (e : ℕ) → e < length c.deref-4.result.now → PassesRanks classes rs c.deref-3.result.now columns
    c.count-width.result c.deref-4.result.now e) c.deref-2.ensures.value (c.all_pass.ensures c.if-all_pass.true)))) in
    let own = c.in_ok-counts.ensures in
    let falling : AreFalling m vs label classes ranks helpers (length counts) =
    rw own.count (are_falling m vs label targets e.cut few classes ranks helpers columns count passed) in
    let low : (j d : ℕ) → d < length counts → rank_at ranks (length counts) j d ≤ slice_index counts d =
    rw own.count (subst (λ rs. (j d : ℕ) → d < columns → rank_at rs columns j d ≤ slice_index counts d)
    c.deref-then-all_pass.ensures.value own.most) in
    must_come m c.args.start.now z c.requires.closed label classes ranks helpers counts c.requires.some falling low x
    stands

pub returns-then-is_loop-clause-said : goal.returns-then-is_loop-clause-said
returns-then-is_loop-clause-said g c = λ x stands.
    let m = g.S.System.model (g.S.System.base c.args.system.now) in
    let z = c.args.search.now in
    let vs = visits_of z in
    let e = c.in_ok-targets.ensures in
    let targets = c.in_ok-targets.targets.items in
    let place = c.in_ok-ranks.ranks.place in
    let choices = c.in_ok-ranks.ranks.choices.items in
    let classes = c.args.classes.now in
    let label = c.args.label.now in
    let all = visit_count z c.requires.closed.searching.keyed in
    let few : length vs < 2 ^ 32 = omega arith in
    let own = c.is_loop.ensures in
    let yes = c.if-is_loop.true in
    let inside : place < c.len-count.result = own.place yes in
    let low : place < length z.visits.items = omega arith in
    let walk : IsWalk targets m.choices place (reverse choices) place =
    rw (← c.count-width.ensures) (subst (λ ts. IsWalk ts c.count-width.result place (reverse choices) place)
    c.deref-5.ensures.value (subst (λ cs. IsWalk c.deref-5.result.now c.count-width.result place (reverse cs) place)
    c.deref-6.ensures.value (own.walk yes))) in
    let some : 0 < length choices = rw (← c.deref-6.ensures.value) (own.some yes) in
    let each : HasEach classes choices = rw (← c.deref-6.ensures.value) (own.each yes) in (
      low,
      is_avoided m c.args.start.now z c.requires.closed label classes targets e.cut few place
          (omega arith) choices walk some each x stands,
    )

pub settle-requires-clause-places : goal.settle-requires-clause-places
settle-requires-clause-places g c =
    let n : c.len-count.result ≡ length c.args.search.now.visits.items = omega arith in
    rw (c.as_slice.ensures.value, n, c.count-width.ensures) c.in_ok-targets.ensures.count

pub settle-requires-clause-inside : goal.settle-requires-clause-inside
settle-requires-clause-inside g c =
    let m = g.S.System.model (g.S.System.base c.args.system.now) in
    let z = c.args.search.now in
    let vs = visits_of z in
    let e = c.in_ok-targets.ensures in
    let targets = c.in_ok-targets.targets.items in
    let all = visit_count z c.requires.closed.searching.keyed in
    let few : length vs < 2 ^ 32 = omega arith in
    let count : length targets ≡ length vs * m.choices = rw (e.count, ← all) in
    let is : length vs ≡ c.len-count.result = omega arith in
    rw c.as_slice.ensures.value (are_inside m vs c.args.label.now targets e.cut few c.len-count.result is count
    c.requires.some)

pub settle-requires-clause-columns : goal.settle-requires-clause-columns
settle-requires-clause-columns g c = λ k.
    let h : slice_index c.args.classes.now k ≤ c.highest.result = c.highest.ensures k in
    let more : c.in-Some.columns ≡ c.highest.result + 1 = search rules in
    omega arith

pub returns-clause-said : goal.returns-clause-said
returns-clause-said g c =
    let m = g.S.System.model (g.S.System.base c.args.system.now) in
    let z = c.args.search.now in
    let vs = visits_of z in
    let e = c.in_ok-targets.ensures in
    let targets = c.in_ok-targets.targets.items in
    let all = visit_count z c.requires.closed.searching.keyed in
    let few : length vs < 2 ^ 32 = omega arith in
    let count : length targets ≡ length vs * m.choices = rw (e.count, ← all) in
    let is : c.len-count.result ≡ length vs = omega arith in
    let settled : IsRankedOrLooped targets c.args.classes.now c.in-Some.columns m.choices (length vs)
    c.in_ok-settled.settled =
    rw c.as_slice.ensures.value at (rw c.count-width.ensures at (rw is at c.in_ok-settled.ensures)) in
    said_after m c.args.start.now z c.requires.closed c.args.label.now c.args.classes.now targets e.cut few count
    c.requires.some c.in-Some.columns c.in_ok-settled.settled settled c.said_by.result c.said_by.ensures
