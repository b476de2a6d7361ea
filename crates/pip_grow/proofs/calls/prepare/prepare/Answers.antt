use Rattle.std.proofs.Common.{[], ◌∙◌, ◌/◌, ap, arith, refl}
use Rattle.std.proofs.lemmas.Result.{err_from_is_err_and}
use Rattle.pip_model.specs.CountToMap.{count_refusals}
use Rattle.pip_model.specs.Prepare.{prepare, tree_with_table}
use Rattle.pip_model.proofs.Trees.Lookup.{found_is_name}
use Rattle.pip_model.proofs.Calls.Prepare.{prepare-sound}
use Rattle.pip_kern.proofs.Calls.{accepted-does, refusal-never_ok, refused-does}
use Rattle.pip_grow.specs.Chain.{chain_pages}
use Rattle.pip_kern.proofs.Climb.{part_node}
use Rattle.pip_grow.proofs.CountToMap.Call.{child_needs}
use Rattle.pip_grow.proofs.PrepareTable.Call.{can_prepare, chain-never_ok, counted_bounds, prepare-nothing}
use Rattle.pip_grow.proofs.PrepareTable.Call.{prepare-accepted, prepare-refused, prepare-page_refused}
use Rattle.pip_grow.proofs.calls.prepare.prepare.Goals as goal

pub returns-in_err-child-clause-does : goal.returns-in_err-child-clause-does
returns-in_err-child-clause-does g c =
    let p = err_from_is_err_and c.from_residual.result c.from_residual.ensures.1 in
    let a = c.args in
    let r = c.requires in
    let q = c.in_err-child.field-0.0 in
    rw (p.1, p.2) (
      refusal-never_ok (count_refusals r.tree a.caller a.d a.cv) q refl
          (c.in_err-child.ensures.child r.tree r.node r.sound r.laid r.found),
      refused-does a.caller (λ t. prepare t a.caller a.d a.cv a.first) (g.M.Frames.memory a.mem.now) q
          (λ t x s lays found.
          prepare-refused t a.caller a.d a.cv a.first q (c.in_err-child.ensures.child t x s lays found)),
    )

pub pages_needed-count-requires : goal.pages_needed-count-requires
pages_needed-count-requires g c =
    part_node (g.M.Frames.memory c.args.mem.now) c.in_ok-child.child c.in_ok-child.ensures.stands

pub returns-then-count-eq0-clause-does : goal.returns-then-count-eq0-clause-does
returns-then-count-eq0-clause-does g c =
    let a = c.args in
    let n = c.pages_needed-count.result in
    accepted-does a.caller (λ t. prepare t a.caller a.d a.cv a.first) 0 (λ t. t) (g.M.Frames.memory a.mem.now)
    (g.M.Frames.memory a.mem.now) refl
    (λ t x s lays found. prepare-nothing t a.caller a.d a.cv a.first c.in_ok-child.child n
    (c.in_ok-child.ensures.child t x s lays found) (child_needs t s (g.M.Frames.memory a.mem.now) lays a.caller a.d
    a.cv c.in_ok-child.child c.of_address-v.result n (c.in_ok-child.ensures.child t x s lays found).1
    c.of_address-v.ensures c.pages_needed-count.ensures.pages) c.if-count-eq0.true)
    (λ t x s lays found. prepare-sound t a.caller a.d a.cv a.first s (found_is_name t a.caller x found) (omega arith))
    (λ t x s lays found. lays)

pub check_chain-requires-clause-least : goal.check_chain-requires-clause-least
check_chain-requires-clause-least g c =
    let r = c.requires in
    let tested = c.in_ok-child.ensures.child r.tree r.node r.sound r.laid r.found in
    let needs = child_needs r.tree r.sound (g.M.Frames.memory c.args.mem.now) r.laid c.args.caller c.args.d c.args.cv
    c.in_ok-child.child c.of_address-v.result c.pages_needed-count.result tested.1 c.of_address-v.ensures
    c.pages_needed-count.ensures.pages in
    (counted_bounds r.tree c.args.caller c.args.d c.args.cv c.pages_needed-count.result needs c.if-count-eq0.false).0

pub check_chain-requires-clause-most : goal.check_chain-requires-clause-most
check_chain-requires-clause-most g c =
    let r = c.requires in
    let tested = c.in_ok-child.ensures.child r.tree r.node r.sound r.laid r.found in
    let needs = child_needs r.tree r.sound (g.M.Frames.memory c.args.mem.now) r.laid c.args.caller c.args.d c.args.cv
    c.in_ok-child.child c.of_address-v.result c.pages_needed-count.result tested.1 c.of_address-v.ensures
    c.pages_needed-count.ensures.pages in
    (counted_bounds r.tree c.args.caller c.args.d c.args.cv c.pages_needed-count.result needs c.if-count-eq0.false).1

pub returns-in_err-pages-clause-does : goal.returns-in_err-pages-clause-does
returns-in_err-pages-clause-does g c =
    let p = err_from_is_err_and c.from_residual-in_err-pages.result c.from_residual-in_err-pages.ensures.1 in
    let a = c.args in
    let r = c.requires in
    let n = c.pages_needed-count.result in
    let q = c.in_err-pages.field-0.0 in
    rw (p.1, p.2) (
      chain-never_ok r.tree a.caller n [] a.first q (c.in_err-pages.ensures.chain r.tree r.node r.sound r.laid r.found),
      refused-does a.caller (λ t. prepare t a.caller a.d a.cv a.first) (g.M.Frames.memory a.mem.now) q
          (λ t x s lays found.
          prepare-page_refused t a.caller a.d a.cv a.first c.in_ok-child.child n (c.in_ok-child.ensures.child t x s lays
          found) (child_needs t s (g.M.Frames.memory a.mem.now) lays a.caller a.d a.cv c.in_ok-child.child
          c.of_address-v.result n (c.in_ok-child.ensures.child t x s lays found).1 c.of_address-v.ensures
          c.pages_needed-count.ensures.pages) q (c.in_err-pages.ensures.chain t x s lays found)),
    )

pub give_table-requires-clause-can : goal.give_table-requires-clause-can
give_table-requires-clause-can g c =
    let r = c.requires in
    let tested = c.in_ok-child.ensures.child r.tree r.node r.sound r.laid r.found in
    let needs = child_needs r.tree r.sound (g.M.Frames.memory c.args.mem.now) r.laid c.args.caller c.args.d c.args.cv
    c.in_ok-child.child c.of_address-v.result c.pages_needed-count.result tested.1 c.of_address-v.ensures
    c.pages_needed-count.ensures.pages in
    record {
      stands = r;
      can = can_prepare r.tree c.args.caller c.args.d c.args.cv c.args.first c.in_ok-child.child
          c.pages_needed-count.result tested needs r.sound r.node r.found c.in_ok-pages.pages
          (c.in_ok-pages.ensures.chain r.tree r.node r.sound r.laid r.found) c.number.result
          (c.number.result / 1024) c.of_address-born.result
          c.number.ensures.small (c.number.ensures.same ∙ c.of_address-v.ensures) refl c.of_address-born.ensures;
    }

pub returns-clause-does : goal.returns-clause-does
returns-clause-does g c =
    let a = c.args in
    let n = c.pages_needed-count.result in
    let i = c.number.result / 1024 in
    accepted-does a.caller (λ t. prepare t a.caller a.d a.cv a.first) n
    (λ t. tree_with_table t c.in_ok-child.child i (chain_pages c.in_ok-pages.pages)) (g.M.Frames.memory a.mem.now)
    (g.M.Frames.memory c.give_table.new.mem) c.give_table.ensures.count
    (λ t x s lays found.
    prepare-accepted t a.caller a.d a.cv a.first c.in_ok-child.child n (c.in_ok-child.ensures.child t x s lays found)
    (child_needs t s (g.M.Frames.memory a.mem.now) lays a.caller a.d a.cv c.in_ok-child.child c.of_address-v.result
    n (c.in_ok-child.ensures.child t x s lays found).1 c.of_address-v.ensures c.pages_needed-count.ensures.pages)
    c.in_ok-pages.pages (c.in_ok-pages.ensures.chain t x s lays found) i
    (ap (λ k. k / 1024) (c.number.ensures.same ∙ c.of_address-v.ensures)))
    (λ t x s lays found. prepare-sound t a.caller a.d a.cv a.first s (found_is_name t a.caller x found) (omega arith))
    (λ t x s lays found.
    (c.give_table.ensures.tree t x s lays found
    (can_prepare t a.caller a.d a.cv a.first c.in_ok-child.child n (c.in_ok-child.ensures.child t x s lays found)
    (child_needs t s (g.M.Frames.memory a.mem.now) lays a.caller a.d a.cv c.in_ok-child.child c.of_address-v.result
    n (c.in_ok-child.ensures.child t x s lays found).1 c.of_address-v.ensures c.pages_needed-count.ensures.pages) s x
    found c.in_ok-pages.pages (c.in_ok-pages.ensures.chain t x s lays found) c.number.result i c.of_address-born.result
    c.number.ensures.small (c.number.ensures.same ∙ c.of_address-v.ensures) refl c.of_address-born.ensures)).1)

pub returns-clause-chain : goal.returns-clause-chain
returns-clause-chain g c t x s lays found =
    let a = c.args in
    let n = c.pages_needed-count.result in
    let gives = c.give_table.ensures.chain t x s lays found
    (can_prepare t a.caller a.d a.cv a.first c.in_ok-child.child n (c.in_ok-child.ensures.child t x s lays found)
    (child_needs t s (g.M.Frames.memory a.mem.now) lays a.caller a.d a.cv c.in_ok-child.child c.of_address-v.result
    n (c.in_ok-child.ensures.child t x s lays found).1 c.of_address-v.ensures c.pages_needed-count.ensures.pages) s x
    found c.in_ok-pages.pages (c.in_ok-pages.ensures.chain t x s lays found) c.number.result (c.number.result / 1024)
    c.of_address-born.result
    c.number.ensures.small (c.number.ensures.same ∙ c.of_address-v.ensures) refl c.of_address-born.ensures) in
    let child = c.in_ok-child.ensures.steps in
    let needs = c.pages_needed-count.ensures.steps in
    let tests = c.in_ok-pages.ensures.steps in
    omega (arith, gives, child, needs, tests)
