use Rattle.std.proofs.Common.{◌∙◌, ◌+◌, ◌/◌, ap, arith, refl, sym}
use Rattle.std.proofs.lemmas.Result.{err_from_is_err_and}
use Rattle.pip_model.specs.Collect.{collect}
use Rattle.pip_model.specs.CountToMap.{count_refusals}
use Rattle.pip_model.proofs.Trees.Depth.{depth, depth_few, few_nodes}
use Rattle.pip_kern.proofs.Calls.{refusal-never_ok, refused-does}
use Rattle.pip_grow.proofs.CollectTable.Call.{can_collect, collects_in, few_slots, is_first, collect-refused}
use Rattle.pip_grow.proofs.CollectTable.Call.{collect-table_refused}
use Rattle.pip_grow.proofs.CollectTable.Call.{table-never_ok, collect-tree}
use Rattle.pip_grow.proofs.calls.collect.collect.Goals as goal

pub returns-in_err-child-clause-does : goal.returns-in_err-child-clause-does
returns-in_err-child-clause-does g c =
    let p = err_from_is_err_and c.from_residual.result c.from_residual.ensures.1 in
    let a = c.args in
    let r = c.requires in
    let q = c.in_err-child.field-0.0 in
    rw (p.1, p.2) (
      refusal-never_ok (count_refusals r.tree a.caller a.d a.cv) q refl
          (c.in_err-child.ensures.child r.tree r.node r.sound r.laid r.found),
      refused-does a.caller (λ t. collect t a.caller a.d a.cv) (g.M.Frames.memory a.mem.now) q
          (λ t x s lays found. collect-refused t a.caller a.d a.cv q (c.in_err-child.ensures.child t x s lays found)),
    )

pub returns-in_err-check_empty-clause-does : goal.returns-in_err-check_empty-clause-does
returns-in_err-check_empty-clause-does g c =
    let p =
    err_from_is_err_and c.from_residual-in_err-check_empty.result c.from_residual-in_err-check_empty.ensures.1 in
    let a = c.args in
    let r = c.requires in
    let m = g.M.Frames.memory a.mem.now in
    let q = c.in_err-check_empty.field-0.0 in
    let child = c.in_ok-child.child in
    let i = c.number-i.result / 1024 in
    let i_is = ap (λ k. k / 1024) (c.number-i.ensures.same ∙ c.of_address.ensures) in
    rw (p.1, p.2) (
      table-never_ok r.tree a.caller a.d a.cv r.sound m r.laid child
          (c.in_ok-child.ensures.child r.tree r.node r.sound r.laid r.found) i i_is q
          c.in_err-check_empty.ensures.tested,
      refused-does a.caller (λ t. collect t a.caller a.d a.cv) m q (λ t x s lays found. collect-table_refused t a.caller
          a.d a.cv s m lays child (c.in_ok-child.ensures.child t x s lays found) i i_is q
          c.in_err-check_empty.ensures.tested),
    )

pub take_table-requires-clause-can : goal.take_table-requires-clause-can
take_table-requires-clause-can g c =
    let r = c.requires in
    let i = c.number-i.result / 1024 in
    let i_is = ap (λ k. k / 1024) (c.number-i.ensures.same ∙ c.of_address.ensures) in
    record {
      stands = r;
      can = can_collect r.tree c.args.caller c.args.d c.args.cv r.sound (g.M.Frames.memory c.args.mem.now) r.laid
          c.in_ok-child.child (c.in_ok-child.ensures.child r.tree r.node r.sound r.laid r.found) i i_is
          c.in_ok-check_empty.ensures.tested;
    }

pub returns-clause-does : goal.returns-clause-does
returns-clause-does g c =
    let a = c.args in
    let m = g.M.Frames.memory a.mem.now in
    let child = c.in_ok-child.child in
    let i = c.number-i.result / 1024 in
    let i_is = ap (λ k. k / 1024) (c.number-i.ensures.same ∙ c.of_address.ensures) in
    record {
      answer = λ t x s lays found.
          let k = is_first t a.caller a.d a.cv s m lays child (c.in_ok-child.ensures.child t x s lays found) i i_is
          c.in_ok-check_empty.ensures.tested c.take_table.result
          (c.take_table.ensures.tree t x s lays found (can_collect t a.caller a.d a.cv s m lays child
          (c.in_ok-child.ensures.child t x s lays found) i i_is c.in_ok-check_empty.ensures.tested)).0 in
          (sym k.0, sym k.1);
      tree = λ t x s lays found.
          let done = c.take_table.ensures.tree t x s lays found (can_collect t a.caller a.d a.cv s m lays child
          (c.in_ok-child.ensures.child t x s lays found) i i_is c.in_ok-check_empty.ensures.tested) in
          collect-tree t a.caller a.d a.cv s m lays child (c.in_ok-child.ensures.child t x s lays found) i i_is
          c.in_ok-check_empty.ensures.tested (g.M.Frames.memory c.take_table.new.mem) done.1;
      refused = λ ne. absurd (ne refl);
      count = c.take_table.ensures.count;
    }

pub returns-clause-chain : goal.returns-clause-chain
returns-clause-chain g c t x s lays found =
    let a = c.args in
    let m = g.M.Frames.memory a.mem.now in
    let i_is = ap (λ k. k / 1024) (c.number-i.ensures.same ∙ c.of_address.ensures) in
    let takes = c.take_table.ensures.chain t x s lays found (can_collect t a.caller a.d a.cv s m lays
    c.in_ok-child.child
    (c.in_ok-child.ensures.child t x s lays found) (c.number-i.result / 1024) i_is c.in_ok-check_empty.ensures.tested)
    in
    let child = c.in_ok-child.ensures.steps in
    let tests = c.in_ok-check_empty.ensures.steps in
    let all = collects_in t a.caller a.d a.cv s m lays c.in_ok-child.child
    (c.in_ok-child.ensures.child t x s lays found) (c.number-i.result / 1024) i_is c.in_ok-check_empty.ensures.tested
    (a.steps.now + 106) c.take_table.new.steps (omega (arith, takes, child, tests)) in
    omega (arith, all)

pub returns-clause-steps : goal.returns-clause-steps
unfolding depth
returns-clause-steps g c =
    let a = c.args in
    let r = c.requires in
    let so = returns-clause-chain g c r.tree r.node r.sound r.laid r.found in
    let slots = few_slots r.tree a.caller a.d a.cv r.sound (g.M.Frames.memory a.mem.now) r.laid c.in_ok-child.child
    (c.in_ok-child.ensures.child r.tree r.node r.sound r.laid r.found) (c.number-i.result / 1024)
    (ap (λ k. k / 1024) (c.number-i.ensures.same ∙ c.of_address.ensures)) in
    let short = depth_few r.tree a.caller in
    let few = few_nodes r.tree r.sound in
    let count = r.laid.count in
    omega (arith, so, slots, short, few, count)
