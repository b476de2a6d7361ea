use Rattle.std.proofs.Common.{◌∙◌, arith, eq-eqb, ne_eqb, refl, subst, sym, ◌+◌, ap, not}
use Rattle.std.specs.Prelude.{is_some}
use Rattle.std.proofs.lemmas.Option.{slice_get-get_or}
use Rattle.pip_kern.proofs.Climb.{part_node}
use Rattle.pip_model.specs.FullRows.{full_rows}
use Rattle.pip_model.proofs.Frames.Laid.{laid_space}
use Rattle.pip_model.proofs.Trees.Lookup.{found_name}
use Rattle.pip_space.specs.Rows.{full_of}
use Rattle.pip_table.specs.NextLeaf.{start_above}
use Rattle.pip_away.proofs.Walked.{fitting_end, fitting_none, fitting_on, fitting_other, fitting_past, fitting_short}
use Rattle.pip_away.proofs.Walked.{Fitting, none_left}
use Rattle.pip_away.proofs.rows.has_rows.Goals.{then-own-owner+in-Some+else-not-is_row, else-own-owner}
use Rattle.pip_away.proofs.rows.has_rows.Goals as goal

pub loop-k-init : goal.loop-k-init
loop-k-init g c t x s laid found = fitting_none t s c.args.part x found c.args.rows.now c.args.owner

pub next_row-requires : goal.next_row-requires
next_row-requires g c = part_node (g.M.Frames.memory c.args.mem.now) c.args.part c.requires

pub returns-in_default : goal.returns-in_default
returns-in_default g c t x s laid found =
    let own = slice_get-get_or c.args.rows.now c.loop-k.k _ c.loop-k-test.true in
    fitting_short t s c.args.part x found c.args.rows.now c.args.owner c.loop-k.k
    (start_above c.loop-k.after) (c.loop-k.invariant t x s laid found) _ own
    (eq-eqb _ _ c.if-own-owner.true)
    (none_left (full_rows t x) c.loop-k.after c.next_row.result
    (c.next_row.ensures.row x (full_rows t x) (laid_space t s (g.M.Frames.memory c.args.mem.now) laid c.args.part x
    found) (found_name t c.args.part x found)) c.in_default.not-Some)

pub returns-then-not-is_row : goal.returns-then-not-is_row
returns-then-not-is_row g c t x s laid found =
    let own = slice_get-get_or c.args.rows.now c.loop-k.k _ c.loop-k-test.true in
    let n = c.in-Some.ensures.row x (full_rows t x) (laid_space t s (g.M.Frames.memory c.args.mem.now) laid
    c.args.part x found) (found_name t c.args.part x found) in
    fitting_other t s c.args.part x found c.args.rows.now c.args.owner c.loop-k.k
    (start_above c.loop-k.after) (c.loop-k.invariant t x s laid found) _ own
    (eq-eqb _ _ c.if-own-owner.true) c.in-Some.next.0 (full_of c.in-Some.next.1) n.0 n.1 n.2
    (sym c.is_row.ensures ∙ c.if-not-is_row.true)

pub loop-k-preserved : goal.loop-k-preserved
loop-k-preserved g c t x s laid found =
    let own = slice_get-get_or c.args.rows.now c.loop-k.k _ c.loop-k-test.true in
    elim c.if-own-owner.branch [
      | then-own-owner+in-Some+else-not-is_row w ↦
          let n = w.in-Some.ensures.row x (full_rows t x) (laid_space t s (g.M.Frames.memory c.args.mem.now) laid
          c.args.part x found) (found_name t c.args.part x found) in
          subst (λ a. Fitting t s c.args.part x found c.args.rows.now c.args.owner (c.loop-k.k + 1) (start_above a))
          (sym w.after-is) (fitting_on t s c.args.part x found c.args.rows.now c.args.owner c.loop-k.k
          (start_above c.loop-k.after) (c.loop-k.invariant t x s laid found) _ own
          (eq-eqb _ _ w.if-own-owner.true) w.in-Some.next.0 (full_of w.in-Some.next.1) n.0 n.1 n.2
          (sym w.is_row.ensures ∙ w.if-not-is_row.false))
      | else-own-owner w ↦
          subst (λ a. Fitting t s c.args.part x found c.args.rows.now c.args.owner (c.loop-k.k + 1) (start_above a))
          (sym w.after-is) (fitting_past t s c.args.part x found c.args.rows.now c.args.owner
          c.loop-k.k (start_above c.loop-k.after) (c.loop-k.invariant t x s laid found) _
          own (ne_eqb _ _ w.if-own-owner.false))
    ]

pub next_row-requires-2 : goal.next_row-requires-2
next_row-requires-2 g c = part_node (g.M.Frames.memory c.args.mem.now) c.args.part c.requires

pub returns-in-None : goal.returns-in-None
returns-in-None g c t x s laid found = sym (ap (λ r. not (is_some r)) c.in-None.is)
    ∙ fitting_end t s c.args.part x found c.args.rows.now c.args.owner c.loop-k.k
    (start_above c.loop-k.after) (c.loop-k.invariant t x s laid found) (omega arith) c.next_row-2.result c.loop-k.after
    refl
    (c.next_row-2.ensures.row x (full_rows t x) (laid_space t s (g.M.Frames.memory c.args.mem.now) laid c.args.part x
    found) (found_name t c.args.part x found))

pub returns-in-Some-next_row : goal.returns-in-Some-next_row
returns-in-Some-next_row g c t x s laid found = sym (ap (λ r. not (is_some r)) c.in-Some-next_row.is)
    ∙ fitting_end t s c.args.part x found c.args.rows.now c.args.owner c.loop-k.k
    (start_above c.loop-k.after) (c.loop-k.invariant t x s laid found) (omega arith) c.next_row-2.result c.loop-k.after
    refl
    (c.next_row-2.ensures.row x (full_rows t x) (laid_space t s (g.M.Frames.memory c.args.mem.now) laid c.args.part x
    found) (found_name t c.args.part x found))
