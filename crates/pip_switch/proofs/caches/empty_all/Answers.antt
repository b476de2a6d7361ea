use Rattle.std.proofs.Common.{◌<◌, length, ap, refl, ◌∙◌, arith}
use Rattle.std.specs.Prelude.{slice_index_or}
use Rattle.pip_model.specs.Cache.{without_entries}
use Rattle.pip_switch.proofs.Emptying.{emptied_all, emptied_length, emptied_none, emptied_one}
use Rattle.pip_switch.proofs.Placed.{cell_put}
use Rattle.pip_switch.proofs.caches.empty_all.Goals as goal

pub loop-i-init : goal.loop-i-init
loop-i-init c = emptied_none _

pub bounds-deref_mut-i : goal.bounds-deref_mut-i
bounds-deref_mut-i c =
    let all = c.len-i-end.ensures.value in
    let here = ap length c.deref_mut.ensures.value ∙ ap length c.loop-i.invariant
    ∙ emptied_length c.loop-i.i c.args.caches.now.items in
    let test = c.loop-i-test.true in
    omega (arith, all, here, test)

pub loop-i-preserved : goal.loop-i-preserved
loop-i-preserved c =
    let all = c.len-i-end.ensures.value in
    let test = c.loop-i-test.true in
    let low : c.loop-i.i < length c.args.caches.now.items = omega (arith, all, test) in
    cell_put _ _ c.deref_mut.ensures.value c.loop-i.i _ _ (c.empty.ensures
    ∙ ap (λ z. without_entries (slice_index_or z c.loop-i.i c.index-deref_mut-i.result)) c.deref_mut.ensures.value)
    ∙ emptied_one c.loop-i.i c.args.caches.now.items _ c.index-deref_mut-i.result _ low c.loop-i.invariant refl

pub returns : goal.returns
returns c =
    let all = c.len-i-end.ensures.value in
    let test = c.loop-i-test.false in
    c.loop-i.invariant ∙ emptied_all c.loop-i.i c.args.caches.now.items (omega (arith, all, test))
