use Rattle.std.proofs.Common.{arith, ◌≡◌, ◌<◌, ◌+◌, ◌-◌, ℕ, length, refl, ap, sym, ◌∙◌}
use Rattle.std.specs.Prelude.{slice_get, Some}
use Rattle.std.specs.Cmp.Lexicographic.{slice_cmp}
use Rattle.std.specs.Ordering.{nat_cmp}
use Rattle.std.proofs.lemmas.List.{length-map}
use Rattle.std.proofs.lemmas.Option.{slice_get_read}
use Rattle.std.specs.declared.alloc.Global.{Global}
use Rattle.std.specs.declared.vec.Vec.{Vec}
use Rattle.pip_search.proofs.Picking.{map_at}
use Rattle.pip_certificates.specs.Seen.{label_texts}
use Rattle.pip_certificates.proofs.LastLabel.{last_order}
use Rattle.pip_certificates.proofs.parts.merging.order_after.Goals as goal

pub returns : goal.returns
returns c =
    let xs = c.args.labels.now in
    let v = c.index-labels-labels.result in
    let some : 0 < length xs = grind arith in
    let low : length xs - 1 < length xs = omega (arith, some) in
    let at : slice_get xs (length xs - 1) ≡ Some v = slice_get_read xs (length xs) (length xs - 1) v refl low
    c.index-labels-labels.is in
    let there : slice_get (label_texts xs) (length xs - 1) ≡ Some v.items = map_at (λ u. u.items) xs (length xs - 1) v
    at in
    let same = length-map xs (λ (u : Vec ℕ Global). u.items) in
    let long : length (label_texts xs) ≡ length xs - 1 + 1 = omega (arith, same, some) in
    c.cmp.ensures
    ∙ ap (λ bs. slice_cmp nat_cmp bs c.args.text.now) c.as_slice.ensures.value
    ∙ sym (last_order (label_texts xs) (length xs - 1) v.items c.args.text.now long there)
