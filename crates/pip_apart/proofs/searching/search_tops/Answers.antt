use Rattle.std.proofs.Common.{◌∙◌, subst, sym}
use Rattle.pip_apart.specs.Found.{IsFoundAt}
use Rattle.pip_apart.specs.Searches.{IsGuestKey}
use Rattle.pip_apart.proofs.Telling.{one_found, one_shown, one_top}
use Rattle.pip_apart.proofs.searching.search_tops.Goals as goal

pub loop-top-preserved : goal.loop-top-preserved
loop-top-preserved g c =
    let i = c.loop-top.invariant in
    let x = c.in_ok-search_top.field-0 in
    let first = g.F.First.words in
    record {
      count = c.search_top.ensures.count ∙ i.count;
      tops = rw (
        c.in_ok-push.ensures.items,
        one_top c.loop-top.found.items x c.args.tops.now c.loop-top.top-index
            c.top-item.result i.tops c.in_ok-search_top.ensures.top c.top-item.is c.loop-top-test.true,
      );
      each = λ w k. rw c.in_ok-push.ensures.items (one_found (IsFoundAt first w c.args.most c.args.limit)
          c.loop-top.found.items x (i.each w k) (c.in_ok-search_top.ensures.found w
          (subst (λ n. IsGuestKey first n c.args.start.now w) (sym i.count) k)));
      shown = rw c.in_ok-push.ensures.items (one_shown c.loop-top.found.items x i.shown
          c.in_ok-search_top.ensures.shown);
    }
