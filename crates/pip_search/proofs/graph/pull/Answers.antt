use Rattle.std.proofs.Common.{rules, ◌≡◌, ◌≢◌, ◌+◌, ◌-◌, ◌%◌, ◌<◌, Some, length, slice_get}
use Rattle.std.proofs.Common.{refl, ◌∙◌, arith, get_or}
use Rattle.std.proofs.lemmas.List.{get_or_read}
use Rattle.std.proofs.lemmas.Option.{slice_get_read}
use Rattle.pip_search.proofs.Spreading.{one_edge, walk_begins, walk_falls, walk_goes}
use Rattle.pip_search.proofs.graph.pull.Goals as goal
use Rattle.pip_search.proofs.graph.pull.Goals.{else-index-k, then-index-k+in_ok-mark}

pub loop-at-init : goal.loop-at-init
loop-at-init c =
    let x = c.args.edges.now in
    let at = c.index-at.result.now in
    let count : c.len.result ≡ length x.heads.items = omega arith in
    let some = c.requires.filed.some in
    let low : c.args.k % c.len.result < length x.heads.items = omega arith in
    record {
      walk = walk_begins x c.args.width c.args.k c.requires.filed c.args.marks.now.items at
          (rw (← count) (get_or_read x.heads.items (c.args.k % c.len.result) at low c.index-at.ensures 0));
      keeps = λ j e. e;
      count = refl;
      sum = refl;
      stays = λ p j e. e;
      spreading = λ first i s. s;
    }

pub loop-at-smaller : goal.loop-at-smaller
loop-at-smaller c =
    let x = c.args.edges.now in
    let next = c.index-at-in-loop-at.result.now in
    let w = c.loop-at.invariant.walk in
    let here : c.loop-at.at ≡ c.loop-at.at - 1 + 1 = omega arith in
    let count = c.requires.filed.count in
    let within = w.within in
    let low : c.loop-at.at - 1 < length x.chains.items = omega arith in
    walk_falls x c.args.width c.args.k c.requires.filed c.loop-at.marks.items c.loop-at.at (c.loop-at.at - 1) next w
    here (get_or_read x.chains.items (c.loop-at.at - 1) next low c.index-at-in-loop-at.ensures 0)

pub loop-at-preserved : goal.loop-at-preserved
loop-at-preserved c =
    let x = c.args.edges.now in
    let next = c.index-at-in-loop-at.result.now in
    let h = c.loop-at.invariant in
    let p = c.loop-at.at - 1 in
    let here : c.loop-at.at ≡ p + 1 = omega arith in
    let count = c.requires.filed.count in
    let within = h.walk.within in
    let low : p < length x.chains.items = omega arith in
    let chain : next ≡ get_or x.chains.items p 0 =
    get_or_read x.chains.items p next low c.index-at-in-loop-at.ensures 0 in
    let end = c.index.result.now in
    let there : slice_get x.hashes.items p ≡ Some end = slice_get_read x.hashes.items (length x.hashes.items) p end refl
    (omega arith) c.index.ensures in
    elim c.if-index-k.branch [
      | then-index-k+in_ok-mark w ↦
          let marks = w.mark.new.marks.items in
          let queue = w.mark.new.queue.items in
          let own = w.in_ok-mark.ensures in
          let is : end ≡ c.args.k = search rules in
          let at : slice_get x.hashes.items p ≡ Some c.args.k = rw (there, is) in
          rw (w.marks-is, w.queue-is) (record {
            walk = walk_goes x c.args.width c.args.k c.requires.filed c.loop-at.marks.items marks c.loop-at.at p next
                h.walk here own.keeps (λ _. own.now) chain;
            keeps = λ j e. own.keeps j (h.keeps j e);
            count = own.count ∙ h.count;
            sum = own.sum ∙ h.sum;
            stays = λ n j e. own.stays n j (h.stays n j e);
            spreading = λ first i s.
                let now = h.spreading first i s in
                own.spreading x.hashes.items c.args.width first i now (one_edge x.hashes.items c.args.width first p
                c.args.k c.requires.some at (now.sound c.args.k (h.keeps c.args.k c.requires.marked)));
          })
      | else-index-k w ↦
          let is : end ≢ c.args.k = search rules in
          rw (w.marks-is, w.queue-is) (record {
            walk = walk_goes x c.args.width c.args.k c.requires.filed c.loop-at.marks.items c.loop-at.marks.items
                c.loop-at.at p next h.walk here (λ j e. e) (λ e. absurd (is (cc))) chain;
            keeps = h.keeps;
            count = h.count;
            sum = h.sum;
            stays = h.stays;
            spreading = h.spreading;
          })
    ]
