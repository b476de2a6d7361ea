use Rattle.std.proofs.Common.{◌≡◌, ◌<◌, ◌≤◌, Some, length, slice_get, refl, ◌∙◌, arith}
use Rattle.std.proofs.lemmas.Option.{slice_get_read}
use Rattle.pip_search.proofs.Spreading.{all_followed, followed_one}
use Rattle.pip_search.proofs.graph.spread.Goals as goal

pub loop-i-preserved : goal.loop-i-preserved
loop-i-preserved c =
    let h = c.loop-i.invariant in
    let x = c.args.edges.now.hashes.items in
    let queue = c.loop-i.queue.items in
    let k = c.index-k.result.now in
    let own = c.in_ok-pull.ensures in
    let low : c.loop-i.i < length queue = omega arith in
    let there : slice_get queue c.loop-i.i ≡ Some k = slice_get_read queue (length queue) c.loop-i.i k refl low
    c.index-k.ensures in
    record {
      spreading = followed_one x c.args.width c.args.marks.now.items c.pull.new.marks.items c.pull.new.queue.items
          c.loop-i.i k (own.spreading c.args.marks.now.items c.loop-i.i h.spreading)
          (own.stays c.loop-i.i k there) own.followed;
      count = own.count ∙ h.count;
    }

pub returns-clause-closed : goal.returns-clause-closed
returns-clause-closed c = λ k marked.
    let h = c.loop-i.invariant in
    let queue = c.loop-i.queue.items in
    let all : length queue ≤ c.loop-i.i = omega arith in
    all_followed c.args.edges.now.hashes.items c.args.width c.args.marks.now.items c.loop-i.marks.items queue
    c.loop-i.i h.spreading all k marked
