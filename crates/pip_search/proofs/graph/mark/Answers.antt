use Rattle.std.proofs.Common.{rules, ◌≡◌, ◌+◌, ◌∷◌, [], true, false, Some, length, slice_get}
use Rattle.std.proofs.Common.{refl, arith}
use Rattle.std.proofs.lemmas.Option.{slice_get_read}
use Rattle.pip_search.proofs.Places.{get-more}
use Rattle.pip_search.proofs.Spreading.{marked_more, unmarked_set}
use Rattle.pip_search.proofs.graph.mark.Goals as goal

pub returns-in_ok-push-clause-sum : goal.returns-in_ok-push-clause-sum
returns-in_ok-push-clause-sum c =
    let marks = c.args.marks.now.items in
    let queue = c.args.queue.now.items in
    let at : slice_get marks c.args.place ≡ Some false = slice_get_read marks (length marks) c.args.place false refl
    c.requires.place (search rules) in
    let one = unmarked_set marks c.args.place at in
    let more : length c.push.new.self.items ≡ length queue + 1 = search rules in
    omega arith

pub returns-in_ok-push-clause-stays : goal.returns-in_ok-push-clause-stays
returns-in_ok-push-clause-stays c = λ p k e.
    rw c.in_ok-push.ensures.items (get-more c.args.queue.now.items (c.args.place ∷ []) p k e)

pub returns-in_ok-push-clause-spreading : goal.returns-in_ok-push-clause-spreading
returns-in_ok-push-clause-spreading c = λ targets width first i s leads.
    rw c.in_ok-push.ensures.items (marked_more targets width first c.args.marks.now.items c.args.queue.now.items i
    c.args.place s c.requires.place leads)

pub returns-else-not-index-clause-now : goal.returns-else-not-index-clause-now
returns-else-not-index-clause-now c =
    let marks = c.args.marks.now.items in
    slice_get_read marks (length marks) c.args.place true refl c.requires.place (search rules)
