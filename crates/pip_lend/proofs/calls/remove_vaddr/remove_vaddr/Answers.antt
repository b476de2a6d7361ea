use Rattle.std.proofs.Common.{ap}
use Rattle.pip_model.specs.Answers.{accept, answer_unless}
use Rattle.pip_model.specs.RemoveVAddr.{remove_vaddr}
use Rattle.pip_model.proofs.Calls.Remove.{remove-sound}
use Rattle.pip_kern.proofs.Calls.{accepted-does, refused-does}
use Rattle.pip_lend.proofs.RemoveVAddr.Call.{can_recall, remove-tree, left_tree}
use Rattle.pip_lend.proofs.calls.remove_vaddr.remove_vaddr.Goals as goal

pub returns-in-Err-clause-does : goal.returns-in-Err-clause-does
returns-in-Err-clause-does g c =
    let a = c.args in
    refused-does a.caller (λ t. remove_vaddr t a.caller a.d a.cv) (g.M.Frames.memory a.mem.now) c.in-Err.status
    (λ t x s lays found.
    ap (λ o. answer_unless t o (accept 0 (left_tree t a.caller a.d a.cv))) (c.in-Err.ensures.tested t x s lays found))

pub take_back-requires : goal.take_back-requires
take_back-requires g c =
    let a = c.args in
    let r = c.requires in
    let k = c.in-Ok.ensures.tested r.tree r.node r.sound r.laid r.found in
    record {
      tree = r.tree;
      laid = r.laid;
      can = can_recall r.tree a.caller a.d a.cv r.sound r.node r.found k.0 c.in-Ok.recall k.1;
    }

pub returns-clause-does : goal.returns-clause-does
returns-clause-does g c =
    let a = c.args in
    accepted-does a.caller (λ t. remove_vaddr t a.caller a.d a.cv) 0 (λ t. left_tree t a.caller a.d a.cv)
    (g.M.Frames.memory a.mem.now) (g.M.Frames.memory c.take_back.new.mem) c.take_back.ensures.count
    (λ t x s lays found.
    ap (λ o. answer_unless t o (accept 0 (left_tree t a.caller a.d a.cv))) (c.in-Ok.ensures.tested t x s lays found).0)
    (λ t x s lays found. remove-sound t a.caller a.d a.cv s)
    (λ t x s lays found.
    let k = c.in-Ok.ensures.tested t x s lays found in
    remove-tree t a.caller a.d a.cv s x found k.0 c.in-Ok.recall k.1 (g.M.Frames.memory c.take_back.new.mem)
    (c.take_back.ensures.tree t (can_recall t a.caller a.d a.cv s x found k.0 c.in-Ok.recall k.1) lays))
