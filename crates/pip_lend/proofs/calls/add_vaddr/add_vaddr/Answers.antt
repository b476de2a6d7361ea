use Rattle.std.proofs.Common.{ap, subst}
use Rattle.pip_model.specs.AddVAddr.{add_vaddr, tree_with_row}
use Rattle.pip_model.specs.Answers.{accept, answer_unless}
use Rattle.pip_model.specs.Layout.{LaysOut}
use Rattle.pip_model.proofs.Calls.Add.{add-sound}
use Rattle.pip_model.proofs.Trees.Lookup.{found_is_name}
use Rattle.pip_kern.proofs.Calls.{accepted-does, refused-does}
use Rattle.pip_lend.specs.Lending.{loan_row}
use Rattle.pip_lend.proofs.AddVAddr.Call.{can_lend, lent_tree}
use Rattle.pip_lend.proofs.calls.add_vaddr.add_vaddr.Goals as goal

pub returns-in-Err-clause-does : goal.returns-in-Err-clause-does
returns-in-Err-clause-does g c =
    let a = c.args in
    refused-does a.caller (λ t. add_vaddr t a.caller a.v a.d a.cv a.rights) (g.M.Frames.memory a.mem.now)
    c.in-Err.status
    (λ t x s lays found. ap (λ o. answer_unless t o (accept 0 (lent_tree t a.caller a.v a.d a.cv a.rights)))
    (c.in-Err.ensures.tested t x s lays found))

pub lend-requires : goal.lend-requires
lend-requires g c =
    let a = c.args in
    let r = c.requires in
    let k = c.in-Ok.ensures.tested r.tree r.node r.sound r.laid r.found in
    record {
      tree = r.tree;
      laid = r.laid;
      can = can_lend r.tree a.caller a.v a.d a.cv a.rights r.sound r.node r.found k.0 c.in-Ok.loan k.1;
    }

pub returns-clause-does : goal.returns-clause-does
returns-clause-does g c =
    let a = c.args in
    accepted-does a.caller (λ t. add_vaddr t a.caller a.v a.d a.cv a.rights) 0 (λ t. lent_tree t a.caller a.v a.d a.cv
    a.rights) (g.M.Frames.memory a.mem.now) (g.M.Frames.memory c.lend.new.mem) c.lend.ensures.count
    (λ t x s lays found. ap (λ o. answer_unless t o (accept 0 (lent_tree t a.caller a.v a.d a.cv a.rights)))
    (c.in-Ok.ensures.tested t x s lays found).0)
    (λ t x s lays found. add-sound t a.caller a.v a.d a.cv a.rights s (found_is_name t a.caller x found))
    (λ t x s lays found.
    let k = c.in-Ok.ensures.tested t x s lays found in
    subst (λ l. LaysOut (tree_with_row t l.child (loan_row l)) (g.M.Frames.memory c.lend.new.mem)) k.1
    (c.lend.ensures.tree t (can_lend t a.caller a.v a.d a.cv a.rights s x found k.0 c.in-Ok.loan k.1) lays))
