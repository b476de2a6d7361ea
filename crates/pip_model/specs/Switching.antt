-- The call that switches: yield. r runs on cpu and calls.
use Rattle.std.specs.Prelude.{ℕ, Bool, false, not, ◌==◌, ◌&&◌, ◌||◌, nat_lt, nat_le, if◌then◌else◌, List, [], ◌∷◌}
use Rattle.std.specs.Prelude.{Option, Some, None, is_none}
use Rattle.pip_base.specs.declared.types.Ctx.{Ctx}
use Rattle.pip_base.specs.declared.outcome.Status.{Status}
use Rattle.pip_base.specs.declared.outcome.Status.TheVariants as S
use Rattle.pip_base.specs.declared.outcome.Outcome.TheVariants as O
use Rattle.pip_base.specs.Status.{status_number}
use Rattle.pip_model.specs.Lists.{has}
use Rattle.pip_model.specs.Tree.{Node, Tree, node, child_at, is_place}
use Rattle.pip_model.specs.Answers.{Answer, Five, first_met, refuse}
use Rattle.pip_model.specs.Handlers.{can_save, handler, save_place, saved_to}
use Rattle.pip_model.specs.Reach.{Reached, Faulted, Unmapped}
use Rattle.pip_model.specs.Worlds.{World, Happened, nothing, running, with_running, enter, with_masked}
use Rattle.pip_model.specs.declared.processors.Occupant.{Occupant}

-- a reply: status and value go to r0 and r1
abbrev pub with_reply : ℕ → ℕ → List ℕ → List ℕ
with_reply s v (r0 ∷ r1 ∷ rs) = s ∷ v ∷ rs
with_reply s v rs = rs

-- a call is answered with a reply, and the caller runs on
abbrev pub reply_happens : World → ℕ → Occupant → Answer → Happened
reply_happens w cpu r a = record {
  outcome = O.Reply a.status a.value;
  world = with_running (record w { tree = a.tree }) cpu
      (Some (record r { ctx = record r.ctx { regs = with_reply (status_number a.status) a.value r.ctx.regs } }));
}

-- what a call does, unless it is refused
abbrev pub reply_unless : World → ℕ → Occupant → Option Status → Happened → Happened
reply_unless w cpu r None h = h
reply_unless w cpu r (Some s) h = reply_happens w cpu r (refuse w.tree s)

-- the name of a node; 0 where there is none
abbrev pub node_name : Option Node → ℕ
node_name None = 0
node_name (Some x) = x.name

-- the target: 0 is the parent, which the root has not, 1 is p itself, and else the child born there
abbrev pub parent_of : Tree → ℕ → Option Node
parent_of t p = if p == t.root.name then None else Some (node t (node t p).up)

-- the partition to which a yield goes, where there is one
abbrev pub target_node : Tree → ℕ → ℕ → Option Node
target_node t p d = if d == 0 then parent_of t p else if d == 1 then Some (node t p) else child_at t p d

-- yield(d, k, s): the target's handler for k, and the block for s in which the caller is saved. 256 saves nothing
abbrev pub yield_refusals : World → ℕ → Five → Option Node → List (Bool × Status)
yield_refusals w p a q =
    (not (a.x0 == 1) && not (is_place a.x0), S.NotAligned)
    ∷ (is_none q, S.NotChild)
    ∷ (nat_le 256 a.x1 || nat_le 257 a.x2, S.BadVector)
    ∷ (not (node_name q == p) && has (running w) (node_name q), S.Running)
    ∷ (is_none (handler w.tree (node_name q) a.x1), S.NoHandler)
    ∷ (nat_lt a.x2 256 && not (can_save w.tree p a.x2), S.BadSave)
    ∷ []

-- a context with zeros in r0 and r1
abbrev pub with_zeros : Ctx → Ctx
with_zeros c = record c { regs = with_reply 0 0 c.regs }

-- where the caller is saved: nowhere, as at a fault, for 256
abbrev pub yield_place : Tree → ℕ → ℕ → Reached
yield_place t p s = if nat_lt s 256 then save_place t p s else Faulted Unmapped

-- what is saved of the caller has zeros in r0 and r1, and a root that yields takes its mask away
abbrev pub yielded_tree : Tree → Occupant → ℕ → Tree
yielded_tree t r s = with_masked t.root.name
    (if r.name == t.root.name then false else t.root.masked) (saved_to t (with_zeros r.ctx) (yield_place t r.name s))

-- q runs with the words of its handler as they were before the save. (None does not come: condition 16)
abbrev pub yield_happens : World → ℕ → Occupant → Five → ℕ → Option Ctx → Happened
yield_happens w cpu r a q None = nothing w
yield_happens w cpu r a q (Some c) = record {
  outcome = O.Switched r.name q a.x1;
  world = enter (record w { tree = yielded_tree w.tree r a.x2 }) cpu q c;
}

-- a yield to this target
abbrev pub yield_to : World → ℕ → Occupant → Five → Option Node → Happened
yield_to w cpu r a q =
    reply_unless w cpu r (first_met (yield_refusals w r.name a q))
    (yield_happens w cpu r a (node_name q) (handler w.tree (node_name q) a.x1))

-- yield: another partition runs, or the caller elsewhere, with the context in a block of its own
abbrev pub yield : World → ℕ → Occupant → Five → Happened
yield w cpu r a = yield_to w cpu r a (target_node w.tree r.name a.x0)
