use Rattle.std.proofs.Common.{◌∙◌, ◌≡◌, ◌+◌, ◌||◌, Some, ap, not, subst, sym}
use Rattle.pip_model.specs.Partitions.{HasPartition}
use Rattle.pip_model.specs.Tree.{find_node}
use Rattle.pip_model.proofs.Trees.Ancestry.{root_is_one}
use Rattle.pip_model.proofs.Trees.Lookup.{root_found}
use Rattle.pip_guests.specs.Sights as tests
use Rattle.pip_away.specs.Blind.{sight_of}
use Rattle.pip_away.proofs.lines.line_misses.Goals as goal

pub handler_misses-requires : goal.handler_misses-requires
handler_misses-requires g c =
    subst (HasPartition (g.M.Frames.memory c.args.mem.now)) (sym c.new.ensures) c.requires.root

pub returns-then-not-is_pending : goal.returns-then-not-is_pending
returns-then-not-is_pending g c t js s laid lines is = ap not c.if-not-is_pending.true ∙ sym (ap (λ b. not b
    || tests.handler_passes c.args.blind.now.own.items (sight_of c.args.blind.now) t t.root.name (32 + c.args.line))
    (sym (c.is_pending.ensures js lines is) ∙ c.if-not-is_pending.true))

pub returns-else-not-is_pending : goal.returns-else-not-is_pending
returns-else-not-is_pending g c t js s laid lines is =
    let one = c.new.ensures ∙ sym (root_is_one t s) in
    c.handler_misses.ensures t t.root s laid (subst (λ n. find_node t n ≡ Some t.root) (sym one) (root_found t))
    ∙ ap (λ n. tests.handler_passes c.args.blind.now.own.items (sight_of c.args.blind.now) t n (32 + c.args.line)) one
    ∙ sym (ap (λ b. not b || tests.handler_passes c.args.blind.now.own.items (sight_of c.args.blind.now) t
    t.root.name (32 + c.args.line))
    (sym (c.is_pending.ensures js lines is) ∙ c.if-not-is_pending.false))
