use Rattle.std.proofs.Common.{rules, ◌≡◌, ◌++◌, ◌∷◌, [], length}
use Rattle.pip_model.specs.Images.{bytes_of, magic}
use Rattle.pip_model.specs.Assembly.{plan_words}
use Rattle.pip_asm.proofs.Emitting.{head_after}
use Rattle.pip_asm.proofs.head.push_head.Goals as goal

pub returns : goal.returns
returns c =
    let a : c.extend_from_slice.new.self.items ≡ c.args.bytes.now.items ++ magic = search rules in
    let b : c.push_four.new.bytes.items ≡ c.extend_from_slice.new.self.items
    ++ bytes_of (c.args.frames ∷ c.args.cpus ∷ length c.args.plans.now ∷ 0 ∷ []) = search rules in
    let d : c.push_plans.new.bytes.items ≡ c.push_four.new.bytes.items ++ bytes_of (plan_words c.args.plans.now) =
    search rules in
    head_after c.args.bytes.now.items c.extend_from_slice.new.self.items c.push_four.new.bytes.items
    c.push_plans.new.bytes.items
    (c.args.frames ∷ c.args.cpus ∷ length c.args.plans.now ∷ 0 ∷ []) (plan_words c.args.plans.now) a b d
