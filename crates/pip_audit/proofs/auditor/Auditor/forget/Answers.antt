use Rattle.std.proofs.Common.{◌≡◌, length, refl, rules}
use Rattle.pip_audit.proofs.Walks.{forgot}
use Rattle.pip_audit.proofs.auditor.Auditor.forget.Goals as goal

pub returns-clause-room : goal.returns-clause-room
returns-clause-room c =
    let order : length c.fill.new.self.items ≡ length c.args.self.now.order.items = search rules in
    λ n r. forgot n c.args.self.now _ refl order c.clear.ensures.room c.fill-2.ensures.room r
