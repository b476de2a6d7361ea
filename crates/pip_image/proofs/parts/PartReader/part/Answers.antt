use Rattle.std.proofs.Common.{rules, arith, ◌≡◌, ◌≤◌, ◌-◌, false, true, length, nat_lt, refl}
use Rattle.pip_image.proofs.Fed.{fields_fed, fields_unfed, long_fed, page_fed, page_unfed, plan_fed, plan_unfed}
use Rattle.pip_image.proofs.parts.PartReader.part.Goals as goal

pub returns-in-Ok-clause-told : goal.returns-in-Ok-clause-told
returns-in-Ok-clause-told c =
    let begun : c.args.self.now.begun ≡ false = search rules in
    let few : length c.args.front.now ≤ 24 = rw begun at c.requires.fits in
    let e = c.pass_fields.ensures in
    rw begun (fields_fed c.pass_fields.new.self _ _ _ few c.in-Ok.ensures.same e.at e.frames e.plans e.line e.pages
    e.seen)

pub returns-in-Err-clause-told : goal.returns-in-Err-clause-told
returns-in-Err-clause-told c =
    let begun : c.args.self.now.begun ≡ false = search rules in
    rw begun (fields_unfed c.args.front.now c.in-Err.fault c.in-Err.ensures.same)

pub returns-in-Ok-plan-clause-told : goal.returns-in-Ok-plan-clause-told
returns-in-Ok-plan-clause-told c =
    let begun : c.args.self.now.begun ≡ true = search rules in
    let some : nat_lt 0 c.args.self.now.place.plans ≡ true = search (rules, arith) in
    let few : length c.args.front.now ≤ 12 = rw (begun, some) at c.requires.fits in
    let e = c.pass_plan.ensures in
    rw begun (plan_fed c.args.self.now.place c.pass_plan.new.self _ _ _ few c.in-Ok-plan.ensures.same e.at e.frames
    e.plans e.line e.pages e.seen)

pub returns-in-Err-plan-clause-told : goal.returns-in-Err-plan-clause-told
returns-in-Err-plan-clause-told c =
    let begun : c.args.self.now.begun ≡ true = search rules in
    let some : nat_lt 0 c.args.self.now.place.plans ≡ true = search (rules, arith) in
    rw (begun, some) (plan_unfed c.args.self.now.place (c.args.self.now.place.plans - 1) c.args.front.now
    c.in-Err-plan.fault (search (rules, arith)) c.in-Err-plan.ensures.same)

pub returns-in-Ok-page-clause-told : goal.returns-in-Ok-page-clause-told
returns-in-Ok-page-clause-told c =
    let begun : c.args.self.now.begun ≡ true = search rules in
    let none : c.args.self.now.place.plans ≡ 0 = search (rules, arith) in
    let some : nat_lt 0 c.args.self.now.place.pages ≡ true = search (rules, arith) in
    let few : length c.args.front.now ≤ 4100 = rw (begun, none, some) at c.requires.fits in
    let e = c.pass_page.ensures in
    rw begun (page_fed c.args.self.now.place c.pass_page.new.self _ _ _ few
    (rw c.deref.ensures.0 at c.in-Ok-page.ensures.same) none e.at e.frames e.plans e.pages e.seen)

pub returns-in-Err-page-clause-told : goal.returns-in-Err-page-clause-told
returns-in-Err-page-clause-told c =
    let begun : c.args.self.now.begun ≡ true = search rules in
    let none : c.args.self.now.place.plans ≡ 0 = search (rules, arith) in
    let few : nat_lt 0 c.args.self.now.place.plans ≡ false = search (rules, arith) in
    let some : nat_lt 0 c.args.self.now.place.pages ≡ true = search (rules, arith) in
    rw (begun, few, some) (page_unfed c.args.self.now.place (c.args.self.now.place.pages - 1) c.args.front.now
    c.in-Err-page.fault none (search (rules, arith)) (rw c.deref.ensures.0 at c.in-Err-page.ensures.same))

pub returns-clause-told : goal.returns-clause-told
returns-clause-told c =
    let begun : c.args.self.now.begun ≡ true = search rules in
    let none : c.args.self.now.place.plans ≡ 0 = search (rules, arith) in
    let last : c.args.self.now.place.pages ≡ 0 = search (rules, arith) in
    let few : nat_lt 0 c.args.self.now.place.plans ≡ false = search (rules, arith) in
    let end : nat_lt 0 c.args.self.now.place.pages ≡ false = search (rules, arith) in
    rw (begun, few, end) (long_fed c.args.self.now.place none last c.args.front.now
    (c.requires.more (rw (begun, none, last) refl)))
