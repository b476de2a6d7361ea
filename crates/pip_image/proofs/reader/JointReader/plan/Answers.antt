use Rattle.std.proofs.Common.{rules, arith, ◌<◌, ◌-◌, length}
use Rattle.pip_model.specs.Images.{plan_at}
use Rattle.pip_image.proofs.Parsing.{plan_goes}
use Rattle.pip_image.proofs.ReadParts.{filled_calm, filled_whole, plan_open, plan_taken, plan_refused}
use Rattle.pip_image.proofs.reader.JointReader.plan.Goals as goal

pub returns-in-Ok-clause-reads : goal.returns-in-Ok-clause-reads
returns-in-Ok-clause-reads g c =
    let e = c.pass_plan.ensures in
    plan_taken c.args.self.now.place c.pass_plan.new.self _ _ _ _ _ _ _ _ c.fill-filled.ensures.filled
    (search (rules, arith)) c.in-Ok.ensures.same e.at e.frames e.plans e.line e.pages e.seen

pub returns-in-Ok-clause-no_faults : goal.returns-in-Ok-clause-no_faults
returns-in-Ok-clause-no_faults g c =
    let place = c.args.self.now.place in
    filled_calm 12 _ _ _ _ _ _ (plan_at place.at place.line) _ _ (plan_goes place.at place.line)
    c.fill-filled.ensures.filled (search (rules, arith)) c.in-Ok.ensures.same

pub returns-in-Ok-clause-is_open : goal.returns-in-Ok-clause-is_open
returns-in-Ok-clause-is_open g c =
    let place = c.args.self.now.place in
    c.fill-filled.ensures.is_open (filled_whole 12 _ _ _ _ _ _ (plan_at place.at place.line) _ _
    (plan_goes place.at place.line) c.fill-filled.ensures.filled (search (rules, arith)) c.in-Ok.ensures.same)

pub returns-in-Err-clause-reads : goal.returns-in-Err-clause-reads
returns-in-Err-clause-reads g c =
    let place = c.args.self.now.place in
    rw c.fault.ensures.fault (plan_refused place (place.plans - 1) _ _ _ _ _ _ _ (let h = c.requires.plans in omega
    (arith, h)) c.fill-filled.ensures.filled (search (rules, arith)) c.in-Err.ensures.same)

pub fill-filled-requires-clause-paced : goal.fill-filled-requires-clause-paced
fill-filled-requires-clause-paced g c = λ bytes left taken is.
    let count = is.0 in
    let few : length bytes < 12 = search (rules, arith) in
    c.requires.paced bytes left taken (plan_open c.args.self.now.place (c.args.self.now.place.plans - 1) bytes
    (omega arith) few is.1)
