use Rattle.std.proofs.Common.{rules, arith, ◌≡◌, ◌<◌, ◌-◌, length, subst, false}
use Rattle.pip_model.specs.Images.{front_page}
use Rattle.pip_image.specs.Sought.{is_fault}
use Rattle.pip_image.proofs.Parsing.{page_goes}
use Rattle.pip_image.proofs.ReadParts.{filled_calm, filled_whole, page_filled, page_open, page_refused}
use Rattle.pip_image.proofs.ReadParts.{page_same, page_taken}
use Rattle.pip_image.proofs.reader.JointReader.next_page.Goals as goal

pub returns-in-Ok-clause-reads : goal.returns-in-Ok-clause-reads
returns-in-Ok-clause-reads g c =
    let e = c.pass_page.ensures in
    page_taken c.args.self.now.place c.pass_page.new.self _ _ _ _ _ _ _ _
    (page_filled _ _ _ _ _ _ _ _ _ _ c.deref.ensures.0 c.fill-filled.ensures.filled) (search (rules, arith))
    (page_same _ _ _ _ _ _ c.deref-2.ensures.0 c.in-Ok.ensures.same) c.requires.plans e.at e.frames e.plans e.pages
    e.seen

pub returns-in-Ok-clause-no_faults : goal.returns-in-Ok-clause-no_faults
returns-in-Ok-clause-no_faults g c =
    let place = c.args.self.now.place in
    filled_calm 4100 _ _ _ _ _ _ (front_page place.frames place.seen.items place.at) _ _
    (page_goes place.frames place.seen.items place.at)
    (page_filled _ _ _ _ _ _ _ _ _ _ c.deref.ensures.0 c.fill-filled.ensures.filled) (search (rules, arith))
    (page_same _ _ _ _ _ _ c.deref-2.ensures.0 c.in-Ok.ensures.same)

pub returns-in-Ok-clause-is_open : goal.returns-in-Ok-clause-is_open
returns-in-Ok-clause-is_open g c =
    let place = c.args.self.now.place in
    c.fill-filled.ensures.is_open (filled_whole 4100 _ _ _ _ _ _
    (front_page place.frames place.seen.items place.at) _ _ (page_goes place.frames place.seen.items place.at)
    (page_filled _ _ _ _ _ _ _ _ _ _ c.deref.ensures.0 c.fill-filled.ensures.filled) (search (rules, arith))
    (page_same _ _ _ _ _ _ c.deref-2.ensures.0 c.in-Ok.ensures.same))

pub returns-in-Err-clause-reads : goal.returns-in-Err-clause-reads
returns-in-Err-clause-reads g c =
    let place = c.args.self.now.place in
    rw c.fault.ensures.fault (page_refused place (place.pages - 1) _ _ _ _ _ _ _ c.requires.plans (let h =
    c.requires.pages in omega (arith, h)) (page_filled _ _ _ _ _ _ _ _ _ _ c.deref.ensures.0
    c.fill-filled.ensures.filled) (search (rules, arith)) (page_same _ _ _ _ _ _ c.deref-2.ensures.0
    c.in-Err.ensures.same))

pub returns-in-Ok-clause-next : goal.returns-in-Ok-clause-next
returns-in-Ok-clause-next g c = record {
  row = c.in-Ok.ensures.row;
  unseen = rw (← c.deref-2.ensures.0) c.in-Ok.ensures.unseen;
  seen = c.pass_page.ensures.seen;
}

pub fill-filled-requires-clause-paced : goal.fill-filled-requires-clause-paced
fill-filled-requires-clause-paced g c = λ bytes left taken is.
    let count = is.0 in
    let few : length bytes < 4100 = search (rules, arith) in
    let right = subst (λ s. is_fault (front_page c.args.self.now.place.frames s c.args.self.now.place.at bytes)
    ≡ false) c.deref.ensures.0 is.1 in
    c.requires.paced bytes left taken (page_open c.args.self.now.place (c.args.self.now.place.pages - 1) bytes
    c.requires.plans (omega arith) few right)
