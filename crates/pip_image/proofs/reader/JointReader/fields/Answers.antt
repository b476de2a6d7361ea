use Rattle.std.proofs.Common.{rules, arith, ◌<◌, length}
use Rattle.pip_model.specs.Images.{fields_of}
use Rattle.pip_image.proofs.Parsing.{fields_goes}
use Rattle.pip_image.proofs.ReadParts.{filled_calm, filled_whole, fields_open, fields_taken, fields_refused}
use Rattle.pip_image.proofs.reader.JointReader.fields.Goals as goal

pub returns-in-Ok-clause-reads : goal.returns-in-Ok-clause-reads
returns-in-Ok-clause-reads g c =
    let e = c.pass_fields.ensures in
    fields_taken c.pass_fields.new.self _ _ _ _ _ _ _ _ c.fill-filled.ensures.filled (search (rules, arith))
    c.in-Ok.ensures.same e.at e.frames e.plans e.line e.pages e.seen

pub returns-in-Ok-clause-no_faults : goal.returns-in-Ok-clause-no_faults
returns-in-Ok-clause-no_faults g c =
    filled_calm 24 _ _ _ _ _ _ fields_of _ _ fields_goes c.fill-filled.ensures.filled (search (rules, arith))
    c.in-Ok.ensures.same

pub returns-in-Ok-clause-is_open : goal.returns-in-Ok-clause-is_open
returns-in-Ok-clause-is_open g c =
    c.fill-filled.ensures.is_open (filled_whole 24 _ _ _ _ _ _ fields_of _ _ fields_goes
    c.fill-filled.ensures.filled (search (rules, arith)) c.in-Ok.ensures.same)

pub returns-in-Err-clause-reads : goal.returns-in-Err-clause-reads
returns-in-Err-clause-reads g c =
    rw c.fault.ensures.fault (fields_refused _ _ _ _ _ _ _ c.fill-filled.ensures.filled (search (rules, arith))
    c.in-Err.ensures.same)

pub fill-filled-requires-clause-paced : goal.fill-filled-requires-clause-paced
fill-filled-requires-clause-paced g c = λ bytes left taken is.
    let count = is.0 in
    let few : length bytes < 24 = search (rules, arith) in
    c.requires.paced bytes left taken (fields_open bytes few is.1)
