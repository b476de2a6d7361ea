-- One processor more is passed by.
use Rattle.std.proofs.Common.{◌≡◌, arith}
use Rattle.pip_every.proofs.Words.{name_there, pass_next, passed_none, splits}
use Rattle.pip_every.proofs.processors.name_at.Goals as goal

pub loop-i-init : goal.loop-i-init
loop-i-init c = passed_none c.args.words.now c.args.count

pub after_running-rest-requires : goal.after_running-rest-requires
after_running-rest-requires c =
    let b = c.requires.begins.1 in
    let at = c.loop-i.invariant c.requires.begins.0 b.0 b.1 in
    let s = splits c.loop-i.rest.now c.args.count c.loop-i._i at.0 b.0 (omega arith) at.1.1 in
    (s.first, (_, s.begins))

pub loop-i-preserved : goal.loop-i-preserved
loop-i-preserved c = pass_next c.args.words.now c.args.count c.loop-i._i c.loop-i.rest.now
    c.after_running-rest.result.now
    (omega arith) c.after_running-rest.ensures c.loop-i.invariant

pub first_name-requires : goal.first_name-requires
first_name-requires c =
    let b = c.requires.begins.1 in
    let at = c.loop-i.invariant c.requires.begins.0 b.0 b.1 in
    let s = splits c.loop-i.rest.now c.args.count c.loop-i._i at.0 b.0 (omega arith) at.1.1 in
    (s.first, (_, s.begins))

pub returns : goal.returns
returns c os rest b =
    let end : c.args.cpu ≡ c.loop-i._i = omega arith in
    rw end (name_there c.args.words.now c.args.count c.loop-i._i c.loop-i.rest.now c.first_name.result (omega arith)
    c.first_name.ensures c.loop-i.invariant os rest b)
