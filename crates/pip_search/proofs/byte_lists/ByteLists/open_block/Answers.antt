-- A block begins where the bytes end.
use Rattle.std.proofs.Common.{◌≡◌, ◌/◌, ◌++◌, [], ◌∷◌, refl, ap, arith, length, ◌∙◌}
use Rattle.pip_search.specs.declared.byte_lists.ByteLists.{ByteLists}
use Rattle.pip_search.proofs.Stored.{HasOpened, block_opened}
use Rattle.pip_search.proofs.byte_lists.ByteLists.open_block.Goals as goal

opened : (c : goal.In_ok-push) → HasOpened c.args.self.now
    (record { bytes = c.args.self.now.bytes; blocks = c.push.new.self; ends = c.args.self.now.ends })
opened c =
    let x = c.args.self.now in
    let y : ByteLists = record { bytes = x.bytes; blocks = c.push.new.self; ends = x.ends } in
    let full : length x.ends.items / 64 ≡ length x.blocks.items =
    omega (arith, c.if-len.true, c.len.ensures, c.len-2.ensures, x.ends.ok.0, x.blocks.ok.0) in
    let begin : c.len-then-len.result ≡ length x.bytes.items = omega (arith, c.len-then-len.ensures, x.bytes.ok.0) in
    block_opened x y c.requires.stored full refl
    (c.in_ok-push.ensures.items ∙ ap (λ n. x.blocks.items ++ n ∷ []) begin) refl

pub returns-in_ok-push-clause-stored : goal.returns-in_ok-push-clause-stored
returns-in_ok-push-clause-stored c = (opened c).stored

pub returns-in_ok-push-clause-room : goal.returns-in_ok-push-clause-room
returns-in_ok-push-clause-room c = (opened c).room

pub returns-in_ok-push-clause-same : goal.returns-in_ok-push-clause-same
returns-in_ok-push-clause-same c = (opened c).same
