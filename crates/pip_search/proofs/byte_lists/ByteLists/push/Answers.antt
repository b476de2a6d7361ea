-- The key is added where the last block has room.
use Rattle.std.proofs.Common.{◌≡◌, ◌-◌, ◌/◌, ◌<◌, refl, ap, ap₂, arith, length}
use Rattle.std.proofs.Common.{length-append, get_or, ◌∙◌}
use Rattle.std.proofs.lemmas.List.{get_or_read}
use Rattle.pip_search.specs.declared.byte_lists.ByteLists.{ByteLists}
use Rattle.pip_search.proofs.Stored.{HasAdded, block_low, key_added}
use Rattle.pip_search.proofs.byte_lists.ByteLists.push.Goals as goal

pub overflow_sub-end : goal.overflow_sub-end
overflow_sub-end c =
    let x = c.open_block.new.self in
    let n = c.len-2.result in
    let h = c.in_ok-open_block.ensures in
    let there : n / 64 < length x.blocks.items = omega arith in
    omega (
      arith,
      get_or_read x.blocks.items (n / 64) c.index.result.now there c.index.ensures 0,
      block_low x (n / 64)
          h.stored there,
      ap length c.in_ok-extend_from_slice.ensures.items ∙ length-append x.bytes.items c.args.list.now,
    )

added : (c : goal.In_ok-push) → HasAdded c.open_block.new.self
    (record { bytes = c.extend_from_slice.new.self; blocks = c.open_block.new.self.blocks; ends = c.push.new.self })
    c.args.list.now
added c =
    let x = c.open_block.new.self in
    let h = c.in_ok-open_block.ensures in
    let y : ByteLists = record { bytes = c.extend_from_slice.new.self; blocks = x.blocks; ends = c.push.new.self } in
    let n : c.len-2.result ≡ length x.ends.items = omega arith in
    let all : c.len.result ≡ length y.bytes.items = omega arith in
    let there : c.len-2.result / 64 < length x.blocks.items = omega arith in
    let begin = get_or_read x.blocks.items (c.len-2.result / 64) c.index.result.now there c.index.ensures 0
    ∙ ap (λ k. get_or x.blocks.items (k / 64) 0) n in
    key_added x y c.args.list.now (c.len.result - c.index.result.now) h.stored h.room
    c.in_ok-extend_from_slice.ensures.items refl c.in_ok-push.ensures.items (ap₂ (λ a b. a - b) all begin)

pub returns-clause-stored : goal.returns-clause-stored
returns-clause-stored c = (added c).stored

pub returns-clause-added : goal.returns-clause-added
returns-clause-added c = rw ((added c).added, c.in_ok-open_block.ensures.same)
