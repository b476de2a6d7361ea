use Rattle.std.proofs.Common.{rules, ◌≡◌, ◌-◌, ◌∙◌, ◌++◌, [], sym, refl, arith, length}
use Rattle.std.proofs.Common.{append-nil, append_assoc}
use Rattle.std.proofs.lemmas.List.{nil_from_length, take-append-drop}
use Rattle.std.specs.Prelude.{replicate}
use Rattle.std.proofs.lemmas.Bool.Decides.{nat_tests}
use Rattle.pip_search.specs.Collapsing.{blocks_of}
use Rattle.pip_search.proofs.Collapsed.{begun_done, begun_more, begun_none, extended_again}
use Rattle.pip_search.proofs.key_store.KeyStore.make_by_blocks.Goals as goal

pub loop-block-init : goal.loop-block-init
loop-block-init c = record {
  named = c.requires.named;
  extended = record { rest = []; whole = sym (append-nil (blocks_of c.args.self.now.blocks)) };
  entries = refl;
  bytes = [];
  begun = begun_none (blocks_of c.args.self.now.blocks) (length c.args.key.now) c.push_word.new.bytes.items
      (omega arith)
      (rw (c.in_ok-push_word.ensures, c.clear.ensures.items));
  cut = refl;
}

pub loop-block-preserved : goal.loop-block-preserved
loop-block-preserved c =
    let h = c.loop-block.invariant in
    let own = c.in_ok-add_number.ensures in
    let old = blocks_of c.args.self.now.blocks in
    let before = blocks_of c.loop-block.self.blocks in
    let after = blocks_of c.add_number.new.self.blocks in
    let block = c.in-Some.block.now in
    let rest = c.loop-block.rest.now in
    let cases = c.in-Some.ensures.cases in
    let whole : rest ≡ block ++ c.in-Some.more.now = cc (take-append-drop 24 rest) in
    record {
      named = own.named;
      extended = extended_again old before after h.extended own.extended;
      entries = own.entries ∙ h.entries;
      bytes = h.bytes ++ block;
      begun = begun_more before after (length c.args.key.now) h.bytes block c.loop-block.self.entry.items
          c.add_number.new.self.entry.items own.extended h.begun (own.added (search rules));
      cut = rw (append_assoc h.bytes block c.in-Some.more.now, ← whole, h.cut);
    }

pub returns-then-is_empty-clause-made : goal.returns-then-is_empty-clause-made
returns-then-is_empty-clause-made c = λ yes.
    let h = c.loop-block.invariant in
    let key = c.args.key.now in
    let rest = c.loop-block.rest.now in
    let zero : length rest ≡ 0 = grind (arith, nat_tests) in
    begun_done (blocks_of c.loop-block.self.blocks) key [] h.bytes c.loop-block.self.entry.items h.begun
    (cc (append-nil h.bytes, nil_from_length rest zero, h.cut, append-nil key))

pub returns-clause-made : goal.returns-clause-made
returns-clause-made c = λ yes.
    let h = c.loop-block.invariant in
    let own = c.in_ok-added.ensures in
    let before = blocks_of c.loop-block.self.blocks in
    let after = blocks_of c.add_number-2.new.self.blocks in
    let key = c.args.key.now in
    let rest = c.loop-block.rest.now in
    let zeros = replicate (24 - length rest) 0 in
    let block = c.filled.result in
    let begun = begun_more before after (length key) h.bytes block c.loop-block.self.entry.items
    c.add_number-2.new.self.entry.items own.extended h.begun (own.added yes) in
    begun_done after key zeros (h.bytes ++ block) c.add_number-2.new.self.entry.items begun
    (rw (c.filled.ensures, ← append_assoc h.bytes rest zeros, h.cut))
