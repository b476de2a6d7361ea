use Rattle.std.proofs.Common.{◌∙◌, ◌+◌, ◌++◌, ◌∷◌, [], ap, refl, append-nil, drop}
use Rattle.std.proofs.lemmas.List.{at_drop_all}
use Rattle.pip_search.specs.Packing.{unpacked_key, unpacked_after}
use Rattle.pip_search.proofs.Packed.{unpack_last, unpack_more, words_none}
use Rattle.pip_search.proofs.packing.unpack.Goals as goal
use Rattle.pip_search.proofs.packing.unpack.Goals.{then-byte-lt128+in_ok-push, else-byte-lt128}

pub loop-byte-preserved : goal.loop-byte-preserved
loop-byte-preserved c =
    let bytes = c.args.bytes.now in
    let i = c.loop-byte.byte-index in
    let words = c.loop-byte.key.items in
    let rest = drop (i + 1) bytes in
    elim c.if-byte-lt128.branch [
      | then-byte-lt128+in_ok-push w ↦ rw (
        w.key-is,
        w.word-is,
        unpack_last words w.push.new.self.items bytes i
            c.loop-byte.word _ (unpacked_key bytes) c.loop-byte-test.true refl w.if-byte-lt128.true
            (w.in_ok-push.ensures.items ∙ ap (λ x. words ++ x ∷ []) c.joined-word.ensures) c.loop-byte.invariant,
      )
      | else-byte-lt128 w ↦ rw (
        w.key-is,
        w.word-is,
        c.joined-word.ensures,
        unpack_more words bytes i c.loop-byte.word
            _ (unpacked_key bytes) c.loop-byte-test.true refl w.if-byte-lt128.false c.loop-byte.invariant,
      )
    ]

pub returns : goal.returns
returns c = rw (
  ← append-nil c.loop-byte.key.items,
  ← words_none c.loop-byte.word,
  ← at_drop_all
      (unpacked_after c.loop-byte.word) c.args.bytes.now c.loop-byte.byte-index c.loop-byte-test.false,
  c.loop-byte.invariant,
)
