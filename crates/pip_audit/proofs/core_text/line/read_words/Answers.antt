use Rattle.std.proofs.Common.{rules, arith, ◌≡◌, ◌<◌, length, sym, ◌∙◌}
use Rattle.pip_audit.proofs.Words.{all_words, more_words, no_words, none_yet, too_much}
use Rattle.pip_audit.specs.Lines.{words_ahead}
use Rattle.pip_audit.proofs.core_text.line.read_words.Goals as goal

pub loop-k-init : goal.loop-k-init
loop-k-init c = record {
  size = search rules;
  so_far = none_yet (words_ahead 8 c.args.text.now);
}

pub loop-k-preserved : goal.loop-k-preserved
loop-k-preserved c =
    let size = c.loop-k.invariant.size in
    record {
      size = search rules;
      so_far = more_words c.loop-k.k c.args.text.now c.loop-k.rest.now c.loop-k.words c.loop-k.invariant.so_far
          c.in_ok-word.word c.in_ok-word.tail.now (omega (arith, c.loop-k-test.true)) (omega (
            arith,
            c.loop-k-test.true,
            size,
          )) c.in_ok-word.ensures.0 c.in_ok-word.ensures.1;
    }

pub returns-in_err-word : goal.returns-in_err-word
returns-in_err-word c =
    c.from_residual.ensures ∙ sym (no_words c.loop-k.k c.args.text.now c.loop-k.rest.now c.loop-k.words
    c.loop-k.invariant.so_far (omega (arith, c.loop-k-test.true)) c.in_err-word.ensures)

pub returns-then-is_empty : goal.returns-then-is_empty
returns-then-is_empty c =
    let none : length c.loop-k.rest.now ≡ 0 = grind arith in
    sym (all_words c.loop-k.k c.args.text.now c.loop-k.rest.now c.loop-k.words c.loop-k.invariant.so_far
    (omega (arith, c.loop-k-test.false)) (omega (arith, c.loop-k.auto.k-end)) c.loop-k.invariant.size none)

pub returns-else-is_empty : goal.returns-else-is_empty
returns-else-is_empty c =
    let some : 0 < length c.loop-k.rest.now = grind arith in
    sym (too_much c.loop-k.k c.args.text.now c.loop-k.rest.now c.loop-k.words c.loop-k.invariant.so_far
    (omega (arith, c.loop-k-test.false)) some)
