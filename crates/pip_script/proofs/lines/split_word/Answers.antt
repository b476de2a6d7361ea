use Rattle.std.proofs.Common.{ap, ◌∙◌, take, drop, arith}
use Rattle.pip_script.proofs.TextWords.{drop_word, take_word, word_short}
use Rattle.pip_script.proofs.lines.split_word.Goals as goal

pub split_at-requires : goal.split_at-requires
split_at-requires c =
    let short = word_short c.args.text.now in
    let is = c.word_len.ensures in
    omega (arith, is, short)

pub returns-clause-word : goal.returns-clause-word
returns-clause-word c =
    let text = c.args.text.now in
    c.split_at.ensures.front ∙ (ap (λ n. take n text) c.word_len.ensures ∙ take_word text)

pub returns-clause-rest : goal.returns-clause-rest
returns-clause-rest c =
    let text = c.args.text.now in
    c.split_at.ensures.back ∙ (ap (λ n. drop n text) c.word_len.ensures ∙ drop_word text)
