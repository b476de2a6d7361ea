use Rattle.std.proofs.Common.{rules, ◌≡◌, ◌≤◌, ◌<◌, ◌∷◌, ◌++◌, [], length, take, drop, sym, ap, ap₂, ◌∙◌, subst, arith}
use Rattle.std.specs.Prelude.{MatchOption}
use Rattle.pip_model.specs.Grammar.{words_of}
use Rattle.pip_script.specs.Phrases.{HasForm, HasNoForm}
use Rattle.pip_script.specs.Words.{after_word}
use Rattle.pip_script.proofs.Phrases.{Reads, means, reads_first, reads_no_number, reads_further, reads_too_many}
use Rattle.pip_script.proofs.TextWords.{after_less, drop_word, tail_of, take_word, word_short, words_after}
use Rattle.pip_script.proofs.TextWords.{words_from, words_split}
use Rattle.pip_script.proofs.lines.split_phrase.Goals as goal

pub loop-rest-init : goal.loop-rest-init
loop-rest-init c cpus =
    let line = c.args.line.now in
    reads_first cpus c.requires.none (words_split line ∙ ap₂ (λ w r. w ∷ words_after r) (sym c.split_word.ensures.word)
    (sym c.split_word.ensures.rest))

pub returns-in_err-number : goal.returns-in_err-number
returns-in_err-number c =
    let line = c.args.line.now in
    subst (λ r. MatchOption r (HasNoForm line) (λ name. HasForm line name.now c.loop-rest.numbers.items))
    (sym c.from_residual.ensures)
    (λ cpus. reads_no_number (c.loop-rest.invariant cpus) (words_from c.loop-rest.rest.now c.in-len1-up.len_at_least)
    (sym c.in_err-number.ensures)
    ∙ means line c.requires.words c.if-line-gt-MAX_LINE.false cpus)

pub returns-in_err-ok : goal.returns-in_err-ok
returns-in_err-ok c =
    let line = c.args.line.now in
    let full : 7 ≤ length c.loop-rest.numbers.items = search (rules, arith) in
    subst (λ r. MatchOption r (HasNoForm line) (λ name. HasForm line name.now c.try_push.new.self.items))
    (sym c.from_residual-in_err-ok.ensures)
    (λ cpus. reads_too_many (c.loop-rest.invariant cpus) (words_from c.loop-rest.rest.now c.in-len1-up.len_at_least)
    c.in_ok-number.number.value (sym c.in_ok-number.ensures.0) full
    ∙ means line c.requires.words c.if-line-gt-MAX_LINE.false cpus)

pub loop-rest-smaller : goal.loop-rest-smaller
loop-rest-smaller c =
    let rest = c.loop-rest.rest.now in
    subst (λ r. length r < length rest) (sym c.in_ok-number.ensures.1) (after_less rest c.in-len1-up.len_at_least)

pub loop-rest-preserved : goal.loop-rest-preserved
loop-rest-preserved c cpus =
    let rest = c.loop-rest.rest.now in
    let number = c.in_ok-number.number in
    let name = c.split_word.result.0.now in
    let all = words_of c.args.line.now in
    let pushed : c.try_push.new.self.items ≡ c.loop-rest.numbers.items ++ number.value ∷ [] = search rules in
    let reads = reads_further (c.loop-rest.invariant cpus) (words_from rest c.in-len1-up.len_at_least) number.value
    (sym c.in_ok-number.ensures.0) in
    let pushes = subst (λ ns. Reads cpus name ns (words_after (after_word (tail_of rest))) all) (sym pushed) reads in
    subst (λ r. Reads cpus name c.try_push.new.self.items (words_after r) all) (sym c.in_ok-number.ensures.1) pushes
