use Rattle.std.proofs.Common.{rules, ◌∙◌, ap, sym, arith}
use Rattle.pip_search_commands.specs.MenuText.{deed_of, who_of}
use Rattle.pip_script.proofs.TextWords.{words_after}
use Rattle.pip_search_commands.proofs.MenuLines.{both_said, no_words, none_of, rest_short, said_is, some_word}
use Rattle.pip_search_commands.proofs.MenuLines.{what_fails}
use Rattle.pip_search_commands.proofs.MenuLines.{who_fails, words_behind}
use Rattle.pip_search_commands.proofs.commands.against.menu_line.read_may.Goals as goal

pub returns-in_default : goal.returns-in_default
returns-in_default c =
    let what = c.split_word.result.1.now in
    cc (
      who_fails (who_of c.split_word.result.0.now) (deed_of (words_after what))
          (sym c.read_who.ensures ∙ none_of c.read_who.result c.in_default.not-Some),
      said_is c.args.line.now
          c.split_word.result.0.now what c.split_word.ensures.word c.split_word.ensures.rest,
    )

pub read_deed-requires : goal.read_deed-requires
read_deed-requires c =
    rest_short c.args.line.now c.split_word.result.0.now c.split_word.result.1.now c.requires c.split_word.ensures.word
    c.split_word.ensures.rest (some_word c.split_word.result.0.now c.in-Some.name c.in-Some.ensures)
    c.in-len1-up.len_at_least

pub returns-in-Some-read_deed : goal.returns-in-Some-read_deed
returns-in-Some-read_deed c =
    let what = c.split_word.result.1.now in
    cc (
      both_said c.in-Some.name c.in-Some-read_deed.deed (who_of c.split_word.result.0.now)
          (deed_of (words_after what)) c.in-Some.ensures (c.in-Some-read_deed.ensures ∙ ap deed_of
          (words_behind what c.in-len1-up.len_at_least)),
      said_is c.args.line.now c.split_word.result.0.now what
          c.split_word.ensures.word c.split_word.ensures.rest,
    )

pub returns-in-None : goal.returns-in-None
returns-in-None c =
    let what = c.split_word.result.1.now in
    cc (
      what_fails c.in-Some.name (who_of c.split_word.result.0.now) (deed_of (words_after what)) c.in-Some.ensures
          (sym (c.in-None.ensures ∙ ap deed_of (words_behind what c.in-len1-up.len_at_least))),
      said_is c.args.line.now
          c.split_word.result.0.now what c.split_word.ensures.word c.split_word.ensures.rest,
    )

pub returns-in_default-what : goal.returns-in_default-what
returns-in_default-what c =
    let what = c.split_word.result.1.now in
    cc (
      what_fails c.in-Some.name (who_of c.split_word.result.0.now) (deed_of (words_after what)) c.in-Some.ensures
          (ap deed_of (no_words what (search (rules, arith)))),
      said_is c.args.line.now c.split_word.result.0.now what
          c.split_word.ensures.word c.split_word.ensures.rest,
    )
