-- Lemmas that are used together, each set for one tactic (CONTRIBUTING.md, "How proofs are written").
use Rattle.std.proofs.Common.{append_assoc, arith, length-append, length-set}
use Rattle.std.proofs.lemmas.Bool.{and_cases, and_parts, eqb-false, eqb-true, leb-false, leb-true, ltb-false, ltb-true}
use Rattle.std.proofs.lemmas.Bool.{not-false, not-true, or_cases, or_parts}
use Rattle.std.proofs.lemmas.List.{append-nil, get_or-set_other, get_or-set_same, length-map, map-append}
use Rattle.std.proofs.lemmas.List.Sums.{sum_by-append}
use Rattle.pip_base.proofs.Memory.{IsMemory-put, length-put_word, word_at-put_frame, word_at-put_index}
use Rattle.pip_base.proofs.Memory.{word_at-put_same}

-- for `simp`: brackets to the right, nothing at the end, map, length and sum through `++`
pub ruleset texts = (append_assoc, append-nil, map-append, length-append, length-map, sum_by-append)

-- for `grind`: tests that were true or false, taken apart
pub ruleset tests = (
  arith,
  and_parts,
  or_parts,
  and_cases,
  or_cases,
  not-true,
  not-false,
  eqb-true,
  eqb-false,
  ltb-true,
  ltb-false,
  leb-true,
  leb-false,
)

-- for `search` and `grind`: a word after a word was written
pub ruleset writes = (word_at-put_same, word_at-put_frame, word_at-put_index, length-put_word, IsMemory-put)

-- for `simp`: an element after an element was written
pub ruleset sets = (get_or-set_same, get_or-set_other, length-set)
