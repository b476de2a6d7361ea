-- A line of a menu, word by word.
use Rattle.std.proofs.Common.{◌≡◌, ℕ, ◌+◌, ◌-◌, ◌≤◌, ◌<◌, ◌==◌, Bool, true, false, cond, List, [], ◌∷◌, ◌++◌, length}
use Rattle.std.proofs.Common.{Option, Some, None, Ok, Err, refl, sym, length-append, length-drop, arith}
use Rattle.std.specs.Prelude.{codes, option_and_then}
use Rattle.std.specs.Str.{bytes_eq}
use Rattle.std.proofs.lemmas.Bool.{cond-true, eqb-true, le-leb}
use Rattle.std.proofs.lemmas.List.{take_rest}
use Rattle.std.proofs.lemmas.Slice.Eq.{bytes_eq-Decides}
use Rattle.pip_model.specs.Grammar.{form, line_meaning, numbers_of, phrase, phrase_or_blank}
use Rattle.pip_model.specs.Grammar.{words_of}
use Rattle.pip_model.specs.declared.script.ScriptLine.TheVariants as L
use Rattle.pip_script.specs.Words.{after_word, first_word}
use Rattle.pip_script.proofs.TextWords.{tail_of, words_after, words_from, words_split}
use Rattle.pip_every.specs.declared.menus.Deed.{Deed}
use Rattle.pip_search_commands.specs.MenuText.{deed_of, label_said, line_deed, may_of, question_of, said_by, who_of}
use Rattle.pip_search_commands.specs.declared.commands.against.menu_line.MenuKind.TheVariants as K
use Rattle.pip_search_commands.specs.declared.commands.against.menu_line.Question.{Question}
use Rattle.pip_search_commands.specs.declared.commands.against.menu_line.Question.TheVariants as Q

-- ---- a text is its first word, and what follows it

pub word_then : (xs : List ℕ) → first_word xs ++ after_word xs ≡ xs
word_then [] = refl
word_then (b ∷ bs) =
    elim (b == 32) as (λ t. cond t [] (b ∷ first_word bs) ++ cond t (b ∷ bs) (after_word bs) ≡ b ∷ bs) [
      | true ↦ refl
      | false ↦ rw (word_then bs)
    ]

-- a word stays one with a space after it
first_stays : (xs more : List ℕ) → first_word (first_word xs ++ 32 ∷ more) ≡ first_word xs
first_stays [] more = refl
first_stays (b ∷ bs) more =
    elim (b == 32) as (λ t. (b == 32) ≡ t
    → first_word (cond t [] (b ∷ first_word bs) ++ 32 ∷ more) ≡ cond t [] (b ∷ first_word bs)) [
      | true ↦ λ e. refl
      | false ↦ λ e. rw (e, first_stays bs more)
    ] refl

after_stays : (xs more : List ℕ) → after_word (first_word xs ++ 32 ∷ more) ≡ 32 ∷ more
after_stays [] more = refl
after_stays (b ∷ bs) more =
    elim (b == 32) as (λ t. (b == 32) ≡ t → after_word (cond t [] (b ∷ first_word bs) ++ 32 ∷ more) ≡ 32 ∷ more) [
      | true ↦ λ e. refl
      | false ↦ λ e. rw (e, after_stays bs more)
    ] refl

-- what follows a word begins with a space, or is nothing
no_word : (xs : List ℕ) → first_word (after_word xs) ≡ []
no_word [] = refl
no_word (b ∷ bs) = elim (b == 32) as (λ t. (b == 32) ≡ t → first_word (cond t (b ∷ bs) (after_word bs)) ≡ []) [
  | true ↦ λ e. rw e
  | false ↦ λ e. no_word bs
] refl

after_same : (xs : List ℕ) → after_word (after_word xs) ≡ after_word xs
after_same [] = refl
after_same (b ∷ bs) =
    elim (b == 32) as (λ t. (b == 32) ≡ t → after_word (cond t (b ∷ bs) (after_word bs)) ≡ cond t (b ∷ bs) (after_word
    bs)) [
      | true ↦ λ e. rw e
      | false ↦ λ e. after_same bs
    ] refl

-- ---- with a processor after the first word

abbrev pub with_cpu : List ℕ → List ℕ
with_cpu xs = (first_word xs ++ codes " 0") ++ after_word xs

with_cpu_is : (xs : List ℕ) → with_cpu xs ≡ first_word xs ++ 32 ∷ (48 ∷ after_word xs)
with_cpu_is xs = append_of (first_word xs) (after_word xs)
  where
    append_of : (w r : List ℕ) → (w ++ codes " 0") ++ r ≡ w ++ 32 ∷ (48 ∷ r)
    append_of [] r = refl
    append_of (b ∷ w) r = rw (append_of w r)

words_with_cpu : (xs : List ℕ) → words_of (with_cpu xs) ≡ first_word xs ∷ codes "0" ∷ words_after (after_word xs)
words_with_cpu xs =
    let rest = after_word xs in
    let zero_word : first_word (48 ∷ rest) ≡ 48 ∷ [] = rw (no_word xs) in
    rw (
      with_cpu_is xs,
      words_split (first_word xs ++ 32 ∷ (48 ∷ rest)),
      first_stays xs (48 ∷ rest),
      after_stays xs
          (48 ∷ rest),
      words_split (48 ∷ rest),
      zero_word,
      after_same xs,
    )

pub size_with_cpu : (xs : List ℕ) → length (with_cpu xs) ≡ length xs + 2
size_with_cpu xs =
    let whole : length xs ≡ length (first_word xs) + length (after_word xs) =
    cc (word_then xs, length-append (first_word xs) (after_word xs)) in
    let all : length (with_cpu xs) ≡ length (first_word xs ++ codes " 0") + length (after_word xs) =
    length-append (first_word xs ++ codes " 0") (after_word xs) in
    let front : length (first_word xs ++ codes " 0") ≡ length (first_word xs) + 2 =
    length-append (first_word xs) (codes " 0") in
    omega arith

-- no line begins with the sign of a remark
no_remark : (w : List ℕ) (os : List (List ℕ)) → option_and_then line_deed (phrase 1 ((35 ∷ w) ∷ os)) ≡ None
no_remark w os = go (numbers_of os)
  where
    go : (o : Option (List ℕ)) → option_and_then line_deed (option_and_then (form 1 (35 ∷ w)) o) ≡ None
    go None = refl
    go (Some ns) = refl

-- so they say the deed of the words, whatever they begin with
meaning_or_blank : (bs : List ℕ) (w : List ℕ) (os : List (List ℕ)) → words_of bs ≡ w ∷ os → w ≡ first_word bs
    → option_and_then line_deed (phrase_or_blank 1 bs) ≡ option_and_then line_deed (phrase 1 (w ∷ os))
meaning_or_blank [] w os words first = let e : ◌≡◌ {A = List (List ℕ)} ([] ∷ []) (w ∷ os) = words in
    cc
meaning_or_blank (b ∷ bs) w os words first = elim (b == 35) as (λ t. (b == 35) ≡ t
    → option_and_then line_deed (cond t (Some L.Blank) (phrase 1 (words_of (b ∷ bs))))
    ≡ option_and_then line_deed (phrase 1 (w ∷ os))) [
      | true ↦ λ e.
          let is : b ≡ 35 = eqb-true b 35 e in
          let front : w ≡ 35 ∷ first_word bs = rw (first, is) in
          rw (← no_remark (first_word bs) os, ← front)
      | false ↦ λ e. rw words
    ] refl

pub deed_is : (xs : List ℕ) → length xs ≤ 118
    → option_and_then line_deed (line_meaning 1 (with_cpu xs)) ≡ deed_of (words_of xs)
deed_is xs short =
    let size = size_with_cpu xs in
    let whole : line_meaning 1 (with_cpu xs) ≡ phrase_or_blank 1 (with_cpu xs) =
    cond-true _ _ _ (le-leb (length (with_cpu xs)) 120 (omega arith)) in
    let first : first_word xs ≡ first_word (with_cpu xs) =
    cc (first_stays xs (48 ∷ after_word xs), with_cpu_is xs) in
    cc (
      meaning_or_blank (with_cpu xs) (first_word xs) (codes "0" ∷ words_after (after_word xs)) (words_with_cpu xs)
          first,
      words_split xs,
    )

-- and they are put together from the two
pub built : (none one two three word rest text : List ℕ) → none ≡ [] → one ≡ none ++ word → two ≡ one ++ codes " 0"
    → three ≡ two ++ rest → word ≡ first_word text → rest ≡ after_word text → three ≡ with_cpu text
built none one two three word rest text empty a b c is after =
    rw (c, b, a, empty, is, after)

-- ---- who, and what

pub none_of : {A : Type 0} (o : Option A) → ((x : A) → o ≡ Some x → ⊥) → o ≡ None
none_of None not = refl
none_of (Some x) not = absurd (not x refl)

-- who is meant is said by some bytes
pub some_word : (word : List ℕ) (who : Option ℕ) → Some who ≡ who_of word → 1 ≤ length word
some_word [] who is = absurd (cc)
some_word (b ∷ bs) who is = omega arith

pub rest_short : (line who what : List ℕ) → length line ≤ 120 → who ≡ first_word line → what ≡ after_word line
    → 1 ≤ length who → 1 ≤ length what → length (tail_of what) ≤ 118
rest_short line who what short word rest some more =
    let whole : length line ≡ length (first_word line) + length (after_word line) =
    cc (word_then line, length-append (first_word line) (after_word line)) in
    let front : length who ≡ length (first_word line) = rw word in
    let back : length what ≡ length (after_word line) = rw rest in
    let tail : length (tail_of what) ≡ length what - 1 =
    rw (take_rest what 1, length-drop 1 what) in
    omega arith

-- what the words of a line say, by its first word and what follows
pub said_is : (line who what : List ℕ) → who ≡ first_word line → what ≡ after_word line
    → said_by (words_of line) ≡ may_of (who_of who) (deed_of (words_after what))
said_is line who what word rest =
    rw (words_split line, ← word, ← rest)

pub words_behind : (what : List ℕ) → 1 ≤ length what → words_of (tail_of what) ≡ words_after what
words_behind what some = cc (words_split (tail_of what), words_from what some)

pub no_words : (what : List ℕ) → length what < 1 → words_after what ≡ []
no_words [] few = refl
no_words (b ∷ bs) few = absurd (omega arith)

pub who_fails : (o : Option (Option ℕ)) (d : Option Deed) → o ≡ None → may_of o d ≡ Err K.Who
who_fails o d is = rw is

pub what_fails : (who : Option ℕ) (o : Option (Option ℕ)) (d : Option Deed) → Some who ≡ o → d ≡ None
    → may_of o d ≡ Err K.What
what_fails who o d is none = rw (← is, none)

pub both_said : (who : Option ℕ) (deed : Deed) (o : Option (Option ℕ)) (d : Option Deed) → Some who ≡ o → Some deed ≡ d
    → may_of o d ≡ Ok (record { name = who; deed = deed })
both_said who deed o d is said = rw (← is, ← said)

-- ---- labels

-- the word of a question has five bytes
question_size : (word : List ℕ) (q : Question) → question_of word ≡ Some q → length word ≡ 5
question_size word q e = go (bytes_eq word (codes "again")) (bytes_eq word (codes "comes")) refl refl e
  where
    go : (a b : Bool) → bytes_eq word (codes "again") ≡ a → bytes_eq word (codes "comes") ≡ b
        → cond a (Some Q.Again) (cond b (Some Q.Comes) None) ≡ Some q → length word ≡ 5
    go true b is other said = rw ((bytes_eq-Decides word (codes "again")).0 is)
    go false true not is said = rw ((bytes_eq-Decides word (codes "comes")).0 is)
    go false false not other said = cc

-- a label is shorter than its line, by this word and a space
pub label_short : (line word rest label : List ℕ) (q : Question) → length line ≤ 120 → word ≡ first_word line
    → rest ≡ after_word line → Some q ≡ question_of word → label_said rest ≡ Ok label → length label ≤ 114
label_short line word rest label q short front back is said =
    let whole : length line ≡ length (first_word line) + length (after_word line) =
    cc (word_then line, length-append (first_word line) (after_word line)) in
    let five : length (first_word line) ≡ 5 = rw (← front, question_size word q (sym is)) in
    let same : length rest ≡ length (after_word line) = rw back in
    let own : length rest ≡ length label + 1 = go rest said in
    omega arith
  where
    go : (rest : List ℕ) → label_said rest ≡ Ok label → length rest ≡ length label + 1
    go [] e = cc
    go (s ∷ []) e = cc
    go (s ∷ (b ∷ bs)) e =
        let same : b ∷ bs ≡ label = cc in
        let count : length (b ∷ bs) ≡ length label = cc in
        omega arith
