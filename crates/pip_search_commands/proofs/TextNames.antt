-- What the last line of a text says: how the search ended, or what was said of the last label.
use Rattle.std.proofs.Common.{◌≡◌, ℕ, zero, suc, ◌+◌, ◌-◌, ◌%◌, ◌/◌, ◌<◌, ◌≤◌, ◌==◌, inr, nat_lt, if◌then◌else◌}
use Rattle.std.proofs.Common.{Bool, true, false, List, [], ◌∷◌, ◌++◌, length, take, Option, None, Some, refl, sym}
use Rattle.std.proofs.Common.{◌∙◌, subst, arith, append_assoc, append-nil, decimal, slice_get}
use Rattle.std.specs.Fmt.{digit_glyph, digits, digits_onto}
use Rattle.std.specs.Prelude.{codes, drop, flat_map, reverse, slice_index}
use Rattle.std.proofs.lemmas.Bool.Decides.{nat_tests}
use Rattle.std.proofs.lemmas.List.{append_cancel_right, reverse-append}
use Rattle.pip_away.specs.Blind.{leaves_out}
use Rattle.pip_command_contracts.specs.EndsBy.{plainly}
use Rattle.pip_command_contracts.specs.Planned.{lines_planned}
use Rattle.pip_audit.specs.CoreRead.{AreWholeLines}
use Rattle.pip_every.specs.declared.again.Again.{Again}
use Rattle.pip_every.specs.declared.again.Again.TheVariants.{Can, Lost, Unknown}
use Rattle.pip_every.specs.declared.away.Away.{Away}
use Rattle.pip_every.specs.declared.away.Away.TheVariants as A
use Rattle.pip_every.specs.declared.comes.Comes.{Comes}
use Rattle.pip_io.proofs.Piecewise.{flat_split}
use Rattle.pip_model.specs.Acts.{text_of}
use Rattle.pip_model.specs.Images.{Image}
use Rattle.pip_model.specs.Run.{trace_image_line}
use Rattle.pip_search.specs.Summary.{Witness}
use Rattle.pip_search.specs.declared.searching.Extent.{Extent}
use Rattle.pip_search.specs.declared.searching.Extent.TheVariants.{Closed, Stopped, Within}
use Rattle.pip_search.specs.declared.ways.Run.{Run}
use Rattle.pip_search_commands.specs.ApartLaw.{HasLineOf}
use Rattle.pip_search_commands.specs.EveryText.{again_front, again_text, against_text, away_words}
use Rattle.pip_search_commands.specs.EveryText.{comes_text, every_text, said_line, said_words}
use Rattle.pip_search_commands.specs.MenuText.{MenuSaid, no_menu}
use Rattle.pip_search_commands.specs.RunLaw.{IsNamedBy, steps_from}
use Rattle.pip_search_commands.specs.SearchDues.{IsSearchedAgainst}
use Rattle.pip_search_commands.specs.declared.start.Start.{Start}
use Rattle.pip_search_commands.specs.TextLaw.{ClosedTextsNameMenus, ClosedTextsNameRuns, EndsSo, YesTextsComeAgain}
use Rattle.pip_search_commands.specs.TextLaw.{comes_again_line}
use Rattle.pip_every.specs.Texts.{choice_text, deed_text, inner, spaced_run, times_text, verdict_line, way_text}
use Rattle.pip_every.specs.Texts.{witness_line}
use Rattle.pip_search_commands.proofs.AgainstOnce.{closed_names_menus, yes_comes_again}
use Rattle.pip_search_commands.proofs.ApartNames.{all_whole, both_whole, image_whole, same_answer}
use Rattle.pip_search_commands.proofs.RunsChosen.{closed_names_runs, lines_known}

-- ---- last bytes

-- a byte counted from the end of a text is one of its end
from_end : (k : ℕ) (front end : List ℕ)
    → slice_get (reverse (front ++ end)) k ≡ slice_get (reverse end ++ reverse front) k
from_end k front end = rw (reverse-append front end)

-- a text ends with this byte
abbrev EndsWith : ℕ → List ℕ → Type 0
EndsWith b text = (front : List ℕ) × (text ≡ front ++ b ∷ [])

-- with another text before it
ends_after : (b : ℕ) (front text : List ℕ) → EndsWith b text → EndsWith b (front ++ text)
ends_after b front text (x, e) = (front ++ x, rw (e, ← append_assoc front x (b ∷ [])))

-- one byte alone ends a text, before its newline
same_end : (a b : ℕ) (xs ys : List ℕ) → xs ++ (a ∷ 10 ∷ []) ≡ ys ++ (b ∷ 10 ∷ []) → a ≡ b
same_end a b xs ys e =
    let same : Some a ≡ Some b = rw (← from_end 1 xs (a ∷ 10 ∷ []), e, from_end 1 ys (b ∷ 10 ∷ [])) in
    cc

-- ---- the last digit of a number

onto_end : (k n b : ℕ) (acc : List ℕ) → EndsWith b (digits_onto k 10 false n (acc ++ b ∷ []))
onto_end zero n b acc = (acc, refl)
onto_end (suc k) n b acc = by_test (n / 10 == 0) (onto_end k (n / 10) b (digit_glyph false (n % 10) ∷ acc))
  where
    by_test : (t : Bool) → EndsWith b (digits_onto k 10 false (n / 10) (digit_glyph false (n % 10) ∷ (acc ++ b ∷ [])))
        → EndsWith b (if t then digit_glyph false (n % 10) ∷ (acc ++ b ∷ [])
        else digits_onto k 10 false (n / 10) (digit_glyph false (n % 10) ∷ (acc ++ b ∷ [])))
    by_test true more = (digit_glyph false (n % 10) ∷ acc, refl)
    by_test false more = more

-- its digit
abbrev last_digit : ℕ → ℕ
last_digit n = digit_glyph false (n % 10)

decimal_end : (n : ℕ) → EndsWith (last_digit n) (decimal n)
unfolding digits
decimal_end n = by_test (n / 10 == 0)
  where
    by_test : (t : Bool) → EndsWith (last_digit n) (if t then last_digit n ∷ []
        else digits_onto 63 10 false (n / 10) (last_digit n ∷ []))
    by_test true = ([], refl)
    by_test false = onto_end 63 (n / 10) (last_digit n) []

digit_low : (n : ℕ) → last_digit n < 58
digit_low n = grind (arith, nat_tests)

-- ---- how the search ended

number_grouped : (a b c n end : List ℕ) → a ++ (b ++ ((c ++ n) ++ end)) ≡ (a ++ (b ++ c)) ++ (n ++ end)
number_grouped a b c n end = simp append_assoc

end_grouped : (a b c end : List ℕ) → a ++ (b ++ (c ++ end)) ≡ (a ++ (b ++ c)) ++ end
end_grouped a b c end = simp append_assoc

byte_grouped : (a x : List ℕ) (b : ℕ) → a ++ ((x ++ b ∷ []) ++ 10 ∷ []) ≡ (a ++ x) ++ (b ∷ 10 ∷ [])
byte_grouped a x b = rw (append_assoc x (b ∷ []) (10 ∷ []), ← append_assoc a x (b ∷ 10 ∷ []))

says_closed : (i : Image) (ws : List Witness) (count : ℕ) (e : Extent)
    → EndsSo (every_text i ws count e) (codes " closed") → (depth : ℕ) × (e ≡ Closed depth)
says_closed i ws count (Closed depth) h = (depth, refl)
says_closed i ws count (Within depth) (front, is) =
    let (digits, end) = decimal_end depth in
    let image = trace_image_line i.frames i.cpus (length i.plans) (length i.pages) in
    let lines = flat_map (witness_line i.cpus (lines_planned i.plans)) ws in
    let before = image ++ (lines ++ (codes "states " ++ decimal count ++ codes " within ")) in
    let whole : every_text i ws count (Within depth) ≡ before ++ (decimal depth ++ 10 ∷ []) =
    number_grouped image lines (codes "states " ++ decimal count ++ codes " within ") (decimal depth) (10 ∷ []) in
    let last : before ++ (decimal depth ++ 10 ∷ []) ≡ (before ++ digits) ++ (last_digit depth ∷ 10 ∷ []) =
    rw (end, byte_grouped before digits (last_digit depth)) in
    let own = sym (append_assoc front (codes " close") (100 ∷ 10 ∷ [])) in
    absurd (omega (
      arith,
      same_end (last_digit depth) 100 (before ++ digits) (front ++ codes " close")
          (sym last ∙ (sym whole ∙ (is ∙ own))),
      digit_low depth,
    ))
says_closed i ws count (Stopped depth) (front, is) =
    let p : ℕ = 112 in
    let s : ℕ = 115 in
    let before = trace_image_line i.frames i.cpus (length i.plans) (length i.pages)
    ++ (flat_map (witness_line i.cpus (lines_planned i.plans)) ws
    ++ (codes "states " ++ decimal count ++ codes " depth " ++ decimal depth)) in
    let whole : every_text i ws count (Stopped depth) ≡ before ++ codes " stopped\n" =
    end_grouped (trace_image_line i.frames i.cpus (length i.plans) (length i.pages))
    (flat_map (witness_line i.cpus (lines_planned i.plans)) ws)
    (codes "states " ++ decimal count ++ codes " depth " ++ decimal depth) (codes " stopped\n") in
    let same : Some p ≡ Some s = rw (
      ← from_end 3 before (codes " stopped\n"),
      ← whole,
      is,
      from_end 3 front
          (codes " closed\n"),
    ) in
    let z : p ≡ s = cc in absurd (omega arith)

-- ---- a line for each label

witness_whole : (cpus : ℕ) (lines : List ℕ) (w : Witness) → AreWholeLines (witness_line cpus lines w)
witness_whole cpus lines w = inr (
  decimal (length w.way - 1) ++ inner w.label ++ codes ":" ++ way_text cpus lines w.way,
  refl,
)

has_line : (i : Image) (ws : List Witness) (count : ℕ) (e : Extent) (label : List ℕ) → IsNamedBy ws label
    → HasLineOf (every_text i ws count e) label
has_line i ws count e label n =
    let lines = lines_planned i.plans in
    let image = trace_image_line i.frames i.cpus (length i.plans) (length i.pages) in
    let (more, split) = flat_split (witness_line i.cpus lines) ws n.place n.witness n.at in
    let front = flat_map (witness_line i.cpus lines) (take n.place ws) in
    let step = length n.witness.way - 1 in
    let way = way_text i.cpus lines n.witness.way in
    let line = decimal step ++ inner label ++ codes ":" ++ way ++ codes "\n" in
    let own : witness_line i.cpus lines n.witness ≡ line =
    rw n.same in
    record {
      before = image ++ front;
      step = step;
      way = way;
      after = more ++ verdict_line count e;
      begins = both_whole image front (image_whole i.frames i.cpus (length i.plans) (length i.pages))
          (all_whole (witness_line i.cpus lines) (witness_whole i.cpus lines) (take n.place ws));
      whole = rw (split, own, regrouped image front line more (verdict_line count e));
    }
  where
    regrouped : (a b line c d : List ℕ) → a ++ ((b ++ (line ++ c)) ++ d) ≡ (a ++ b) ++ (line ++ (c ++ d))
    regrouped a b line c d = simp append_assoc

-- a menu that doesn't ask whether a label comes, and leaves no word out, adds the lines of the others
asks_less : (i : Image) (ws : List Witness) (count : ℕ) (e : Extent) (menu : MenuSaid) (again : List Again)
    (comes : List Comes) (away : Option Away) → menu.comes ≡ [] → away ≡ None
    → against_text i ws count e menu again comes away ≡ again_front i ws count e menu.again again
asks_less i ws count e menu again comes away nor out =
    let front = again_front i ws count e menu.again again in
    rw (nor, out, append-nil front)

module _ (menu : MenuSaid) (states from : ℕ) (most : Option ℕ) (start : Start) (i : Image) (text : List ℕ)
    (s : IsSearchedAgainst menu states from most start i (plainly 0 text None)) (nor : menu.comes ≡ [])
    (out : leaves_out menu.out ≡ false) where
  front_is : text ≡ again_front i s.found s.count s.verdict menu.again s.again
  front_is = same_answer text (against_text i s.found s.count s.verdict menu s.again s.comes s.away) s.text
      ∙ asks_less i s.found s.count s.verdict menu s.again s.comes s.away nor (s.looks.none out)

module _ (menu : MenuSaid) (states from : ℕ) (most : Option ℕ) (start : Start) (i : Image) (text : List ℕ)
    (s : IsSearchedAgainst menu states from most start i (plainly 0 text None)) (none : menu.again ≡ [])
    (nor : menu.comes ≡ []) (out : leaves_out menu.out ≡ false) where
  text_is : text ≡ every_text i s.found s.count s.verdict
  text_is = rw (
    front_is menu states from most start i text s nor out,
    none,
    append-nil
        (every_text i s.found s.count s.verdict),
  )

  closes : EndsSo text (codes " closed") → (depth : ℕ) × (s.verdict ≡ Closed depth)
  closes h = says_closed i s.found s.count s.verdict (rw (← text_is) h)

  named : (label : List ℕ) → IsNamedBy s.found label → HasLineOf text label
  named label n = rw text_is (has_line i s.found s.count s.verdict label n)

pub closed_texts_name_runs : ClosedTextsNameRuns
closed_texts_name_runs states from most start i text s ends plans seed n are =
    let (depth, closed) = closes no_menu states from most start i text s refl refl refl ends in
    lines_known (IsNamedBy s.found) (HasLineOf text) n start.count (text_of (steps_from i start plans seed n))
    (λ label some. named no_menu states from most start i text s refl refl refl label)
    (closed_names_runs states from depth most start i (plainly 0 text None) s closed plans seed n are)

pub closed_texts_name_menus : ClosedTextsNameMenus
closed_texts_name_menus menu states from most start i text s none nor out ends label choices some shown =
    let (depth, closed) = closes menu states from most start i text s none nor out ends in
    named menu states from most start i text s none nor out label
    (closed_names_menus menu states from depth most start i (plainly 0 text None) s closed label choices some shown)

-- ---- what was said of the last label

times_end : (b : ℕ) (n : ℕ) (text : List ℕ) → EndsWith b text → (b < 58)
    → (c : ℕ) × ((c < 58) × EndsWith c (text ++ times_text n))
times_end b n text h low = by_test (n == 1)
  where
    by_test : (t : Bool) → (c : ℕ) × ((c < 58) × EndsWith c (text ++ (if t then [] else codes "x" ++ decimal n)))
    by_test true = (b, (low, rw (append-nil text) h))
    by_test false = (
      last_digit n,
      (
        digit_low n,
        ends_after (last_digit n) text (codes "x" ++ decimal n)
            (ends_after (last_digit n) (codes "x") (decimal n) (decimal_end n)),
      ),
    )

choice_end : (cpus : ℕ) (lines : List ℕ) (k : ℕ) → (b : ℕ) × ((b < 58) × EndsWith b (choice_text cpus lines k))
choice_end cpus lines k = by_tests (nat_lt k cpus) (nat_lt (k - cpus) (length lines))
  where
    by_tests : (own line : Bool) → (b : ℕ) × ((b < 58) × EndsWith b (if own then decimal k
        else if line then codes "raise" ++ decimal (slice_index lines (k - cpus))
        else deed_text cpus (k - cpus - length lines)))
    by_tests true line = (last_digit k, (digit_low k, decimal_end k))
    by_tests false true =
        let j = slice_index lines (k - cpus) in
        (last_digit j, (digit_low j, ends_after (last_digit j) (codes "raise") (decimal j) (decimal_end j)))
    by_tests false false =
        let d = k - cpus - length lines in
        let n = d / cpus + 1 in (
          last_digit n,
          (
            digit_low n,
            ends_after (last_digit n) (decimal (d % cpus) ++ codes ":d") (decimal n)
                (decimal_end n),
          ),
        )

run_end : (cpus : ℕ) (lines : List ℕ) (r : Run) → (b : ℕ) × ((b < 58) × EndsWith b (spaced_run cpus lines r))
run_end cpus lines r =
    let (b, (low, end)) = choice_end cpus lines r.choice in
    times_end b r.count (codes " " ++ choice_text cpus lines r.choice)
    (ends_after b (codes " ") (choice_text cpus lines r.choice) end) low

-- `no`, and perhaps runs after it, end with another byte than `yes`
no_end : (cpus : ℕ) (lines : List ℕ) (front : List ℕ) (rs : List Run)
    → (b : ℕ) × ((b < 112) × EndsWith b ((front ++ codes ": no") ++ flat_map (spaced_run cpus lines) rs))
no_end cpus lines front rs = go rs (front ++ codes ": no") 111 (omega arith)
    (front ++ codes ": n", sym (append_assoc front (codes ": n") (111 ∷ [])))
  where
    go : (rs : List Run) (text : List ℕ) (b : ℕ) → b < 112 → EndsWith b text
        → (c : ℕ) × ((c < 112) × EndsWith c (text ++ flat_map (spaced_run cpus lines) rs))
    go [] text b low h = (b, (low, rw (append-nil text) h))
    go (r ∷ rs) text b low h =
        let (c, (less, end)) = run_end cpus lines r in
        let (d, (few, all)) = go rs (text ++ spaced_run cpus lines r) c (omega arith)
        (ends_after c text (spaced_run cpus lines r) end) in (
          d,
          (
            few,
            rw (← append_assoc text (spaced_run cpus lines r) (flat_map (spaced_run cpus lines) rs)) all,
          ),
        )

sides : (a b c d : List ℕ) → a ++ ((b ++ c) ++ d) ≡ ((a ++ b) ++ c) ++ d
sides a b c d = simp append_assoc

says_yes : (cpus : ℕ) (lines front : List ℕ) (r : Again)
    → EndsSo (front ++ said_words cpus lines r) (codes ": yes") → r ≡ Can
says_yes cpus lines front Can h = refl
says_yes cpus lines front Unknown (x, e) =
    let n : ℕ = 110 in
    let s : ℕ = 115 in
    let same : Some n ≡ Some s = rw (← from_end 1 front (codes ": unknown\n"), e, from_end 1 x (codes ": yes\n")) in
    let z : n ≡ s = cc in absurd (omega arith)
says_yes cpus lines front (Lost way) (x, e) =
    let (b, (low, (y, end))) = no_end cpus lines front way.items in
    let runs = flat_map (spaced_run cpus lines) way.items in
    let whole : front ++ said_words cpus lines (Lost way) ≡ ((front ++ codes ": no") ++ runs) ++ 10 ∷ [] =
    sides front (codes ": no") runs (10 ∷ []) in
    let last : ((front ++ codes ": no") ++ runs) ++ 10 ∷ [] ≡ y ++ (b ∷ 10 ∷ []) =
    rw (end, append_assoc y (b ∷ []) (10 ∷ [])) in
    let own = sym (append_assoc x (codes ": ye") (115 ∷ 10 ∷ [])) in
    absurd (omega (arith, same_end b 115 y (x ++ codes ": ye") (sym last ∙ (sym whole ∙ (e ∙ own))), low))

-- lines that say `yes` of all labels are those of answers that do
all_yes : (cpus : ℕ) (lines : List ℕ) (labels : List (List ℕ)) (said : List Again) → length said ≡ length labels
    → ((k : ℕ) (label : List ℕ) → slice_get labels k ≡ Some label → slice_get said k ≡ Some Can)
    → again_text cpus lines labels said ≡ flat_map comes_again_line labels
all_yes cpus lines [] said count each = refl
all_yes cpus lines (l ∷ ls) [] count each = cc
all_yes cpus lines (l ∷ ls) (r ∷ rs) count each =
    let yes : Some r ≡ Some Can = each 0 l refl in
    let can : r ≡ Can = cc in
    rw (can, all_yes cpus lines ls rs (omega arith) (λ k label at. each (suc k) label at))

moved_on : (x a b y c d : List ℕ) → x ++ (a ++ b) ≡ y ++ (c ++ d) → (x ++ a) ++ b ≡ (y ++ c) ++ d
moved_on x a b y c d e = rw (append_assoc x a b, e, ← append_assoc y c d)

-- where all answers after it say `yes`, so does an answer before such lines
first_yes : (cpus : ℕ) (lines : List ℕ) (label : List ℕ) (labels : List (List ℕ)) (r : Again) (said : List Again)
    (x y : List ℕ) → length said ≡ length labels
    → (x ++ said_line cpus lines label r) ++ again_text cpus lines labels said
    ≡ (y ++ comes_again_line label) ++ flat_map comes_again_line labels
    → ((k : ℕ) (other : List ℕ) → slice_get labels k ≡ Some other → slice_get said k ≡ Some Can) → r ≡ Can
first_yes cpus lines label labels r said x y count whole rest =
    let own = x ++ said_line cpus lines label r in
    let due = y ++ comes_again_line label in
    let same = all_yes cpus lines labels said count rest in
    let cut : own ≡ due = append_cancel_right own due (flat_map comes_again_line labels)
    (cc) in
    let front = codes "again " ++ label in
    says_yes cpus lines (x ++ front) r (
      y ++ front,
      rw (append_assoc x front (said_words cpus lines r), cut, ← append_assoc y front (codes ": yes\n")),
    )

-- a text that ends with such lines has these answers
each_yes : (cpus : ℕ) (lines : List ℕ) (labels : List (List ℕ)) (said : List Again) (x y : List ℕ) (j : ℕ)
    → length said ≡ length labels
    → x ++ again_text cpus lines labels said ≡ y ++ flat_map comes_again_line (drop j labels)
    → (k : ℕ) (label : List ℕ) → j ≤ k → slice_get labels k ≡ Some label → slice_get said k ≡ Some Can
each_yes cpus lines [] said x y j count e k label late at = cc
each_yes cpus lines (l ∷ ls) [] x y j count e k label late at = cc
each_yes cpus lines (l ∷ ls) (r ∷ rs) x y (suc j) count e zero label late at = absurd (omega arith)
each_yes cpus lines (l ∷ ls) (r ∷ rs) x y (suc j) count e (suc k) label late at =
    each_yes cpus lines ls rs (x ++ said_line cpus lines l r) y j (omega arith)
    (append_assoc x (said_line cpus lines l r) (again_text cpus lines ls rs) ∙ e) k label (omega arith) at
each_yes cpus lines (l ∷ ls) (r ∷ rs) x y zero count e zero label late at =
    let whole = moved_on x (said_line cpus lines l r) (again_text cpus lines ls rs) y (comes_again_line l)
    (flat_map comes_again_line ls) e in
    rw (first_yes cpus lines l ls r rs x y (omega arith) whole
    (λ k other here. each_yes cpus lines ls rs (x ++ said_line cpus lines l r) (y ++ comes_again_line l) 0
    (omega arith) whole k other (omega arith) here))
each_yes cpus lines (l ∷ ls) (r ∷ rs) x y zero count e (suc k) label late at =
    each_yes cpus lines ls rs (x ++ said_line cpus lines l r) (y ++ comes_again_line l) 0 (omega arith)
    (moved_on x (said_line cpus lines l r) (again_text cpus lines ls rs) y (comes_again_line l)
    (flat_map comes_again_line ls) e)
    k label (omega arith) at

pub yes_texts_come_again : YesTextsComeAgain
yes_texts_come_again menu states from most start i text front s j k label none out whole late at =
    yes_comes_again menu states from most start i (plainly 0 text None) s k label at
    (each_yes i.cpus (lines_planned i.plans) menu.again s.again (every_text i s.found s.count s.verdict) front j
    s.said.count (rw (← front_is menu states from most start i text s none out) whole) k label late at)

-- ---- whether all outside looks away

-- `no` ends with a digit, and `unknown` with another letter
says_away : (cpus : ℕ) (lines front : List ℕ) (a : Away)
    → EndsSo (front ++ away_words cpus lines a) (codes "away yes") → a ≡ A.Yes
says_away cpus lines front A.Yes h = refl
says_away cpus lines front A.Unknown (x, e) =
    let n : ℕ = 110 in
    let s : ℕ = 115 in
    let same : Some n ≡ Some s = rw (← from_end 1 front (codes "away unknown\n"), e, from_end 1 x (codes "away yes\n"))
    in
    let z : n ≡ s = cc in absurd (omega arith)
says_away cpus lines front (A.No way cpu) (x, e) =
    let (y, end) = decimal_end cpu in
    let runs = flat_map (spaced_run cpus lines) way.items in
    let before = front ++ (codes "away no" ++ (runs ++ codes " : ")) in
    let whole : front ++ away_words cpus lines (A.No way cpu) ≡ before ++ (decimal cpu ++ 10 ∷ []) =
    seen_grouped front (codes "away no") runs (codes " : ") (decimal cpu) (10 ∷ []) in
    let last : before ++ (decimal cpu ++ 10 ∷ []) ≡ (before ++ y) ++ (last_digit cpu ∷ 10 ∷ []) =
    rw (end, byte_grouped before y (last_digit cpu)) in
    let own = sym (append_assoc x (codes "away ye") (115 ∷ 10 ∷ [])) in
    absurd (omega (
      arith,
      same_end (last_digit cpu) 115 (before ++ y) (x ++ codes "away ye")
          (sym last ∙ (sym whole ∙ (e ∙ own))),
      digit_low cpu,
    ))
  where
    seen_grouped : (f a b c d e : List ℕ) → f ++ ((a ++ b) ++ (c ++ (d ++ e))) ≡ (f ++ (a ++ (b ++ c))) ++ (d ++ e)
    seen_grouped f a b c d e = simp append_assoc

-- where a menu leaves words out, a text says so at its end
pub ends_away : (menu : MenuSaid) (states from : ℕ) (most : Option ℕ) (start : Start) (i : Image) (text : List ℕ)
    (s : IsSearchedAgainst menu states from most start i (plainly 0 text None)) → leaves_out menu.out ≡ true
    → EndsSo text (codes "away yes") → s.away ≡ Some A.Yes
ends_away menu states from most start i text s out ends =
    let cpus = i.cpus in
    let lines = lines_planned i.plans in
    let (a, (is, said)) = s.looks.asked out in
    let front = again_front i s.found s.count s.verdict menu.again s.again in
    let comes = comes_text cpus lines menu.comes s.comes in
    let own : text ≡ (front ++ comes) ++ away_words cpus lines a =
    rw (
      same_answer text (against_text i s.found s.count s.verdict menu s.again s.comes s.away) s.text,
      is,
      ←
          append_assoc front comes (away_words cpus lines a),
    ) in
    rw (is, says_away cpus lines (front ++ comes) a (subst (λ t. EndsSo t (codes "away yes")) own ends))
