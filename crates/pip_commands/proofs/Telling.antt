-- How a script is told, a line at a time.
use Rattle.std.proofs.Common.{◌≡◌, ℕ, ◌+◌, ◌<◌, ◌⊎◌, inl, inr, Option, None, Some, List, [], ◌∷◌, ◌++◌, length, codes}
use Rattle.std.proofs.Common.{decimal, refl, sym, ap, ◌∙◌, append-nil, append_assoc, length-append, arith}
use Rattle.std.specs.Io.KnownBytes.{IsAtEnd}
use Rattle.std.proofs.lemmas.Bool.Decides.{nat_tests}
use Rattle.pip_script.specs.Lines.{HasNoNewline}
use Rattle.pip_script.proofs.LinesOf.{begins, lines_last, lines_newline}
use Rattle.pip_model.specs.Grammar.{line_meaning, lines_of}
use Rattle.pip_model.specs.Script.{Verdict, quiet, says, bad}
use Rattle.pip_model.specs.Text.{Transcript, bad_at, text_before, cpus_of, finished, judge, verdict_or_bad, line_text}
use Rattle.pip_model.specs.Text.{transcript_of_line, transcript_from}
use Rattle.pip_model.specs.Worlds.{World}
use Rattle.pip_commands.specs.Dues.{IsJudged}
use Rattle.pip_commands.specs.Progress.{Goes}
use Rattle.pip_commands.specs.Runs.{LeadsBy}

-- ---- a line that was run

told_on : (x : Verdict) (v v' : Option World) (n : ℕ) (text : List ℕ) (rest : Option World → Transcript)
    → LeadsBy x v text v' → transcript_of_line v n x rest ≡ text_before text (rest v')
told_on quiet v v' n text rest h =
    ap (λ t. text_before t (rest v)) (sym h.0) ∙ ap (λ u. text_before text (rest u)) (sym h.1)
told_on (says s w) v v' n text rest h =
    ap (λ t. text_before t (rest (Some w))) (sym h.0) ∙ ap (λ u. text_before text (rest u)) (sym h.1)
told_on bad v v' n text rest h = absurd h

fresh_on : (x : Verdict) (v v' : Option World) (text : List ℕ) → LeadsBy x v text v' → v' ≡ None
    → (v ≡ None) × (text ≡ [])
fresh_on quiet v v' text h none = (sym h.1 ∙ none, h.0)
fresh_on (says s w) v v' text h none = let e = h.1 in cc
fresh_on bad v v' text h none = absurd h

pub line_told : (v v' : Option World) (n : ℕ) (line text : List ℕ) (lines : List (List ℕ)) → LeadsBy (judge v line) v
    text
    v' → transcript_from v n (line ∷ lines) ≡ text_before text (transcript_from v' (n + 1) lines)
line_told v v' n line text lines leads = told_on (judge v line) v v' n text (λ u. transcript_from u (n + 1) lines) leads

pub line_goes : (v v' : Option World) (n : ℕ) (line text : List ℕ) → HasNoNewline line → LeadsBy (judge v line) v text
    v'
    → Goes v n (line ++ 10 ∷ []) text v' (n + 1)
line_goes v v' n line text plain leads = record {
  told = λ rest. ap (transcript_from v n) (lines_newline line rest plain)
      ∙ line_told v v' n line text (lines_of rest) leads;
  fresh = fresh_on (judge v line) v v' text leads;
}

pub last_told : (v v' : Option World) (n : ℕ) (line text : List ℕ) → HasNoNewline line → 0 < length line
    → LeadsBy (judge v line) v text v'
    → transcript_from v n (lines_of line) ≡ record { text = text; ending = finished; world = v' }
last_told v v' n line text plain some leads =
    ap (transcript_from v n) (lines_last line plain some)
    ∙ line_told v v' n line text [] leads
    ∙ ap (λ t. record { text = t; ending = finished; world = v' }) (append-nil text)

-- lines after lines
pub goes_both : (u v w : Option World) (k m n : ℕ) (xs ys texts more : List ℕ) → Goes u k xs texts v m
    → Goes v m ys more w n → Goes u k (xs ++ ys) (texts ++ more) w n
goes_both u v w k m n xs ys texts more first second = record {
  told = λ rest.
      ap (λ bytes. transcript_from u k (lines_of bytes)) (append_assoc xs ys rest)
      ∙ first.told (ys ++ rest)
      ∙ ap (text_before texts) (second.told rest)
      ∙ ap (λ t. record (transcript_from w n (lines_of rest)) { text = t })
      (sym (append_assoc texts more (transcript_from w n (lines_of rest)).text));
  fresh = λ none.
      let b = second.fresh none in
      let a = first.fresh b.0 in
      (a.0, ap (λ t. t ++ more) a.1 ∙ b.1);
}

-- ---- a line that is bad

-- the first line is bad
pub record BadFirst (v : Option World) (lines : List (List ℕ)) : Type 0 where
  pub line : List ℕ
  pub more : List (List ℕ)
  pub is : lines ≡ line ∷ more
  pub bad : judge v line ≡ bad

-- it can be judged, and is bad, whatever follows the bytes, or nothing does
abbrev pub IsDecided : Option World → List ℕ → List ℕ → Option (List ℕ) → Type 0
IsDecided v bytes beyond left = (IsJudged bytes × ((rest : List ℕ) → BadFirst v (lines_of (bytes ++ rest))))
    ⊎ (BadFirst v (lines_of bytes) × (beyond ≡ []) × IsAtEnd left)

pub bad_newline : (v : Option World) (line beyond : List ℕ) (left : Option (List ℕ)) → HasNoNewline line
    → judge v line ≡ bad → IsDecided v (line ++ 10 ∷ []) beyond left
bad_newline v line beyond left plain is =
    inl (
      inl (inr (line, refl)),
      λ rest. record { line = line; more = lines_of rest; is = lines_newline line rest plain; bad = is },
    )

pub bad_last : (v : Option World) (line : List ℕ) (left : Option (List ℕ)) → HasNoNewline line → 0 < length line
    → IsAtEnd left → judge v line ≡ bad → IsDecided v line [] left
bad_last v line left plain some ended is =
    inr (record { line = line; more = []; is = lines_last line plain some; bad = is }, refl, ended)

no_meaning : (cpus : ℕ) (line : List ℕ) → 120 < length line → line_meaning cpus line ≡ None
no_meaning cpus line long = grind (arith, nat_tests)

-- 121 bytes without a newline
pub bad_long : (v : Option World) (bytes beyond : List ℕ) (left : Option (List ℕ)) → HasNoNewline bytes
    → 120 < length bytes → IsDecided v bytes beyond left
bad_long v bytes beyond left plain long = inl (
  inr (record { lines = []; rest = bytes; all = refl; whole = inl refl; plain = plain; long = long }),
  λ rest.
      let first = begins bytes rest plain (omega arith) in
      let size : length (bytes ++ first.back) ≡ length bytes + length first.back = length-append bytes first.back in
      record {
        line = bytes ++ first.back;
        more = first.more;
        is = first.is;
        bad = ap (verdict_or_bad v) (no_meaning (cpus_of v) (bytes ++ first.back) (omega (arith, size)));
      },
)

abbrev pub bad_told : Option World → ℕ → Transcript
bad_told v n = record { text = line_text (codes "bad line " ++ decimal n); ending = bad_at n; world = v }

first_told : (v : Option World) (n : ℕ) (lines : List (List ℕ)) → BadFirst v lines
    → transcript_from v n lines ≡ bad_told v n
first_told v n lines f =
    ap (transcript_from v n) f.is ∙ ap (λ x. transcript_of_line v n x (λ u. transcript_from u (n + 1) f.more)) f.bad

pub decided_told : (v : Option World) (n : ℕ) (bytes beyond : List ℕ) (left : Option (List ℕ))
    → IsDecided v bytes beyond left
    → (IsJudged bytes × ((rest : List ℕ) → transcript_from v n (lines_of (bytes ++ rest)) ≡ bad_told v n))
    ⊎ ((transcript_from v n (lines_of bytes) ≡ bad_told v n) × (beyond ≡ []) × IsAtEnd left)
decided_told v n bytes beyond left (inl all) =
    inl (all.0, λ rest. first_told v n (lines_of (bytes ++ rest)) (all.1 rest))
decided_told v n bytes beyond left (inr last) = inr (first_told v n (lines_of bytes) last.0, last.1, last.2)

-- in either case the bytes alone are told so
pub decided_text : (v : Option World) (n : ℕ) (bytes beyond : List ℕ) (left : Option (List ℕ))
    → IsDecided v bytes beyond left → transcript_from v n (lines_of bytes) ≡ bad_told v n
decided_text v n bytes beyond left (inl all) = ap (λ b. transcript_from v n (lines_of b)) (sym (append-nil bytes))
    ∙ first_told v n (lines_of (bytes ++ [])) (all.1 [])
decided_text v n bytes beyond left (inr last) = first_told v n (lines_of bytes) last.0

-- ---- a line whose answer was cut short
