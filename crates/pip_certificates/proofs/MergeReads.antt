-- How lines are merged, one after another.
use Rattle.std.proofs.Common.{◌≡◌, ◌≢◌, ℕ, ◌+◌, ◌≤◌, ◌<◌, inl, inr, Option, List, [], ◌∷◌, ◌++◌, length, Ok, Err}
use Rattle.std.proofs.Common.{refl, sym, ◌∙◌, subst, append-nil, append_assoc, arith, length-append, nat_le, cond}
use Rattle.std.specs.Prelude.{Bool, true, false, MatchResult, Result}
use Rattle.std.specs.Io.KnownBytes.{Consumes, prepend_known}
use Rattle.std.proofs.KnownBytes.{Consumes-nil, Consumes-trans, Keeps-refl, prepend_known-nil}
use Rattle.std.proofs.lemmas.Bool.{leb-true}
use Rattle.pip_audit.specs.CoreRead.{AreWholeLines}
use Rattle.pip_script.specs.Lines.{HasNoNewline}
use Rattle.pip_script.proofs.LinesOf.{lines_last, lines_newline}
use Rattle.pip_script.proofs.Taking.{all_read}
use Rattle.pip_model.specs.Grammar.{lines_of}
use Rattle.pip_certificates.specs.Entries.{entry_of}
use Rattle.pip_certificates.specs.Merges.{Merging, merge_entry, merge_lines, no_merging, on_value}
use Rattle.pip_certificates.specs.declared.parts.faults.MergeFault.{MergeFault}
use Rattle.pip_certificates.specs.declared.parts.faults.MergeFault.TheVariants.{Many}
use Rattle.pip_certificates.specs.LongLines.{StopsLine, TakesNextLine}
use Rattle.pip_certificates.specs.MergeDues.{BeginsMerge, BreaksAt, MergesTo, merge_numbered, most_lines}
use Rattle.pip_certificates.specs.MergeReading.{GivesNumbered, StopsMerge, TakesBreak, TakesMerge, stop_of_line}
use Rattle.pip_certificates.specs.declared.commands.merge.MergeStop.{MergeStop}
use Rattle.pip_certificates.specs.declared.commands.merge.MergeStop.TheVariants.{Bad, Memory, Unread}
use Rattle.pip_certificates.specs.declared.commands.merge.line_reader.LineKind.TheVariants.{Whole, Last, End}
use Rattle.pip_certificates.specs.declared.commands.merge.line_reader.LineStop.{LineStop}
use Rattle.pip_certificates.specs.declared.commands.merge.line_reader.LineStop.TheVariants as L

-- ---- one line more

-- what a line with a number comes to
pub record Merges (n : ℕ) (m : Merging) (line : List ℕ) (more : Merging) : Type 0 where
  pub few : n ≤ most_lines
  pub is : merge_entry m (entry_of line) ≡ Ok more

numbered_good : (n : ℕ) (m : Merging) (line : List ℕ) (more : Merging) → merge_numbered n m line ≡ Ok more
    → Merges n m line more
numbered_good n m line more is = go (nat_le n most_lines) refl is
  where
    go : (b : Bool) → nat_le n most_lines ≡ b → cond b (merge_entry m (entry_of line)) (Err Many) ≡ Ok more
        → Merges n m line more
    go true e h = record { few = leb-true n most_lines e; is = h }
    go false e h = cc

on_more : (x : Result Merging MergeFault) (line : List ℕ) (m more : Merging) → x ≡ Ok m
    → merge_entry m (entry_of line) ≡ Ok more → on_value x (λ n. merge_lines n (line ∷ [])) ≡ Ok more
on_more x line m more is one =
    rw (is, one)

merge_append : (m : Merging) (xs ys : List (List ℕ))
    → merge_lines m (xs ++ ys) ≡ on_value (merge_lines m xs) (λ n. merge_lines n ys)
merge_append m [] ys = refl
merge_append m (x ∷ xs) ys = go (merge_entry m (entry_of x)) (λ n. merge_append n xs ys)
  where
    go : (r : Result Merging MergeFault)
        → ((n : Merging) → merge_lines n (xs ++ ys) ≡ on_value (merge_lines n xs) (λ n. merge_lines n ys))
        → on_value r (λ n. merge_lines n (xs ++ ys))
        ≡ on_value (on_value r (λ n. merge_lines n xs)) (λ n. merge_lines n ys)
    go (Ok n) more = more n
    go (Err e) more = refl

-- lines that can be merged, and one more
one_more_merges : (n : ℕ) (lines : List (List ℕ)) (line : List ℕ) (m more : Merging) → MergesTo lines m
    → n ≡ length lines + 1 → merge_numbered n m line ≡ Ok more → MergesTo (lines ++ line ∷ []) more
one_more_merges n lines line m more good number is =
    let one = numbered_good n m line more is in
    record {
      merged = merge_append no_merging lines (line ∷ []) ∙ on_more _ line m more good.merged one.is;
      few = let few = one.few in
          let size : length (lines ++ line ∷ []) ≡ length lines + 1 = length-append lines (line ∷ []) in
          omega arith;
    }

-- ---- where reading is

-- before lines of which this many come before, which were merged to this
pub record IsAfterLines (before : ℕ) (m : Merging) (held : List ℕ) (left left' : Option (List ℕ)) : Type 0 where
  pub lines : List ℕ
  pub taken : Consumes left (prepend_known held left') lines
  pub whole : AreWholeLines lines
  pub read : List (List ℕ)
  pub told : (rest : List ℕ) → lines_of (lines ++ rest) ≡ read ++ lines_of rest
  pub good : MergesTo read m
  pub count : length read ≡ before

-- nothing was read
pub at_first : (m : Merging) (held : List ℕ) (left : Option (List ℕ)) → held ≡ [] → m ≡ no_merging
    → IsAfterLines 0 m held left left
at_first m held left none empty = record {
  lines = [];
  taken = rw none (subst (λ l. Consumes left l []) (sym (prepend_known-nil left)) (Consumes-nil left));
  whole = inl refl;
  read = [];
  told = λ rest. refl;
  good = record { merged = rw (← empty); few = omega arith };
  count = refl;
}

held_read : (held : List ℕ) (a : Option (List ℕ)) → Consumes (prepend_known held a) a held
held_read held a = all_read (prepend_known held a) a held (Keeps-refl (prepend_known held a))

some_bytes : (xs : List ℕ) → xs ≢ [] → 0 < length xs
some_bytes [] not = absurd (not refl)
some_bytes (x ∷ xs) not = omega arith

module _ (before : ℕ) (m : Merging) (held : List ℕ) (left a : Option (List ℕ)) (at : IsAfterLines before m held left a)
  where
    lines_are : lines_of at.lines ≡ at.read
    lines_are = rw (← append-nil at.lines, at.told [], append-nil at.read)

    lines_good : MergesTo (lines_of at.lines) m
    lines_good = rw lines_are at.good

    -- with what is held they were read
    pub read_held : Consumes left a (at.lines ++ held)
    read_held = Consumes-trans left (prepend_known held a) a at.lines held at.taken (held_read held a)

    -- more may be read where no line is held
    pub begins_merge : (bytes : List ℕ) → HasNoNewline (held ++ bytes) → BeginsMerge ((at.lines ++ held) ++ bytes)
    begins_merge bytes plain = record {
      lines = at.lines;
      rest = held ++ bytes;
      all = append_assoc at.lines held bytes;
      whole = at.whole;
      plain = plain;
      merging = m;
      good = lines_good;
    }

    read_on : (b : Option (List ℕ)) (bytes : List ℕ) → Consumes a b bytes
        → Consumes left b ((at.lines ++ held) ++ bytes)
    read_on b bytes c = Consumes-trans left a b (at.lines ++ held) bytes read_held c

    -- a line wasn't read: a read failed, or there was no memory
    pub line_unread : (b : Option (List ℕ)) (line : List ℕ) (first mid now : ℕ) → mid ≡ first → (stop : LineStop)
        → StopsLine held a b mid now stop → StopsMerge left b first now line (stop_of_line stop)
    line_unread b line first mid now same L.Unread ((bytes, taken, plain), rose) = (
      record {
        bytes = (at.lines ++ held) ++ bytes;
        taken = read_on b bytes taken;
        begins = begins_merge bytes plain;
      },
      rw (← same) rose,
    )
    line_unread b line first mid now same L.Memory ((bytes, taken), no_faults) =
        (((at.lines ++ held) ++ bytes, read_on b bytes taken), cc)

    -- the input ended
    pub ends : (b : Option (List ℕ)) (held' line : List ℕ) → TakesNextLine held held' line a b End → TakesMerge left b m
    ends b held' line (taken, ended) = record {
      bytes = at.lines;
      taken = rw (← append-nil at.lines) (Consumes-trans left (prepend_known held a) b at.lines [] at.taken taken);
      ended = ended;
      good = lines_good;
    }

    number_is : before + 1 ≡ length at.read + 1
    number_is = rw (← at.count)

    broken : (line : List ℕ) (after : List (List ℕ)) (bytes : List ℕ) (fault : MergeFault)
        → lines_of bytes ≡ at.read ++ line ∷ after → merge_numbered (before + 1) m line ≡ Err fault
        → BreaksAt (lines_of bytes) (before + 1) line fault
    broken line after bytes fault is bad = record {
      before = at.read;
      after = after;
      all = is;
      merging = m;
      good = at.good;
      number = number_is;
      bad = bad;
    }

    -- ---- a line with its newline

    module _ (b : Option (List ℕ)) (held' line : List ℕ) (takes : TakesNextLine held held' line a b Whole) where
      abbrev front : List ℕ
      front = at.lines ++ (line ++ 10 ∷ [])

      front_taken : Consumes left (prepend_known held' b) front
      front_taken = Consumes-trans left (prepend_known held a) (prepend_known held' b) at.lines (line ++ 10 ∷ [])
          at.taken
          takes.1

      all_taken : Consumes left b (front ++ held')
      all_taken = Consumes-trans left (prepend_known held' b) b front held' front_taken (held_read held' b)

      told_on : (rest : List ℕ) → lines_of (front ++ rest) ≡ at.read ++ line ∷ lines_of rest
      told_on rest = rw (
        append_assoc at.lines (line ++ 10 ∷ []) rest,
        at.told ((line ++ 10 ∷ []) ++ rest),
        lines_newline line rest takes.0,
      )

      whole_breaks : (fault : MergeFault) → merge_numbered (before + 1) m line ≡ Err fault
          → TakesBreak left b (before + 1) line fault
      whole_breaks fault bad = record {
        bytes = front ++ held';
        taken = all_taken;
        is = inl (λ rest. broken line (lines_of (held' ++ rest)) ((front ++ held') ++ rest) fault
            (rw (append_assoc front held' rest, told_on (held' ++ rest))) bad);
      }

      -- it wasn't merged
      pub whole_stops : (first now : ℕ) → now ≡ first → (more : Merging) (stop : MergeStop)
          → GivesNumbered (before + 1) (Err stop) more (merge_numbered (before + 1) m line)
          → StopsMerge left b first now line stop
      whole_stops first now no_faults more (Bad number fault) (same, bad) =
          (rw same (whole_breaks fault bad), no_faults)
      whole_stops first now no_faults more Unread gives = absurd gives
      whole_stops first now no_faults more Memory gives = ((front ++ held', all_taken), no_faults)

      -- it was
      pub next_line : (more : Merging) → merge_numbered (before + 1) m line ≡ Ok more
          → IsAfterLines (before + 1) more held' left b
      next_line more good = record {
        lines = front;
        taken = front_taken;
        whole = inr (at.lines ++ line, sym (append_assoc at.lines line (10 ∷ [])));
        read = at.read ++ line ∷ [];
        told = λ rest. cc (told_on rest, append_assoc at.read (line ∷ []) (lines_of rest));
        good = one_more_merges (before + 1) at.read line m more at.good number_is good;
        count = rw (length-append at.read (line ∷ []), at.count);
      }

    -- ---- the last line, which has none

    module _ (b : Option (List ℕ)) (held' line : List ℕ) (takes : TakesNextLine held held' line a b Last) where
      last_taken : Consumes left b (at.lines ++ line)
      last_taken = Consumes-trans left (prepend_known held a) b at.lines line at.taken takes.1

      last_is : lines_of (at.lines ++ line) ≡ at.read ++ line ∷ []
      last_is = rw (at.told line, lines_last line takes.0 (some_bytes line takes.3))

      last_breaks : (fault : MergeFault) → merge_numbered (before + 1) m line ≡ Err fault
          → TakesBreak left b (before + 1) line fault
      last_breaks fault bad = record {
        bytes = at.lines ++ line;
        taken = last_taken;
        is = inr (broken line [] (at.lines ++ line) fault last_is bad, takes.2);
      }

      last_merges : (more : Merging) → merge_numbered (before + 1) m line ≡ Ok more → TakesMerge left b more
      last_merges more good = record {
        bytes = at.lines ++ line;
        taken = last_taken;
        ended = takes.2;
        good = rw last_is (one_more_merges (before + 1) at.read line m more at.good number_is good);
      }

      -- it was merged, or not
      pub last_ends : (first now : ℕ) → now ≡ first → (more : Merging) (r : Result (Unit {0}) MergeStop)
          → GivesNumbered (before + 1) r more (merge_numbered (before + 1) m line)
          → MatchResult r (λ _. TakesMerge left b more × (now ≡ first)) (StopsMerge left b first now line)
      last_ends first now no_faults more (Ok u) gives = (last_merges more gives, no_faults)
      last_ends first now no_faults more (Err (Bad number fault)) (same, bad) =
          (rw same (last_breaks fault bad), no_faults)
      last_ends first now no_faults more (Err Unread) gives = absurd gives
      last_ends first now no_faults more (Err Memory) gives = ((at.lines ++ line, last_taken), no_faults)
