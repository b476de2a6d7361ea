-- What a turn does, from what taking and running its line did. i is held before it and j once a line stands at the
-- head;
-- the streams go from a to b.
use Rattle.std.proofs.Common.{◌≡◌, ◌≢◌, ℕ, ◌+◌, ◌<◌, ◌⊎◌, inl, inr, Option, Some, List, [], ◌∷◌, ◌++◌, Result, Err}
use Rattle.std.proofs.Common.{length, codes, decimal, refl, sym, ap, ◌∙◌, subst, append-nil, length-append, arith, take}
use Rattle.std.proofs.Common.{drop}
use Rattle.std.specs.Io.KnownBytes as IO
use Rattle.std.specs.Io.KnownBytes.{Consumes, IsAtEnd, prepend_known}
use Rattle.std.proofs.lemmas.List.{length-take-le, take-append-drop, take_all}
use Rattle.pip_script.specs.Held.{Held}
use Rattle.pip_script.specs.Lines.{HasNoNewline, HoldsLine, HoldsPart, IsOver, still}
use Rattle.pip_script.specs.declared.input.LineEnd.TheVariants.{Newline, Last, End as AtEnd, TooLong}
use Rattle.pip_script.proofs.Taking.{all_read, line_split, took_line}
use Rattle.pip_io.specs.Causes.{RoseByOne}
use Rattle.pip_io.specs.Taken.{Taken, Appends, AppendsPart, Keeps, SendsPart}
use Rattle.pip_io.specs.Histories.{Writing, writing}
use Rattle.pip_io.proofs.Taken.{Appends-kept, Appends-trans, Keeps-trans, part_sent}
use Rattle.pip_model.specs.Grammar.{lines_of}
use Rattle.pip_model.specs.Script.{bad}
use Rattle.pip_model.specs.Text.{judge, line_text, said_text, transcript_from}
use Rattle.pip_model.specs.Worlds.{World}
use Rattle.pip_switch.specs.Standing.{State}
use Rattle.pip_command_contracts.specs.Machines.{StandsIfAny}
use Rattle.pip_commands.specs.Progress.{EndsHere, EndsTurn, HasFinished, IsUncut, IsUnread, IsUnwritten, RanWholeLine}
use Rattle.pip_commands.specs.Progress.{Names, Overruns, TakesLast, bytes_coming, status_of}
use Rattle.pip_commands.specs.Runs.{IsCutShort, LeadsBy, Runs, Stopped}
use Rattle.pip_command_contracts.specs.Streams.{Streams}
use Rattle.pip_commands.specs.declared.commands.script.line.ScriptLineError.{ScriptLineError}
use Rattle.pip_commands.specs.declared.commands.script.line.ScriptLineError.TheVariants.{Bad, Write, Memory}
use Rattle.pip_commands.specs.declared.commands.script.turn.End.{End}
use Rattle.pip_commands.specs.declared.commands.script.turn.End.TheVariants.{Finished, BadLine, ReadFault, WriteFault}
use Rattle.pip_commands.specs.declared.commands.script.turn.End.TheVariants.{NoMemory, Limit}
use Rattle.pip_commands.proofs.Telling.{IsDecided, bad_last, bad_long, bad_newline, bad_told, decided_text}
use Rattle.pip_commands.proofs.Telling.{decided_told, last_told, line_goes}

-- ---- counts and texts

keeps_appends : (a b c : Taken) (bs : List ℕ) → Keeps a b → Appends b c bs → Appends a c bs
keeps_appends a b c bs kept more = Appends-trans a b c [] bs kept more

pub err_same : {A : Type 0} {x y : ScriptLineError} → ◌≡◌ {A = Result A ScriptLineError} (Err x) (Err y) → x ≡ y
err_same {A} {x} {y} is = cc

pub err_end : {x y : End} → ◌≡◌ {A = Result ℕ End} (Err x) (Err y) → x ≡ y
err_end {x} {y} is = cc

-- ---- what was taken of a line

module _ (i j : Held) (a : Streams) (left' : Option (List ℕ))
    (kept : IO.Keeps (bytes_coming i a) (prepend_known j.bytes left')) where
  -- a front of what is held, and the rest beyond it
  held_last : (bytes beyond : List ℕ) (b : Streams) → b.left ≡ left' → j.bytes ≡ bytes ++ beyond → still i ≡ still j
      → TakesLast i a b bytes beyond
  held_last bytes beyond b left split same = record {
    read = subst (λ l. Consumes (bytes_coming i a) l (bytes ++ beyond)) (sym left)
        (subst (Consumes (bytes_coming i a) left') split (all_read (bytes_coming i a) left' j.bytes kept));
    few = let size : length j.bytes ≡ length bytes + length beyond = ap length split ∙ length-append bytes beyond in
        omega (arith, size, same);
  }

-- ---- a line that was run

module _ (v : Option World) (n : ℕ) (i j : Held) (a b : Streams) (machine : Option State) (count : ℕ) (line : List ℕ)
    (is : line ≡ take count j.bytes) (kept : IO.Keeps (bytes_coming i a) (prepend_known j.bytes b.left)) where
  pub goes_on : (k : Held) → HoldsLine (still i) j b.left (Newline count) → k.bytes ≡ drop (count + 1) j.bytes
      → k.room ≡ j.room → Runs v line a.written b.written machine → RanWholeLine v n i k a b machine
  goes_on k holds bytes room run =
      let took = took_line count i j k a.left b.left kept holds bytes room in
      let plain = subst HasNoNewline (sym is) took.plain in
      record {
        line = line;
        text = run.text;
        world = run.world;
        taken = subst (λ l. Consumes (bytes_coming i a) (bytes_coming k b) (l ++ 10 ∷ [])) (sym is) took.taken;
        count = took.count ∙ ap (λ l. still k + length (l ++ 10 ∷ [])) (sym is);
        goes = line_goes v run.world n line run.text plain run.leads;
        wrote = run.wrote;
        stands = run.stands;
      }

  -- the last line is all that is held
  last_is : HoldsLine (still i) j b.left (Last count) → j.bytes ≡ line
  last_is holds = let size = holds.1 in sym (is ∙ take_all count j.bytes (omega (arith, size)))

  pub has_finished : HoldsLine (still i) j b.left (Last count) → Runs v line a.written b.written machine
      → HasFinished v n i a b machine
  has_finished holds run =
      let same = last_is holds in
      record {
        bytes = line;
        text = run.text;
        world = run.world;
        takes = held_last i j a b.left kept line [] b refl (same ∙ sym (append-nil line)) holds.0;
        whole = holds.5;
        told = last_told v run.world n line run.text (subst HasNoNewline same holds.4)
            (subst (λ l. 0 < length l) same (subst (λ m. 0 < m) holds.1 holds.2)) run.leads;
        wrote = run.wrote;
        stands = run.stands;
      }

-- nothing more came
pub ends_empty : (v : Option World) (n : ℕ) (i j : Held) (a b : Streams) (machine : Option State)
    → IO.Keeps (bytes_coming i a) (prepend_known j.bytes b.left) → HoldsLine (still i) j b.left AtEnd
    → Keeps a.written b.written → StandsIfAny machine v → HasFinished v n i a b machine
ends_empty v n i j a b machine kept holds same stands = record {
  bytes = [];
  text = [];
  world = v;
  takes = held_last i j a b.left kept [] [] b refl holds.1 holds.0;
  whole = holds.2;
  told = refl;
  wrote = same;
  stands = stands;
}

-- ---- a line that was not run to its end

-- `bytes` are those of the line and its newline, if it has one; `mid` was written and `faults` counted when it was
-- stopped
module _ (v : Option World) (n : ℕ) (i : Held) (a b : Streams) (machine : Option State)
    (line newline bytes beyond : List ℕ) (takes : TakesLast i a b bytes beyond) (is : bytes ≡ line ++ newline)
    (ended : (newline ≡ 10 ∷ []) ⊎ ((newline ≡ []) × (beyond ≡ []) × IsAtEnd b.left))
    (decided : judge v line ≡ bad → IsDecided v bytes beyond b.left)
    (told : (text : List ℕ) (v' : Option World) → LeadsBy (judge v line) v text v'
    → (transcript_from v n (lines_of bytes)).text ≡ text) (mid : Taken) (faults : ℕ) where
  ends_bad : IsDecided v bytes beyond b.left → Appends a.written b.written (line_text (codes "bad line " ++ decimal n))
      → EndsHere v n i a b
  ends_bad known wrote = record {
    bytes = bytes;
    beyond = beyond;
    end = bad_told v n;
    bad = refl;
    takes = takes;
    told = decided_told v n bytes beyond b.left known;
    wrote = wrote;
  }

  -- the line is whole, or the input ends with it
  line_uncut : IsUncut bytes beyond b.left
  line_uncut = elim ended [
    | inl newline_is ↦ inl (inl (inr (line, is ∙ ap (λ x. line ++ x) newline_is)))
    | inr last ↦ inr (last.1, last.2)
  ]

  part_bad : IsDecided v bytes beyond b.left → AppendsPart a.written b.written
      (line_text (codes "bad line " ++ decimal n)) → RoseByOne a.writes b.writes → IsUnwritten v n i a b
  part_bad known wrote rose = record {
    bytes = bytes;
    beyond = beyond;
    takes = takes;
    uncut = line_uncut;
    wrote = subst (λ t. SendsPart a.written b.written t.text) (sym (decided_text v n bytes beyond b.left known))
        (part_sent _ _ _ wrote);
    rose = rose;
  }

  part_said : IsCutShort v line a.written b.written → RoseByOne a.writes b.writes → IsUnwritten v n i a b
  part_said cut rose = record {
    bytes = bytes;
    beyond = beyond;
    takes = takes;
    uncut = line_uncut;
    wrote = subst (SendsPart a.written b.written) (sym (told (line_text (said_text cut.said)) (Some cut.world)
        (subst (λ x. LeadsBy x v (line_text (said_text cut.said)) (Some cut.world)) (sym cut.verdict) (refl, refl))))
        (part_sent _ _ _ cut.wrote);
    rose = rose;
  }

  kept_part : (x y z : Taken) (text : List ℕ) → Keeps x y → AppendsPart y z text → AppendsPart x z text
  kept_part x y z text kept part = (part.0, part.1, keeps_appends x y z part.0 kept part.2, part.3, part.4)

  part_kept : (x y z : Taken) (text : List ℕ) → AppendsPart x y text → Keeps y z → AppendsPart x z text
  part_kept x y z text part kept = (part.0, part.1, Appends-kept x y z part.0 part.2 kept, part.3, part.4)

  pub ends_stopped : (stop : ScriptLineError) (e : End) → (stop ≢ Write → faults ≡ a.writes)
      → (stop ≡ Write → RoseByOne a.writes faults) → Stopped stop v line a.written mid
      → Names stop n e (writing mid faults) (writing b.written b.writes) → EndsTurn e v n i a b machine
  ends_stopped Bad BadLine ran rose stopped names =
      ends_bad (decided stopped.0) (keeps_appends a.written mid b.written _ stopped.1 names)
  ends_stopped Bad WriteFault ran rose stopped names = part_bad (decided stopped.0) (kept_part a.written mid b.written _
      stopped.1 names.0) (subst (λ k. RoseByOne k b.writes) (ran (λ is. cc)) names.1)
  ends_stopped Bad Finished ran rose stopped names = absurd names
  ends_stopped Bad ReadFault ran rose stopped names = absurd names
  ends_stopped Bad NoMemory ran rose stopped names = absurd names
  ends_stopped Bad Limit ran rose stopped names = absurd names
  ends_stopped Write WriteFault ran rose stopped names =
      part_said (record {
        said = stopped.said;
        world = stopped.world;
        verdict = stopped.verdict;
        wrote = part_kept a.written mid b.written _ stopped.wrote names.0;
      })
      (subst (RoseByOne a.writes) (sym names.1) (rose refl))
  ends_stopped Write Finished ran rose stopped names = absurd names
  ends_stopped Write BadLine ran rose stopped names = absurd names
  ends_stopped Write ReadFault ran rose stopped names = absurd names
  ends_stopped Write NoMemory ran rose stopped names = absurd names
  ends_stopped Write Limit ran rose stopped names = absurd names
  ends_stopped Memory NoMemory ran rose stopped names = record {
    line = line;
    newline = newline;
    beyond = beyond;
    takes = subst (λ bs. TakesLast i a b bs beyond) is takes;
    ended = ended;
    first = stopped.0;
    boots = stopped.1;
    wrote = Keeps-trans a.written mid b.written stopped.2 names;
  }
  ends_stopped Memory Finished ran rose stopped names = absurd names
  ends_stopped Memory BadLine ran rose stopped names = absurd names
  ends_stopped Memory ReadFault ran rose stopped names = absurd names
  ends_stopped Memory WriteFault ran rose stopped names = absurd names
  ends_stopped Memory Limit ran rose stopped names = absurd names

-- the count of failed writes, where the script doesn't end with a write that failed: x before the line, then that of
-- the sink when it was stopped, and at the end
pub ended_calm : (stop : ScriptLineError) (e : End) (n : ℕ) (before after : Writing) (x : ℕ)
    → Names stop n e before after → (stop ≢ Write → before.faults ≡ x)
    → (e ≢ WriteFault → after.faults ≡ before.faults) → status_of e ≢ 4 → after.faults ≡ x
ended_calm Bad e n before after x names ran named other = named (λ is. other (ap status_of is)) ∙ ran (λ is. cc)
ended_calm Memory e n before after x names ran named other = named (λ is. other (ap status_of is)) ∙ ran (λ is. cc)
ended_calm Write WriteFault n before after x names ran named other = absurd (other refl)
ended_calm Write Finished n before after x names ran named other = absurd names
ended_calm Write BadLine n before after x names ran named other = absurd names
ended_calm Write ReadFault n before after x names ran named other = absurd names
ended_calm Write NoMemory n before after x names ran named other = absurd names
ended_calm Write Limit n before after x names ran named other = absurd names

-- a line with its newline, and one at the end of the input
module _ (v : Option World) (n : ℕ) (i j : Held) (a b : Streams) (machine : Option State) (count : ℕ) (line : List ℕ)
    (is : line ≡ take count j.bytes) (kept : IO.Keeps (bytes_coming i a) (prepend_known j.bytes b.left))
    (mid : Taken) (faults : ℕ) (stop : ScriptLineError) (e : End) (ran : stop ≢ Write → faults ≡ a.writes)
    (rose : stop ≡ Write
    → RoseByOne a.writes faults) (stopped : Stopped stop v line a.written mid)
    (names : Names stop n e (writing mid faults) (writing b.written b.writes)) where
  pub ends_newline : HoldsLine (still i) j b.left (Newline count) → EndsTurn e v n i a b machine
  ends_newline holds =
      let took = took_line count i j (record { bytes = drop (count + 1) j.bytes; room = j.room }) a.left b.left kept
      holds refl refl in
      let plain = subst HasNoNewline (sym is) took.plain in
      let bytes : List ℕ = line ++ 10 ∷ [] in
      let beyond = drop (count + 1) j.bytes in
      let size = took.count in
      ends_stopped v n i a b machine line (10 ∷ []) bytes beyond
      (held_last i j a b.left kept bytes beyond b refl
      (line_split count j.bytes holds.2 ∙ ap (λ l. (l ++ 10 ∷ []) ++ beyond) (sym is)) holds.0)
      refl (inl refl) (bad_newline v line beyond b.left plain)
      (λ text v' leads. ap (λ k. (transcript_from v n (lines_of k)).text) (sym (append-nil bytes))
      ∙ ap (λ t. t.text) ((line_goes v v' n line text plain leads).told []) ∙ append-nil text) mid faults stop e ran
      rose stopped names

  pub ends_last : HoldsLine (still i) j b.left (Last count) → EndsTurn e v n i a b machine
  ends_last holds =
      let same = last_is v n i j a b machine count line is kept holds in
      let plain = subst HasNoNewline same holds.4 in
      let some : 0 < length line = subst (λ l. 0 < length l) same (subst (λ m. 0 < m) holds.1 holds.2) in
      ends_stopped v n i a b machine line [] line
      [] (held_last i j a b.left kept line [] b refl (same ∙ sym (append-nil line)) holds.0) (sym (append-nil line))
      (inr (refl, refl, holds.5)) (bad_last v line b.left plain some holds.5)
      (λ text v' leads. ap (λ t. t.text) (last_told v v' n line text plain some leads)) mid faults stop e ran rose
      stopped names

-- bytes in which the script has ended
decided_uncut : (v : Option World) (bytes beyond : List ℕ) (left : Option (List ℕ)) → IsDecided v bytes beyond left
    → IsUncut bytes beyond left
decided_uncut v bytes beyond left known = elim known [
  | inl all ↦ inl all.0
  | inr last ↦ inr (last.1, last.2)
]

-- a line that is too long is bad
pub ends_long : (v : Option World) (n : ℕ) (i j : Held) (a b : Streams) (machine : Option State) (e : End)
    → IO.Keeps (bytes_coming i a) (prepend_known j.bytes b.left) → HoldsLine (still i) j b.left TooLong
    → Names Bad n e (writing a.written a.writes) (writing b.written b.writes) → EndsTurn e v n i a b machine
ends_long v n i j a b machine e kept holds names =
    let bytes = take 121 j.bytes in
    let size : length bytes ≡ 121 = length-take-le 121 j.bytes holds.1 in
    let takes =
    held_last i j a b.left kept bytes (drop 121 j.bytes) b refl (sym (take-append-drop 121 j.bytes)) holds.0 in
    let decided = bad_long v bytes (drop 121 j.bytes) b.left holds.2 (omega arith) in
    by e takes decided names
  where
    by : (e : End) → TakesLast i a b (take 121 j.bytes) (drop 121 j.bytes) → IsDecided v (take 121 j.bytes)
        (drop 121 j.bytes) b.left → Names Bad n e (writing a.written a.writes) (writing b.written b.writes) → EndsTurn e
        v n i a b machine
    by BadLine takes decided names =
        record {
          bytes = take 121 j.bytes;
          beyond = drop 121 j.bytes;
          end = bad_told v n;
          bad = refl;
          takes = takes;
          told = decided_told v n (take 121 j.bytes) (drop 121 j.bytes) b.left decided;
          wrote = names;
        }
    by WriteFault takes decided names = record {
      bytes = take 121 j.bytes;
      beyond = drop 121 j.bytes;
      takes = takes;
      uncut = decided_uncut v (take 121 j.bytes) (drop 121 j.bytes) b.left decided;
      wrote = subst (λ t. SendsPart a.written b.written t.text)
          (sym (decided_text v n (take 121 j.bytes) (drop 121 j.bytes) b.left decided)) (part_sent _ _ _ names.0);
      rose = names.1;
    }
    by Finished takes decided names = absurd names
    by ReadFault takes decided names = absurd names
    by NoMemory takes decided names = absurd names
    by Limit takes decided names = absurd names

-- the limit stands in a line
pub overruns : (i j : Held) (a b : Streams) → IO.Keeps (bytes_coming i a) (prepend_known j.bytes b.left) → IsOver
    (still i) j
    → Keeps a.written b.written → Overruns i a b
overruns i j a b kept over same = record {
  bytes = over.front;
  last = over.last;
  takes = record {
    read = subst (Consumes (bytes_coming i a) b.left) over.bytes (all_read (bytes_coming i a) b.left j.bytes kept);
    few = let l = over.limit in omega (arith, l);
  };
  limit = over.limit;
  plain = over.plain;
  short = over.short;
  wrote = same;
}

-- a read failed in a line
pub is_unread : (i j : Held) (a b : Streams) → IO.Keeps (bytes_coming i a) (prepend_known j.bytes b.left)
    → HoldsPart (still i) j → Keeps a.written b.written → RoseByOne a.reads b.reads → IsUnread i a b
is_unread i j a b kept part same rose = record {
  rest = j.bytes;
  takes = held_last i j a b.left kept j.bytes [] b refl (sym (append-nil j.bytes)) part.count;
  plain = part.plain;
  short = part.short;
  wrote = same;
  rose = rose;
}
