-- A script from its beginning: turn after turn, and then its end. The streams go from a to b before the last turn, and
-- to c in it.
use Rattle.std.proofs.Common.{◌≡◌, ◌≢◌, ℕ, ◌+◌, ◌≤◌, inl, inr, Option, None, Some, List, [], ◌∷◌, ◌++◌, length}
use Rattle.std.proofs.Common.{refl, sym, ap, ◌∙◌, subst, append-nil, append_assoc, length-append, arith}
use Rattle.std.specs.Io.KnownBytes.{Consumes, prepend_known}
use Rattle.std.proofs.KnownBytes.{Consumes-nil, Consumes-trans, prepend_known-nil}
use Rattle.pip_audit.specs.CoreRead.{AreWholeLines}
use Rattle.pip_script.specs.Held.{Held}
use Rattle.pip_script.specs.Lines.{HasNoNewline, IsLineless}
use Rattle.pip_io.specs.Taken.{Taken, Appends, Keeps, SendsPart}
use Rattle.pip_io.proofs.Taken.{Appends-kept, Appends-nil, Appends-trans, Keeps-trans, SendsPart-after}
use Rattle.pip_model.specs.Grammar.{lines_of}
use Rattle.pip_model.specs.Text.{Ending, Transcript, bad_at, text_before}
use Rattle.pip_model.specs.Text.{finished, script_text, transcript, script_world, transcript_from}
use Rattle.pip_switch.specs.Standing.{State}
use Rattle.pip_commands.specs.Dues.{IsJudged, max_input, script_answer, script_due}
use Rattle.pip_command_contracts.specs.EndsBy.{EndsBy, IsAnswered, IsDueLast, IsSoFar, plainly}
use Rattle.pip_command_contracts.specs.Pacing.{Waits}
use Rattle.pip_commands.specs.Progress.{EndsHere, EndsTurn, HasFinished, HasRun, IsUncut, IsUnread, IsUnwritten}
use Rattle.pip_commands.specs.Progress.{LacksMemoryToBoot, Overruns, TakesLast, TurnDoes, bytes_coming}
use Rattle.pip_io.specs.Moments.{NoneFailed}
use Rattle.pip_io.proofs.Moments.{calm_both}
use Rattle.pip_commands.specs.Progress.{status_of}
use Rattle.pip_command_contracts.specs.Streams.{IsCalm, Streams}
use Rattle.pip_commands.specs.declared.commands.script.turn.End.{End}
use Rattle.pip_commands.specs.declared.commands.script.turn.End.TheVariants.{Finished, BadLine, ReadFault}
use Rattle.pip_commands.specs.declared.commands.script.turn.End.TheVariants.{WriteFault, NoMemory, Limit}
use Rattle.pip_command_contracts.proofs.Endings.{apart, by_answer, by_limit, by_memory}
use Rattle.pip_command_contracts.proofs.Endings.{by_read_fault, by_write_fault, past_nothing}
use Rattle.pip_commands.proofs.Telling.{goes_both}

-- ---- turn after turn

-- nothing was taken yet
pub begins_run : (i : Held) (a : Streams) → i.bytes ≡ [] → i.room ≡ max_input → HasRun a a i None 1
begins_run i a nil room = record {
  lines = [];
  text = [];
  world = None;
  taken = rw nil (subst (λ l. Consumes a.left l []) (sym (prepend_known-nil a.left)) (Consumes-nil a.left));
  count = let size : length i.bytes ≡ 0 = rw nil in omega arith;
  whole = inl refl;
  goes = record { told = λ rest. refl; fresh = λ none. (refl, refl) };
  wrote = Appends-nil a.written;
  stands = tt;
  number = omega arith;
  no_faults = record { reads = refl; writes = refl };
}

pub runs_on : (a b c : Streams) (i j : Held) (machine machine' : Option State) (n : ℕ) → HasRun a b i machine n
    → TurnDoes None machine machine' n i j b c → HasRun a c j machine' (n + 1)
runs_on a b c i j machine machine' n run turn =
    let on = turn.1 run.world run.stands in
    let line = on.line ++ 10 ∷ [] in
    let count = run.count in
    let more = on.count in
    let number = run.number in
    let size : length (run.lines ++ line) ≡ length run.lines + length line = length-append run.lines line in
    let some : length line ≡ length on.line + 1 = length-append on.line (10 ∷ []) in
    record {
      lines = run.lines ++ line;
      text = run.text ++ on.text;
      world = on.world;
      taken = Consumes-trans a.left (bytes_coming i b) (bytes_coming j c) run.lines line run.taken on.taken;
      count = omega arith;
      whole = inr (run.lines ++ on.line, sym (append_assoc run.lines on.line (10 ∷ [])));
      goes = goes_both None run.world on.world 1 n (n + 1) run.lines line run.text on.text run.goes on.goes;
      wrote = Appends-trans a.written b.written c.written run.text on.text run.wrote on.wrote;
      stands = on.stands;
      number = omega arith;
      no_faults = calm_both a b c run.no_faults turn.0;
    }

-- bytes were read after those that are held
held_read : (a b : Option (List ℕ)) (held bytes : List ℕ) → Consumes a b bytes
    → Consumes (prepend_known held a) b (held ++ bytes)
held_read None b held bytes read = tt
held_read (Some xs) None held bytes read = absurd read
held_read (Some xs) (Some ys) held bytes read = rw (read, ← append_assoc held bytes ys)

-- ---- the end

module _ (a b c : Streams) (i : Held) (machine : Option State) (n : ℕ) (run : HasRun a b i machine n) where
  -- the counts, from the beginning
  calm_all : (code : ℕ) → IsCalm code b c → IsCalm code a c
  calm_all code last = record {
    reads = λ not. last.reads not ∙ run.no_faults.reads;
    writes = λ not. last.writes not ∙
        run.no_faults.writes;
  }

  -- all that was read, from the beginning
  read_all : (bytes beyond : List ℕ) → TakesLast i b c bytes beyond
      → Consumes a.left c.left ((run.lines ++ bytes) ++ beyond)
  read_all bytes beyond takes =
      rw (append_assoc run.lines bytes beyond) (Consumes-trans a.left (bytes_coming i b) c.left run.lines
      (bytes ++ beyond) run.taken takes.read)

  few_all : (bytes beyond : List ℕ) → TakesLast i b c bytes beyond → length (run.lines ++ bytes) ≤ max_input
  few_all bytes beyond takes =
      let size : length (run.lines ++ bytes) ≡ length run.lines + length bytes = length-append run.lines bytes in
      omega arith

  told_all : (bytes : List ℕ) (t : Transcript) → transcript_from run.world n (lines_of bytes) ≡ t
      → transcript (run.lines ++ bytes) ≡ text_before run.text t
  told_all bytes t is = rw (run.goes.told bytes, is)

  -- the lines that were run are a script of their own
  pub told_lines : transcript run.lines ≡ record { text = run.text; ending = finished; world = run.world }
  told_lines =
      rw (
        ← append-nil run.lines,
        told_all [] (record { text = []; ending = finished; world = run.world }) refl,
        append-nil run.text,
      )

  -- the text of what was run and of what is told after it
  text_all : (bytes : List ℕ) (t : Transcript) → transcript_from run.world n (lines_of bytes) ≡ t
      → Appends b.written c.written t.text
      → Appends a.written c.written (script_text (run.lines ++ bytes))
  text_all bytes t is wrote =
      subst (Appends a.written c.written) (cc (told_all bytes t is))
      (Appends-trans a.written b.written c.written run.text t.text run.wrote wrote)

  -- and that of the lines alone
  text_lines : Keeps b.written c.written → Appends a.written c.written (script_text run.lines)
  text_lines kept = subst (Appends a.written c.written) (sym (ap (λ t. t.text) told_lines))
      (Appends-kept a.written b.written c.written run.text run.wrote kept)

  -- what is told so far, where a part of a line stands behind the lines that were run
  told_so_far : (rest : List ℕ) → HasNoNewline rest → length rest ≤ 120 → length (run.lines ++ rest) ≤ max_input
      → Keeps b.written c.written → IsSoFar script_due (run.lines ++ rest) a c
  told_so_far rest plain short limit kept = record {
    text = script_text run.lines;
    due = record {
      lines = run.lines;
      rest = rest;
      all = refl;
      whole = run.whole;
      plain = plain;
      short = short;
      good = ap (λ t. t.ending) told_lines;
      same = refl;
    };
    limit = limit;
    wrote = text_lines kept;
  }

  -- a part of a line was read after what was run, all that was given is out, and no call failed
  pub lines_wait : c.written.buffered ≡ [] → Keeps b.written c.written → NoneFailed b c → (bytes : List ℕ)
      → Consumes b.left c.left bytes → IsLineless i bytes → Waits script_due a c
  lines_wait out kept no_faults bytes read is =
      let rest = i.bytes ++ bytes in
      let all : length rest ≡ length i.bytes + length bytes = length-append i.bytes bytes in
      let room = is.room in
      let takes : TakesLast i b c rest [] = record {
        read = rw (append-nil rest) (held_read b.left c.left i.bytes bytes read);
        few = omega arith;
      } in
      record {
        bytes = run.lines ++ rest;
        read = rw (← append-nil (run.lines ++ rest)) (read_all rest [] takes);
        so_far = told_so_far rest is.plain is.short (few_all rest [] takes) kept;
        out = out;
        reads = no_faults.reads ∙ run.no_faults.reads;
        writes = no_faults.writes ∙ run.no_faults.writes;
      }

  whole_after : (xs ys : List ℕ) → AreWholeLines xs → AreWholeLines ys → AreWholeLines (xs ++ ys)
  whole_after xs ys whole (inl nil) = rw (nil, append-nil xs) whole
  whole_after xs ys whole (inr last) = inr (
    xs ++ last.0,
    rw (last.1, ← append_assoc xs last.0 (10 ∷ [])),
  )

  -- what can be judged after whole lines can be judged with them
  judged_after : (xs ys : List ℕ) → AreWholeLines xs → IsJudged ys → IsJudged (xs ++ ys)
  judged_after xs ys whole (inl last) = inl (whole_after xs ys whole last)
  judged_after xs ys whole (inr long) = inr (record {
    lines = xs ++ long.lines;
    rest = long.rest;
    all = rw (long.all, ← append_assoc xs long.lines long.rest);
    whole = whole_after xs long.lines whole long.whole;
    plain = long.plain;
    long = long.long;
  })

  module _ (code : ℕ) (last : IsCalm code b c) (flushed : code ≢ 4 → c.written.buffered ≡ []) where
    no_faults : IsCalm code a c
    no_faults = calm_all code last

    -- all was read, and is good
    finishes : (machine' : Option State) → code ≡ 0 → HasFinished run.world n i b c machine'
        → EndsBy script_due code machine' a c
    finishes machine' is d =
        let bytes = run.lines ++ d.bytes in
        let told = told_all d.bytes _ d.told in
        by_answer script_due code machine' a c no_faults flushed apart bytes
        (rw (← append-nil bytes) (read_all d.bytes [] d.takes)) (inl (omega arith))
        (record {
          answer = plainly 0 (script_text bytes) (script_world bytes);
          due = record {
            is = ap (λ ending. script_answer ending (script_text bytes) (script_world bytes))
                (sym (ap (λ t. t.ending) told));
            decided = inr (d.whole, few_all d.bytes [] d.takes);
          };
          status = is;
          wrote = text_all d.bytes _ d.told d.wrote;
          machine = rw told d.stands;
        })

    -- a line is bad
    module _ (d : EndsHere run.world n i b c) where
      abbrev first : List ℕ
      first = run.lines ++ d.bytes

      abbrev end : Transcript
      end = text_before run.text d.end

      bad_answer : (bytes : List ℕ) → transcript bytes ≡ end → plainly 2 end.text None
          ≡ script_answer (transcript bytes).ending (transcript bytes).text (transcript bytes).world
      bad_answer bytes told = sym (rw (told, d.bad))

      ends_bad : code ≡ 2 → EndsBy script_due code None a c
      ends_bad is = elim d.told [
        | inl all ↦
            let told : (rest : List ℕ) → transcript (first ++ rest) ≡ end =
            λ rest. rw (append_assoc run.lines d.bytes rest, told_all (d.bytes ++ rest) d.end (all.1 rest))
            in
            let alone : transcript first ≡ end = rw (← append-nil first, told []) in
            ends (first ++ d.beyond) (read_all d.bytes d.beyond d.takes) (record {
              is = bad_answer (first ++ d.beyond) (told d.beyond);
              decided = inl (record {
                first = first;
                beyond = d.beyond;
                all = refl;
                limit = few_all d.bytes d.beyond d.takes;
                judged = judged_after run.lines d.bytes run.whole all.0;
                number = n;
                bad = rw (alone, d.bad);
                fixed = λ rest. cc (told rest);
              });
            })
        | inr at ↦
            ends first (rw (← append-nil first, ← at.1) (read_all d.bytes d.beyond d.takes))
            (record {
              is = bad_answer first (told_all d.bytes d.end at.0);
              decided = inr
                  (at.2, few_all d.bytes d.beyond d.takes);
            })
      ]
        where
          ends : (bytes : List ℕ) → Consumes a.left c.left bytes
              → IsAnswered script_due bytes (plainly 2 end.text None) c.left
              → EndsBy script_due code None a c
          ends bytes read due = by_answer script_due code None a c no_faults flushed apart bytes read
              (inl (omega arith)) (record {
                answer = plainly 2 end.text None;
                due = due;
                status = is;
                wrote = Appends-trans a.written b.written c.written run.text d.end.text run.wrote d.wrote;
                machine = tt;
              })

    -- a read failed in a line
    ends_unread : code ≡ 3 → IsUnread i b c → EndsBy script_due code None a c
    ends_unread is d =
        let bytes = run.lines ++ d.rest in
        by_read_fault script_due code None a c no_faults flushed apart bytes
        (rw (← append-nil bytes) (read_all d.rest [] d.takes)) refl is
        (told_so_far d.rest d.plain d.short (few_all d.rest [] d.takes) d.wrote) (rw (← run.no_faults.reads) d.rose)

    -- a write failed
    module _ (start : a.written.buffered ≡ []) (is : code ≡ 4) (d : IsUnwritten run.world n i b c) where
      abbrev taken : List ℕ
      taken = run.lines ++ d.bytes

      part : SendsPart a.written c.written (script_text taken)
      part = subst (SendsPart a.written c.written) (sym (ap (λ t. t.text) (told_all d.bytes _ refl)))
          (SendsPart-after a.written b.written c.written run.text _ run.wrote d.wrote)

      ends_cut : (bytes : List ℕ) → Consumes a.left c.left bytes
          → IsDueLast script_due bytes [] (script_text taken) c.left
          → EndsBy script_due code None a c
      ends_cut bytes read due = by_write_fault script_due code None a c no_faults flushed apart bytes read
          refl is (record {
            front = [];
            last = script_text taken;
            due = due;
            out = past_nothing a.written c.written (script_text taken) start part;
            part = part;
          }) (rw (← run.no_faults.writes) d.rose)

      at_line : IsJudged taken → EndsBy script_due code None a c
      at_line judged = ends_cut (taken ++ d.beyond) (read_all d.bytes d.beyond d.takes) (inr (record {
        lines = taken;
        beyond = d.beyond;
        all = refl;
        limit = few_all d.bytes d.beyond d.takes;
        judged = judged;
        none = refl;
        text = refl;
      }))

      nothing : (e : Ending) → (script_answer e (script_text taken) (script_world taken)).front ≡ []
      nothing finished = refl
      nothing (bad_at n) = refl

      all_of : (e : Ending) → (script_answer e (script_text taken) (script_world taken)).last ≡ Some (script_text taken)
      all_of finished = refl
      all_of (bad_at n) = refl

      ends_unwritten : IsUncut d.bytes d.beyond c.left → EndsBy script_due code None a c
      ends_unwritten (inl judged) = at_line (judged_after run.lines d.bytes run.whole judged)
      ends_unwritten (inr at) =
          let e = (transcript taken).ending in
          ends_cut taken (rw (← append-nil taken, ← at.0) (read_all d.bytes d.beyond d.takes))
          (inl (
            script_answer e (script_text taken) (script_world taken),
            record { is = refl; decided = inr (at.1, few_all d.bytes d.beyond d.takes) },
            nothing e,
            all_of e,
          ))

    -- there was no memory at the boot line
    nothing_written : (x y z : Taken) (text : List ℕ) → text ≡ [] → Appends x y text → Keeps y z → Keeps x z
    nothing_written x y z text nil h k = Keeps-trans x y z (rw (← nil) h) k

    ends_memory : code ≡ 5 → LacksMemoryToBoot run.world i b c → EndsBy script_due code None a c
    ends_memory is d =
        let fresh = run.goes.fresh d.first in
        by_memory script_due code None a c no_faults flushed apart ((run.lines ++ (d.line ++ d.newline)) ++ d.beyond)
        (read_all (d.line ++ d.newline) d.beyond d.takes) refl is (record {
          before = run.lines;
          line = d.line;
          newline = d.newline;
          beyond = d.beyond;
          frames = d.boots.frames;
          cpus = d.boots.cpus;
          all = refl;
          limit = few_all (d.line ++ d.newline) d.beyond d.takes;
          ended = d.ended;
          whole = run.whole;
          blank = rw (told_lines, fresh.1, d.first);
          boots = d.boots.meaning;
        }) (nothing_written a.written b.written c.written run.text fresh.1 run.wrote d.wrote)

    -- the limit was passed
    ends_past : code ≡ 6 → Overruns i b c → EndsBy script_due code None a c
    ends_past is d =
        let size : length (run.lines ++ d.bytes) ≡ length run.lines + length d.bytes = length-append run.lines d.bytes
        in
        let count = run.count in
        let limit = d.limit in
        let all : length (run.lines ++ d.bytes) ≡ max_input = omega arith in
        by_limit script_due code None a c no_faults flushed apart ((run.lines ++ d.bytes) ++ d.last ∷ [])
        (read_all d.bytes (d.last ∷ []) d.takes) refl is (record {
          first = run.lines ++ d.bytes;
          beyond = d.last;
          all = refl;
          limit = rw (← all);
          so_far = told_so_far (d.bytes) d.plain d.short (omega (arith, all)) d.wrote;
        })

    -- the other ends have no machine
    ends_as : a.written.buffered ≡ [] → (e : End) (machine' : Option State) → e ≢ Finished → code ≡ status_of e
        → EndsTurn e run.world n i b c machine' → EndsBy script_due code None a c
    ends_as start Finished machine' other is turn = absurd (other refl)
    ends_as start BadLine machine' other is turn = ends_bad turn is
    ends_as start ReadFault machine' other is turn = ends_unread is turn
    ends_as start WriteFault machine' other is turn = ends_unwritten start is turn turn.uncut
    ends_as start NoMemory machine' other is turn = ends_memory is turn
    ends_as start Limit machine' other is turn = ends_past is turn

-- ---- by the last turn

pub script_finished : (a b c : Streams) (i j : Held) (machine machine' : Option State) (n : ℕ)
    (run : HasRun a b i machine n) → c.written.buffered ≡ [] → TurnDoes (Some Finished) machine machine' n i j b c
    → EndsBy script_due 0 machine' a c
script_finished a b c i j machine machine' n run flushed turn =
    finishes a b c i machine n run 0 turn.0 (λ not. flushed) machine' refl (turn.1 run.world run.stands)

pub script_ends : (e : End) (a b c : Streams) (i j : Held) (machine machine' : Option State) (n status : ℕ)
    (run : HasRun a b i machine n) → a.written.buffered ≡ [] → (status ≢ 4 → c.written.buffered ≡ []) → e ≢ Finished
    → status ≡ status_of e → TurnDoes (Some e) machine machine' n i j b c → EndsBy script_due status None a c
script_ends e a b c i j machine machine' n status run start flushed other is turn =
    ends_as a b c i machine n run status (rw is turn.0) flushed start e machine' other is
    (turn.1 run.world run.stands)
