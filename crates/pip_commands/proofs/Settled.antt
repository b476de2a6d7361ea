-- One turn of a script: the settling before a read, and the one at its end. i is held of the input before, and j after.
use Rattle.std.proofs.Common.{◌≡◌, ◌≢◌, ℕ, inl, inr, Option, None, Some, List, [], ◌∷◌, ◌++◌, refl, sym, ap, ◌∙◌, subst}
use Rattle.std.proofs.Common.{append-nil, arith}
use Rattle.std.specs.Io.KnownBytes as IO
use Rattle.std.specs.Io.KnownBytes.{Consumes, prepend_known}
use Rattle.std.proofs.KnownBytes as KB
use Rattle.pip_script.specs.Held.{Held}
use Rattle.pip_script.specs.Lines.{HoldsLine, still}
use Rattle.pip_script.specs.declared.input.LineEnd.{LineEnd}
use Rattle.pip_script.proofs.Taking.{all_read}
use Rattle.pip_io.specs.Causes.{RoseByOne}
use Rattle.pip_io.specs.Taken.{Taken, Appends, Keeps, SendsPart}
use Rattle.pip_io.specs.Histories.{Writing, writing}
use Rattle.pip_io.proofs.Taken.{Appends-kept, Appends-nil, Appends-trans, Keeps-trans, SendsPart-after, cut_sent}
use Rattle.pip_model.specs.Grammar.{lines_of}
use Rattle.pip_model.specs.Text.{transcript_from}
use Rattle.pip_model.specs.Worlds.{World}
use Rattle.pip_switch.specs.Standing.{State}
use Rattle.pip_command_contracts.specs.Machines.{StandsIfAny}
use Rattle.pip_commands.specs.Progress.{EndsTurn, HasNoLine, IsSettled, IsUnread, IsUnwritten, Names, Settles}
use Rattle.pip_commands.specs.Progress.{TakesLast, TurnDoes, bytes_coming, status_of}
use Rattle.pip_command_contracts.specs.Streams.{Streams}
use Rattle.pip_commands.specs.declared.commands.script.line.ScriptLineError.{ScriptLineError}
use Rattle.pip_commands.specs.declared.commands.script.line.ScriptLineError.TheVariants.{Bad, Write, Memory}
use Rattle.pip_commands.specs.declared.commands.script.turn.End.{End}
use Rattle.pip_commands.specs.declared.commands.script.turn.End.TheVariants.{Finished, BadLine, ReadFault, WriteFault}
use Rattle.pip_commands.specs.declared.commands.script.turn.End.TheVariants.{NoMemory, Limit}
use Rattle.pip_commands.proofs.Turns.{is_unread}

some_same : {x y : End} → ◌≡◌ {A = Option End} (Some x) (Some y) → x ≡ y
some_same {x} {y} is = cc

-- a line that wasn't run to its end is no failed read
pub not_read : (stop : ScriptLineError) (e : End) (n : ℕ) (before after : Writing) → Names stop n e before after
    → ◌≡◌ {A = Option End} (Some e) (Some ReadFault) → ⊥
not_read Bad e n before after names is = absurd (subst (λ e. Names Bad n e before after) (some_same is) names)
not_read Write e n before after names is = absurd (subst (λ e. Names Write n e before after) (some_same is) names)
not_read Memory e n before after names is = absurd (subst (λ e. Names Memory n e before after) (some_same is) names)

-- ---- it isn't known what stands at the head

unsettled : (v : Option World) (n : ℕ) (i : Held) (a b : Streams) → b.left ≡ a.left → Keeps a.written b.written
    → b.written.buffered ≢ [] → RoseByOne a.writes b.writes → IsUnwritten v n i a b
unsettled v n i a b left kept some rose = record {
  bytes = [];
  beyond = i.bytes;
  takes = record {
    read = subst (λ l. Consumes (bytes_coming i a) l i.bytes) (sym left)
        (all_read (bytes_coming i a) a.left i.bytes (KB.Keeps-refl (bytes_coming i a)));
    few = omega arith;
  };
  uncut = inl (inl (inl refl));
  wrote = cut_sent a.written a.written b.written [] (Appends-nil a.written) kept some;
  rose = rose;
}

pub has_no_line : (e : End) (machine machine' : Option State) (n : ℕ) (i j : Held) (a b : Streams)
    → IO.Keeps (bytes_coming i a) (prepend_known j.bytes b.left) → Keeps a.written b.written
    → HasNoLine e i j a b → TurnDoes (Some e) machine machine' n i j a b
has_no_line ReadFault machine machine' n i j a b kept taken h =
    (record { reads = λ not. absurd (not refl); writes = λ not. h.1 }, λ v stands. is_unread i j a b kept h.0 taken h.2)
has_no_line WriteFault machine machine' n i j a b kept taken h = (
  record {
    reads = λ not. h.2;
    writes = λ not. absurd (not refl);
  },
  λ v stands. unsettled v n i a b h.1 taken h.3 h.4,
)
has_no_line Finished machine machine' n i j a b kept taken h = absurd h
has_no_line BadLine machine machine' n i j a b kept taken h = absurd h
has_no_line NoMemory machine machine' n i j a b kept taken h = absurd h
has_no_line Limit machine machine' n i j a b kept taken h = absurd h

pub no_line_none : (e : End) (i j : Held) (a b : Streams) → HasNoLine e i j a b
    → ◌≡◌ {A = Option End} (Some e) (Some ReadFault) → b.written.buffered ≡ []
no_line_none e i j a b h is = (subst (λ e. HasNoLine e i j a b) (some_same is) h).3

-- ---- after a settling

module _ (a : Streams) (w : Taken) (m : ℕ) (kept : Keeps a.written w) (same : m ≡ a.writes) where
  abbrev flushed_first : Streams
  flushed_first = record { left = a.left; written = w; reads = a.reads; writes = m }

  takes_after : (i : Held) (b : Streams) (bytes beyond : List ℕ) → TakesLast i flushed_first b bytes beyond
      → TakesLast i a b bytes beyond
  takes_after i b bytes beyond t = record { read = t.read; few = t.few }

  wrote_after : (c : Taken) (t : List ℕ) → Appends w c t → Appends a.written c t
  wrote_after c t h = Appends-trans a.written w c [] t kept h

  ends_after : (e : End) (v : Option World) (n : ℕ) (i : Held) (b : Streams) (machine : Option State)
      → EndsTurn e v n i flushed_first b machine → EndsTurn e v n i a b machine
  ends_after Finished v n i b machine d =
      record {
        bytes = d.bytes;
        text = d.text;
        world = d.world;
        takes = takes_after i b d.bytes [] d.takes;
        whole = d.whole;
        told = d.told;
        wrote = wrote_after b.written d.text d.wrote;
        stands = d.stands;
      }
  ends_after BadLine v n i b machine d =
      record {
        bytes = d.bytes;
        beyond = d.beyond;
        end = d.end;
        bad = d.bad;
        takes =
            takes_after i b d.bytes d.beyond d.takes;
        told = d.told;
        wrote = wrote_after b.written d.end.text d.wrote;
      }
  ends_after ReadFault v n i b machine d =
      record {
        rest = d.rest;
        takes = takes_after i b d.rest [] d.takes;
        plain = d.plain;
        short = d.short;
        wrote = wrote_after b.written [] d.wrote;
        rose = d.rose;
      }
  ends_after WriteFault v n i b machine d = record {
    bytes = d.bytes;
    beyond = d.beyond;
    takes = takes_after i b d.bytes d.beyond d.takes;
    uncut = d.uncut;
    wrote = SendsPart-after a.written w b.written [] (transcript_from v n (lines_of d.bytes)).text kept d.wrote;
    rose = subst (λ k. RoseByOne k b.writes) same d.rose;
  }
  ends_after NoMemory v n i b machine d = record {
    line = d.line;
    newline = d.newline;
    beyond = d.beyond;
    takes = takes_after i b (d.line ++ d.newline) d.beyond d.takes;
    ended = d.ended;
    first = d.first;
    boots = d.boots;
    wrote = wrote_after b.written [] d.wrote;
  }
  ends_after Limit v n i b machine d =
      record {
        bytes = d.bytes;
        last = d.last;
        takes = takes_after i b d.bytes (d.last ∷ []) d.takes;
        limit = d.limit;
        plain = d.plain;
        short = d.short;
        wrote = wrote_after b.written [] d.wrote;
      }

  pub did_after : (end : Option End) (machine machine' : Option State) (n : ℕ) (i j : Held) (b : Streams)
      → TurnDoes end machine machine' n i j flushed_first b → TurnDoes end machine machine' n i j a b
  did_after None machine machine' n i j b h = (
    record { reads = h.0.reads; writes = h.0.writes ∙ same },
    λ v stands. let d = h.1 v stands in
        record {
          line = d.line;
          text = d.text;
          world = d.world;
          taken = d.taken;
          count = d.count;
          goes = d.goes;
          wrote = wrote_after b.written d.text d.wrote;
          stands = d.stands;
        },
  )
  did_after (Some e) machine machine' n i j b h = (
    record { reads = h.0.reads; writes = λ not. h.0.writes not ∙ same },
    λ v stands. ends_after e v n i b machine' (h.1 v stands),
  )

-- a turn that ends at what stands at the head of the input
pub ends_settled : {a b : Streams} {w : Taken} {m : ℕ} (machine machine' : Option State) (n : ℕ) (i j : Held)
    (e : End) {found head : LineEnd} → found ≡ head
    → HoldsLine (still i) j b.left found × (b.reads ≡ a.reads) × (m ≡ a.writes) → Keeps a.written w
    → (status_of e ≢ 4 → b.writes ≡ m)
    → (HoldsLine (still i) j b.left head → (v : Option World) → StandsIfAny machine v
    → EndsTurn e v n i (record { left = a.left; written = w; reads = a.reads; writes = m }) b machine')
    → TurnDoes (Some e) machine machine' n i j a b
ends_settled {a} {b} {w} {m} machine machine' n i j e {found} {head} is line taken no_faults ends =
    did_after a w m taken line.2 (Some e) machine machine' n i j b (
      record { reads = λ not. line.1; writes = no_faults },
      ends (subst (HoldsLine (still i) j b.left) is line.0),
    )

-- ---- before a settling

module _ (a c : Streams) (w : Taken) (m : ℕ) (v : Option World) (n : ℕ) (i : Held) (machine : Option State) where
  abbrev flushed_last : Streams
  flushed_last = record { left = c.left; written = w; reads = c.reads; writes = m }

  takes_before : (bytes beyond : List ℕ) → TakesLast i a c bytes beyond → TakesLast i a flushed_last bytes beyond
  takes_before bytes beyond t = record { read = t.read; few = t.few }

  -- nothing was tried
  read_fault_stays : w ≡ c.written → IsUnread i a c → IsUnread i a flushed_last
  read_fault_stays same d = record {
    rest = d.rest;
    takes = takes_before d.rest [] d.takes;
    plain = d.plain;
    short = d.short;
    wrote = subst (Keeps a.written) (sym same) d.wrote;
    rose = d.rose;
  }

  write_fault_stays : w ≡ c.written → m ≡ c.writes → IsUnwritten v n i a c → IsUnwritten v n i a flushed_last
  write_fault_stays same count d = record {
    bytes = d.bytes;
    beyond = d.beyond;
    takes = takes_before d.bytes d.beyond d.takes;
    uncut = d.uncut;
    wrote = subst (λ w. SendsPart a.written w (transcript_from v n (lines_of d.bytes)).text) (sym same) d.wrote;
    rose = subst (RoseByOne a.writes) (sym count) d.rose;
  }

  module _ (kept : Keeps c.written w) where
    -- what was held was written
    stays : (e : End) → status_of e ≢ 3 → status_of e ≢ 4 → EndsTurn e v n i a c machine
        → EndsTurn e v n i a flushed_last machine
    stays Finished not3 not4 d =
        record {
          bytes = d.bytes;
          text = d.text;
          world = d.world;
          takes = takes_before d.bytes [] d.takes;
          whole =
              d.whole;
          told = d.told;
          wrote = Appends-kept a.written c.written w d.text d.wrote kept;
          stands = d.stands;
        }
    stays BadLine not3 not4 d =
        record {
          bytes = d.bytes;
          beyond = d.beyond;
          end = d.end;
          bad = d.bad;
          takes = takes_before d.bytes d.beyond
              d.takes;
          told = d.told;
          wrote = Appends-kept a.written c.written w d.end.text d.wrote kept;
        }
    stays ReadFault not3 not4 d = absurd (not3 refl)
    stays WriteFault not3 not4 d = absurd (not4 refl)
    stays NoMemory not3 not4 d = record {
      line = d.line;
      newline = d.newline;
      beyond = d.beyond;
      takes = takes_before (d.line ++ d.newline) d.beyond d.takes;
      ended = d.ended;
      first = d.first;
      boots = d.boots;
      wrote = Keeps-trans a.written c.written w d.wrote kept;
    }
    stays Limit not3 not4 d =
        record {
          bytes = d.bytes;
          last = d.last;
          takes = takes_before d.bytes (d.last ∷ []) d.takes;
          limit = d.limit;
          plain = d.plain;
          short = d.short;
          wrote = Keeps-trans a.written c.written w d.wrote kept;
        }

    -- a part of it was
    module _ (some : w.buffered ≢ []) (rose : RoseByOne a.writes m) where
      nothing_cut : (beyond : List ℕ) → Consumes (bytes_coming i a) c.left beyond → Keeps a.written c.written
          → IsUnwritten v n i a flushed_last
      nothing_cut beyond read wrote = record {
        bytes = [];
        beyond = beyond;
        takes = record { read = read; few = omega arith };
        uncut = inl (inl (inl refl));
        wrote = cut_sent a.written c.written w [] wrote kept some;
        rose = rose;
      }

      cut : (e : End) → status_of e ≢ 3 → status_of e ≢ 4 → EndsTurn e v n i a c machine
          → IsUnwritten v n i a flushed_last
      cut Finished not3 not4 d = record {
        bytes = d.bytes;
        beyond = [];
        takes = takes_before d.bytes [] d.takes;
        uncut = inr (refl, d.whole);
        wrote = subst (λ t. SendsPart a.written w t.text) (sym d.told)
            (cut_sent a.written c.written w d.text d.wrote kept some);
        rose = rose;
      }
      cut BadLine not3 not4 d =
          let told : transcript_from v n (lines_of d.bytes) ≡ d.end = elim d.told [
            | inl all ↦ ap (λ l. transcript_from v n (lines_of l)) (sym (append-nil d.bytes)) ∙ all.1 []
            | inr last ↦ last.0
          ] in
          record {
            bytes = d.bytes;
            beyond = d.beyond;
            takes = takes_before d.bytes d.beyond d.takes;
            uncut = elim d.told [
              | inl all ↦ inl all.0
              | inr last ↦ inr (last.1, last.2)
            ];
            wrote = subst (λ t. SendsPart a.written w t.text) (sym told)
                (cut_sent a.written c.written w d.end.text d.wrote kept some);
            rose = rose;
          }
      cut ReadFault not3 not4 d = absurd (not3 refl)
      cut WriteFault not3 not4 d = absurd (not4 refl)
      cut NoMemory not3 not4 d = nothing_cut ((d.line ++ d.newline) ++ d.beyond) d.takes.read d.wrote
      cut Limit not3 not4 d = nothing_cut (d.bytes ++ d.last ∷ []) d.takes.read d.wrote

module _ (a c : Streams) (w : Taken) (m : ℕ) (machine machine' : Option State) (n : ℕ) (i j : Held) where
  abbrev last : Streams
  last = record { left = c.left; written = w; reads = c.reads; writes = m }

  by_settling : (e e' : End) → status_of e ≢ 3 → status_of e ≢ 4 → TurnDoes (Some e) machine machine' n i j a c
      → IsSettled e e' (writing c.written c.writes) (writing w m) → TurnDoes (Some e') machine machine' n i j a last
  by_settling e e' not3 not4 h s = elim s.1 [
    | inl whole ↦ subst (λ x. TurnDoes (Some x) machine machine' n i j a last) (sym whole.0) (
      record { reads = h.0.reads; writes = λ not. whole.2 ∙ h.0.writes not },
      λ v stands. stays a c w m v n i machine' s.0 e not3 not4 (h.1 v stands),
    )
    | inr part ↦ subst (λ x. TurnDoes (Some x) machine machine' n i j a last) (sym part.0) (
      record { reads = λ not. h.0.reads not3; writes = λ not. absurd (not refl) },
      λ v stands. cut a c w m v n i machine' s.0 part.1 (subst (λ k. RoseByOne k m) (h.0.writes not4) part.2) e not3
          not4 (h.1 v stands),
    )
  ]

  pub turn_settled : (e e' : End) → TurnDoes (Some e) machine machine' n i j a c → Settles e e'
      (writing c.written c.writes) (writing w m)
      → TurnDoes (Some e') machine machine' n i j a last
  turn_settled ReadFault e' h s = subst (λ x. TurnDoes (Some x) machine machine' n i j a last) (sym s.0) (
    record { reads = λ not. absurd (not refl); writes = λ not. s.2 ∙ h.0.writes not },
    λ v stands. read_fault_stays a c w m v n i machine' s.1 (h.1 v stands),
  )
  turn_settled WriteFault e' h s = subst (λ x. TurnDoes (Some x) machine machine' n i j a last) (sym s.0) (
    record { reads = h.0.reads; writes = λ not. absurd (not refl) },
    λ v stands. write_fault_stays a c w m v n i machine' s.1 s.2 (h.1 v stands),
  )
  turn_settled Finished e' h s =
      by_settling Finished e' (λ is. absurd (omega (arith, is))) (λ is. absurd (omega (arith, is))) h s
  turn_settled BadLine e' h s =
      by_settling BadLine e' (λ is. absurd (omega (arith, is))) (λ is. absurd (omega (arith, is))) h s
  turn_settled NoMemory e' h s =
      by_settling NoMemory e' (λ is. absurd (omega (arith, is))) (λ is. absurd (omega (arith, is))) h s
  turn_settled Limit e' h s =
      by_settling Limit e' (λ is. absurd (omega (arith, is))) (λ is. absurd (omega (arith, is))) h s

-- nothing is held at an end that is no failed write
held_none : (e e' : End) (before after : Writing) → IsSettled e e' before after → e' ≢ WriteFault
    → after.written.buffered ≡ []
held_none e e' before after s not = elim s.1 [
  | inl whole ↦ whole.1
  | inr part ↦ absurd (not part.0)
]

pub none_held : (e e' : End) (before after : Writing)
    → (◌≡◌ {A = Option End} (Some e) (Some ReadFault) → before.written.buffered ≡ []) → Settles e e' before after
    → e' ≢ WriteFault → after.written.buffered ≡ []
none_held ReadFault e' before after none s not = ap (λ w. w.buffered) s.1 ∙ none refl
none_held WriteFault e' before after none s not = absurd (not s.0)
none_held Finished e' before after none s not = held_none Finished e' before after s not
none_held BadLine e' before after none s not = held_none BadLine e' before after s not
none_held NoMemory e' before after none s not = held_none NoMemory e' before after s not
none_held Limit e' before after none s not = held_none Limit e' before after s not
