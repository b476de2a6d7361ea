-- How a command ends that is driven: by what is due of the machine, what is due of the command.
use Rattle.std.proofs.Common.{◌≡◌, ◌≢◌, ◌⊎◌, ℕ, inl, inr, Bool, true, Option, None, Some, List, [], refl, sym, ◌∙◌}
use Rattle.std.proofs.Common.{subst, append-nil}
use Rattle.pip_io.specs.Causes.{RoseByOne}
use Rattle.pip_io.specs.Taken.{Taken, Appends}
use Rattle.pip_io.specs.Histories.{writing}
use Rattle.pip_io.proofs.Taken.{Appends-trans, SendsPart-after, past_sent}
use Rattle.pip_io.specs.Due.{DueOf}
use Rattle.pip_io.specs.Ends.{EndsWith, IsAnswer, IsCutShort, IsOut, Waits as TransducerWaits}
use Rattle.pip_command_contracts.specs.EndsBy.{Due as CommandDue, EndsBy, IsAnswered, IsDueLast, IsOfAnswer, IsWithin}
use Rattle.pip_command_contracts.specs.EndsBy.{Response}
use Rattle.pip_command_contracts.specs.Pacing.{Waits}
use Rattle.pip_command_contracts.specs.Streams.{EndsLine, Streams}
use Rattle.pip_command_contracts.proofs.Endings.{by_answer, by_read_fault, by_write_fault, no_world}
use Rattle.pip_switch.specs.Standing.{State}

-- a machine serves a command: what it waits with and what it says midway is due of the command, too
pub record Serves {V : Type 0} (D : CommandDue) (d : DueOf V) (loose : Bool) : Type 0 where
  pub so_far : (bytes text : List ℕ) → d.so_far bytes text → D.so_far bytes text
  pub midway : (bytes front last : List ℕ) → d.midway bytes front last → D.midway bytes front last
  pub last : (bytes front last : List ℕ) (left : Option (List ℕ)) (v : V) → IsAnswer d bytes front last left v
      → (last ≢ []) ⊎ (loose ≡ true) → IsDueLast D bytes front last left
  pub within : (bytes : List ℕ) → IsWithin D.limit bytes
  pub reads : (code : ℕ) → D.unread code ≡ true → ⊥

abbrev silent : ℕ → List ℕ → Response
silent status front = record { status = status; front = front; last = None; world = None }

abbrev naming : ℕ → List ℕ → List ℕ → Response
naming status front line = record { status = status; front = front; last = Some line; world = None }

module _ {V : Type 0} (D : CommandDue) (d : DueOf V) (loose : Bool) (s : Serves D d loose) (a b : Streams) where
  -- a write failed
  pub driven_write : IsCutShort d loose a b → EndsBy D 4 None a b
  driven_write cut = by_write_fault D 4 None a b
      (record { reads = λ not. cut.reads; writes = λ not. absurd (not refl) }) (λ not. absurd (not refl))
      (λ u. absurd (s.reads 4 u)) cut.bytes cut.read refl refl (record {
        front = cut.front;
        last = cut.last;
        due = elim cut.due [
          | inl (v, is) ↦ s.last _ _ _ _ v is cut.some
          | inr midway ↦ inr (s.midway _ _ _ midway)
        ];
        out = cut.past;
        part = cut.part;
      }) cut.rose

  module _ (v : V) (e : EndsWith d a b v) (nothing : e.last ≡ []) where
    front_out : Appends a.written b.written e.front
    front_out = subst (Appends a.written b.written) (rw nothing (append-nil e.front)) e.wrote

    -- it ended, and nothing more is said
    pub driven_end : (status : ℕ) → IsOfAnswer status → IsAnswered D e.bytes (silent status e.front) b.left
        → EndsBy D status None a b
    driven_end status o due = by_answer D status None a b
        (record { reads = λ not. e.no_faults.reads; writes = λ not. e.no_faults.writes }) (λ not. e.out)
        (λ u. absurd (s.reads status u)) e.bytes e.read o (record {
          answer = silent status e.front;
          due = due;
          status = refl;
          wrote = subst (Appends a.written b.written) (sym (append-nil e.front)) front_out;
          machine = tt;
        })

    -- and a line is written then, by which the sink comes from b to w
    pub driven_line : (status : ℕ) (line : List ℕ) → IsOfAnswer status
        → IsAnswered D e.bytes (naming status e.front line) b.left → (code : ℕ) (p : Option State) → p ≡ None
        → (w : Taken) (k : ℕ) → (code ≢ 4 → w.buffered ≡ []) → (code ≢ 4 → k ≡ b.writes)
        → EndsLine status line code (writing b.written b.writes) (writing w k)
        → EndsBy D code p a (record b { written = w; writes = k })
    driven_line status line o due code p none w k flushed quiet (inl (is, whole)) =
        by_answer D code p a _
        (record { reads = λ not. e.no_faults.reads; writes = λ not. quiet not ∙ e.no_faults.writes }) flushed
        (λ u. absurd (s.reads code u)) e.bytes e.read (subst IsOfAnswer (sym is) o) (record {
          answer = naming status e.front line;
          due = due;
          status = is;
          wrote = Appends-trans _ _ _ _ _ front_out whole;
          machine = no_world p none;
        })
    driven_line status line o due code p none w k flushed quiet (inr (is, part, rose)) =
        by_write_fault D code p a _
        (record { reads = λ not. e.no_faults.reads; writes = λ not. absurd (not is) }) flushed
        (λ u. absurd (s.reads code u)) e.bytes e.read none is (record {
          front = e.front;
          last = line;
          due = inl (naming status e.front line, due, refl, refl);
          out = past_sent _ _ _ _ _ front_out e.out part;
          part = SendsPart-after _ _ _ _ _ front_out part;
        }) (subst (λ n. RoseByOne n k) e.no_faults.writes rose)
