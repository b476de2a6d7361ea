-- The ways to end, one for each kind of status.
use Rattle.std.proofs.Common.{◌≡◌, ◌≢◌, ℕ, ◌≤◌, inl, inr, true, false, Option, None, Some, List, [], ◌++◌}
use Rattle.std.proofs.Common.{refl, sym, subst, arith}
use Rattle.std.specs.Io.KnownBytes.{Consumes}
use Rattle.std.proofs.KnownBytes.{Consumes-nil}
use Rattle.pip_io.specs.Causes.{RoseByOne}
use Rattle.pip_io.specs.Taken.{Taken, GrowsInPart, GrowsPast, Keeps, SendsPart, SendsPast}
use Rattle.pip_io.specs.Histories.{Writing, writing}
use Rattle.pip_switch.specs.Standing.{State}
use Rattle.pip_command_contracts.specs.Machines.{StandsIfAny}
use Rattle.pip_command_contracts.specs.EndsBy.{Response, GivesAnswer, Due, EndsBy, IsAnswered, IsOfAnswer, IsSoFar}
use Rattle.pip_command_contracts.specs.EndsBy.{PassesLimit}
use Rattle.pip_command_contracts.specs.EndsBy.{WritesPart, plainly}
use Rattle.pip_command_contracts.specs.Streams.{EndsLine, IsCalm, Streams, beside}

-- a status between 3 and 6 is none of an answer
pub outside : (code k : ℕ) → IsOfAnswer code → code ≡ k → 3 ≤ k → k ≤ 6 → ⊥
outside code k (inl o) e l m = omega (arith, o, e, l, m)
outside code k (inr o) e l m = omega (arith, o, e, l, m)

within : (code : ℕ) → IsOfAnswer code → 3 ≤ code → code ≤ 6 → ⊥
within code (inl o) l m = omega (arith, o, l, m)
within code (inr o) l m = omega (arith, o, l, m)

-- what asks for the source at each status is never left alone
pub apart : {A : Type 0} → false ≡ true → A
apart e = absurd (cc)

-- what leaves the source alone takes nothing of it
pub takes_none : (l l' : Option (List ℕ)) → l' ≡ l → Consumes l l' []
takes_none l l' e = subst (λ k. Consumes l k []) (sym e) (Consumes-nil l)

-- where nothing was held, nothing is what was out before
pub past_nothing : (a b : Taken) (text : List ℕ) → a.buffered ≡ [] → SendsPart a b text → SendsPast a b []
past_nothing a b text none part = record { grows = go a.out b.out a.buffered none part.grows }
  where
    go : (o o' : Option (List ℕ)) (held : List ℕ) → held ≡ [] → GrowsInPart o o' (held ++ text)
        → GrowsPast o o' (held ++ [])
    go None o' held none g = tt
    go (Some xs) None held none g = g
    go (Some xs) (Some ys) held none g = (g.0, subst (λ h. ys ≡ xs ++ ((h ++ []) ++ g.0)) (sym none) g.2)

pub no_world : (p : Option State) → p ≡ None → StandsIfAny p None
no_world p is = subst (λ q. StandsIfAny q None) (sym is) tt

-- a part of an answer that is written when all was read
pub part_plain : (d : Due) (a b : Streams) (bytes text : List ℕ) (v : Response) → IsAnswered d bytes v b.left
    → v.front ≡ [] → v.last ≡ Some text
    → a.written.buffered ≡ [] → SendsPart a.written b.written text → WritesPart d bytes a b
part_plain d a b bytes text v due f l none part = record {
  front = [];
  last = text;
  due = inl (v, due, f, l);
  out = past_nothing a.written b.written text none part;
  part = part;
}

-- what ends from a sink that is the same, where nothing was held
pub ends_same : {K : Type 0} (told : K → Writing) {sink mid : K} {d : Due} {code : ℕ} {p : Option State}
    {left : Option (List ℕ)} {reads : ℕ} {b : Streams} → mid ≡ sink → (told sink).written.buffered ≡ []
    → ((told mid).written.buffered ≡ [] → EndsBy d code p (beside left reads (told mid)) b)
    → EndsBy d code p (beside left reads (told sink)) b
ends_same told {sink} {mid} {d} {code} {p} {left} {reads} {b} same none ends =
    subst (λ k. EndsBy d code p (beside left reads (told k)) b) same
    (ends (subst (λ k. (told k).written.buffered ≡ []) (sym same) none))

-- ---- the ways to end, from a to b

module _ (d : Due) (code : ℕ) (p : Option State) (a b : Streams) (no_faults : IsCalm code a b)
    (flushed : code ≢ 4 → b.written.buffered ≡ [])
    (unread : d.unread code ≡ true → (b.left ≡ a.left) × (b.reads ≡ a.reads)) (bytes : List ℕ)
    (read : Consumes a.left b.left bytes) where
  pub by_answer : IsOfAnswer code → GivesAnswer d bytes code p a b → EndsBy d code p a b
  by_answer o x = record {
    bytes = bytes;
    read = read;
    answered = λ _. x;
    read_fault = λ e. absurd (outside code 3 o e (omega arith) (omega arith));
    write_fault = λ e. absurd (outside code 4 o e (omega arith) (omega arith));
    memory = λ e. absurd (outside code 5 o e (omega arith) (omega arith));
    limit = λ e. absurd (outside code 6 o e (omega arith) (omega arith));
    none = λ l m. absurd (within code o l m);
    no_faults = no_faults;
    flushed = flushed;
    unread = unread;
  }

  module _ (none : p ≡ None) where
    pub by_read_fault : code ≡ 3 → IsSoFar d bytes a b → RoseByOne a.reads b.reads → EndsBy d code p a b
    by_read_fault is x rose = record {
      bytes = bytes;
      read = read;
      answered = λ o. absurd (outside code 3 o is (omega arith) (omega arith));
      read_fault = λ e. (x, rose);
      write_fault = λ e. absurd (omega (arith, e, is));
      memory = λ e. absurd (omega (arith, e, is));
      limit = λ e. absurd (omega (arith, e, is));
      none = λ l m. none;
      no_faults = no_faults;
      flushed = flushed;
      unread = unread;
    }

    pub by_write_fault : code ≡ 4 → WritesPart d bytes a b → RoseByOne a.writes b.writes → EndsBy d code p a b
    by_write_fault is x rose = record {
      bytes = bytes;
      read = read;
      answered = λ o. absurd (outside code 4 o is (omega arith) (omega arith));
      read_fault = λ e. absurd (omega (arith, e, is));
      write_fault = λ e. (x, rose);
      memory = λ e. absurd (omega (arith, e, is));
      limit = λ e. absurd (omega (arith, e, is));
      none = λ l m. none;
      no_faults = no_faults;
      flushed = flushed;
      unread = unread;
    }

    pub by_memory : code ≡ 5 → d.asks bytes b.left → Keeps a.written b.written → EndsBy d code p a b
    by_memory is x kept = record {
      bytes = bytes;
      read = read;
      answered = λ o. absurd (outside code 5 o is (omega arith) (omega arith));
      read_fault = λ e. absurd (omega (arith, e, is));
      write_fault = λ e. absurd (omega (arith, e, is));
      memory = λ e. (x, kept);
      limit = λ e. absurd (omega (arith, e, is));
      none = λ l m. none;
      no_faults = no_faults;
      flushed = flushed;
      unread = unread;
    }

    pub by_limit : code ≡ 6 → PassesLimit d bytes a b → EndsBy d code p a b
    by_limit is x = record {
      bytes = bytes;
      read = read;
      answered = λ o. absurd (outside code 6 o is (omega arith) (omega arith));
      read_fault = λ e. absurd (omega (arith, e, is));
      write_fault = λ e. absurd (omega (arith, e, is));
      memory = λ e. absurd (omega (arith, e, is));
      limit = λ e. x;
      none = λ l m. none;
      no_faults = no_faults;
      flushed = flushed;
      unread = unread;
    }

    -- a line is the answer, and was written, or a part of it
    pub by_plain : a.written.buffered ≡ [] → (status : ℕ) (line : List ℕ) → IsOfAnswer status
        → IsAnswered d bytes (plainly status line None) b.left
        → EndsLine status line code (writing a.written a.writes) (writing b.written b.writes) → EndsBy d code p a b
    by_plain start status line o due (inl whole) = by_answer (subst IsOfAnswer (sym whole.0) o) (record {
      answer = plainly status line None;
      due = due;
      status = whole.0;
      wrote = whole.1;
      machine = no_world p none;
    })
    by_plain start status line o due (inr cut) = by_write_fault cut.0
        (part_plain d a b bytes line (plainly status line None) due refl refl start cut.1) cut.2
