-- How `audit` ends. The streams go from a to c.
use Rattle.std.proofs.Common.{◌≡◌, ◌≢◌, ◌==◌, ℕ, inl, inr, true, Option, None, Some, List, [], ◌++◌, refl, sym, ap, ◌∙◌}
use Rattle.std.proofs.Common.{subst, arith, append-nil, eqb-true}
use Rattle.std.specs.Prelude.{Result, Ok, Err, IsErr, MatchOption}
use Rattle.std.specs.Io.KnownBytes.{Consumes}
use Rattle.std.proofs.KnownBytes.{Consumes-nil}
use Rattle.pip_base.specs.Memory.{IsMemory, Memory}
use Rattle.pip_audit.specs.Core.{Whole, core_text}
use Rattle.pip_audit.specs.CoreRead.{BeginsText, IsBadLineOf, IsBadText, IsText, RefusesText}
use Rattle.pip_audit.specs.declared.core_text.text.CoreError.{CoreError}
use Rattle.pip_audit.proofs.CanonicalRun.{only_texts}
use Rattle.pip_io.proofs.Piecewise.{part_longer}
use Rattle.pip_io.specs.Causes.{RoseByOne}
use Rattle.pip_io.specs.Taken.{Taken, Appends, Keeps, SendsPart, Wrote}
use Rattle.pip_io.specs.Histories.{writing}
use Rattle.pip_io.proofs.Taken.{Appends-trans, SendsPart-after, part_sent}
use Rattle.pip_model.specs.Audit.{Differs, Finding, HasWordsOnly, Lays, Unread, Unsound, finding}
use Rattle.pip_model.specs.Dump.{tree_text}
use Rattle.pip_model.specs.Partitions.{HasPartition, IsHeld}
use Rattle.pip_model.specs.Tree.{Tree}
use Rattle.pip_model.proofs.Audit.AuditLaw.{found_layouts}
use Rattle.pip_model.proofs.Frames.ControlLays.{root_stands}
use Rattle.pip_switch.specs.Standing.{State}
use Rattle.pip_commands.specs.Dues.{audit_answer, audit_due, found_answer, yes_text}
use Rattle.pip_commands.specs.AuditTexts.{bad_line, no_line, yes_line}
use Rattle.pip_command_contracts.specs.EndsBy.{Due, EndsBy, IsAnswered, IsOfAnswer, EndsWithResponse, plainly}
use Rattle.pip_command_contracts.specs.Streams.{EndsLine, IsCalm, Streams}
use Rattle.pip_command_contracts.proofs.Endings.{by_memory, by_plain, by_read_fault}

-- ---- what is found

found_tree : (f : Finding) → no_line f ≡ None → (t : Tree) × (f ≡ Lays t)
found_tree (Lays t) e = (t, refl)
found_tree (Unread stop) e = cc
found_tree (Unsound part) e = cc
found_tree (Differs d) e = cc

-- a memory has no line exactly where it lays out a sound tree
pub lays_one : (m : Memory) → IsMemory m → HasWordsOnly m → no_line (finding m) ≡ None
    → (t : Tree) × (finding m ≡ Lays t) × IsHeld t m
lays_one m shape words none = let (t, is) = found_tree (finding m) none in (t, is, found_layouts t m shape words is)

-- what is told of an optional line, where there is none
pub told_none : {A : Type 0} (r : Option A) (P : Type 0) (Q : A → Type 0) → ((a : A) → r ≡ Some a → ⊥)
    → MatchOption r P Q → P
told_none None P Q not h = h
told_none (Some a) P Q not h = absurd (not a refl)

pub root_there : (m : Memory) → IsMemory m → HasWordsOnly m → no_line (finding m) ≡ None → HasPartition m 1
root_there m shape words none = let (t, is, held) = lays_one m shape words none in root_stands t held.0 m held.1

-- ---- the answer

-- a line says why there is none
no_answer : (f : Finding) (line : List ℕ) → no_line f ≡ Some line → found_answer f ≡ plainly 9 line None
no_answer (Lays t) line is = cc
no_answer (Unread stop) line is = ap (λ l. plainly 9 l None) (inside is)
  where
    inside : {x y : List ℕ} → Some x ≡ Some y → x ≡ y
    inside e = cc
no_answer (Unsound part) line is = ap (λ l. plainly 9 l None) (inside is)
  where
    inside : {x y : List ℕ} → Some x ≡ Some y → x ≡ y
    inside e = cc
no_answer (Differs d) line is = ap (λ l. plainly 9 l None) (inside is)
  where
    inside : {x y : List ℕ} → Some x ≡ Some y → x ≡ y
    inside e = cc

-- a text, and a line after it
line_after : (status code : ℕ) (text line : List ℕ) (before mid after : Taken) (writes writes' : ℕ)
    → Appends before mid text → EndsLine status line code (writing mid writes) (writing after writes')
    → EndsLine status (text ++ line) code (writing before writes) (writing after writes')
line_after status code text line before mid after writes writes' wrote (inl h) =
    inl (h.0, Appends-trans before mid after text line wrote h.1)
line_after status code text line before mid after writes writes' wrote (inr h) =
    inr (h.0, SendsPart-after before mid after text line wrote h.1, h.2)

module _ (m : Memory) (shape : IsMemory m) (words : HasWordsOnly m) (none : no_line (finding m) ≡ None) (code : ℕ)
    (before after : Taken) where
  abbrev there : (t : Tree) × (finding m ≡ Lays t) × IsHeld t m
  there = lays_one m shape words none

  pub answers_yes : (mid : Taken) (writes mid_writes writes' : ℕ) → mid_writes ≡ writes
      → ((t : Tree) → IsHeld t m → Appends before mid (tree_text t))
      → EndsLine 0 yes_line code (writing mid mid_writes) (writing after writes')
      → EndsWithResponse (found_answer (finding m)) code (writing before writes) (writing after writes')
  answers_yes mid writes mid_writes writes' same wrote line =
      subst (λ f. EndsWithResponse (found_answer f) code (writing before writes) (writing after writes')) (sym there.1)
      (line_after 0 code (tree_text there.0) yes_line before mid after writes writes' (wrote there.0 there.2)
      (subst (λ k. EndsLine 0 yes_line code (writing mid k) (writing after writes')) same line))

  pub answers_cut : {T E : Type 0} (r : Result T E) (writes writes' : ℕ) → IsErr r → code ≡ 4
      → ((t : Tree) → IsHeld t m → Wrote r before after (tree_text t)) → RoseByOne writes writes'
      → EndsWithResponse (found_answer (finding m)) code (writing before writes) (writing after writes')
  answers_cut r writes writes' err is wrote rose =
      subst (λ f. EndsWithResponse (found_answer f) code (writing before writes) (writing after writes')) (sym there.1)
      (inr (is, cut r there.0 err (wrote there.0 there.2), rose))
    where
      cut : {T E : Type 0} (r : Result T E) (t : Tree) → IsErr r → Wrote r before after (tree_text t)
          → SendsPart before after (yes_text t)
      cut (Ok v) t err h = absurd cc
      cut (Err e) t err h = part_sent before after (yes_text t) (part_longer before after (tree_text t) yes_line h)

-- ---- what is read

-- a memory that is read has words only
pub text_shape : (n : ℕ) (bytes : List ℕ) (m : Memory) → core_text n bytes ≡ Whole m → IsMemory m
text_shape n bytes m h = (only_texts n 128 refl bytes m h).shape

pub text_words : (n : ℕ) (bytes : List ℕ) (m : Memory) → core_text n bytes ≡ Whole m → HasWordsOnly m
text_words n bytes m h = (only_texts n 128 refl bytes m h).small

-- ---- how the command ends

-- a line is written at no other status
not_five : {A : Type 0} (status : ℕ) (line : List ℕ) (code : ℕ) (before after : Taken) (writes writes' : ℕ) → status ≢ 5
    → EndsLine status line code (writing before writes) (writing after writes') → (code == 5) ≡ true → A
not_five status line code before after writes writes' not (inl h) five =
    absurd (not (sym h.0 ∙ eqb-true code 5 five))
not_five status line code before after writes writes' not (inr h) five =
    let e = eqb-true code 5 five in let f = h.0 in absurd (omega (arith, e, f))

-- why no memory was read, where the number of its frames and the error are known
pub refused_as : (left left' : Option (List ℕ)) (before now : ℕ) {k n : ℕ} {x e : CoreError} → k ≡ n → x ≡ e
    → RefusesText k left left' before now x → RefusesText n left left' before now e
refused_as left left' before now {k} {n} {x} {e} count is refused =
    subst (λ n. RefusesText n left left' before now e) count (subst (RefusesText k left left' before now) is refused)

module _ (n code : ℕ) (p : Option State) (a c : Streams) (none : p ≡ None) (no_faults : IsCalm code a c)
    (flushed : code ≢ 4 → c.written.buffered ≡ []) where
  abbrev due : Due
  due = audit_due n

  -- there was no memory, and nothing was read
  pub ends_memory : code ≡ 5 → c.left ≡ a.left → Keeps a.written c.written → EndsBy due code p a c
  ends_memory is left kept =
      by_memory due code p a c no_faults flushed
      (λ five. (left, no_faults.reads (λ three. omega (arith, is, three)))) []
      (subst (λ l. Consumes a.left l []) (sym left) (Consumes-nil a.left)) none is tt kept

  -- a read failed
  pub ends_unread : code ≡ 3 → BeginsText n a.left c.left → Keeps a.written c.written → RoseByOne a.reads c.reads
      → EndsBy due code p a c
  ends_unread is s kept rose =
      by_read_fault due code p a c no_faults flushed
      (λ five. let e = eqb-true code 5 five in absurd (omega (arith, is, e))) s.bytes s.taken none is
      (record {
        text = [];
        due = (s.begins, refl);
        limit = tt;
        wrote = kept;
      }) rose

  module _ (start : a.written.buffered ≡ []) where
    by_answer_line : (bytes : List ℕ) → Consumes a.left c.left bytes → (status : ℕ) (line : List ℕ) → IsOfAnswer status
        → status ≢ 5 → IsAnswered due bytes (plainly status line None) c.left
        → EndsLine status line code (writing a.written a.writes) (writing c.written c.writes) → EndsBy due code p a c
    by_answer_line bytes read status line of not is told =
        by_plain due code p a c no_faults flushed
        (not_five status line code a.written c.written a.writes c.writes not told)
        bytes read
        none start status line of is told

    -- by a line that names a fault
    pub ends_bad : (k : ℕ) → IsBadText n a.left c.left k → {line : List ℕ} → line ≡ bad_line k
        → EndsLine 2 line code (writing a.written a.writes) (writing c.written c.writes) → EndsBy due code p a c
    ends_bad k h {line} named told =
        by_answer_line h.bytes h.taken 2 (bad_line k) (inl (omega arith)) (λ e. omega (arith, e)) (is_bad h.fault)
        (subst (λ t. EndsLine 2 t code (writing a.written a.writes) (writing c.written c.writes)) named told)
      where
        is_bad : IsBadLineOf n h.bytes c.left k → IsAnswered due h.bytes (plainly 2 (bad_line k) None) c.left
        is_bad (inl all) = record {
          is = sym (ap audit_answer (ap (core_text n) (sym (append-nil h.bytes)) ∙ all []));
          decided = inl (k, all);
        }
        is_bad (inr end) = record { is = sym (ap audit_answer end.0); decided = inr (end.1, tt) }

    -- by the answer on a memory
    pub ends_judged : (m : Memory) → IsText n a.left c.left m
        → EndsWithResponse (found_answer (finding m)) code (writing a.written a.writes) (writing c.written c.writes)
        → EndsBy due code p a c
    ends_judged m h told = go (finding m) refl told
      where
        is_found : (f : Finding) → finding m ≡ f → IsAnswered due h.bytes (found_answer f) c.left
        is_found f is = record { is = sym (ap audit_answer h.text ∙ ap found_answer is); decided = inr (h.ended, tt) }

        go : (f : Finding) → finding m ≡ f
            → EndsWithResponse (found_answer f) code (writing a.written a.writes) (writing c.written c.writes)
            → EndsBy due code p a c
        go (Lays t) is told = by_answer_line h.bytes h.taken 0 (yes_text t) (inl (omega arith)) (λ e. omega (arith, e))
            (is_found (Lays t) is) told
        go (Unread stop) is told = by_answer_line h.bytes h.taken 9 _ (inr (omega arith)) (λ e. omega (arith, e))
            (is_found (Unread stop) is) told
        go (Unsound part) is told = by_answer_line h.bytes h.taken 9 _ (inr (omega arith)) (λ e. omega (arith, e))
            (is_found (Unsound part) is) told
        go (Differs d) is told = by_answer_line h.bytes h.taken 9 _ (inr (omega arith)) (λ e. omega (arith, e))
            (is_found (Differs d) is) told
