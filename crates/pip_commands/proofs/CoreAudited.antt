-- What `core` writes of a sound tree is audited as that tree.
use Rattle.std.proofs.Common.{◌≡◌, ℕ, ◌≤◌, ◌⊎◌, inl, inr, Option, None, Some, List, ◌++◌, refl, sym, ap, ◌∙◌}
use Rattle.std.proofs.Common.{subst, append-nil}
use Rattle.std.specs.Option.{IsSomeAnd}
use Rattle.std.specs.Io.KnownBytes.{Consumes}
use Rattle.pip_base.specs.Memory.{Memory}
use Rattle.pip_audit.specs.Core.{BadAt, Whole, core_text}
use Rattle.pip_audit.proofs.RoundTrip.{all_frames}
use Rattle.pip_io.specs.Taken.{Appends}
use Rattle.pip_model.specs.Dump.{tree_text}
use Rattle.pip_model.specs.Layout.{LaysOut, layout}
use Rattle.pip_model.specs.Partitions.{IsHeld}
use Rattle.pip_model.specs.Sound.{IsSound}
use Rattle.pip_model.specs.Tree.{Tree}
use Rattle.pip_model.proofs.Audit.AuditLaw.{found_layouts, layouts_found}
use Rattle.pip_model.proofs.Frames.Alike.{trees_show_alike}
use Rattle.pip_switch.specs.Standing.{State}
use Rattle.pip_commands.specs.Dues.{audit_answer, audit_due, found_answer, yes_text}
use Rattle.pip_commands.specs.AuditLaw.{CoreIsAudited, IsGiven, core_of}
use Rattle.pip_commands.specs.AuditTexts.{yes_line}
use Rattle.pip_command_contracts.specs.EndsBy.{Response, EndsBy, IsAnswered, IsOfAnswer, IsWithin, or_nothing, plainly}
use Rattle.pip_command_contracts.specs.Streams.{Streams}
use Rattle.pip_command_contracts.proofs.Answered.{answered}
use Rattle.pip_commands.proofs.Audited.{text_shape, text_words}
use Rattle.pip_commands.proofs.LayoutWords.{layout_words}

module _ (t : Tree) (m : Memory) (count : ℕ) (sound : IsSound t) (lays : LaysOut t m) (most : count ≤ 10000000) where
  read_back : core_text t.frames (core_of t count) ≡ Whole m
  read_back =
      all_frames t.frames (layout t) 128 refl m lays.shape lays.count lays.word
      (λ f i a b. layout_words t sound f i b) sound.boot_root.large count most

  module _ (code : ℕ) (p : Option State) (a b : Streams) (ends : EndsBy (audit_due t.frames) code p a b)
      (given : IsGiven (core_of t count) a b) where
    -- the bytes that were answered are the text, since it has no fault
    is_whole : (l l' : Option (List ℕ)) (bytes : List ℕ) (v : Response) → l ≡ Some (core_of t count)
        → Consumes l l' bytes
        → IsAnswered (audit_due t.frames) bytes v l' → core_text t.frames bytes ≡ Whole m
    is_whole None l' bytes v is read due = cc
    is_whole (Some xs) None bytes v is read due = absurd read
    is_whole (Some xs) (Some ys) bytes v is read due =
        let same : core_of t count ≡ xs = sym (inside is) in elim due.decided [
          | inl bad ↦ absurd (not_both bad.0 (sym (bad.1 ys) ∙ ap (core_text t.frames) (sym (same ∙ read)) ∙ read_back))
          | inr end ↦ ap (core_text t.frames) (sym (same ∙ read ∙ ap (λ z. bytes ++ z) end.0 ∙ append-nil bytes)) ∙
              read_back
        ]
      where
        inside : {A : Type 0} {x y : A} → Some x ≡ Some y → x ≡ y
        inside e = cc

        not_both : (k : ℕ) → BadAt k ≡ Whole m → ⊥
        not_both k e = cc

    by_answer : IsOfAnswer code → (code ≡ 0) × Appends a.written b.written (yes_text t)
    by_answer o =
        let x = ends.answered o in
        let whole = is_whole a.left b.left ends.bytes x.answer given.input ends.read x.due in
        let found = layouts_found t m sound lays in
        let held : IsHeld found.tree m =
        found_layouts found.tree m (text_shape t.frames ends.bytes m whole) (text_words t.frames ends.bytes m whole)
        found.is in
        let is : x.answer ≡ plainly 0 (yes_text found.tree) None = x.due.is ∙ ap audit_answer whole ∙ ap found_answer
        found.is in
        let alike : tree_text found.tree ≡ tree_text t = trees_show_alike found.tree t m held (sound, lays) in (
          x.status ∙ ap (λ v. v.status) is,
          subst (λ text. Appends a.written b.written (text ++ yes_line)) alike
              (subst (λ v. Appends a.written b.written (v.front ++ or_nothing v.last)) is x.wrote),
        )

    is_answered : ((code ≡ 0) × Appends a.written b.written (yes_text t)) ⊎ (code ≡ 5)
    is_answered = elim (answered (audit_due t.frames) code p a b ends (told a.left given.input) given.reads
        given.writes) [
          | inl o ↦ inl (by_answer o)
          | inr e ↦ inr e
        ]
      where
        told : (l : Option (List ℕ)) → l ≡ Some (core_of t count) → IsSomeAnd l (IsWithin None)
        told None e = cc
        told (Some xs) e = tt

pub core_audited : CoreIsAudited
core_audited t m count sound lays most = record {
  read = read_back t m count sound lays most;
  found = layouts_found t m sound lays;
  ends = is_answered t m count sound lays most;
}
