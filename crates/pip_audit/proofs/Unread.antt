-- Where a read fails, no line was bad.
use Rattle.std.proofs.Common.{◌≡◌, ◌≤◌, ℕ, List, [], ◌++◌, length, Option, ◌∙◌, append_assoc, refl, subst, sym}
use Rattle.std.specs.Prelude.{Result, Err, MatchResult}
use Rattle.std.specs.Io.KnownBytes.{Keeps, prepend_known}
use Rattle.pip_base.specs.Memory.{Memory}
use Rattle.pip_script.specs.Held.{Held}
use Rattle.pip_script.specs.Lines.{HasNoNewline, HoldsPart, IsLineless}
use Rattle.pip_io.specs.Causes.{RoseByOne}
use Rattle.pip_audit.specs.Core.{CoreState, Ends}
use Rattle.pip_audit.specs.CoreRead.{BeginsLines, BeginsText, RefusesText}
use Rattle.pip_audit.specs.declared.core_text.text.CoreError.{CoreError}
use Rattle.pip_audit.specs.declared.core_text.text.CoreError.TheVariants.{Read}
use Rattle.pip_audit.proofs.FirstBad.{can_end}
use Rattle.pip_audit.proofs.Reading.{IsAt, IsAfter, at_kept, after_kept}

-- before a line
module _ (n k : ℕ) (s : CoreState) where
  begins_at : (held part : List ℕ) (left a : Option (List ℕ)) (at : IsAt n k s held left a) → HasNoNewline part
      → length part ≤ 120 → BeginsLines n (at.taken ++ part)
  begins_at held part left a at plain short =
      let c = can_end n k s.frame s.group s.memory in
      record {
        lines = at.taken;
        part = part;
        all = refl;
        whole = at.whole;
        plain = plain;
        short = short;
        good = (c.rest, c.memory, at.is c.rest ∙ c.is);
      }

  pub lines_at : (i : Held) (left a : Option (List ℕ)) (at : IsAt n k s i.bytes left a) (bytes : List ℕ)
      → IsLineless i bytes → BeginsLines n ((at.taken ++ i.bytes) ++ bytes)
  lines_at i left a at bytes is = subst (BeginsLines n) (sym (append_assoc at.taken i.bytes bytes))
      (begins_at i.bytes (i.bytes ++ bytes) left a at is.plain is.short)

  pub unread_at : (before : ℕ) (held : List ℕ) (i : Held) (left a b : Option (List ℕ)) → IsAt n k s held left a
      → Keeps (prepend_known held a) (prepend_known i.bytes b) → HoldsPart before i → BeginsText n left b
  unread_at before held i left a b was keeps part =
      let at = at_kept n k s held i.bytes left a b keeps was in
      record {
        bytes = at.taken ++ i.bytes;
        taken = at.read;
        begins = begins_at i.bytes i.bytes left b at part.plain
            part.short;
      }

-- after the last one
module _ (n k : ℕ) (m : Memory) where
  begins_after : (held part : List ℕ) (left a : Option (List ℕ)) (at : IsAfter n k (Ends m) held left a)
      → HasNoNewline part → length part ≤ 120 → BeginsLines n (at.taken ++ part)
  begins_after held part left a at plain short = record {
    lines = at.taken;
    part = part;
    all = refl;
    whole = at.whole;
    plain = plain;
    short = short;
    good = ([], m, at.is []);
  }

  pub lines_after : (i : Held) (left a : Option (List ℕ)) (at : IsAfter n k (Ends m) i.bytes left a) (bytes : List ℕ)
      → IsLineless i bytes → BeginsLines n ((at.taken ++ i.bytes) ++ bytes)
  lines_after i left a at bytes is = subst (BeginsLines n) (sym (append_assoc at.taken i.bytes bytes))
      (begins_after i.bytes (i.bytes ++ bytes) left a at is.plain is.short)

  pub unread_after : (before : ℕ) (held : List ℕ) (i : Held) (left a b : Option (List ℕ))
      → IsAfter n k (Ends m) held left a → Keeps (prepend_known held a) (prepend_known i.bytes b) → HoldsPart before i
      → BeginsText n left b
  unread_after before held i left a b was keeps part =
      let at = after_kept n k (Ends m) held i.bytes left a b keeps was in
      record {
        bytes = at.taken ++ i.bytes;
        taken = at.read;
        begins = begins_after i.bytes i.bytes left b at part.plain
            part.short;
      }

-- and that is what is said of it
pub read_failed : {T : Type 0} (n before now : ℕ) (left left' : Option (List ℕ)) (result : Result T CoreError)
    (e : CoreError) (good : T → Type 0) → result ≡ Err e → e ≡ Read → BeginsText n left left' → RoseByOne before now
    → MatchResult result good (RefusesText n left left' before now)
read_failed n before now left left' result e good is read text rose =
    subst (λ r. MatchResult r good (RefusesText n left left' before now)) (sym is)
    (subst (RefusesText n left left' before now) (sym read) (text, rose))
