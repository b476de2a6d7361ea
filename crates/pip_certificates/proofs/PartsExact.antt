-- A part that was read is answered to: by its lines, or by the line that names a fault of its text.
use Rattle.std.proofs.Common.{◌≡◌, ℕ, ◌+◌, ◌*◌, inl, List, None, Some, length, refl}
use Rattle.std.proofs.Common.{Option, arith, true, false}
use Rattle.std.specs.Prelude.{Bool, Ok, if◌then◌else◌}
use Rattle.pip_base.specs.Memory.{Memory}
use Rattle.pip_command_contracts.specs.EndsBy.{EndsWithResponse, plainly}
use Rattle.pip_command_contracts.specs.Loading.{BeginsFrames}
use Rattle.pip_command_contracts.specs.Streams.{EndsLine}
use Rattle.pip_image.specs.declared.header.Header.{Header}
use Rattle.pip_io.specs.Histories.{Writing}
use Rattle.pip_model.specs.Images.{Image}
use Rattle.pip_certificates.specs.MergeLaw.{ToldPart}
use Rattle.pip_certificates.specs.PartDues.{IsPartAnswer, fault_response, image_size, lines_text}
use Rattle.pip_certificates.specs.PartDues.{part_response}
use Rattle.pip_certificates.specs.PartExact.{booted_fault, booted_from, has_marks, marks_fault}
use Rattle.pip_certificates.specs.PartShown.{EndsWithPart, IsChecked, header_size, told_part, told_response}
use Rattle.pip_certificates.specs.PartText.{PartSaid, bad_part_line}
use Rattle.pip_certificates.specs.declared.checking.Checked.{Checked}

-- there is no value where there is none of any
pub no_value : (o : Option ℕ) → ((k : ℕ) → o ≡ Some k → ⊥) → o ≡ None
no_value None h = refl
no_value (Some k) h = absurd (h k refl)

module _ {i : Image} {h : Header} {m : Memory} (b : BeginsFrames i h m) (from : ℕ) (said : PartSaid) (code : ℕ)
    (before after : Writing) where
  size_same : header_size h ≡ image_size i
  size_same = λ j. 24 + 12 * length (b.plans j) + 4100 * b.pages j

  response_same : (t : ToldPart) → told_response h said t ≡ part_response i said t
  response_same t = λ j. if has_marks (b.cpus j + length (b.plans j)) said t.portion then plainly 0 (lines_text t) None
      else fault_response (marks_fault (size_same j) said)

  abbrev Ends : Type 0
  Ends = EndsWithPart (IsPartAnswer from i (Ok said)) code before after

  -- a word of its base is the booted one
  pub ends_booted : (k : ℕ) → booted_from m 0 said.base ≡ Some k
      → EndsLine 2 (bad_part_line (booted_fault (header_size h) k)) code before after → Ends
  ends_booted k is ends = inl (
    2,
    (
      bad_part_line (booted_fault (image_size i) k),
      (
        inl (omega arith),
        (
          (
            m,
            (
              b.booted,
              rw is refl,
            ),
          ),
          rw (← size_same) ends,
        ),
      ),
    ),
  )

  -- it was checked
  pub ends_checked : (c : Checked) → IsChecked i from said m c → (told_part c).way ≡ length said.way
      → booted_from m 0 said.base ≡ None
      → EndsWithResponse (told_response h said (told_part c)) code before after → Ends
  ends_checked c is way none ends =
      by_test (has_marks (i.cpus + length i.plans) said (told_part c).portion) refl
      (rw (← response_same (told_part c)) ends)
    where
      judged : (n : ℕ) (text : List ℕ) → plainly n text None ≡ part_response i said (told_part c)
          → IsPartAnswer from i (Ok said) (plainly n text None)
      judged n text same = (
        m,
        (
          b.booted,
          rw none (record { told = told_part c; is = is.is; said_is = is.said_is; way = way; text = same }),
        ),
      )

      by_test : (b : Bool) → has_marks (i.cpus + length i.plans) said (told_part c).portion ≡ b
          → EndsWithResponse (if b then plainly 0 (lines_text (told_part c)) None
          else fault_response (marks_fault (image_size i) said)) code before after → Ends
      by_test true e said_so = inl (
        0,
        (
          lines_text (told_part c),
          (
            inl (omega arith),
            (
              judged 0 (lines_text (told_part c)) (cc),
              said_so,
            ),
          ),
        ),
      )
      by_test false e said_so = inl (
        2,
        (
          bad_part_line (marks_fault (image_size i) said),
          (
            inl (omega arith),
            (
              judged 2 (bad_part_line (marks_fault (image_size i) said))
                  (cc),
              said_so,
            ),
          ),
        ),
      )
