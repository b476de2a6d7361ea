use Rattle.std.proofs.Common.{rules, ◌∙◌, ap, ap₂, length, subst}
use Rattle.std.proofs.lemmas.List.{length-map}
use Rattle.pip_every.proofs.Keying.{if_ok}
use Rattle.pip_model.specs.Images.{image_word}
use Rattle.pip_certificates.specs.PartAbout.{about_numbers, words_with}
use Rattle.pip_certificates.specs.PartShown.{IsNumbered}
use Rattle.pip_command_contracts.proofs.LinesBelow.{lines_below}
use Rattle.pip_certificates.proofs.PartsChecked.{IsPartSaidBy, part_of, said_of}
use Rattle.pip_certificates.proofs.checking.check.Goals as goal

pub part-requires-clause-below : goal.part-requires-clause-below
part-requires-clause-below g c =
    rw (c.as_slice-4.ensures.value, c.planned_lines-lines.ensures, c.as_slice.ensures.value)
    (lines_below c.args.head.now.plans.items c.requires.limits.lines)

-- all choices of the way can be made, so there is a part
pub never-requires : goal.never-requires
never-requires g c =
    let lines = c.as_slice-4.ensures.value ∙ (rw (c.planned_lines-lines.ensures, c.as_slice.ensures.value)) in
    let count = ap length lines ∙ length-map c.args.head.now.plans.items (λ p. p.line) in
    search rules

pub returns-clause-found : goal.returns-clause-found
returns-clause-found g c = if_ok c.counted.result _ _ (λ k is i b.
    let h = c.args.head.now in
    let m = c.args.mem.block.frames in
    let words = c.in_ok-later.later.block.frames in
    let base = c.args.read.now.base.items in
    let raised = c.as_slice-4.result.now in
    let lines = c.as_slice-4.ensures.value ∙ (rw (c.planned_lines-lines.ensures, c.as_slice.ensures.value)) in
    let held = c.in_ok-later.ensures.words ∙ ap (words_with m) c.as_slice-2.ensures.value in
    let numbered = subst (λ n. IsNumbered c.in-Some.part c.about_text-about.result.bytes n k) (search rules) is in
    let said = c.in_ok-found.ensures.says c.in-Some.part i.frames (image_word i.frames i.pages) c.in-Some.is b.booted in
    record {
      is = part_of b c.args.from base words raised held lines c.in-Some.part c.about_text-about.result.bytes
          c.as_slice-5.result.now k numbered (c.in_ok-found.ensures.closed c.in-Some.part c.in-Some.is)
          (c.in_ok-found.ensures.reached c.in-Some.part i.frames (image_word i.frames i.pages) c.in-Some.is b.booted)
          (c.in_ok-found.ensures.begins c.in-Some.part i.frames (image_word i.frames i.pages) c.in-Some.is b.booted)
          (c.about_text-about.ensures ∙ ap₂ (λ n s. about_numbers h.frames h.cpus n h.pages c.args.from s)
          c.len.ensures.value
          (rw (c.part_sum-sum.ensures, c.as_slice-3.ensures.value, ← c.as_slice-4.ensures.value)));
      said_is = rw (← c.as_slice-6.ensures.value) (subst
          (λ way. IsPartSaidBy i c.args.from m base way c.as_slice-6.result.now k) c.as_slice-5.ensures.value
          (said_of b c.args.from base words raised held lines c.in-Some.part c.about_text-about.result.bytes
          c.as_slice-5.result.now c.as_slice-6.result.now k numbered said));
    }) c.counted.ensures
