-- Words that are changes alone are kept, and both memories have them.
use Rattle.std.proofs.Common.{◌≡◌, ◌∙◌, ◌++◌, ap, if◌then◌else◌, length, subst, sym}
use Rattle.pip_switch.specs.Rewinding.{ArePlaces, rewritten}
use Rattle.pip_every.specs.Changes.{IsRewritten}
use Rattle.pip_every.proofs.Closing.{same_below, same_parts_tracked, same_tracked}
use Rattle.pip_every.proofs.Places.{kept_count}
use Rattle.pip_every.proofs.journals.journal.Journal.go_to.Goals as goal

pub invariant_of-self : goal.invariant_of-self
invariant_of-self g c =
    let s = c.args.self.now in
    let a = s.first.block.frames in
    let words = c.args.words.now in
    let base = c.write_both.new.one.block.frames in
    let frames = c.write_both.new.other.block.frames in
    let base_is : base ≡ rewritten a words =
    c.write_both.ensures.one ∙ ap (λ v. rewritten v words) c.take_back.ensures.one in
    let frames_are : frames ≡ rewritten a words =
    c.write_both.ensures.other ∙ ap (λ v. rewritten v words) c.take_back.ensures.other in
    let same : frames ≡ base = frames_are ∙ sym base_is in
    let items : c.extend_from_slice.new.self.items ≡ words =
    c.extend_from_slice.ensures.items
    ∙ (ap (λ b. if b then (c.clear.new.self.items ++ words) else c.clear.new.self.items) (sym c.if-is_ok.ensures.value)
    ∙ ap (λ v. v ++ words) c.clear.ensures.items) in
    let kept : ∥ IsRewritten a base c.extend_from_slice.new.self.items ∥₁ =
    subst (λ v. ∥ IsRewritten a base v ∥₁) (sym items) ∣ (record {
      is = base_is;
      places = subst (λ v. ArePlaces (length v) words) (sym s.first_is) c.requires.places;
      other = c.are_other.ensures c.if-are_other.true;
    }) ∣₁ in
    let count : length base ≡ length a = kept_count a base c.extend_from_slice.new.self.items kept in
    record {
      first_is = s.first_is;
      count = ap length same ∙ count;
      base_count = count;
      kept = kept;
      each = s.each;
      rows = s.rows;
      tracks = ∣ same_tracked base frames s.opened.items same ∣₁;
      tracks_parts = ∣ same_parts_tracked base frames s.parts.items same ∣₁;
      below = ∣ same_below base frames s.top same ∣₁;
      rewound = ∣ (λ e. same) ∣₁;
    }
