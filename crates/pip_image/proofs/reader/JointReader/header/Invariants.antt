use Rattle.std.proofs.Common.{◌≡◌, ◌+◌, ◌∷◌, [], length, map}
use Rattle.pip_model.specs.Images.{Head, Line, image_parts}
use Rattle.pip_image.specs.Coming.{AreRising, coming}
use Rattle.pip_image.specs.Reading.{TakesParts}
use Rattle.pip_image.specs.Taking.{fields_seen, HasFieldsWithin}
use Rattle.pip_image.proofs.reader.JointReader.header.Given as goal

abbrev pub invariant-loop-self : goal.invariant-loop-self
invariant-loop-self g l = record {
  name : l.joint.source.ghost_name ≡ l.fn.joint.source.ghost_name;
  sink : l.joint.sink ≡ l.fn.joint.sink;
  is_open : g.S.Source.is_open l.joint.source.now;
  no_faults : (g.S.Source.history l.joint.source.now).faults ≡ (g.S.Source.history l.fn.joint.source.now).faults;
  taken : TakesParts image_parts (coming l.self.place) (Head (fields_seen l.fields) ∷ map Line l.plans.items)
      (g.S.Source.history l.fn.joint.source.now).left (g.S.Source.history l.joint.source.now).left;
  count : length l.plans.items + l.self.place.plans ≡ l.fields.plans;
  within : HasFieldsWithin l.fields;
  frames : l.self.place.frames ≡ l.fields.frames;
  pages : l.self.place.pages ≡ l.fields.pages;
  none : l.self.place.seen.items ≡ [];
  rising : AreRising 0 l.plans.items l.self.place.line;
}

abbrev pub decreases-loop-self : goal.decreases-loop-self
decreases-loop-self g l = l.self.place.plans
