use Rattle.std.proofs.Common.{rules, arith, ◌≡◌, ◌+◌, ◌++◌, ◌∷◌, [], length, map, subst, sym, ap, ◌∙◌}
use Rattle.pip_model.specs.Images.{Head, Line, image_parts}
use Rattle.pip_image.specs.Coming.{AreRising, coming}
use Rattle.pip_io.specs.Pacing.{MayRead}
use Rattle.pip_io.specs.Moments.{streams}
use Rattle.pip_io.proofs.Pacing.{paced_after}
use Rattle.pip_image.specs.Pacing.{IsHeaderless, IsPartless}
use Rattle.pip_image.specs.Reading.{LacksHeader, TakesParts, RefusesHeader}
use Rattle.pip_image.specs.Taking.{fields_seen}
use Rattle.pip_image.proofs.RisingPlans.{lines_of_rising, rises}
use Rattle.pip_image.proofs.RisingPlans.{fewer_lines}
use Rattle.pip_image.proofs.Steps.{after_parts, faultless_after, takes_then, takes_refused}
use Rattle.std.proofs.lemmas.List.{map-append}
use Rattle.pip_image.proofs.reader.JointReader.header.Goals as goal

pub returns-in_err-plan-clause-reads : goal.returns-in_err-plan-clause-reads
returns-in_err-plan-clause-reads g c =
    let was = c.loop-self.invariant in
    let count = was.count in
    let h : RefusesHeader image_parts (g.S.Source.history c.args.joint.now.source.now).left
    (g.S.Source.history c.plan.new.joint.source.now).left (g.S.Source.history c.args.joint.now.source.now).faults
    (g.S.Source.history c.plan.new.joint.source.now).faults c.in_err-plan.field-0.0 = (
      _,
      takes_refused image_parts (coming c.loop-self.self.place) _ [] _ _ _ _ _ _ _ was.no_faults was.taken
          c.in_err-plan.ensures.reads,
      fewer_lines c.loop-self.plans.items c.loop-self.self.place.plans _ count (search rules),
    ) in
    search rules

pub loop-self-preserved : goal.loop-self-preserved
loop-self-preserved g c =
    let was = c.loop-self.invariant in
    let now = c.in_ok-plan.ensures in
    let pushed = c.push.ensures.items in
    record {
      name = now.same_source ∙ was.name;
      sink = now.sink ∙ was.sink;
      is_open = now.is_open;
      no_faults = now.no_faults ∙ was.no_faults;
      taken = subst (λ ps. TakesParts image_parts (coming c.plan.new.self.place)
          (Head (fields_seen c.in_ok-fields.fields)
          ∷ ps) (g.S.Source.history c.args.joint.now.source.now).left
          (g.S.Source.history c.plan.new.joint.source.now).left)
          (sym (ap (map Line) pushed ∙ map-append Line c.loop-self.plans.items (c.in_ok-plan.plan ∷ [])))
          (takes_then image_parts (coming c.loop-self.self.place) (coming c.plan.new.self.place) _ _ _ _ _ was.taken
          now.reads);
      count = let n = ap length pushed in let l = now.plans in search (rules, arith);
      within = was.within;
      frames = now.place.0 ∙ was.frames;
      pages = now.place.1 ∙ was.pages;
      none = ap (λ s. s.items) now.place.2 ∙ was.none;
      rising = let line = now.line in
          let after : c.in_ok-plan.plan.line + 1 ≡ c.plan.new.self.place.line = omega (arith, line.2) in
          subst (λ ps. AreRising 0 ps c.plan.new.self.place.line) (sym pushed)
          (subst (AreRising 0 (c.loop-self.plans.items ++ c.in_ok-plan.plan ∷ [])) after
          (rises 0 c.loop-self.plans.items c.loop-self.self.place.line c.in_ok-plan.plan was.rising line.0 line.1));
    }

pub returns-clause-limits : goal.returns-clause-limits
returns-clause-limits g c =
    let was = c.loop-self.invariant in
    let w = was.within in
    record {
      least = w.0;
      most = w.1;
      some = w.2;
      few = w.3;
      rising = (c.loop-self.self.place.line, was.rising);
      lines = lines_of_rising 0 c.loop-self.plans.items c.loop-self.self.place.line was.rising;
      pages = w.5;
    }

pub plan-requires-clause-paced : goal.plan-requires-clause-paced
plan-requires-clause-paced g c =
    let was = c.loop-self.invariant in
    let count = was.count in
    let some = c.loop-self-test.true in
    let parts = Head (fields_seen c.in_ok-fields.fields) ∷ map Line c.loop-self.plans.items in
    let few : LacksHeader (parts ++ []) =
    fewer_lines c.loop-self.plans.items c.loop-self.self.place.plans _ count (search rules) in
    let paced = paced_after g.S.Source.allows IsHeaderless (IsPartless (coming c.loop-self.self.place)) _ _ _ _
    (g.K.Sink.history c.args.joint.now.sink.now) was.taken.bytes
    was.no_faults was.taken.taken
    (λ bytes is. (
      subst LacksHeader (sym (ap (λ t. t.parts) (was.taken.is bytes) ∙ after_parts parts
          (coming c.loop-self.self.place bytes))) (subst (λ ps. LacksHeader (parts ++ ps)) (sym is.0) few),
      faultless_after image_parts (coming c.loop-self.self.place) parts _ _ was.taken bytes is.1,
    )) c.requires.paced in
    subst (λ s. MayRead g.S.Source.allows (IsPartless (coming c.loop-self.self.place))
    (streams g.S.Source.history g.K.Sink.history c.loop-self.joint.source.now s.now)) (sym was.sink) paced
