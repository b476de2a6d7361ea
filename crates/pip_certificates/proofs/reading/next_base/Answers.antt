use Rattle.std.proofs.Common.{rules, ◌≡◌, ◌+◌, ◌-◌, ◌∙◌, sym, ◌++◌, ◌∷◌, [], ap₂}
use Rattle.std.specs.Prelude.{true, false}
use Rattle.pip_certificates.specs.PartReading.{StopsText, part_seen}
use Rattle.pip_certificates.specs.PartText.{base_from, is_base, number_in, word_place, with_base}
use Rattle.pip_certificates.proofs.Fronts.{base_bad, base_front, base_good, base_next}
use Rattle.pip_certificates.proofs.TextSteps.{of_fault, of_open, of_stops, of_taken}
use Rattle.pip_certificates.proofs.reading.next_base.Goals as goal

pub take_front-requires-clause-paced : goal.take_front-requires-clause-paced
take_front-requires-clause-paced g c = λ bytes left taken few.
    let a = c.args in
    c.requires.paced bytes left taken
    (of_open (base_from a.limits (part_seen a.part.now) a.least a.left a.at) 12 a.at
    (base_next a.limits (part_seen a.part.now) a.least a.at (a.left - 1))
    (base_front a.limits (part_seen a.part.now) a.least a.at a.left c.requires.left) bytes few)

pub returns-in_err-take_front-clause-reads : goal.returns-in_err-take_front-clause-reads
returns-in_err-take_front-clause-reads g c =
    let a = c.args in
    let h : StopsText (base_from a.limits (part_seen a.part.now) a.least a.left a.at)
    (g.S.Source.history a.joint.now.source.now).left (g.S.Source.history c.take_front.new.joint.source.now).left
    (g.S.Source.history a.joint.now.source.now).faults (g.S.Source.history c.take_front.new.joint.source.now).faults
    c.in_err-take_front.field-0.0 =
    of_stops (base_from a.limits (part_seen a.part.now) a.least a.left a.at) 12 a.at
    (base_next a.limits (part_seen a.part.now) a.least a.at (a.left - 1))
    (base_front a.limits (part_seen a.part.now) a.least a.at a.left c.requires.left) _ _ _ _ _
    c.in_err-take_front.ensures.front in
    search rules

pub returns-then-not-is_base-clause-reads : goal.returns-then-not-is_base-clause-reads
returns-then-not-is_base-clause-reads g c =
    let a = c.args in
    let x = c.take_front.new.buf in
    let p = part_seen a.part.now in
    let bad : is_base a.limits a.least (number_in x 0) (number_in x 1) ≡ false =
    ap₂ (λ f i. is_base a.limits a.least f i) (sym c.number-frame.ensures) (sym c.number-index.ensures)
    ∙ (sym c.is_base.ensures.value ∙ search rules) in
    of_fault (base_from a.limits p a.least a.left a.at) 12 a.at
    (base_next a.limits p a.least a.at (a.left - 1))
    (base_front a.limits p a.least a.at a.left c.requires.left) x _ _ _ _ _ c.in_ok-take_front.ensures.size
    c.in_ok-take_front.ensures.front.0 c.in_ok-take_front.ensures.front.1
    (λ rest. base_bad a.limits p a.least a.at (a.left - 1) x rest bad)

pub returns-clause-reads : goal.returns-clause-reads
returns-clause-reads g c =
    let a = c.args in
    let x = c.take_front.new.buf in
    let p = part_seen a.part.now in
    let good : is_base a.limits a.least (number_in x 0) (number_in x 1) ≡ true =
    ap₂ (λ f i. is_base a.limits a.least f i) (sym c.number-frame.ensures) (sym c.number-index.ensures)
    ∙ (sym c.is_base.ensures.value ∙ search rules) in
    let items : c.push.new.self.items ≡ a.part.now.base.items
    ++ record { frame = c.number-frame.result; index = c.number-index.result; word = c.number-word.result } ∷ [] =
    search rules in
    let whole : part_seen (record a.part.now { base = c.push.new.self })
    ≡ with_base p c.number-frame.result c.number-index.result c.number-word.result =
    rw items in (
      of_taken (base_from a.limits p a.least a.left a.at) 12 a.at
          (base_next a.limits p a.least a.at (a.left - 1))
          (base_front a.limits p a.least a.at a.left c.requires.left) x _ _ _ c.in_ok-take_front.ensures.size
          c.in_ok-take_front.ensures.front.0
          (base_good a.limits p a.least a.at (a.left - 1) x good
          ∙ ap₂ (λ q n. base_from a.limits q n (a.left - 1) (a.at + 12))
          (rw (
            ap₂ (λ f i. with_base p f i (number_in x 2)) (sym c.number-frame.ensures) (sym c.number-index.ensures),
            ← c.number-word.ensures,
            ← whole,
          ))
          (ap₂ (λ f i. word_place f i + 1) (sym c.number-frame.ensures) (sym c.number-index.ensures))),
      c.in_ok-take_front.ensures.front.1,
    )
