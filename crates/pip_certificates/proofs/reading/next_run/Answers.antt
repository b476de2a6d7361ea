use Rattle.std.proofs.Common.{rules, ◌≡◌, ◌+◌, ◌-◌, ◌<◌, ◌∙◌, sym, length, ◌++◌, ap₂}
use Rattle.std.proofs.lemmas.List.Elements.{All-append, All-replicate}
use Rattle.std.specs.Prelude.{true, false, replicate, Some}
use Rattle.pip_certificates.specs.PartReading.{StopsText, part_seen}
use Rattle.pip_certificates.specs.declared.faults.PartStop.TheVariants.{Memory}
use Rattle.pip_certificates.proofs.Bits.{run_more}
use Rattle.pip_certificates.specs.PartText.{fits_way, number_in, runs_from, with_run}
use Rattle.pip_certificates.proofs.Fronts.{run_bad, run_front, run_good, run_next}
use Rattle.pip_certificates.proofs.TextSteps.{of_fault, of_open, of_stops, of_taken, stops_memory}
use Rattle.pip_certificates.proofs.reading.next_run.Goals as goal

pub take_front-requires-clause-paced : goal.take_front-requires-clause-paced
take_front-requires-clause-paced g c = λ bytes left taken few.
    let a = c.args in
    c.requires.paced bytes left taken
    (of_open (runs_from a.limits (part_seen a.part.now) a.last a.left a.at) 8 a.at
    (run_next a.limits (part_seen a.part.now) a.last a.at (a.left - 1))
    (run_front a.limits (part_seen a.part.now) a.last a.at a.left c.requires.left) bytes few)

pub returns-in_err-take_front-clause-reads : goal.returns-in_err-take_front-clause-reads
returns-in_err-take_front-clause-reads g c =
    let a = c.args in
    let h : StopsText (runs_from a.limits (part_seen a.part.now) a.last a.left a.at)
    (g.S.Source.history a.joint.now.source.now).left (g.S.Source.history c.take_front.new.joint.source.now).left
    (g.S.Source.history a.joint.now.source.now).faults (g.S.Source.history c.take_front.new.joint.source.now).faults
    c.in_err-take_front.field-0.0 =
    of_stops (runs_from a.limits (part_seen a.part.now) a.last a.left a.at) 8 a.at
    (run_next a.limits (part_seen a.part.now) a.last a.at (a.left - 1))
    (run_front a.limits (part_seen a.part.now) a.last a.at a.left c.requires.left) _ _ _ _ _
    c.in_err-take_front.ensures.front in
    search rules

pub returns-then-not-is_run-clause-reads : goal.returns-then-not-is_run-clause-reads
returns-then-not-is_run-clause-reads g c =
    let a = c.args in
    let x = c.take_front.new.buf in
    let p = part_seen a.part.now in
    let long : c.len.result ≡ length p.way = search rules in
    let bad : fits_way a.limits (length p.way) a.last (number_in x 0) (number_in x 1) ≡ false =
    rw (
      ap₂ (λ f i. fits_way a.limits (length p.way) a.last f i) (sym c.number-choice.ensures)
          (sym c.number-count.ensures),
      ← long,
      ← c.is_run.ensures.fits,
    ) (search rules) in
    of_fault (runs_from a.limits p a.last a.left a.at) 8 a.at
    (run_next a.limits p a.last a.at (a.left - 1))
    (run_front a.limits p a.last a.at a.left c.requires.left) x _ _ _ _ _ c.in_ok-take_front.ensures.size
    c.in_ok-take_front.ensures.front.0 c.in_ok-take_front.ensures.front.1
    (λ rest. run_bad a.limits p a.last a.at (a.left - 1) x rest bad)

pub returns-in_err-resize-clause-reads : goal.returns-in_err-resize-clause-reads
returns-in_err-resize-clause-reads g c =
    let a = c.args in
    let h : StopsText (runs_from a.limits (part_seen a.part.now) a.last a.left a.at)
    (g.S.Source.history a.joint.now.source.now).left (g.S.Source.history c.take_front.new.joint.source.now).left
    (g.S.Source.history a.joint.now.source.now).faults
    (g.S.Source.history c.take_front.new.joint.source.now).faults Memory =
    stops_memory (runs_from a.limits (part_seen a.part.now) a.last a.left a.at) c.take_front.new.buf _ _ _ _
    c.in_ok-take_front.ensures.front.0 c.in_ok-take_front.ensures.front.1 in
    search rules

pub returns-clause-reads : goal.returns-clause-reads
returns-clause-reads g c =
    let a = c.args in
    let x = c.take_front.new.buf in
    let p = part_seen a.part.now in
    let long : c.len.result ≡ length p.way = search rules in
    let good : fits_way a.limits (length p.way) a.last (number_in x 0) (number_in x 1) ≡ true =
    rw (
      ap₂ (λ f i. fits_way a.limits (length p.way) a.last f i) (sym c.number-choice.ensures)
          (sym c.number-count.ensures),
      ← long,
      ← c.is_run.ensures.fits,
    ) (search rules) in
    let items : c.resize.new.self.items ≡ a.part.now.way.items
    ++ replicate c.number-count.result c.number-choice.result =
    run_more a.part.now.way.items c.resize.new.self.items c.len-2.result _ c.number-count.result
    c.number-choice.result (search rules) (search rules) c.in_ok-resize.ensures.items in
    let whole : part_seen (record a.part.now { way = c.resize.new.self })
    ≡ with_run p c.number-choice.result c.number-count.result =
    rw items in (
      of_taken (runs_from a.limits p a.last a.left a.at) 8 a.at
          (run_next a.limits p a.last a.at (a.left - 1))
          (run_front a.limits p a.last a.at a.left c.requires.left) x _ _ _ c.in_ok-take_front.ensures.size
          c.in_ok-take_front.ensures.front.0
          (run_good a.limits p a.last a.at (a.left - 1) x good
          ∙ ap₂ (λ q n. runs_from a.limits q (Some n) (a.left - 1) (a.at + 8))
          (cc (ap₂ (λ f i. with_run p f i) (sym c.number-choice.ensures) (sym c.number-count.ensures)))
          (sym c.number-choice.ensures)),
      c.in_ok-take_front.ensures.front.1,
    )

pub returns-clause-can : goal.returns-clause-can
returns-clause-can g c =
    let a = c.args in
    let n = c.number-count.result in
    let choice = c.number-choice.result in
    let items : c.resize.new.self.items ≡ a.part.now.way.items ++ replicate n choice =
    run_more a.part.now.way.items c.resize.new.self.items c.len-2.result _ n choice (search rules) (search rules)
    c.in_ok-resize.ensures.items in
    rw items (All-append (λ k. k < a.limits.choices) a.part.now.way.items (replicate n choice) c.requires.can
    (All-replicate (λ k. k < a.limits.choices) n choice (c.is_run.ensures.can (search rules))))
