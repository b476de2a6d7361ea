use Rattle.std.proofs.Common.{arith, ◌∙◌, length, subst, sym, ap}
use Rattle.std.proofs.lemmas.Result.{MatchResult-from_err}
use Rattle.pip_cpu.specs.Made.{Cut, Made}
use Rattle.pip_io.specs.Taken.{Appends, AppendsPart}
use Rattle.pip_io.specs.Taken.{Wrote}
use Rattle.pip_model.specs.Run.{end_line, image_world, trace_image_line}
use Rattle.pip_switch.specs.Standing.{StandsAs}
use Rattle.pip_native.specs.Watching.{addresses, ready_world, with_handlers}
use Rattle.pip_children.proofs.Monitoring.{address_count, cut_built, cut_first, cut_steps, made_steps, room_begun}
use Rattle.pip_children.proofs.showing.give.Goals as goal

pub returns-in_err-write_image-clause-shows : goal.returns-in_err-write_image-clause-shows
returns-in_err-write_image-clause-shows g c = λ i b.
    MatchResult-from_err c.from_residual.result _ _ c.from_residual.ensures.0 (λ _.
    let l = c.args.loaded.now in
    let old = (g.K.Sink.history c.args.sink.now).written in
    let new = (g.K.Sink.history c.write_image.new.sink).written in
    cut_first (g.R.Scheduling.schedule c.args.scheduling) i c.args.n l.frames l.pages l.lines.items l.machine b old new
    (subst (λ k. AppendsPart old new (trace_image_line l.frames k (length l.lines.items) l.pages)) c.cpus.ensures
    (subst (λ ps. AppendsPart old new (trace_image_line l.frames c.cpus.result (length ps) l.pages))
    c.as_slice-lines.ensures.value c.in_err-write_image.ensures.wrote)))

pub build_children-children-requires-clause-room : goal.build_children-children-requires-clause-room
build_children-children-requires-clause-room g c =
    let (i, b) = c.requires.begins in (
      _,
      c.set_handlers.ensures.world (image_world i) b.stands,
      room_begun i c.args.n _ _ _ _ b c.requires.roomy c.requires.most,
    )

pub returns-in_err-write_children-clause-shows : goal.returns-in_err-write_children-clause-shows
returns-in_err-write_children-clause-shows g c = λ i b.
    MatchResult-from_err c.from_residual-in_err-write_children.result _ _
    c.from_residual-in_err-write_children.ensures.0 (λ _.
    let l = c.args.loaded.now in
    let old = (g.K.Sink.history c.args.sink.now).written in
    let one = (g.K.Sink.history c.write_image.new.sink).written in
    cut_built (g.R.Scheduling.schedule c.args.scheduling) i c.args.n l.frames l.pages l.lines.items l.machine b old one
    (subst (λ k. Appends old one (trace_image_line l.frames k (length l.lines.items) l.pages)) c.cpus.ensures
    (subst (λ ps. Appends old one (trace_image_line l.frames c.cpus.result (length ps) l.pages))
    c.as_slice-lines.ensures.value c.in_ok-write_image.ensures.wrote))
    (g.K.Sink.history c.write_children.new.sink).written c.as_slice.result.now
    (c.as_slice.ensures.value ∙ c.build_children-children.ensures.addresses) c.in_err-write_children.ensures.wrote)

pub run-requires-clause-least : goal.run-requires-clause-least
run-requires-clause-least g c =
    let e = ap length c.build_children-children.ensures.addresses ∙ address_count c.args.n c.args.n in
    let least = c.requires.least in
    omega (arith, e, least)

pub run-requires-clause-most : goal.run-requires-clause-most
run-requires-clause-most g c =
    let e = ap length c.build_children-children.ensures.addresses ∙ address_count c.args.n c.args.n in
    let most = c.requires.most in
    omega (arith, e, most)

pub run-requires-clause-fits : goal.run-requires-clause-fits
run-requires-clause-fits g c =
    let e = ap length c.build_children-children.ensures.addresses ∙ address_count c.args.n c.args.n in
    subst (g.R.Scheduling.fits c.args.scheduling) (sym e) c.requires.fits

pub returns-clause-shows : goal.returns-clause-shows
returns-clause-shows g c = λ i b.
    let l = c.args.loaded.now in
    let n = c.args.n in
    let s = g.R.Scheduling.schedule c.args.scheduling in
    let old = (g.K.Sink.history c.args.sink.now).written in
    let one = (g.K.Sink.history c.write_image.new.sink).written in
    let two = (g.K.Sink.history c.write_children.new.sink).written in
    let three = (g.K.Sink.history c.run.new.sink).written in
    let new = (g.K.Sink.history c.write_end.new.sink).written in
    let w = ready_world (image_world i) n in
    let stands = c.build_children-children.ensures.world (with_handlers (image_world i) 256)
    (c.set_handlers.ensures.world (image_world i) b.stands)
    (room_begun i n _ _ _ _ b c.requires.roomy c.requires.most) in
    made_steps s i n l.frames l.pages l.lines.items l.machine b old one
    (subst (λ k. Appends old one (trace_image_line l.frames k (length l.lines.items) l.pages)) c.cpus.ensures
    (subst (λ ps. Appends old one (trace_image_line l.frames c.cpus.result (length ps) l.pages))
    c.as_slice-lines.ensures.value c.in_ok-write_image.ensures.wrote))
    two c.as_slice.result.now
    (c.as_slice.ensures.value ∙ c.build_children-children.ensures.addresses) c.in_ok-write_children.ensures.wrote
    c.write_end.result c.run.new.machine three new
    (subst (λ ps. Made (StandsAs c.run.new.machine) two three w (s.acts ps (addresses n n) w))
    (c.as_slice-lines.ensures.value ∙ b.plans)
    (subst (λ ds. Made (StandsAs c.run.new.machine) two three w (s.acts c.as_slice-lines.result.now ds w))
    c.build_children-children.ensures.addresses (c.in_ok-run.ensures.acts w stands)))
    (subst (λ k. Wrote c.write_end.result three new (end_line k)) c.step_count-count.ensures c.write_end.ensures.wrote)

pub returns-in_err-run-clause-shows : goal.returns-in_err-run-clause-shows
returns-in_err-run-clause-shows g c = λ i b.
    MatchResult-from_err c.from_residual-in_err-run.result _ _ c.from_residual-in_err-run.ensures.0 (λ _.
    let l = c.args.loaded.now in
    let n = c.args.n in
    let s = g.R.Scheduling.schedule c.args.scheduling in
    let old = (g.K.Sink.history c.args.sink.now).written in
    let one = (g.K.Sink.history c.write_image.new.sink).written in
    let two = (g.K.Sink.history c.write_children.new.sink).written in
    let new = (g.K.Sink.history c.run.new.sink).written in
    let w = ready_world (image_world i) n in
    let stands = c.build_children-children.ensures.world (with_handlers (image_world i) 256)
    (c.set_handlers.ensures.world (image_world i) b.stands)
    (room_begun i n _ _ _ _ b c.requires.roomy c.requires.most) in
    cut_steps s i n l.frames l.pages l.lines.items l.machine b old one
    (subst (λ k. Appends old one (trace_image_line l.frames k (length l.lines.items) l.pages)) c.cpus.ensures
    (subst (λ ps. Appends old one (trace_image_line l.frames c.cpus.result (length ps) l.pages))
    c.as_slice-lines.ensures.value c.in_ok-write_image.ensures.wrote))
    two c.as_slice.result.now
    (c.as_slice.ensures.value ∙ c.build_children-children.ensures.addresses) c.in_ok-write_children.ensures.wrote
    (StandsAs c.run.new.machine) new
    (subst (λ ps. Cut (StandsAs c.run.new.machine) two new w (s.acts ps (addresses n n) w))
    (c.as_slice-lines.ensures.value ∙ b.plans)
    (subst (λ ds. Cut (StandsAs c.run.new.machine) two new w (s.acts c.as_slice-lines.result.now ds w))
    c.build_children-children.ensures.addresses (c.in_err-run.ensures.acts w stands))))
