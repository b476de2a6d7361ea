use Rattle.std.proofs.Common.{refl}
use Rattle.pip_command_contracts.specs.declared.loading.LoadError.TheVariants as T
use Rattle.pip_command_contracts.proofs.Begins.{are_zeros}
use Rattle.pip_command_contracts.proofs.Begins.{has_image, lacks_memory, loads_frames, page_fault, stops}
use Rattle.pip_command_contracts.proofs.loading.load_frames.Goals as goal

pub returns-in_err-mem-clause-loads : goal.returns-in_err-mem-clause-loads
returns-in_err-mem-clause-loads g c = λ first took.
    let is = c.requires in
    let l = lacks_memory c.args.head.now c.args.reader.now.place _ _ is.place is.plans took in
    stops c.from_residual.result _ _ T.Memory c.from_residual.ensures.1 (l.0, l.1, refl)

pub returns-in_err-load_from_joint-clause-loads : goal.returns-in_err-load_from_joint-clause-loads
returns-in_err-load_from_joint-clause-loads g c = λ first took.
    let is = c.requires in
    stops c.from_residual-in_err-load_from_joint.result _ _ (T.Image c.in_err-load_from_joint.field-0.0)
    c.from_residual-in_err-load_from_joint.ensures.1
    (page_fault c.args.head.now c.args.reader.now.place _ _ is.place is.plans took _ _ _ _ _ _ refl
    c.in_err-load_from_joint.ensures.loaded)

pub returns-clause-loads : goal.returns-clause-loads
returns-clause-loads g c = λ first took.
    let is = c.requires in
    loads_frames c.args.head.now c.args.reader.now.place _ _ is.place is.plans took _ _ is.limits
    c.in_ok-load_from_joint.ensures.loaded

pub returns-clause-booted : goal.returns-clause-booted
returns-clause-booted g c =
    has_image c.args.head.now c.args.reader.now.place _ _ _ c.requires.limits c.in_ok-load_from_joint.ensures.loaded

pub boot_zeros-requires : goal.boot_zeros-requires
boot_zeros-requires g c = are_zeros _ c.args.head.now.frames c.in_ok-mem.ensures
