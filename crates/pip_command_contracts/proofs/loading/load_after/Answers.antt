use Rattle.std.proofs.Common.{◌∙◌, refl}
use Rattle.pip_command_contracts.specs.declared.loading.LoadError.TheVariants as T
use Rattle.pip_command_contracts.proofs.Begins.{lacks_memory, loads, stops}
use Rattle.pip_command_contracts.proofs.loading.load_after.Goals as goal

pub returns-in_err-lines-clause-loads : goal.returns-in_err-lines-clause-loads
returns-in_err-lines-clause-loads g c = λ first took.
    let is = c.requires in
    let l = lacks_memory c.args.head.now c.args.reader.now.place _ _ is.place is.plans took in
    stops c.from_residual.result _ _ T.Memory c.from_residual.ensures.1 (l.0, l.1, refl)

pub returns-clause-loads : goal.returns-clause-loads
returns-clause-loads g c = λ first took.
    loads c.args.head.now _ _ _ c.new.result _ (c.in_ok-mem.ensures.loads first took)
    (c.in_ok-lines.ensures ∙ c.as_slice.ensures.value) c.new.ensures.count c.new.ensures.stands
