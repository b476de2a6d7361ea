use Rattle.std.proofs.Common.{arith}
use Rattle.pip_script.proofs.FirstWords.{no_form}
use Rattle.pip_script.proofs.forms.read_form.Goals as goal

pub returns-in_default-clause-meaning : goal.returns-in_default-clause-meaning
returns-in_default-clause-meaning c =
    no_form c.args.cpus c.args.word.now c.args.numbers.now (record { differs = λ s. omega arith })

pub returns-in_default-5-clause-meaning : goal.returns-in_default-5-clause-meaning
returns-in_default-5-clause-meaning c =
    no_form c.args.cpus c.args.word.now c.args.numbers.now (record { differs = λ s. omega arith })

pub returns-in_default-8-clause-meaning : goal.returns-in_default-8-clause-meaning
returns-in_default-8-clause-meaning c =
    no_form c.args.cpus c.args.word.now c.args.numbers.now (record { differs = λ s. omega arith })

pub returns-in_default-24-clause-meaning : goal.returns-in_default-24-clause-meaning
returns-in_default-24-clause-meaning c =
    no_form c.args.cpus c.args.word.now c.args.numbers.now (record { differs = λ s. omega arith })

pub returns-in_default-28-clause-meaning : goal.returns-in_default-28-clause-meaning
returns-in_default-28-clause-meaning c =
    no_form c.args.cpus c.args.word.now c.args.numbers.now (record { differs = λ s. omega arith })

pub returns-in_default-32-clause-meaning : goal.returns-in_default-32-clause-meaning
returns-in_default-32-clause-meaning c =
    no_form c.args.cpus c.args.word.now c.args.numbers.now (record { differs = λ s. omega arith })

pub returns-in_default-33-clause-meaning : goal.returns-in_default-33-clause-meaning
returns-in_default-33-clause-meaning c =
    no_form c.args.cpus c.args.word.now c.args.numbers.now (record { differs = λ s. omega arith })
