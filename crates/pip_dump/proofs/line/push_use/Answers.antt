use Rattle.std.proofs.Common.{◌∙◌, ap, ◌++◌}
use Rattle.std.specs.Prelude.{codes}
use Rattle.pip_dump.proofs.Uses.{use_config, use_descriptor, use_free, use_lent, worded}
use Rattle.pip_dump.proofs.line.push_use.Goals as goal

pub returns-in-Free-clause-bytes : goal.returns-in-Free-clause-bytes
returns-in-Free-clause-bytes c t p g s e =
    c.push_str.ensures.bytes ∙ ap (λ l. c.args.text.now.bytes ++ l) (use_free t s p g c.args.given e c.in-Free.is)

pub returns-in-Descriptor-clause-bytes : goal.returns-in-Descriptor-clause-bytes
returns-in-Descriptor-clause-bytes c t p g s e =
    worded _ c.push_str-in-Descriptor.new.self.bytes _ (codes "desc ") _ _ c.in-Descriptor.v
    c.push_str-in-Descriptor.ensures.bytes c.push_word.ensures.bytes c.number.ensures.same
    (use_descriptor t s p g c.args.given c.in-Descriptor.v e c.in-Descriptor.is)

pub returns-in-Config-clause-bytes : goal.returns-in-Config-clause-bytes
returns-in-Config-clause-bytes c t p g s e =
    worded _ c.push_str-in-Config.new.self.bytes _ (codes "conf ") _ _ c.in-Config.v c.push_str-in-Config.ensures.bytes
    c.push_word-in-Config.ensures.bytes c.number-in-Config.ensures.same
    (use_config t s p g c.args.given c.in-Config.v e c.in-Config.is)

pub returns-in-Lent-clause-bytes : goal.returns-in-Lent-clause-bytes
returns-in-Lent-clause-bytes c t p g s e =
    worded _ c.push_str-in-Lent.new.self.bytes _ (codes "lent ") _ _ c.in-Lent.v c.push_str-in-Lent.ensures.bytes
    c.push_word-in-Lent.ensures.bytes c.number-in-Lent.ensures.same
    (use_lent t s p g c.args.given c.in-Lent.v e c.in-Lent.is)
