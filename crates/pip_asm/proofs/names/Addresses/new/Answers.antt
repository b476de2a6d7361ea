use Rattle.std.proofs.Common.{refl}
use Rattle.pip_asm.proofs.Naming.{none_named, resized}
use Rattle.pip_asm.proofs.names.Addresses.new.Goals as goal

pub returns-clause-none : goal.returns-clause-none
returns-clause-none c = none_named _ _ _ (resized _ _ _ _ _ c.new-slots.ensures.items c.new-slots.ensures.len
    c.in_ok-resize.ensures.items) refl c.new.ensures.empty
