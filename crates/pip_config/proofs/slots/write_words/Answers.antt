use Rattle.pip_config.proofs.SlotReads.{small_frames}
use Rattle.pip_config.proofs.slots.write_words.Goals as goal

pub returns-clause-small : goal.returns-clause-small
returns-clause-small g c t pairs =
    small_frames t c.args.s.now pairs c.index-s-0.result c.index-s-1.result c.index-s-2.result
    c.write_pair.ensures.small c.write_pair-2.ensures.small c.write_pair-3.ensures.small
