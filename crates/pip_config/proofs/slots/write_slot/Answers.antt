use Rattle.pip_config.proofs.SlotWrites.{put_list}
use Rattle.pip_config.proofs.slots.write_slot.Goals as goal

pub returns-clause-pages : goal.returns-clause-pages
returns-clause-pages g c more slot t list low pairs =
    put_list (g.M.Frames.memory c.args.mem.now) (g.M.Frames.memory c.write_words.new.mem) c.args.first more slot list
    c.args.k t low c.page_at-page.result c.args.s.now
    (c.page_at-page.ensures.frame more slot list low) pairs c.write_words.ensures.words
