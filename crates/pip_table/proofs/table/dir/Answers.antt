use Rattle.std.proofs.Common.{◌≡◌, Some}
use Rattle.pip_base.specs.Memory.{word_at}
use Rattle.pip_table.proofs.Entries.{entry_of}
use Rattle.pip_table.proofs.table.dir.Goals as goal

-- the word is that of an entry, so it is unpacked
pub never-assert_unchecked-requires : goal.never-assert_unchecked-requires
never-assert_unchecked-requires g c =
    let form = c.requires.table.packed c.args.i c.requires.index in
    let e = entry_of c.word-word.result (word_at (g.M.Frames.memory c.args.mem.now) c.args.top c.args.i)
    c.word-word.type_inv c.word-word.ensures.word form in
    let found : c.unpack_dir.result ≡ Some e.0 = c.unpack_dir.ensures.each e.0 e.1 e.2 in
    cc
