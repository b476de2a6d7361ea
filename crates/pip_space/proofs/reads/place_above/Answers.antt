use Rattle.std.proofs.Common.{◌∙◌, sym}
use Rattle.pip_space.proofs.Packed.{from_of, not_both}
use Rattle.pip_space.proofs.Tables.{packed_row}
use Rattle.pip_space.proofs.reads.place_above.Goals as goal

pub never-assert_unchecked-requires : goal.never-assert_unchecked-requires
never-assert_unchecked-requires g c =
    let r = c.requires in
    let s = from_of (r.rows c.args.v) (packed_row _ r.node r.rows r.is_in c.args.v) in
    absurd (not_both c.unpack_sh2.result s.0 c.in-None.is
    (c.unpack_sh2.ensures.each s.0 s.1 (cc (s.2, c.level_word.ensures.word r.node r.rows r.is_in r.name))))
