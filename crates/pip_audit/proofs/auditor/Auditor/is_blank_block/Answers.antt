use Rattle.std.proofs.Common.{◌+◌, ◌*◌, sym, ap, ◌∙◌, get_or}
use Rattle.pip_base.specs.Memory.{frame_at, word_at}
use Rattle.pip_model.specs.Audit.{difference_between}
use Rattle.pip_audit.specs.Comparing.{role_of, wanted_word}
use Rattle.pip_audit.proofs.auditor.Auditor.is_blank_block.Goals as goal

pub returns : goal.returns
unfolding frame_at word_at
returns g c on i below =
    let m = g.M.Frames.memory c.args.mem.now in
    let k = 32 * c.args.b + i in
    let found = ap (λ ws. get_or ws k 0) (sym c.frame.ensures.words)
    ∙ c.is_zero_block.ensures c.if-not-is_zero_block.false i below in
    ap (λ w. difference_between c.args.f k w (wanted_word m c.args.self.now (role_of c.args.role.now) k)) found
    ∙ ap (difference_between c.args.f k 0) (c.wants_zeros.ensures on i below)
