use Rattle.std.proofs.Common.{rules, ◌≡◌, ◌≤◌, ◌++◌, ◌-◌, ◌+◌, length, arith, sym, ap, ◌∙◌}
use borrow.Rule.Slice.PartMut.{put_mid}
use Rattle.pip_io.specs.Gathering.{between}
use Rattle.pip_io.proofs.Gathered.{between_joined, between_same, put_front, put_part}
use Rattle.pip_io.proofs.gather.Gatherer.hold.Goals as goal

pub returns-clause-buffered : goal.returns-clause-buffered
returns-clause-buffered g c =
    let self = c.args.self.now in
    let piece = c.args.piece.now in
    let now = c.copy_from_slice.new.self in
    let count = length piece in
    let size : length self.bytes ≡ 16384 = search rules in
    let same : now ≡ piece = c.copy_from_slice.ensures.after in
    let fits : self.end ≤ length self.bytes = omega arith in
    let put = self.end + count - self.end in
    let long : length now ≡ put = omega arith in
    let long' : length now ≡ count = rw same in
    let bytes = put_mid self.end put self.bytes now in
    let whole : put ≡ count = omega arith in
    let part : between bytes self.end (self.end + count) ≡ now =
    cc (put_part self.bytes now self.end put fits long) in
    rw (
      ← between_joined bytes self.start self.end (self.end + count) self.order (omega arith),
      ← between_same self.bytes bytes self.start self.end self.order
          (sym (put_front self.bytes now self.end put fits long)),
      part,
      same,
    )
