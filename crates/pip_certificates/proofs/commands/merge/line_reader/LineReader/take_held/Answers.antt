use Rattle.pip_certificates.proofs.LineReads.{takes_all, takes_front}
use Rattle.pip_certificates.proofs.commands.merge.line_reader.LineReader.take_held.Goals as goal

pub returns-in_ok-extend_from_slice-in-Some : goal.returns-in_ok-extend_from_slice-in-Some
returns-in_ok-extend_from_slice-in-Some c =
    takes_front c.self.inside.start c.self.inside.end c.self.inside.chunk c.args.self.now c.args.line.now.items
    c.extend_from_slice.new.self.items c.self.invariant.0 c.self.view_is c.in-Some.at
    (rw c.in-Some.is at c.find_newline.ensures) c.in_ok-extend_from_slice-in-Some.ensures.items

pub returns-in_ok-extend_from_slice-in-None : goal.returns-in_ok-extend_from_slice-in-None
returns-in_ok-extend_from_slice-in-None c =
    takes_all c.self.inside.start c.self.inside.end c.self.inside.chunk c.args.self.now c.args.line.now.items
    c.extend_from_slice-in-None.new.self.items c.self.invariant.0 c.self.view_is
    (rw c.in-None.is at c.find_newline.ensures) c.in_ok-extend_from_slice-in-None.ensures.items
