use Rattle.std.proofs.Common.{rules, arith, ◌≡◌, ◌≤◌, ◌<◌, length, take, refl, sym, subst}
use Rattle.std.proofs.lemmas.List.{length-take-le}
use Rattle.pip_io.proofs.Buffers.{read_ahead}
use Rattle.pip_io.proofs.window.Window.read_on.Goals as goal

pub returns-in-Ok-clause-reads : goal.returns-in-Ok-clause-reads
returns-in-Ok-clause-reads g c =
    let self = c.args.self.now in
    let fits : self.end ≤ length self.bytes = search (rules, arith) in
    let few = c.in-Ok.ensures.bound.0 in
    let most : length c.read.new.buf ≡ c.args.room = search (rules, arith) in
    record {
      more = take c.in-Ok.count c.read.new.buf;
      read = c.in-Ok.ensures.bytes.0;
      bytes = read_ahead self.start self.end self.bytes self.order fits c.in-Ok.count c.args.room
          c.copy_within.new.self c.read.new.buf _ c.copy_within.ensures.after few refl;
      size = sym (length-take-le c.in-Ok.count c.read.new.buf few);
      few = rw most at few;
      ended = λ none. c.in-Ok.ensures.bytes.1 none (subst (λ k. 0 < k) (sym most) c.requires.some);
    }
