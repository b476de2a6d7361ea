use Rattle.std.proofs.Common.{rules, ap, sym, subst, ◌≡◌, ◌-◌, ◌≤◌, ◌<◌, length, take}
use Rattle.std.specs.Io.KnownBytes.{Keeps, prepend_known}
use Rattle.std.proofs.lemmas.List.{length-take-le}
use Rattle.pip_script.proofs.Buffers.{kept_more, read_ahead}
use Rattle.pip_script.proofs.input.Input.read_on.Goals as goal

pub returns-clause-kept : goal.returns-clause-kept
returns-clause-kept g c =
    let fits : c.self.inside.end ≤ length c.self.inside.bytes = search rules in
    subst (λ held. Keeps (prepend_known c.args.self.now.bytes (g.S.Source.history c.args.joint.now.source.now).left)
    (prepend_known held (g.S.Source.history c.read.new.self.source.now).left))
    (sym (read_ahead c.self.inside.start c.self.inside.end c.self.inside.bytes c.self.invariant.0 fits
    c.in_ok-count.count c.min-most.result c.copy_within.new.self c.read.new.buf _ c.copy_within.ensures.after
    c.in_ok-count.ensures.bound.0 (ap (λ v. v.bytes) c.self.view_is)))
    (kept_more _ _ _ _ c.in_ok-count.ensures.bytes.0)

pub returns-clause-more : goal.returns-clause-more
returns-clause-more g c =
    let fits : c.self.inside.end ≤ length c.self.inside.bytes = search rules in
    let few : c.in_ok-count.count ≤ length c.read.new.buf = c.in_ok-count.ensures.bound.0 in
    let most : length c.read.new.buf ≡ c.min-most.result = search rules in
    let some : 0 < c.min-most.result = search rules in
    let room : c.saturating_sub-self-inside.result ≡ c.args.self.now.room - c.in_ok-count.count = search rules in
    record {
      more = take c.in_ok-count.count c.read.new.buf;
      read = c.in_ok-count.ensures.bytes.0;
      bytes = read_ahead c.self.inside.start c.self.inside.end c.self.inside.bytes c.self.invariant.0 fits
          c.in_ok-count.count c.min-most.result c.copy_within.new.self c.read.new.buf _ c.copy_within.ensures.after few
          (ap (λ v. v.bytes) c.self.view_is);
      size = length-take-le c.in_ok-count.count c.read.new.buf few;
      room = room;
      limit = search rules;
      ended = λ none. c.in_ok-count.ensures.bytes.1 none (subst (λ k. 0 < k) (sym most) some);
    }
