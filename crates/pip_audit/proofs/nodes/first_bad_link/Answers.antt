use Rattle.std.proofs.Common.{◌≡◌, ◌-◌, ◌+◌, ◌<◌, length, arith, sym, ap, ◌∙◌, subst, None}
use Rattle.pip_base.specs.Memory.{word_at}
use Rattle.pip_model.specs.ReadOff.{more_stop, stop_at_frame}
use Rattle.pip_audit.proofs.Links.{bad_link, link_inside, next_link, none_left}
use Rattle.pip_audit.proofs.nodes.first_bad_link.Goals as goal

pub returns-in-Some : goal.returns-in-Some
returns-in-Some g c = let below = c.loop-k-test.true in
    sym (c.loop-k.invariant.0 ∙ bad_link (g.M.Frames.memory c.args.mem.now) c.loop-k.page (c.args.count
    - c.loop-k.k) (c.args.count - (c.loop-k.k + 1)) c.in-Some.stop (omega (arith, below)) (sym c.in-Some.ensures))

pub loop-k-preserved : goal.loop-k-preserved
loop-k-preserved g c =
    let m = g.M.Frames.memory c.args.mem.now in
    let below = c.loop-k-test.true in
    let none : stop_at_frame m c.loop-k.page 0 ≡ None = sym c.named_frame.ensures ∙ c.in_default.is in
    let page : c.new-page.result ≡ word_at m c.loop-k.page 0 = c.new-page.ensures ∙ c.word.ensures.word in (
      c.loop-k.invariant.0
          ∙ next_link m c.loop-k.page
          (c.args.count - c.loop-k.k) (c.args.count - (c.loop-k.k + 1)) (omega (arith, below)) none
          ∙ ap (λ p. more_stop m p (c.args.count - (c.loop-k.k + 1))) (sym page),
      subst (λ p. p < length m) (sym page) (link_inside m c.loop-k.page 0 none),
    )

pub returns : goal.returns
returns g c = let past = c.loop-k-test.false in sym (c.loop-k.invariant.0
    ∙ none_left (g.M.Frames.memory c.args.mem.now) c.loop-k.page (c.args.count - c.loop-k.k) (omega (arith, past)))
