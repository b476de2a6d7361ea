use Rattle.std.proofs.Common.{rules, refl, sym, subst, ◌≡◌, OnOk, take}
use Rattle.std.proofs.lemmas.Result.{on_ok_weaker}
use Rattle.pip_model.specs.Assembly.{padding}
use Rattle.pip_asm.specs.Emitted.{SaysMore, first_head, words}
use Rattle.pip_asm.proofs.Keeping.{begun_says}
use Rattle.pip_asm.proofs.reading.Passed.end_page.Goals as goal

pub returns-in-InPage-clause-says : goal.returns-in-InPage-clause-says
returns-in-InPage-clause-says c =
    on_ok_weaker c.zeros.result
    (λ a. rw c.in-InPage.is a.says)
    c.zeros.ensures

pub returns-in_default : goal.returns-in_default
returns-in_default c = record {
  whole = c.begin.ensures.whole;
  front = subst (λ ps. OnOk c.begin.result (take c.begin.new.self.head c.begin.new.self.bytes.items
      ≡ first_head c.args.self.now.frames c.args.self.now.cpus ps)) (search rules) c.begin.ensures.front;
  says = on_ok_weaker c.begin.result (begun_says c.args.self.now.stage c.args.self.now.size
      (first_head c.args.self.now.frames c.args.self.now.cpus c.args.self.now.plans.items) c.args.self.now.written
      c.begin.new.self c.in_default.not-InPage c.requires.proper.front) c.begin.ensures.said;
  same = refl;
}
