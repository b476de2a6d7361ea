use Rattle.std.proofs.Common.{rules, arith, ap, subst, sym, ◌≡◌, ◌++◌, ◌∷◌, [], ◌∙◌, ◌≤◌, length}
use Rattle.std.proofs.lemmas.List.{with_items_is}
use Rattle.pip_model.specs.Assembly.{padding}
use Rattle.pip_asm.specs.Emitted.{first_head}
use Rattle.pip_asm.specs.Marks.{AreMarks}
use Rattle.pip_asm.proofs.Keeping.{says_both}
use Rattle.pip_asm.specs.Names.{IsKept}
use Rattle.pip_asm.proofs.reading.Passed.open.Goals as goal

pub returns-clause-proper : goal.returns-clause-proper
returns-clause-proper c =
    let p = c.args.self.now in
    let q = c.end_page.new.self in
    let proper = c.requires.proper in
    let same : q ≡ record p { written = q.written } = c.end_page.ensures.same in
    let pages : q.pages.items ≡ p.pages.items = rw same in
    let items : q.marks.items ≡ p.marks.items = rw same in
    let pushed : c.push.new.self.items ≡ q.pages.items ++ c.args.page ∷ [] = search rules in
    let before : q.marks.items ≡ c.deref_mut.result.now = search rules in
    let kept : AreMarks q.marks.items q.pages.items =
    rw same proper.marks in
    let marks = c.mark.ensures q.pages.items (rw (← before) kept) in
    let whole : length c.mark.new.marks ≡ q.marks.len = rw (marks.count, ← kept.count, ← q.marks.ok.0) in
    record {
      size = omega arith;
      least = rw same proper.least;
      plans = rw same proper.plans;
      frames = rw same proper.frames;
      marks = rw (with_items_is q.marks c.mark.new.marks whole) (subst (AreMarks c.mark.new.marks) (sym pushed) marks);
      names = rw same proper.names;
      written = c.in_ok-word.ensures.whole;
      front = c.in_ok-word.ensures.front ∙ c.in_ok-end_page.ensures.front
          ∙ ap (λ x. first_head x.frames x.cpus x.plans.items) (sym same);
    }

pub returns-clause-says : goal.returns-clause-says
returns-clause-says c = says_both c.args.self.now.written c.end_page.new.self.written c.word.new.self
    (padding c.args.self.now.stage c.args.self.now.size) (c.args.page ∷ []) c.in_ok-end_page.ensures.says
    c.in_ok-word.ensures.says
