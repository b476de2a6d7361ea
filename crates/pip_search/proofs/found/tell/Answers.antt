use Rattle.std.proofs.Common.{inl, inr, refl, sym, false, true, ◌≡◌, ◌∙◌}
use Rattle.pip_search.specs.Keys.{labels}
use Rattle.pip_search.specs.declared.found.Found.{Found}
use Rattle.pip_search.proofs.Keeping.{has_label, is_absent, is_there}
use Rattle.pip_search.proofs.Walking.{named_push_more}
use Rattle.pip_search.proofs.found.tell.Goals as goal

pub returns-then-is_some-clause-told : goal.returns-then-is_some-clause-told
returns-then-is_some-clause-told c =
    let fs = c.args.found.now.items in
    let label = c.args.label.now in
    inl (record {
      same = refl;
      has = inr (has_label fs label (is_there (labels fs) label c.find.result c.find.ensures
          (sym c.is_some.ensures ∙ c.if-is_some.true)));
    })

pub returns-clause-named : goal.returns-clause-named
returns-clause-named c =
    let fs = c.args.found.now.items in
    let label = c.args.label.now in
    let one : Found = record {
      label = c.in_ok-label.label;
      at = c.args.step.at;
      choice = c.args.step.choice;
      depth = c.args.step.depth;
    } in
    let absent = is_absent (labels fs) label c.find.result c.find.ensures
    (sym c.is_some.ensures ∙ c.if-is_some.false) in
    named_push_more (λ (f : Found). f.label.items) fs c.push.new.self.items c.args.table.now c.add.new.self one
    c.hash_bytes-hash.result c.requires.named (simp (c.hash_bytes-hash.ensures, ← c.in_ok-label.ensures))
    (simp c.in_ok-label.ensures absent) c.in_ok-add.ensures.filled
    c.in_ok-add.ensures.hashes c.in_ok-add.ensures.seed c.in_ok-push.ensures.items

pub returns-clause-told : goal.returns-clause-told
returns-clause-told c = inr (record {
  found = record {
    label = c.in_ok-label.label;
    at = c.args.step.at;
    choice = c.args.step.choice;
    depth = c.args.step.depth;
  };
  whole = c.in_ok-push.ensures.items;
  label_is = c.in_ok-label.ensures;
  some = λ e. let none : false ≡ true = simp (← c.if-is_empty.false, c.is_empty.ensures, e) in
      absurd (cc);
  at_is = refl;
  choice_is = refl;
  depth_is = refl;
})
