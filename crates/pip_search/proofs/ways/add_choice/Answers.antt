use Rattle.std.proofs.Common.{◌≡◌, ◌++◌, ◌∷◌, [], List, ap, sym, ◌∙◌, reverse}
use Rattle.std.proofs.Common.{append-nil, arith}
use Rattle.std.proofs.lemmas.List.{nil_from_length}
use Rattle.pip_search.specs.Ways.{run_before, run_of}
use Rattle.pip_search.specs.declared.ways.Run.{Run}
use Rattle.pip_search.proofs.Running.{before_none, last_longer, last_other}
use Rattle.pip_search.proofs.ways.add_choice.Goals as goal
use Rattle.pip_search.proofs.ways.add_choice.Goals.{in-Some+then-last-choice+in_ok-count, in_default}
use Rattle.pip_search.proofs.ways.add_choice.Goals.{in-Some+else-last-choice+in_ok-push}

pub returns : goal.returns
returns c =
    let kept_all = c.pop.new.self in
    let kept = kept_all.items in
    let old = c.args.runs.now.items in
    let choice = c.args.choice in
    let added : c.push-2.new.self.items ≡ c.match-pop.runs.items ++ run_of choice c.match-pop.count ∷ [] =
    c.in_ok-push-2.ensures.items in
    elim c.match-pop.branch [
      | in-Some+then-last-choice+in_ok-count w ↦
          let last = w.in-Some.last in
          let was : old ≡ kept ++ last ∷ [] = rw (c.pop.ensures.items, w.in-Some.is) in
          let now : c.push-2.new.self.items ≡ kept ++ run_of choice w.in_ok-count.count ∷ [] =
          rw (added, w.runs-is, w.count-is) in
          rw (now, last_longer kept last choice w.in_ok-count.count w.if-last-choice.true w.in_ok-count.ensures, ← was)
      | in-Some+else-last-choice+in_ok-push w ↦
          let last = w.in-Some.last in
          let was : old ≡ kept ++ last ∷ [] = rw (c.pop.ensures.items, w.in-Some.is) in
          let now : c.push-2.new.self.items ≡ (kept ++ last ∷ []) ++ run_of choice 1 ∷ [] =
          rw (added, w.runs-is, w.in_ok-push.ensures.items, w.count-is) in
          rw (now, last_other kept last choice w.if-last-choice.false, ← was)
      | in_default w ↦
          let was : old ≡ kept = w.in_default.ensures.items ∙ append-nil kept in
          let z = w.in_default.ensures.cases.1 in
          let ok = kept_all.ok.0 in
          let none : kept ≡ [] = nil_from_length kept (omega arith) in
          let now : c.push-2.new.self.items ≡ kept ++ run_of choice 1 ∷ [] =
          rw (added, w.runs-is, w.count-is) in
          ap (λ (rs : List Run). reverse rs) (now ∙ ap (λ rs. rs ++ run_of choice 1 ∷ []) none)
          ∙ sym (before_none (run_of choice 1))
          ∙ ap (λ (rs : List Run). run_before (run_of choice 1) (reverse rs)) (sym (was ∙ none))
    ]
