use Rattle.std.proofs.Common.{◌≡◌, ◌∙◌, ap}
use Rattle.std.proofs.lemmas.List.{length-map}
use Rattle.std.proofs.lemmas.Result.{MatchResult-from_err}
use Rattle.pip_io.proofs.Piecewise.{part_longer, wrote_of}
use Rattle.pip_command_contracts.specs.Planned.{lines_planned}
use Rattle.pip_search_commands.specs.EveryText.{again_text, comes_text, label_bytes}
use Rattle.pip_search_commands.specs.MenuReading.{menu_said}
use Rattle.pip_search_commands.proofs.commands.every.searching.give_replies.Goals as goal

pub write_said-requires-clause-count : goal.write_said-requires-clause-count
write_said-requires-clause-count g c =
    rw (
      c.as_slice-4.ensures.value,
      c.requires.replies.again,
      length-map c.args.menu.now.asked.again.items
          (λ l. l.items),
      ← c.as_slice-3.ensures.value,
    )

pub write_coming-requires-clause-count : goal.write_coming-requires-clause-count
write_coming-requires-clause-count g c =
    rw (
      c.as_slice-7.ensures.value,
      c.requires.replies.comes,
      length-map c.args.menu.now.asked.comes.items
          (λ l. l.items),
      ← c.as_slice-6.ensures.value,
    )

pub returns-in_err-write_said-clause-wrote : goal.returns-in_err-write_said-clause-wrote
returns-in_err-write_said-clause-wrote g c =
    MatchResult-from_err c.from_residual.result _ _ c.from_residual.ensures.0 (λ _.
    let h = c.args.head.now in
    let t = c.args.told.now in
    let menu = menu_said c.args.menu.now in
    let lines = c.as_slice-2.ensures.value ∙ (c.planned_lines-lines.ensures ∙ ap lines_planned c.as_slice.ensures.value)
    in
    let same : again_text h.cpus c.as_slice-2.result.now (label_bytes c.as_slice-3.result.now) c.as_slice-4.result.now
    ≡ again_text h.cpus (lines_planned h.plans.items) menu.again t.replies.again.items =
    cc (lines, c.as_slice-3.ensures.value, c.as_slice-4.ensures.value) in
    part_longer _ _ (again_text h.cpus (lines_planned h.plans.items) menu.again t.replies.again.items) _
    (rw (← same) c.in_err-write_said.ensures.wrote))

pub returns-clause-wrote : goal.returns-clause-wrote
returns-clause-wrote g c =
    let h = c.args.head.now in
    let t = c.args.told.now in
    let menu = menu_said c.args.menu.now in
    let planned = c.planned_lines-lines.ensures ∙ ap lines_planned c.as_slice.ensures.value in
    let again : again_text h.cpus c.as_slice-2.result.now (label_bytes c.as_slice-3.result.now) c.as_slice-4.result.now
    ≡ again_text h.cpus (lines_planned h.plans.items) menu.again t.replies.again.items =
    cc (c.as_slice-2.ensures.value, planned, c.as_slice-3.ensures.value, c.as_slice-4.ensures.value) in
    let comes : comes_text h.cpus c.as_slice-5.result.now (label_bytes c.as_slice-6.result.now) c.as_slice-7.result.now
    ≡ comes_text h.cpus (lines_planned h.plans.items) menu.comes t.replies.comes.items =
    cc (c.as_slice-5.ensures.value, planned, c.as_slice-6.ensures.value, c.as_slice-7.ensures.value) in
    wrote_of _ _ _ (again_text h.cpus (lines_planned h.plans.items) menu.again t.replies.again.items) _
    c.write_coming.result
    (rw again at c.in_ok-write_said.ensures.wrote)
    (rw (← comes) c.write_coming.ensures.wrote)
