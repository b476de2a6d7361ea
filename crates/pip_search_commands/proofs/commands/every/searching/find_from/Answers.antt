-- The search begins at the world after the steps.
use Rattle.std.proofs.Common.{◌≡◌, ◌∙◌, ◌++◌, ap, length, subst, List, ℕ}
use Rattle.pip_base.specs.declared.types.Plan.{Plan}
use Rattle.pip_every.specs.Again.{AreSaid}
use Rattle.pip_every.specs.Away.{IsAwayReply}
use Rattle.pip_every.specs.Comes.{AreComing, own_classes}
use Rattle.pip_every.specs.Menus.{Menu, menu_model, usual_choices}
use Rattle.pip_every.specs.Moments.{Moment, moment_at}
use Rattle.pip_every.specs.declared.menus.May.{May}
use Rattle.pip_model.specs.Acts.{after_acts}
use Rattle.pip_model.specs.Run.{steps}
use Rattle.pip_model.specs.Worlds.{boot_world_with}
use Rattle.pip_search.specs.Summary.{IsTold}
use Rattle.pip_search.specs.Ways.{witnesses_of}
use Rattle.pip_switch.specs.Standing.{StandsAs}
use Rattle.pip_command_contracts.specs.Planned.{lines_planned}
use Rattle.pip_search_commands.specs.MenuReading.{menu_said}
use Rattle.pip_search_commands.specs.SearchDues.{most_choices}
use Rattle.pip_search_commands.specs.Searches.{world_after}
use Rattle.pip_command_contracts.proofs.LinesBelow.{lines_below}
use Rattle.pip_search_commands.proofs.commands.every.searching.find_from.Goals as goal

pub search_on-requires-clause-stands : goal.search_on-requires-clause-stands
search_on-requires-clause-stands g c =
    let b = c.requires.booted in
    let w = boot_world_with b.words b.frames c.args.head.now.cpus in (
      after_acts w (steps w c.args.plans.now c.args.start.seed (length c.new-machine.result.cpus) c.args.start.count 0),
      c.pass.ensures.stands _ (c.new-machine.ensures.stands b.frames b.words
          (rw c.in_ok-journal.ensures b.booted)),
    )

pub search_on-requires-clause-below : goal.search_on-requires-clause-below
search_on-requires-clause-below g c =
    let lines = c.as_slice-3.ensures.value ∙ (rw (c.planned_lines-lines.ensures, c.as_slice.ensures.value))
    in
    rw lines (lines_below c.args.head.now.plans.items c.requires.limits.lines)

pub returns-clause-ways : goal.returns-clause-ways
returns-clause-ways g c = record { ways = c.in_ok-ways.ensures; traced = c.in_ok-search.ensures.traced }

pub returns-clause-replies : goal.returns-clause-replies
returns-clause-replies g c =
    let b = c.requires.booted in
    let w = boot_world_with b.words b.frames c.args.head.now.cpus in
    let stands = c.pass.ensures.stands w (c.new-machine.ensures.stands b.frames b.words
    (rw c.in_ok-journal.ensures b.booted)) in
    let said = c.in_ok-search.ensures.said _ c.args.mem.block.frames stands in
    let coming = c.in_ok-search.ensures.coming _ c.args.mem.block.frames stands in
    record { again = said.count; comes = coming.count }

pub returns-clause-found : goal.returns-clause-found
returns-clause-found g c = λ n words is.
    let h = c.args.head.now in
    let first = c.args.mem.block.frames in
    let lines = c.as_slice-3.ensures.value ∙ (rw (c.planned_lines-lines.ensures, c.as_slice.ensures.value))
    in
    let found = c.in_ok-search.search.found.items in
    let visits = c.in_ok-search.search.visits.items in
    let verdict = c.in_ok-search.verdict in
    let ws = witnesses_of verdict visits found in
    let most : c.unwrap_or-most.result ≡ most_choices c.args.depth = c.unwrap_or-most.ensures in
    let cpus : length c.pass.new.machine.cpus ≡ h.cpus = c.pass.ensures.count ∙ c.new-machine.ensures.count in
    let menu : ℕ → List ℕ → List May → Menu = λ k ls may. record {
      scope = record { cpus = k; lines = ls; from = c.args.from };
      may = may;
    } in
    let at : List Plan → Moment = λ ps. moment_at (world_after words n h.cpus ps c.args.start.count c.args.start.seed)
    in
    let w = boot_world_with words n h.cpus in
    let stands = subst (λ k. StandsAs c.pass.new.machine (after_acts w (steps w c.args.plans.now c.args.start.seed k
    c.args.start.count 0))) c.new-machine.ensures.count (c.pass.ensures.stands w (c.new-machine.ensures.stands n words
    (rw c.in_ok-journal.ensures is))) in
    let replies = c.in_ok-search.replies in
    let asked = menu_said c.args.menu.now in
    let IsFound : List Plan → ℕ → ℕ → List ℕ → List May → Type 0 = λ ps most k ls may.
    IsTold (menu_model first (menu k ls may)) (at ps) most c.args.states ws (length visits) verdict
    × (AreSaid (menu_model first (menu k ls may)) (usual_choices (menu k ls may)) (at ps) asked.again verdict
    replies.again.items
    × (AreComing (menu_model first (menu k ls may)) (own_classes (usual_choices (menu k ls may))) (at ps) asked.comes
    verdict replies.comes.items
    × IsAwayReply first asked.out (menu k ls may) (at ps) verdict replies.away)) in
    rw c.requires.same at (subst (λ m. IsFound c.args.plans.now m h.cpus (lines_planned h.plans.items) asked.may) most
    (subst (λ k. IsFound c.args.plans.now c.unwrap_or-most.result k (lines_planned h.plans.items) asked.may) cpus
    (subst (λ ls. IsFound c.args.plans.now c.unwrap_or-most.result (length c.pass.new.machine.cpus) ls asked.may) lines
    (subst (λ may. IsFound c.args.plans.now c.unwrap_or-most.result (length c.pass.new.machine.cpus)
    c.as_slice-3.result.now may) (c.in_ok-extend_from_slice.ensures.items ∙ ap (λ xs. xs ++ c.as_slice-2.result.now)
    c.new-may.ensures.items ∙ c.as_slice-2.ensures.value) (
      c.in_ok-search.ensures.told _ first stands is.laid.shape c.requires.count,
      (
        c.in_ok-search.ensures.said _ first stands,
        (
          c.in_ok-search.ensures.coming _ first stands,
          c.in_ok-search.ensures.away _ first stands is.laid.shape c.requires.count,
        ),
      ),
    )))))
