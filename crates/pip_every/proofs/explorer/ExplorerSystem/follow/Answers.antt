-- The key of the last moment was added.
use Rattle.std.proofs.Common.{◌≡◌, ◌∙◌, ◌++◌, [], ap, arith, refl, take}
use Rattle.std.proofs.lemmas.List.{take_all}
use Rattle.pip_search.specs.Systems.{after_way}
use Rattle.pip_every.specs.Choosing.{IsMade, machine_menu}
use Rattle.pip_every.specs.Keys.{key_words}
use Rattle.pip_every.specs.Menus.{Menu, menu_model}
use Rattle.pip_every.specs.Moments.{Moment}
use Rattle.pip_every.proofs.Keying.{if_both, keyed}
use Rattle.pip_every.proofs.explorer.ExplorerSystem.follow.Goals as goal

pub returns-clause-leads : goal.returns-clause-leads
returns-clause-leads g c = if_both c.add_key.result _ _ _ (λ x is frames m k.
    let s = c.args.self.now in
    let first = g.F.First.words in
    let all : Menu = machine_menu s.machine s.lines.items s.from s.may.items in
    let q = c.loop-choice.self.machine in
    let turns = c.loop-choice.turns in
    let i = c.loop-choice.choice-index in
    let at = c.loop-choice.invariant.at m k in
    let whole : take i c.args.way.now ≡ c.args.way.now =
    take_all i c.args.way.now (omega arith) in
    let end : Moment = after_way (menu_model first all) m (take i c.args.way.now) in
    let made : IsMade end [] q turns [] = record { world = at.0; turns_are = at.1; label_is = refl } in
    rw (← whole) (keyed first all.scope end [] q turns [] c.add_key.new.to.items made frames
    c.loop-choice.invariant.count (is ∙ ap (λ v. v ++ key_words first turns q.cpus q.memory) c.clear.ensures.items)))
    c.add_key.ensures.key
    c.add_key.ensures.count
