-- The search begins at the moment of each world for which the machine stands.
use Rattle.std.proofs.Common.{◌≡◌, ◌∙◌, ap, length, map, subst, sym}
use Rattle.pip_away.specs.Blind.{left_out}
use Rattle.pip_model.specs.Worlds.{World}
use Rattle.pip_search.specs.Keys.{visits_of}
use Rattle.pip_search.specs.Reached.{Tells}
use Rattle.pip_search.specs.Systems.{IsKey}
use Rattle.pip_search.specs.Ways.{witnesses_of}
use Rattle.pip_switch.specs.Standing.{StandsAs}
use Rattle.pip_every.specs.Choosing.{machine_menu}
use Rattle.pip_every.specs.Explored.{explored}
use Rattle.pip_every.specs.Keys.{IsKeyOf}
use Rattle.pip_every.specs.Menus.{Menu, menu_model, usual_choices}
use Rattle.pip_every.specs.Moments.{moment_at}
use Rattle.pip_every.proofs.Keying.{begun, menu_is, scope_is}
use Rattle.pip_every.proofs.OneKey.{one_key, told_at}
use Rattle.pip_every.proofs.Passing.{rebased_away}
use Rattle.pip_every.proofs.Rebasing.{rebased}
use Rattle.pip_every.proofs.Saying.{rebased_coming, rebased_said}
use Rattle.pip_every.proofs.searching.search_on.Goals as goal

pub explore-requires-clause-key : goal.explore-requires-clause-key
explore-requires-clause-key g c =
    let (w, stands) = c.requires.stands in
    let count : length c.new-explorer.result.machine.cpus ≡ length c.add_key.new.self.machine.cpus =
    rw (← c.in_ok-add_key.ensures.machine) in (
      moment_at w,
      begun w stands c.new-explorer.ensures.machine c.in_ok-add_key.ensures.count count c.new-key.ensures.items
          (c.as_slice-start.ensures.value ∙ c.in_ok-add_key.ensures.key),
    )

pub say_all-requires-clause-key : goal.say_all-requires-clause-key
say_all-requires-clause-key g c =
    let (w, stands) = c.requires.stands in
    let count : length c.new-explorer.result.machine.cpus ≡ length c.add_key.new.self.machine.cpus =
    rw (← c.in_ok-add_key.ensures.machine) in
    subst (λ t. IsKey (menu_model g.F.First.words t) c.as_slice-start.result.now) (sym c.in_ok-search.ensures.base) (
      moment_at w,
      begun w stands c.new-explorer.ensures.machine c.in_ok-add_key.ensures.count count c.new-key.ensures.items
          (c.as_slice-start.ensures.value ∙ c.in_ok-add_key.ensures.key),
    )

pub say_all-requires-clause-one : goal.say_all-requires-clause-one
say_all-requires-clause-one g c = one_key g.F.First.words (explored c.explore.new.system).scope

pub say_coming-requires-clause-key : goal.say_coming-requires-clause-key
say_coming-requires-clause-key g c =
    let (w, stands) = c.requires.stands in
    let count : length c.new-explorer.result.machine.cpus ≡ length c.add_key.new.self.machine.cpus =
    rw (← c.in_ok-add_key.ensures.machine) in
    subst (λ t. IsKey (menu_model g.F.First.words t) c.as_slice-start.result.now)
    (sym (c.in_ok-again.ensures.base ∙ c.in_ok-search.ensures.base)) (
      moment_at w,
      begun w stands c.new-explorer.ensures.machine c.in_ok-add_key.ensures.count count c.new-key.ensures.items
          (c.as_slice-start.ensures.value ∙ c.in_ok-add_key.ensures.key),
    )

pub say_coming-requires-clause-one : goal.say_coming-requires-clause-one
say_coming-requires-clause-one g c = one_key g.F.First.words (explored c.say_all.new.system).scope

pub say_away-requires-clause-key : goal.say_away-requires-clause-key
say_away-requires-clause-key g c =
    let (w, stands) = c.requires.stands in
    let count : length c.new-explorer.result.machine.cpus ≡ length c.add_key.new.self.machine.cpus =
    rw (← c.in_ok-add_key.ensures.machine) in
    subst (λ t. IsKey (menu_model g.F.First.words t) c.as_slice-start.result.now)
    (sym (c.in_ok-comes.ensures.base ∙ c.in_ok-again.ensures.base ∙ c.in_ok-search.ensures.base)) (
      moment_at w,
      begun w stands c.new-explorer.ensures.machine c.in_ok-add_key.ensures.count count c.new-key.ensures.items
          (c.as_slice-start.ensures.value ∙ c.in_ok-add_key.ensures.key),
    )

pub returns : goal.returns
returns g c =
    let first = g.F.First.words in
    let all : Menu = machine_menu c.args.machine c.args.lines.now c.args.from c.args.may.items in
    let p = c.add_key.new.self in
    let t : Menu = machine_menu p.machine p.lines.items p.from p.may.items in
    let machine : p.machine ≡ c.args.machine = c.in_ok-add_key.ensures.machine ∙ c.new-explorer.ensures.machine in
    let count : length c.new-explorer.result.machine.cpus ≡ length p.machine.cpus =
    rw (← c.in_ok-add_key.ensures.machine) in
    let key : (w : World) → StandsAs c.args.machine w
    → IsKeyOf first t.scope c.as_slice-start.result.now (moment_at w) = λ w stands.
    begun w stands c.new-explorer.ensures.machine c.in_ok-add_key.ensures.count count c.new-key.ensures.items
    (c.as_slice-start.ensures.value ∙ c.in_ok-add_key.ensures.key) in
    let same : t ≡ all = menu_is t.scope all.scope p.may.items c.args.may.items
    (scope_is (length p.machine.cpus) (length c.args.machine.cpus) p.lines.items c.args.lines.now p.from c.args.from
    (rw machine)
    (rw (
      c.in_ok-add_key.ensures.lines,
      c.new-explorer.ensures.lines,
      c.in_ok-extend_from_slice.ensures.items,
      c.new-raised.ensures.items,
    ))
    (c.in_ok-add_key.ensures.from ∙ c.new-explorer.ensures.from))
    (rw (c.in_ok-add_key.ensures.may, c.new-explorer.ensures.may)) in
    let now : Menu = explored c.explore.new.system in
    let base : now ≡ t = c.in_ok-search.ensures.base in
    let later : Menu = explored c.say_all.new.system in
    let next : later ≡ t = cc (c.in_ok-again.ensures.base) in
    let last : Menu = explored c.say_coming.new.system in
    let rest : last ≡ t = cc (c.in_ok-comes.ensures.base) in
    let r = c.in_ok-search in
    let end = r.extent in
    let ws = witnesses_of end r.search.visits.items r.search.found.items in
    let seen = length r.search.visits.items in
    record {
      told = λ w other stands shape frames. rebased first other all (moment_at w) c.args.most c.args.limit ws seen end
          c.requires.shape shape (sym frames) (told_at first t all (moment_at w) c.args.most c.args.limit ws seen end
          same (r.ensures.told (one_key first t.scope) (moment_at w) (key w stands)));
      said = λ w other stands. rw (← c.as_slice.ensures.value)
          (rebased_said first other now all c.usual_choices-width.result (moment_at w)
          (map (λ l. l.items) c.as_slice.result.now) end c.in_ok-again.again.items (base ∙ same)
          c.usual_choices-width.ensures (c.in_ok-again.ensures.said (moment_at w)
          (subst (λ k. IsKeyOf first k.scope c.as_slice-start.result.now (moment_at w)) (sym base) (key w stands))));
      coming = λ w other stands. rw (← c.as_slice-2.ensures.value)
          (rebased_coming first other later all c.usual_choices-width.result (moment_at w)
          (map (λ l. l.items) c.as_slice-2.result.now) end c.in_ok-comes.comes.items (next ∙ same)
          (c.usual_choices-width.ensures ∙ ap usual_choices (sym c.in_ok-again.ensures.base))
          (c.in_ok-comes.ensures.said (moment_at w)
          (subst (λ k. IsKeyOf first k.scope c.as_slice-start.result.now (moment_at w)) (sym next) (key w stands))));
      away = λ w other stands shape frames. rebased_away first other (left_out c.args.asked.now.blind) last all
          (moment_at w) end c.in_ok-away.away (cc) (c.in_ok-away.ensures (moment_at w)
          (subst (λ k. IsKeyOf first k.scope c.as_slice-start.result.now (moment_at w)) (sym rest) (key w stands)));
      explains = λ w stands. subst (λ v. Tells (menu_model first v) (moment_at w) (visits_of r.search)
          r.search.found.items end) same (r.ensures.explains (moment_at w) (key w stands));
      traced = r.ensures.traced;
      room = rw (← r.search.visits.ok.0) r.ensures.room;
    }
