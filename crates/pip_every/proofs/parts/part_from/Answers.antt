-- The part begins at the first moment, or where a way leads from there.
use Rattle.std.proofs.Common.{All, arith, ◌≡◌, ◌∙◌, ◌+◌, ◌*◌, ◌<◌, [], ap, length, subst, sym}
use Rattle.pip_model.specs.Worlds.{boot_world_with}
use Rattle.pip_search.specs.Certificates.{IsClosedPart, IsReachedPart}
use Rattle.pip_search.specs.Parts.{portion_of}
use Rattle.pip_search.specs.Portions.{IsPortionOf}
use Rattle.pip_every.specs.Choosing.{machine_menu}
use Rattle.pip_every.specs.Keys.{IsKeyOf}
use Rattle.pip_every.specs.Menus.{Menu, menu_model}
use Rattle.pip_every.specs.Moments.{Moment, Scope, first_moment}
use Rattle.pip_every.proofs.Keying.{begun, if_ok, menu_is, scope_is}
use Rattle.pip_every.proofs.Usual.{closed_usual, portion_usual, reached_usual}
use Rattle.pip_every.proofs.parts.part_from.Goals as goal

pub check_part-requires-clause-key : goal.check_part-requires-clause-key
check_part-requires-clause-key g c =
    let n = c.requires.booted.frames in
    let words = c.requires.booted.words in
    let stands = c.new-machine.ensures.stands n words (rw c.in_ok-journal.ensures c.requires.booted.booted) in
    let count : length c.new-explorer.result.machine.cpus ≡ length c.add_key.new.self.machine.cpus =
    rw (← c.in_ok-add_key.ensures.machine) in (
      first_moment words n c.args.cpus,
      begun (boot_world_with words n c.args.cpus) stands c.new-explorer.ensures.machine c.in_ok-add_key.ensures.count
          count c.new-start.ensures.items (c.as_slice.ensures.value ∙ c.in_ok-add_key.ensures.key),
    )

pub returns-clause-can : goal.returns-clause-can
returns-clause-can g c = if_ok c.check_part.result _ _ (λ r e all.
    let first = g.F.First.words in
    let s : Scope = record { cpus = c.args.cpus; lines = c.args.lines.now; from = c.args.from } in
    let q = c.add_key.new.self in
    let t : Menu = machine_menu q.machine q.lines.items q.from q.may.items in
    let machine : q.machine ≡ c.new-machine.result = c.in_ok-add_key.ensures.machine ∙ c.new-explorer.ensures.machine in
    let scope : t.scope ≡ s = scope_is
    (length q.machine.cpus) c.args.cpus q.lines.items c.args.lines.now q.from c.args.from
    (cc (c.new-machine.ensures.count))
    (ap (λ v. v.items) (c.in_ok-add_key.ensures.lines ∙ c.new-explorer.ensures.lines) ∙
    (rw (c.in_ok-extend_from_slice.ensures.items, c.new-raised.ensures.items)))
    (c.in_ok-add_key.ensures.from ∙ c.new-explorer.ensures.from) in
    let same : t ≡ record { scope = s; may = [] } = menu_is t.scope s q.may.items [] scope
    (cc (c.in_ok-add_key.ensures.may, c.new-explorer.ensures.may, c.new-2.ensures.items)) in
    let count : (s.cpus + length s.lines) + s.cpus * 0 ≡ s.cpus + length s.lines = omega arith in
    e (subst (λ v. All (λ k. k < (menu_model first v).choices) c.args.way.now) (sym same)
    (rw count all))) c.check_part.ensures.can

pub returns-clause-closed : goal.returns-clause-closed
returns-clause-closed g c = if_ok c.check_part.result _ _ (λ r e p is.
    let first = g.F.First.words in
    let s : Scope = record { cpus = c.args.cpus; lines = c.args.lines.now; from = c.args.from } in
    let q = c.add_key.new.self in
    let t : Menu = machine_menu q.machine q.lines.items q.from q.may.items in
    let machine : q.machine ≡ c.new-machine.result = c.in_ok-add_key.ensures.machine ∙ c.new-explorer.ensures.machine in
    let scope : t.scope ≡ s = scope_is
    (length q.machine.cpus) c.args.cpus q.lines.items c.args.lines.now q.from c.args.from
    (cc (c.new-machine.ensures.count))
    (simp (
      c.in_ok-add_key.ensures.lines,
      c.new-explorer.ensures.lines,
      c.in_ok-extend_from_slice.ensures.items,
      c.new-raised.ensures.items,
    ))
    (c.in_ok-add_key.ensures.from ∙ c.new-explorer.ensures.from) in
    let same : t ≡ record { scope = s; may = [] } = menu_is t.scope s q.may.items [] scope
    (cc (c.in_ok-add_key.ensures.may, c.new-explorer.ensures.may, c.new-2.ensures.items)) in
    closed_usual first s (portion_of p)
    (subst (λ v. IsClosedPart (menu_model first v) (portion_of p)) same (e p is))) c.check_part.ensures.closed

pub returns-clause-reached : goal.returns-clause-reached
returns-clause-reached g c = if_ok c.check_part.result _ _ (λ r e p n words is b.
    let first = g.F.First.words in
    let s : Scope = record { cpus = c.args.cpus; lines = c.args.lines.now; from = c.args.from } in
    let q = c.add_key.new.self in
    let t : Menu = machine_menu q.machine q.lines.items q.from q.may.items in
    let machine : q.machine ≡ c.new-machine.result = c.in_ok-add_key.ensures.machine ∙ c.new-explorer.ensures.machine in
    let scope : t.scope ≡ s = scope_is
    (length q.machine.cpus) c.args.cpus q.lines.items c.args.lines.now q.from c.args.from
    (cc (c.new-machine.ensures.count))
    (simp (
      c.in_ok-add_key.ensures.lines,
      c.new-explorer.ensures.lines,
      c.in_ok-extend_from_slice.ensures.items,
      c.new-raised.ensures.items,
    ))
    (c.in_ok-add_key.ensures.from ∙ c.new-explorer.ensures.from) in
    let same : t ≡ record { scope = s; may = [] } = menu_is t.scope s q.may.items [] scope
    (cc (c.in_ok-add_key.ensures.may, c.new-explorer.ensures.may, c.new-2.ensures.items)) in
    let m : Moment = first_moment words n c.args.cpus in
    let stands = c.new-machine.ensures.stands n words (simp c.in_ok-journal.ensures b) in
    let count : length c.new-explorer.result.machine.cpus ≡ length q.machine.cpus =
    simp (← c.in_ok-add_key.ensures.machine) in
    let key : IsKeyOf first t.scope c.as_slice.result.now m =
    begun (boot_world_with words n c.args.cpus) stands c.new-explorer.ensures.machine
    c.in_ok-add_key.ensures.count count c.new-start.ensures.items
    (c.as_slice.ensures.value ∙ c.in_ok-add_key.ensures.key) in
    reached_usual first s m (portion_of p)
    (subst (λ v. IsReachedPart (menu_model first v) m (portion_of p)) same (e p m is key))) c.check_part.ensures.reached

pub returns-clause-begins : goal.returns-clause-begins
returns-clause-begins g c = if_ok c.check_part.result _ _ (λ r e p n words is b none.
    let first = g.F.First.words in
    let s : Scope = record { cpus = c.args.cpus; lines = c.args.lines.now; from = c.args.from } in
    let q = c.add_key.new.self in
    let t : Menu = machine_menu q.machine q.lines.items q.from q.may.items in
    let machine : q.machine ≡ c.new-machine.result = c.in_ok-add_key.ensures.machine ∙ c.new-explorer.ensures.machine in
    let scope : t.scope ≡ s = scope_is
    (length q.machine.cpus) c.args.cpus q.lines.items c.args.lines.now q.from c.args.from
    (cc (c.new-machine.ensures.count))
    (ap (λ v. v.items) (c.in_ok-add_key.ensures.lines ∙ c.new-explorer.ensures.lines) ∙
    (rw (c.in_ok-extend_from_slice.ensures.items, c.new-raised.ensures.items)))
    (c.in_ok-add_key.ensures.from ∙ c.new-explorer.ensures.from) in
    let same : t ≡ record { scope = s; may = [] } = menu_is t.scope s q.may.items [] scope
    (cc (c.in_ok-add_key.ensures.may, c.new-explorer.ensures.may, c.new-2.ensures.items)) in
    let m : Moment = first_moment words n c.args.cpus in
    let stands = c.new-machine.ensures.stands n words (simp c.in_ok-journal.ensures b) in
    let count : length c.new-explorer.result.machine.cpus ≡ length q.machine.cpus =
    simp (← c.in_ok-add_key.ensures.machine) in
    let key : IsKeyOf first t.scope c.as_slice.result.now m =
    begun (boot_world_with words n c.args.cpus) stands c.new-explorer.ensures.machine
    c.in_ok-add_key.ensures.count count c.new-start.ensures.items
    (c.as_slice.ensures.value ∙ c.in_ok-add_key.ensures.key) in
    (c.as_slice.result.now, (subst (λ v. IsKeyOf first v c.as_slice.result.now m) scope key, e p is none)))
    c.check_part.ensures.begins

pub returns-clause-exact : goal.returns-clause-exact
returns-clause-exact g c = if_ok c.check_part.result _ _ (λ r e some.
    let first = g.F.First.words in
    let s : Scope = record { cpus = c.args.cpus; lines = c.args.lines.now; from = c.args.from } in
    let q = c.add_key.new.self in
    let t : Menu = machine_menu q.machine q.lines.items q.from q.may.items in
    let machine : q.machine ≡ c.new-machine.result = c.in_ok-add_key.ensures.machine ∙ c.new-explorer.ensures.machine in
    let scope : t.scope ≡ s = scope_is
    (length q.machine.cpus) c.args.cpus q.lines.items c.args.lines.now q.from c.args.from
    (cc (c.new-machine.ensures.count))
    (ap (λ v. v.items) (c.in_ok-add_key.ensures.lines ∙ c.new-explorer.ensures.lines) ∙
    (rw (c.in_ok-extend_from_slice.ensures.items, c.new-raised.ensures.items)))
    (c.in_ok-add_key.ensures.from ∙ c.new-explorer.ensures.from) in
    let same : t ≡ record { scope = s; may = [] } = menu_is t.scope s q.may.items [] scope
    (cc (c.in_ok-add_key.ensures.may, c.new-explorer.ensures.may, c.new-2.ensures.items)) in
    let count : (s.cpus + length s.lines) + s.cpus * 0 ≡ s.cpus + length s.lines = omega arith in
    subst (λ n. All (λ k. k < n) c.args.way.now) count
    (subst (λ v. All (λ k. k < (menu_model first v).choices) c.args.way.now) same (e some))) c.check_part.ensures.exact

pub returns-clause-says : goal.returns-clause-says
returns-clause-says g c = if_ok c.check_part.result _ _ (λ r e p n words is b.
    let first = g.F.First.words in
    let s : Scope = record { cpus = c.args.cpus; lines = c.args.lines.now; from = c.args.from } in
    let q = c.add_key.new.self in
    let t : Menu = machine_menu q.machine q.lines.items q.from q.may.items in
    let machine : q.machine ≡ c.new-machine.result = c.in_ok-add_key.ensures.machine ∙ c.new-explorer.ensures.machine in
    let scope : t.scope ≡ s = scope_is
    (length q.machine.cpus) c.args.cpus q.lines.items c.args.lines.now q.from c.args.from
    (cc (c.new-machine.ensures.count))
    (simp (
      c.in_ok-add_key.ensures.lines,
      c.new-explorer.ensures.lines,
      c.in_ok-extend_from_slice.ensures.items,
      c.new-raised.ensures.items,
    ))
    (c.in_ok-add_key.ensures.from ∙ c.new-explorer.ensures.from) in
    let same : t ≡ record { scope = s; may = [] } = menu_is t.scope s q.may.items [] scope
    (cc (c.in_ok-add_key.ensures.may, c.new-explorer.ensures.may, c.new-2.ensures.items)) in
    let m : Moment = first_moment words n c.args.cpus in
    let stands = c.new-machine.ensures.stands n words (simp c.in_ok-journal.ensures b) in
    let count : length c.new-explorer.result.machine.cpus ≡ length q.machine.cpus =
    simp (← c.in_ok-add_key.ensures.machine) in
    let start = c.as_slice.result.now in
    let key : IsKeyOf first t.scope start m =
    begun (boot_world_with words n c.args.cpus) stands c.new-explorer.ensures.machine
    c.in_ok-add_key.ensures.count count c.new-start.ensures.items
    (c.as_slice.ensures.value ∙ c.in_ok-add_key.ensures.key) in (
      start,
      (
        simp (← scope) key,
        portion_usual first s start c.args.way.now c.args.marks.now (portion_of p)
            (subst (λ v. IsPortionOf (menu_model first v) start c.args.way.now c.args.marks.now (portion_of p)) same
            (e p is)),
      ),
    )) c.check_part.ensures.says
