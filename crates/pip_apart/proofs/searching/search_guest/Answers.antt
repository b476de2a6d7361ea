use Rattle.std.proofs.Common.{◌∙◌, ◌++◌, ap, length, sym}
use Rattle.pip_every.specs.Keys.{key_words}
use Rattle.pip_apart.proofs.Telling.{begins, if_one, told_on}
use Rattle.pip_apart.proofs.searching.search_guest.Goals as goal

pub search_key-requires-clause-key : goal.search_key-requires-clause-key
search_key-requires-clause-key g c =
    let (w, s) = c.requires.stands in
    let p = c.args.guest.now in
    let first = g.F.First.words in (
      w,
      begins first (length c.add_key.new.self.machine.cpus) p.machine w _ s c.in_ok-add_key.ensures.count
          (rw (← c.in_ok-add_key.ensures.machine))
          (rw (c.as_slice.ensures.value, c.in_ok-add_key.ensures.key, c.new-start.ensures.items)),
    )

pub returns-clause-told : goal.returns-clause-told
returns-clause-told g c =
    let s = c.args.guest.now in
    let first = g.F.First.words in
    let there = c.add_key.new.self in
    let count = ap (λ m. length m.cpus) c.in_ok-add_key.ensures.machine in
    let start = c.as_slice.ensures.value ∙ c.in_ok-add_key.ensures.key
    ∙ ap (λ v. v ++ key_words first 0 s.machine.cpus s.machine.memory) c.new-start.ensures.items in
    if_one c.search_key.result _ _ c.search_key.ensures.told (λ r told w k.
    told_on first (length s.machine.cpus) (length there.machine.cpus) s.top there.top s.cpus.items there.cpus.items w
    c.args.most c.args.limit _ _ _ count c.in_ok-add_key.ensures.top
    (rw c.in_ok-add_key.ensures.cpus)
    (told w (begins first (length there.machine.cpus) s.machine w _ k c.in_ok-add_key.ensures.count (sym count) start)))
