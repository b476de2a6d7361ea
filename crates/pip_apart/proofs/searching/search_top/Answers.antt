use Rattle.std.proofs.Common.{◌≡◌, length}
use Rattle.pip_search.specs.Ways.{witnesses_of}
use Rattle.pip_apart.proofs.Telling.{found_at_key, ways_known}
use Rattle.pip_apart.proofs.searching.search_top.Goals as goal

pub returns-clause-found : goal.returns-clause-found
returns-clause-found g c w k =
    let a = c.args.guest.now in
    let r = c.in_ok-search in
    let there : length c.aim.new.self.machine.cpus ≡ length a.machine.cpus =
    rw (c.aim.ensures.machine, c.in_ok-cpus.ensures.machine, c.go_to.ensures.count) in
    found_at_key g.F.First.words (length a.machine.cpus) (length c.aim.new.self.machine.cpus) c.args.start.now w
    c.args.most c.args.limit c.args.top c.aim.new.self.top (length r.search.visits.items) c.in_ok-cpus.cpus.items
    c.aim.new.self.cpus.items (witnesses_of r.end r.search.visits.items r.search.found.items) r.end k there
    c.aim.ensures.top
    (rw (
      c.aim.ensures.cpus,
      c.in_ok-extend_from_slice.ensures.items,
      c.new-own.ensures.items,
      c.as_slice.ensures.value,
    ))
    (c.in_ok-cpus.ensures.are _ (c.go_to.ensures.at w k))
    (r.ensures.told w (rw there k))

pub returns-clause-shown : goal.returns-clause-shown
returns-clause-shown g c =
    let a = c.args.guest.now in
    let w = c.requires.key.0 in
    let k = c.requires.key.1 in
    let r = c.in_ok-search in
    let there : length c.aim.new.self.machine.cpus ≡ length a.machine.cpus =
    rw (c.aim.ensures.machine, c.in_ok-cpus.ensures.machine, c.go_to.ensures.count) in
    record {
      ways = c.in_ok-ways.ensures;
      traced = r.ensures.traced;
      known = ways_known g.F.First.words (length c.aim.new.self.machine.cpus) c.aim.new.self.top
          c.in_ok-cpus.cpus.items c.aim.new.self.cpus.items w c.args.most c.args.limit
          (length r.search.visits.items) (witnesses_of r.end r.search.visits.items r.search.found.items) r.end
          (rw (
            c.aim.ensures.cpus,
            c.in_ok-extend_from_slice.ensures.items,
            c.new-own.ensures.items,
            c.as_slice.ensures.value,
          ))
          (r.ensures.told w (rw there k));
    }
