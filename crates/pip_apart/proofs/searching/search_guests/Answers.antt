use Rattle.std.proofs.Common.{◌∙◌, ◌++◌, ap, length, sym}
use Rattle.pip_every.specs.Keys.{key_words}
use Rattle.pip_apart.proofs.Telling.{begins, tops_found}
use Rattle.pip_apart.proofs.Turned.{if_both}
use Rattle.pip_apart.proofs.searching.search_guests.Goals as goal

pub returns-clause-found : goal.returns-clause-found
returns-clause-found g c =
    let first = g.F.First.words in
    let p = c.args.machine in
    let n = length c.add_key.new.self.machine.cpus in
    let machine = c.new-guest.ensures.machine in
    let frames = ap (λ m. length m.memory) (sym machine) ∙ c.in_ok-add_key.ensures.count in
    let count = ap (λ m. length m.cpus) (sym (c.in_ok-add_key.ensures.machine ∙ machine)) in
    let start = c.as_slice-start.ensures.value ∙ c.in_ok-add_key.ensures.key
    ∙ ap (λ v. v ++ key_words first 0 c.new-guest.result.machine.cpus c.new-guest.result.machine.memory)
    c.new-start.ensures.items
    ∙ ap (λ m. key_words first 0 m.cpus m.memory) machine in
    if_both c.search_tops.result _ _ _ c.search_tops.ensures.tops c.search_tops.ensures.each (λ r tops each w s.
    record {
      first = first;
      shape = c.requires.shape;
      tops_are = tops_found r.items ∙ tops ∙ c.as_slice-tops.ensures.value ∙ c.tops-tops.ensures w s;
      each = each w (begins first n p w c.as_slice-start.result.now s frames count start);
    })
