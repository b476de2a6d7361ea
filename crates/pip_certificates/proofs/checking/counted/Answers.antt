use Rattle.std.proofs.Common.{rules, arith, ◌≡◌, ◌<◌, ◌^◌, length, refl}
use Rattle.std.proofs.lemmas.List.{length-map}
use Rattle.pip_search.specs.Parts.{stop_of}
use Rattle.pip_search.specs.declared.found.Found.{Found}
use Rattle.pip_certificates.proofs.SmallStops.{same_numbers, small_stops}
use Rattle.pip_certificates.proofs.checking.counted.Goals as goal

pub returns : goal.returns
returns c =
    let p = c.args.part in
    let one = length-map p.keys.items stop_of in
    let two = length-map p.asked.items stop_of in
    let three = length-map p.found.items (λ (f : Found). f.label.items) in
    let keys : c.in_ok-keys.keys ≡ length p.keys.items = search (rules, arith) in
    let asked : c.in_ok-asked.asked ≡ length p.asked.items = search (rules, arith) in
    let labels : c.in_ok-labels.labels ≡ length p.found.items = search (rules, arith) in
    let few : c.in_ok-keys.keys < 2 ^ 32 = search (rules, arith) in
    let less : c.in_ok-asked.asked < 2 ^ 32 = search (rules, arith) in
    let low : c.in_ok-labels.labels < 2 ^ 32 = search (rules, arith) in
    record {
      part = refl;
      about = refl;
      way = refl;
      counts = same_numbers c.args.way c.in_ok-keys.keys c.in_ok-asked.asked c.in_ok-labels.labels
          c.found_sum-sum.result (cc) (cc) (cc)
          (rw (c.found_sum-sum.ensures, c.as_slice.ensures.value));
      small = record {
        keys = small_stops p.keys.items;
        asked = small_stops p.asked.items;
        way = c.requires;
        count = omega arith;
        asks = omega arith;
        labels = omega arith;
      };
    }
