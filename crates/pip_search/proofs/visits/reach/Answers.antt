use Rattle.std.proofs.Common.{◌+◌, inl, inr, refl, ap, sym, ◌∙◌, [], ◌∷◌, arith, length, length-append}
use Rattle.pip_search.specs.Keys.{keyed_visit, keyed_visits}
use Rattle.pip_search.specs.Collapsing.{keys_in}
use Rattle.pip_search.specs.declared.visits.Visit.{Visit}
use Rattle.pip_search.proofs.Keeping.{has_key, is_absent, is_there}
use Rattle.pip_search.proofs.Steps.{bytes_are, keyed_count, keyed_more}
use Rattle.pip_search.proofs.Walking.{named_more}
use Rattle.pip_search.proofs.visits.reach.Goals as goal

pub returns-then-is_some-clause-grew : goal.returns-then-is_some-clause-grew
returns-then-is_some-clause-grew c = λ t.
    let ks = keys_in c.args.store.now in
    let vs = c.args.visits.now.items in
    let key = c.args.key.now in
    let (j, there) = is_there ks key c.find.result c.find.ensures (sym c.is_some.ensures ∙ c.if-is_some.true) in
    inl (record {
      same = refl;
      has = has_key (keyed_visits ks vs) key
          (j, rw (bytes_are ks vs c.requires.keyed.count, there));
    })

pub returns-then-len-limit-clause-full : goal.returns-then-len-limit-clause-full
returns-then-len-limit-clause-full c = λ t.
    let ks = keys_in c.args.store.now in
    let vs = c.args.visits.now.items in
    let key = c.args.key.now in
    let count = keyed_count ks vs c.requires.keyed.count in
    record {
      count = omega arith;
      absent = rw (bytes_are ks vs c.requires.keyed.count)
          (is_absent ks key c.find.result c.find.ensures (sym c.is_some.ensures ∙ c.if-is_some.false));
    }

pub returns-clause-keyed : goal.returns-clause-keyed
returns-clause-keyed c =
    let ks = keys_in c.args.store.now in
    let vs = c.args.visits.now.items in
    let key = c.args.key.now in
    let one : Visit = record {
      parent = c.args.step.at;
      choice = c.args.step.choice;
      depth = c.args.step.depth;
      run = c.args.step.run;
    } in
    let h = c.requires.keyed in
    let added = c.in_ok-push.ensures.added in
    record {
      stored = c.in_ok-push.ensures.collapsed;
      count = ap length added ∙ length-append ks (key ∷ []) ∙ ap (λ n. n + 1) h.count
          ∙ sym (ap length c.in_ok-push-2.ensures.items ∙ length-append vs (one ∷ []));
      named = simp added (named_more ks c.args.table.now c.add.new.self key c.hash_bytes-hash.result h.named
          c.hash_bytes-hash.ensures (is_absent ks key c.find.result c.find.ensures
          (sym c.is_some.ensures ∙ c.if-is_some.false)) c.in_ok-add.ensures.filled c.in_ok-add.ensures.hashes
          c.in_ok-add.ensures.seed);
    }

pub returns-clause-grew : goal.returns-clause-grew
returns-clause-grew c = λ t.
    let ks = keys_in c.args.store.now in
    let vs = c.args.visits.now.items in
    let key = c.args.key.now in
    let one : Visit = record {
      parent = c.args.step.at;
      choice = c.args.step.choice;
      depth = c.args.step.depth;
      run = c.args.step.run;
    } in
    inr (record {
      visit = keyed_visit key one;
      whole = cc (
        c.in_ok-push.ensures.added,
        c.in_ok-push-2.ensures.items,
        keyed_more ks vs key one
            c.requires.keyed.count,
      );
      key_is = refl;
      parent_is = refl;
      choice_is = refl;
      depth_is = refl;
      run_is = refl;
    })
