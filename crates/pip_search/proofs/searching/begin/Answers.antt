use Rattle.std.proofs.Common.{refl, ap, ◌∙◌, ◌++◌, [], ◌∷◌}
use Rattle.pip_search.specs.Keys.{keyed_visit}
use Rattle.pip_search.specs.Packing.{unpacked_key}
use Rattle.pip_search.specs.Collapsing.{keys_in}
use Rattle.pip_search.specs.declared.visits.Visit.{Visit}
use Rattle.pip_search.proofs.Keeping.{kept_bytes, kept_one}
use Rattle.pip_search.proofs.Steps.{keyed_one}
use Rattle.pip_search.proofs.Walking.{none_named}
use Rattle.pip_search.proofs.searching.begin.Goals as goal

pub returns-clause-begun : goal.returns-clause-begun
returns-clause-begun c =
    let v : Visit = record { parent = 0; choice = 0; depth = 0; run = 0 } in
    let key = c.deref.result.now in
    record {
      first = keyed_visit key v;
      one = keyed_one (keys_in c.push.new.self) c.push-2.new.self.items key v
          (rw (c.in_ok-push.ensures.added, c.in_ok-store.ensures.none))
          (rw (c.in_ok-push-2.ensures.items, c.new-visits.ensures.items));
      key = rw (c.deref.ensures.value, c.in_ok-pack.ensures.words);
      root = record { parent = refl; choice = refl; depth = refl; run = refl };
      none = c.new-found.ensures.items;
    }

pub returns-clause-labels : goal.returns-clause-labels
returns-clause-labels c = rw c.new-found.ensures.items
    (none_named c.in_ok-labels.labels c.in_ok-labels.ensures.filled c.in_ok-labels.ensures.hashes)

pub returns-clause-kept : goal.returns-clause-kept
returns-clause-kept c =
    let v : Visit = record { parent = 0; choice = 0; depth = 0; run = 0 } in
    let key = c.deref.result.now in
    let bytes = c.deref.ensures.value in
    rw (keyed_one (keys_in c.push.new.self) c.push-2.new.self.items key v
    (c.in_ok-push.ensures.added ∙ ap (λ ks. ks ++ key ∷ []) c.in_ok-store.ensures.none)
    (c.in_ok-push-2.ensures.items ∙ ap (λ xs. xs ++ v ∷ []) c.new-visits.ensures.items))
    (kept_one (keyed_visit key v) (kept_bytes c.args.start.now key (bytes ∙ c.in_ok-pack.ensures.packed)
    (ap unpacked_key bytes ∙ c.in_ok-pack.ensures.words)))
