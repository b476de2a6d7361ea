use Rattle.std.specs.Prelude.{None, slice_index_or}
use Rattle.std.proofs.Common.{◌∙◌, ap, rules}
use Rattle.pip_tlb.proofs.Used.{none_at}
use Rattle.pip_tlb.proofs.cache.Cache.new.Goals as goal

pub invariant_of-result : goal.invariant_of-result
invariant_of-result c = (
  search rules,
  search rules,
  search rules,
  (λ k _. rw (c.no_entries.ensures, none_at 64 k)),
  tt,
)
