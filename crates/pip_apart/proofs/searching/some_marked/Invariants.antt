use Rattle.std.proofs.Common.{◌≡◌, false, take}
use Rattle.std.specs.List.{list_any}
use Rattle.pip_apart.specs.Found.{is_marked}
use Rattle.pip_apart.proofs.searching.some_marked.Given as goal

-- none so far
abbrev pub invariant-loop-found : goal.invariant-loop-found
invariant-loop-found l = list_any (λ f. is_marked f.label.items) (take l.found-index l.search.found.items) ≡ false
