use Rattle.pip_model.specs.Tree.{config, row_pages}
use Rattle.pip_model.proofs.OnLists.Members.{In-append_left}
use Rattle.pip_model.proofs.Trees.Ancestors.{holders-related, row_above, holds_up}
use Rattle.pip_model.proofs.Events.Reach.{place_open}
use Rattle.pip_model.proofs.Trees.Free.{hidden_by}
use Rattle.pip_model.proofs.Locality.Agree.{above_is_ancestry}
use Rattle.pip_model.proofs.laws.law_reach.Goals as goal

pub returns-clause-config : goal.returns-clause-config
returns-clause-config c t g x y s i j h =
    ((λ a. holds_up t g s y x a (In-append_left g (config x) (row_pages x) h)), row_above t g s x y i j h)

pub returns-clause-common : goal.returns-clause-common
returns-clause-common c t g x y s i j = holders-related t g s x y i j

pub returns-clause-open_places : goal.returns-clause-open_places
returns-clause-open_places c t p va g i a z x e j h = let k = place_open t p va g i a z e in
    let l = hidden_by t g x j h in cc

pub returns-clause-line : goal.returns-clause-line
returns-clause-line c t x y s i j = above_is_ancestry t x y s i j
