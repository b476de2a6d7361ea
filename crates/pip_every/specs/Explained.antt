-- What a search explains by its visits.
use Rattle.std.specs.Prelude.{◌≡◌, ℕ, length}
use Rattle.pip_base.specs.Memory.{IsMemory, Memory}
use Rattle.pip_search.specs.Keys.{visits_of}
use Rattle.pip_search.specs.Reached.{Tells}
use Rattle.pip_search.specs.declared.searching.Extent.{Extent}
use Rattle.pip_search.specs.declared.searching.Search.{Search}
use Rattle.pip_every.specs.Menus.{Menu, menu_model}
use Rattle.pip_every.specs.Moments.{Moment}

-- whatever covered choices lead to has a visit, and what they show was found; each visit is reached on its way, and
-- each label shown: by keys that compare with some memory of this many frames
pub record IsExplained (g : Menu) (frames : ℕ) (s : Moment) (z : Search) (end : Extent) : Type 0 where
  pub first : Memory
  pub shape : IsMemory first
  pub count : length first ≡ frames
  pub tells : Tells (menu_model first g) s (visits_of z) z.found.items end
