-- `apart` has one answer to an image.
use Rattle.std.proofs.Common.{None}
use Rattle.pip_apart.proofs.Once.{known_once}
use Rattle.pip_model.specs.RunTexts.{stepped_world}
use Rattle.pip_search_commands.specs.ApartLaw.{ApartSaysOnce}
use Rattle.pip_search_commands.specs.SearchDues.{most_choices}

pub apart_says_once : ApartSaysOnce
apart_says_once states count seed i v u a b =
    rw (
      a.text,
      known_once (stepped_world i count seed) (most_choices None) states a.known b.known a.found b.found,
      ←
          b.text,
    )
