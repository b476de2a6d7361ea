-- What searches of guests come to: what is known of the guests of an image.
use Rattle.std.proofs.Common.{◌≡◌, ℕ, None, subst}
use Rattle.pip_apart.specs.Found.{IsKnownAt, Known}
use Rattle.pip_apart.specs.Searches.{known_of}
use Rattle.pip_apart.specs.declared.searching.Knowledge.{Knowledge}
use Rattle.pip_base.specs.Memory.{Memory}
use Rattle.pip_image.specs.declared.header.Header.{Header}
use Rattle.pip_model.specs.Images.{Image, image_word}
use Rattle.pip_search_commands.specs.ApartSearches.{IsKnownFrom, knowledge_text}
use Rattle.pip_search_commands.specs.Searches.{world_after}
use Rattle.pip_search_commands.specs.ApartText.{apart_text}
use Rattle.pip_search_commands.specs.SearchDues.{IsFoundApart, most_choices}
use Rattle.pip_command_contracts.specs.EndsBy.{plainly}
use Rattle.pip_command_contracts.specs.Loading.{BeginsFrames}

module _ (states count seed : ℕ) (h : Header) (m : Memory) (k : Knowledge) (i : Image) (b : BeginsFrames i h m) where
  abbrev known : Known
  known = known_of k

  same_text : knowledge_text h k ≡ apart_text i known
  same_text =
      rw (b.frames, b.cpus, b.plans, b.pages)

  -- what was found from an image's frames is known of the image
  pub found_apart : IsKnownFrom states count seed h.cpus h.plans.items m k
      → IsFoundApart states count seed i (plainly 0 (knowledge_text h k) None)
  found_apart found = record {
    known = known;
    found = rw (← b.plans) (subst (λ c. IsKnownAt (world_after (image_word i.frames i.pages) i.frames c h.plans.items
        count seed) (most_choices None) states known) b.cpus (found i.frames (image_word i.frames i.pages) b.booted));
    text = rw same_text;
  }
