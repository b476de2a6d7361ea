-- Disassembling and assembling.
use Rattle.std.specs.Prelude.{◌≡◌, ℕ, ◌<◌, List, Ok, slice_index}
use Rattle.pip_model.specs.Assembly.{assembly}
use Rattle.pip_model.specs.DisText.{dis_text}
use Rattle.pip_model.specs.Images.{Image, image}

-- each of these numbers is a byte
abbrev pub AreBytes : List ℕ → Type 0
AreBytes bs = (i : ℕ) → slice_index bs i < 256

-- the text of an image is assembled to its bytes
abbrev pub TextsAreAgain : Type 0
TextsAreAgain = (bs : List ℕ) (i : Image) → AreBytes bs → image bs ≡ Ok i → assembly (dis_text bs) ≡ Ok bs
