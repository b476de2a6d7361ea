-- A text that is written in two parts.
use Rattle.std.proofs.Common.{◌≡◌, ℕ, List, ◌++◌, append_assoc}
use Rattle.pip_io.specs.Taken.{Taken, Appends, AppendsPart}
use Rattle.pip_io.proofs.Pieces.{left_more}
use Rattle.pip_io.proofs.Taken.{Appends-trans}

-- of the first a part was written
pub front_cut : (a b : Taken) (front rest text : List ℕ) → front ++ rest ≡ text → AppendsPart a b front
    → AppendsPart a b text
front_cut a b front rest text whole w =
    (w.0, w.1 ++ rest, w.2, rw (← append_assoc w.0 w.1 rest, w.3) whole, left_more w.1 rest w.4)

-- the first was written, and of the second a part
pub rest_cut : (a b c : Taken) (front rest text : List ℕ) → front ++ rest ≡ text → Appends a b front
    → AppendsPart b c rest → AppendsPart a c text
rest_cut a b c front rest text whole first w =
    (front ++ w.0, w.1, Appends-trans _ _ _ _ _ first w.2, rw (append_assoc front w.0 w.1, w.3) whole, w.4)
