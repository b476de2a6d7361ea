-- What a part is: its start, its way and its marks say which choices are made, and these say the rest.
use Rattle.std.specs.Prelude.{◌≡◌, ℕ, ◌+◌, ◌==◌, ◌||◌, Bool, not, if◌then◌else◌, List, [], ◌∷◌, ◌++◌, length}
use Rattle.std.specs.Prelude.{get_or, Option, Some, None, slice_get}
use Rattle.std.specs.List.{list_any}
use Rattle.std.specs.Str.{bytes_eq}
use Rattle.pip_search.specs.Certificates.{Portion, Stop}
use Rattle.pip_search.specs.Summary.{HasOneKey}
use Rattle.pip_search.specs.Systems.{IsKey, LeadsAlong, LeadsOn, Model}

-- where a choice leads, and what it shows
pub record Move : Type 0 where
  pub next : List ℕ
  pub shown : List ℕ

-- a mark that is there, and isn't 0
abbrev pub is_next_own : List ℕ → ℕ → Bool
is_next_own marks k = not (get_or marks k 0 == 0)

-- a text is nothing, or one of these
abbrev pub is_told : List (List ℕ) → List ℕ → Bool
is_told texts text = length text == 0 || list_any (λ t. bytes_eq t text) texts

-- labels with one that was shown: each is told once, where it is shown first
abbrev pub with_text : List (List ℕ) → List ℕ → List (List ℕ)
with_text texts text = if is_told texts text then texts else texts ++ text ∷ []

-- keys with one more, if it is to be one of the part
abbrev pub keys_with : Bool → List Stop → Stop → List Stop
keys_with own xs x = if own then xs ++ x ∷ [] else xs

-- keys that are asked with one more, if it isn't, and isn't the same key again
abbrev pub asked_with : Bool → Bool → List Stop → Stop → List Stop
asked_with own same xs x = if own || same then xs else xs ++ x ∷ []

-- the key to which a choice at another one leads, with its depth
abbrev pub moved_to : Stop → Move → Stop
moved_to x v = record { key = v.next; depth = x.depth + 1 }

-- a part after one choice more, at one of its keys
abbrev pub with_move : Portion → Stop → Bool → Move → Portion
with_move p x own v = record {
  keys = keys_with own p.keys (moved_to x v);
  asked = asked_with own (bytes_eq x.key v.next) p.asked (moved_to x v);
  labels = with_text p.labels v.shown;
}

-- a part after choices, and how many were made
pub record Walk : Type 0 where
  pub portion : Portion
  pub used : ℕ

-- nothing was chosen yet
abbrev pub walk_start : Stop → Walk
walk_start first = record { portion = record { keys = first ∷ []; asked = []; labels = [] }; used = 0 }

-- one choice more, by its mark
abbrev pub move_more : List ℕ → Stop → Walk → Move → Walk
move_more marks x w v = record {
  portion = with_move w.portion x (is_next_own marks w.used) v;
  used = w.used + 1;
}

-- choices at one key; in this list, and in those below, the last stands first
unfoldable pub walk_on : List ℕ → Stop → Walk → List Move → Walk
walk_on marks x w [] = w
walk_on marks x w (v ∷ vs) = move_more marks x (walk_on marks x w vs) v

-- at the key, if there is one
abbrev pub walk_at : List ℕ → Option Stop → Walk → List Move → Walk
walk_at marks (Some x) w vs = walk_on marks x w vs
walk_at marks None w vs = w

-- choices at one key after another, from the first one on
unfoldable pub walk_rows : List ℕ → Stop → List (List Move) → Walk
walk_rows marks first [] = walk_start first
walk_rows marks first (row ∷ rows) = walk_at marks (slice_get (walk_rows marks first rows).portion.keys (length rows))
    (walk_rows marks first rows) row

-- each of these is where the choice with its number leads from a key
unfoldable pub AreLed : Model → List ℕ → List Move → Type 0
AreLed m key [] = Unit {0}
AreLed m key (v ∷ vs) = LeadsOn m key (length vs) v.next v.shown × AreLed m key vs

-- these are where all choices lead from the key at a place
pub record AreMovesAt (m : Model) (keys : List Stop) (i : ℕ) (row : List Move) : Type 0 where
  pub stop : Stop
  pub at : slice_get keys i ≡ Some stop
  pub led : AreLed m stop.key row
  pub all : length row ≡ m.choices

-- and so at each key, from the first one on
unfoldable pub AreAllMoves : Model → List ℕ → Stop → List (List Move) → Type 0
AreAllMoves m marks first [] = Unit {0}
AreAllMoves m marks first (row ∷ rows) =
    AreMovesAt m (walk_rows marks first rows).portion.keys (length rows) row × AreAllMoves m marks first rows

-- the part that a way and marks say: its first key is the one to which exactly the choices of the way lead, as deep as
-- these are many. At each of its keys all choices are made, in their order, each by the next mark: the key to which it
-- leads is the next one of the part if the mark isn't 0, and else it is asked, unless it is the same key again; and
-- what it shows is a label. Nothing else is in it
pub record IsPortionOf (m : Model) (start way marks : List ℕ) (p : Portion) : Type 0 where
  pub first : List ℕ
  pub leads : LeadsAlong m start way first
  pub rows : List (List Move)
  pub are : AreAllMoves m marks (record { key = first; depth = length way }) rows
  pub all : length rows ≡ length p.keys
  pub is : p ≡ (walk_rows marks (record { key = first; depth = length way }) rows).portion

-- The law of parts: where no state has two keys, a start, a way and marks say one part
abbrev pub SayOnePortion : Model → Type 0
SayOnePortion m = HasOneKey m → (start way marks : List ℕ) (p q : Portion) → IsKey m start
    → IsPortionOf m start way marks p → IsPortionOf m start way marks q → p ≡ q
