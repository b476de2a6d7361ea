-- A system of states, with its choices, and keys that stand for states.
use Rattle.std.specs.Prelude.{◌≡◌, ℕ, List, [], ◌∷◌, reverse}

-- in each state that many choices can be made. One leads to another state, and shows something
pub record Model : Type 1 where
  pub State : Type 0
  pub choices : ℕ
  pub act : State → ℕ → State
  pub label : State → ℕ → List ℕ
  pub stands : List ℕ → State → Type 0

-- the state after choices, the last of which stands first
abbrev pub after_choices : (m : Model) → m.State → List ℕ → m.State
after_choices m s [] = s
after_choices m s (c ∷ cs) = m.act (after_choices m s cs) c

-- the state after the choices of a way, the first of which stands first
abbrev pub after_way : (m : Model) → m.State → List ℕ → m.State
after_way m s way = after_choices m s (reverse way)

-- a key stands for some state
abbrev pub IsKey : Model → List ℕ → Type 0
IsKey m key = (s : m.State) × m.stands key s

-- whatever state a key stands for, this choice leads to one for which the next key stands, and shows this
abbrev pub LeadsOn : Model → List ℕ → ℕ → List ℕ → List ℕ → Type 0
LeadsOn m key c next shown = (s : m.State) → m.stands key s → m.stands next (m.act s c) × (shown ≡ m.label s c)

-- whatever state a key stands for, a way leads to one for which the last key stands
abbrev pub LeadsAlong : Model → List ℕ → List ℕ → List ℕ → Type 0
LeadsAlong m key way last = (s : m.State) → m.stands key s → m.stands last (after_way m s way)
