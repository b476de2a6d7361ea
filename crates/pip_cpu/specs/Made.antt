-- What a call on a machine and a sink did of a list of acts.
use Rattle.std.specs.Prelude.{◌≡◌, ◌≢◌, ℕ, List, [], ◌∷◌, ◌++◌, Result, MatchResult}
use Rattle.pip_io.specs.Taken.{Taken, Appends}
use Rattle.pip_io.specs.Histories.{Writing}
use Rattle.pip_model.specs.Acts.{Act, Writes, after_acts, text_of}
use Rattle.pip_model.specs.Effects.{next}
use Rattle.pip_model.specs.Worlds.{World, ctx_on}

-- all of them: the machine stands for the world after them, and their lines were written
pub record Made (stands : World → Type 0) (old new : Taken) (w : World) (acts : List Act) : Type 0 where
  pub world : stands (after_acts w acts)
  pub text : Appends old new (text_of acts)

-- those up to a line, of which a part was written, and not the whole
pub record Cut (stands : World → Type 0) (old new : Taken) (w : World) (acts : List Act) : Type 0 where
  pub front : List Act
  pub line : List ℕ
  pub rest : List Act
  pub whole : front ++ (Writes line ∷ rest) ≡ acts
  pub world : stands (after_acts w front)
  pub part : List ℕ
  pub missing : List ℕ
  pub split : part ++ missing ≡ line
  pub some : missing ≢ []
  pub text : Appends old new (text_of front ++ part)

-- at Ok all of them, at Err those up to a line
abbrev pub MadeOrCut : {T E : Type 0} → Result T E → (World → Type 0) → Taken → Taken → World → List Act → Type 0
MadeOrCut result stands old new w acts =
    MatchResult result (λ v. Made stands old new w acts) (λ e. Cut stands old new w acts)

-- the acts that start at each world for which the machine stood before
abbrev pub Acts : {T E : Type 0} → Result T E → (World → Type 0) → (World → Type 0) → Writing → Writing
    → (World → List Act) → Type 0
Acts result before after old new acts =
    (w : World) → before w → MadeOrCut result after old.written new.written w (acts w)

-- the next instruction of what runs on a processor stands there
abbrev pub IsNext : (World → Type 0) → ℕ → ℕ → Type 0
IsNext stands cpu pc = (w : World) → stands w → pc ≡ next (ctx_on w cpu)
