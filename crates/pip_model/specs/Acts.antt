-- What a turn and a run do, as a list: events, and lines of text.
use Rattle.std.specs.Prelude.{ℕ, List, [], ◌∷◌, ◌++◌}
use Rattle.pip_model.specs.Events.{Event}
use Rattle.pip_model.specs.Happens.{event}
use Rattle.pip_model.specs.Worlds.{World}

-- an event is made, or a line, with its newline, is written
pub data Act : Type 0 where
  Makes : Event → Act
  Writes : List ℕ → Act

-- the world after acts
abbrev pub after_acts : World → List Act → World
after_acts w [] = w
after_acts w (Makes e ∷ acts) = after_acts (event w e).world acts
after_acts w (Writes line ∷ acts) = after_acts w acts

-- what they write
abbrev pub text_of : List Act → List ℕ
text_of [] = []
text_of (Makes e ∷ acts) = text_of acts
text_of (Writes line ∷ acts) = line ++ text_of acts

-- the events that they make
abbrev pub events_made : List Act → List Event
events_made [] = []
events_made (Makes e ∷ acts) = e ∷ events_made acts
events_made (Writes line ∷ acts) = events_made acts
