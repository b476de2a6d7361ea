-- Acts that are made one after the other, or cut at a line.
use Rattle.std.proofs.Common.{refl, ℕ, sym, ap, ◌∙◌, subst, append_assoc, append-nil, List, [], ◌∷◌, ◌++◌}
use Rattle.std.specs.Prelude.{Result, Ok, Err}
use Rattle.pip_io.specs.Taken.{Taken, Appends, AppendsPart, Wrote}
use Rattle.pip_io.proofs.Taken.{Appends-trans}
use Rattle.pip_cpu.specs.Made.{Cut, Made, MadeOrCut}
use Rattle.pip_model.proofs.OnLists.Acts.{after-append, text-append}
use Rattle.pip_model.specs.Acts.{Act, Makes, Writes, text_of}
use Rattle.pip_model.specs.Events.{Event}
use Rattle.pip_model.specs.Happens.{event}
use Rattle.pip_model.specs.Worlds.{World}

-- ---- an event, and what comes after it

module _ (S : World → Type 0) (old new : Taken) (w : World) where
  pub made_after_event : (e : Event) (acts : List Act) → Made S old new (event w e).world acts
      → Made S old new w (Makes e ∷ acts)
  made_after_event e acts m = record { world = m.world; text = m.text }

  pub cut_after_event : (e : Event) (acts : List Act) → Cut S old new (event w e).world acts
      → Cut S old new w (Makes e ∷ acts)
  cut_after_event e acts m = record {
    front = Makes e ∷ m.front;
    line = m.line;
    rest = m.rest;
    whole = ap (λ k. Makes e ∷ k) m.whole;
    world = m.world;
    part = m.part;
    missing = m.missing;
    split = m.split;
    some = m.some;
    text = m.text;
  }

  pub after_event : {T X : Type 0} (r : Result T X) (e : Event) (acts : List Act)
      → MadeOrCut r S old new (event w e).world acts → MadeOrCut r S old new w (Makes e ∷ acts)
  after_event (Ok v) e acts m = made_after_event e acts m
  after_event (Err x) e acts m = cut_after_event e acts m

  -- a line alone
  pub cut_line : (line : List ℕ) (rest : List Act) → S w → AppendsPart old new line
      → Cut S old new w (Writes line ∷ rest)
  cut_line line rest s h = record {
    front = [];
    line = line;
    rest = rest;
    whole = refl;
    world = s;
    part = h.0;
    missing = h.1;
    split = h.3;
    some = h.4;
    text = h.2;
  }

  pub line_alone : {T X : Type 0} (r : Result T X) (line : List ℕ) → S w → Wrote r old new line
      → MadeOrCut r S old new w (Writes line ∷ [])
  line_alone (Ok v) line s h = record { world = s; text = subst (Appends old new) (sym (append-nil line)) h }
  line_alone (Err x) line s h = cut_line line [] s h

-- acts that were cut, before more
pub cut_before : (S : World → Type 0) (old new : Taken) (w : World) (acts more : List Act) → Cut S old new w acts
    → Cut S old new w (acts ++ more)
cut_before S old new w acts more m = record {
  front = m.front;
  line = m.line;
  rest = m.rest ++ more;
  whole = sym (append_assoc m.front (Writes m.line ∷ m.rest) more) ∙ ap (λ k. k ++ more) m.whole;
  world = m.world;
  part = m.part;
  missing = m.missing;
  split = m.split;
  some = m.some;
  text = m.text;
}

-- ---- a line, and acts after it and before it

module _ (S : World → Type 0) (old mid new : Taken) (w : World) where
  pub made_after_line : (line : List ℕ) (acts : List Act) → Appends old mid line → Made S mid new w acts
      → Made S old new w (Writes line ∷ acts)
  made_after_line line acts a m =
      record { world = m.world; text = Appends-trans old mid new line (text_of acts) a m.text }

  pub cut_after_line : (line : List ℕ) (acts : List Act) → Appends old mid line → Cut S mid new w acts
      → Cut S old new w (Writes line ∷ acts)
  cut_after_line line acts a m = record {
    front = Writes line ∷ m.front;
    line = m.line;
    rest = m.rest;
    whole = ap (λ k. Writes line ∷ k) m.whole;
    world = m.world;
    part = m.part;
    missing = m.missing;
    split = m.split;
    some = m.some;
    text = subst (Appends old new) (sym (append_assoc line (text_of m.front) m.part))
        (Appends-trans old mid new line (text_of m.front ++ m.part) a m.text);
  }

  pub after_line : {T X : Type 0} (r : Result T X) (line : List ℕ) (acts : List Act) → Appends old mid line
      → MadeOrCut r S mid new w acts → MadeOrCut r S old new w (Writes line ∷ acts)
  after_line (Ok v) line acts a m = made_after_line line acts a m
  after_line (Err x) line acts a m = cut_after_line line acts a m

  pub before_line : {T X : Type 0} (r : Result T X) (acts : List Act) (line : List ℕ) → Made S old mid w acts
      → Wrote r mid new line → MadeOrCut r S old new w (acts ++ Writes line ∷ [])
  before_line (Ok v) acts line m a = record {
    world = subst S (sym (after-append w acts (Writes line ∷ []))) m.world;
    text = subst (Appends old new) (sym (text-append acts (Writes line ∷ [])
        ∙ ap (λ k. text_of acts ++ k) (append-nil line))) (Appends-trans old mid new (text_of acts) line m.text a);
  }
  before_line (Err e) acts line m a = record {
    front = acts;
    line = line;
    rest = [];
    whole = refl;
    world = m.world;
    part = a.0;
    missing = a.1;
    split = a.3;
    some = a.4;
    text = Appends-trans old mid new (text_of acts) a.0 m.text a.2;
  }
