-- Lists of acts, one after the other.
use Rattle.std.proofs.Common.{◌≡◌, refl, ℕ, sym, ap, ◌∙◌, append_assoc, append-nil, arith, List, [], ◌∷◌, ◌++◌}
use Rattle.pip_base.specs.declared.types.Plan.{Plan}
use Rattle.pip_model.specs.Acts.{Act, Makes, Writes, after_acts, events_made, text_of}
use Rattle.pip_model.specs.Happens.{after, event}
use Rattle.pip_model.specs.Run.{end_line, raises, steps, trace}
use Rattle.pip_model.specs.Worlds.{World}

-- the world after acts and more acts, and their text
pub after-append : (w : World) (xs ys : List Act) → after_acts w (xs ++ ys) ≡ after_acts (after_acts w xs) ys
after-append w [] ys = refl
after-append w (Makes e ∷ xs) ys = after-append (event w e).world xs ys
after-append w (Writes l ∷ xs) ys = after-append w xs ys

pub text-append : (xs ys : List Act) → text_of (xs ++ ys) ≡ text_of xs ++ text_of ys
text-append [] ys = refl
text-append (Makes e ∷ xs) ys = text-append xs ys
text-append (Writes l ∷ xs) ys = rw (text-append xs ys, ← append_assoc l (text_of xs) (text_of ys))

-- raises write nothing
pub text-raises : (ps : List Plan) (t : ℕ) → text_of (raises ps t) ≡ []
text-raises [] t = refl
text-raises (p ∷ ps) t = grind (arith, text-raises ps t)

pub text-trace : (w : World) (line : List ℕ) (plans : List Plan) (seed c count : ℕ)
    → text_of (trace w line plans seed c count) ≡ line ++ (text_of (steps w plans seed c count 0) ++ end_line count)
text-trace w line plans seed c count =
    rw (text-append (steps w plans seed c count 0) (Writes (end_line count) ∷ []), append-nil (end_line count))

-- the world after acts is the world after their events
pub after-events : (w : World) (acts : List Act) → after_acts w acts ≡ after w (events_made acts)
after-events w [] = refl
after-events w (Makes e ∷ acts) = after-events (event w e).world acts
after-events w (Writes line ∷ acts) = after-events w acts
