-- The lines of plans are raised one by one.
use Rattle.std.proofs.Common.{◌≡◌, refl, ℕ, suc, ◌+◌, ◌<◌, ◌≤◌, sym, ap, ◌∙◌, subst, Bool, true, false, if◌then◌else◌}
use Rattle.std.proofs.Common.{List}
use Rattle.std.proofs.Common.{[], ◌∷◌, ◌++◌, take, get_or, length, arith}
use Rattle.std.proofs.Math.Seq.{take-suc}
use Rattle.pip_base.specs.declared.types.Plan.{Plan}
use Rattle.pip_model.proofs.OnLists.Acts.{after-append}
use Rattle.pip_model.specs.Acts.{Act, Makes, after_acts, events_made}
use Rattle.pip_model.specs.Due.{is_due}
use Rattle.pip_model.specs.Events as E
use Rattle.pip_model.specs.Run.{raises}
use Rattle.pip_model.specs.Work.{events_work}
use Rattle.pip_model.specs.Worlds.{World}
use Rattle.pip_cpu.proofs.Working.{work_append}

raised_or : (b : Bool) (a : Act) (xs ys : List Act)
    → (if b then a ∷ (xs ++ ys) else xs ++ ys) ≡ (if b then a ∷ xs else xs) ++ ys
raised_or true a xs ys = refl
raised_or false a xs ys = refl

pub raises-append : (ps qs : List Plan) (t : ℕ) → raises (ps ++ qs) t ≡ raises ps t ++ raises qs t
raises-append [] qs t = refl
raises-append (p ∷ ps) qs t =
    ap (λ k. if is_due p t then Makes (E.Raise p.line) ∷ k else k) (raises-append ps qs t)
    ∙ raised_or (is_due p t) (Makes (E.Raise p.line)) (raises ps t) (raises qs t)

-- the first i + 1 plans: the first i and one more
pub raises-take : (ps : List Plan) (p : Plan) (i t : ℕ) → i < length ps → p ≡ get_or ps i p
    → raises (take (i + 1) ps) t ≡ raises (take i ps) t ++ raises (p ∷ []) t
raises-take ps p i t inside at =
    let one : i + 1 ≡ suc i = omega arith in
    ap (λ n. raises (take n ps) t) one ∙ ap (λ k. raises k t)
    (take-suc ps i p inside ∙ ap (λ q. take i ps ++ q ∷ []) (sym at)) ∙ raises-append (take i ps) (p ∷ []) t

-- in no more steps than the first i + 1 may take
pub raised_within : (w : World) (ps : List Plan) (p : Plan) (i t : ℕ) → i < length ps → p ≡ get_or ps i p
    → (before between after : ℕ) → between ≤ before + events_work w (events_made (raises (take i ps) t))
    → after ≤ between + events_work (after_acts w (raises (take i ps) t)) (events_made (raises (p ∷ []) t))
    → after ≤ before + events_work w (events_made (raises (take (i + 1) ps) t))
raised_within w ps p i t inside at before between after so one =
    let same = ap (λ k. events_work w (events_made k)) (raises-take ps p i t inside at) in
    let both = work_append w (raises (take i ps) t) (raises (p ∷ []) t) in
    omega arith

-- a machine that stands for the world after i raises comes after one more for that after i + 1
pub raised_one : (S T : World → Type 0) (w : World) (ps : List Plan) (p : Plan) (i t : ℕ) → i < length ps
    → p ≡ get_or ps i p
    → S (after_acts w (raises (take i ps) t)) → ((v : World) → S v → T (after_acts v (raises (p ∷ []) t)))
    → T (after_acts w (raises (take (i + 1) ps) t))
raised_one S T w ps p i t inside at s f =
    subst T (sym (ap (after_acts w) (raises-take ps p i t inside at)
    ∙ after-append w (raises (take i ps) t) (raises (p ∷ []) t))) (f _ s)
