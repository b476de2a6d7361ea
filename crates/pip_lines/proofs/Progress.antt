-- A run on its way: what is made so far, and what is left.
use Rattle.std.specs.Prelude.{◌≡◌, refl, ℕ, suc, ◌+◌, ◌-◌, ◌<◌, List, [], ◌∷◌, ◌++◌, length, ◌≢◌}
use Rattle.pip_io.specs.Taken.{Taken, Appends}
use Rattle.pip_io.proofs.Taken.{Appends-trans, Appends-nil}
use Rattle.std.proofs.Common.{subst, sym, ap, ◌∙◌, append-nil, append_assoc, arith}
use Rattle.std.proofs.Props.{props}
use Rattle.std.proofs.Math.Logic.{∥∥₁_elim}
use Rattle.pip_base.specs.declared.types.Plan.{Plan}
use Rattle.pip_cpu.specs.Made.{Made, Cut}
use Rattle.pip_model.proofs.OnLists.Acts.{after-append, text-append, text-raises}
use Rattle.pip_model.specs.Acts.{Act, Writes, after_acts, text_of}
use Rattle.pip_model.specs.Run.{raises, schedule, step, steps}
use Rattle.pip_model.specs.Turn.{turn}
use Rattle.pip_model.specs.Port.{StandsForSome}
use Rattle.pip_model.specs.Worlds.{IsSoundWorld, World}

-- some acts are made and their lines written, and those that are left start at the world that stands
pub record Progress (stands : World → Type 0) (old new : Taken) (w : World) (all : List Act)
    (rest : World → List Act) : Type 0 where
  pub world : World
  pub holds : stands world
  pub front : List Act
  pub whole : front ++ rest world ≡ all
  pub after : after_acts w front ≡ world
  pub text : Appends old new (text_of front)

-- nothing is done yet
pub progress_begun : (S : World → Type 0) (old : Taken) (w : World) (rest : World → List Act) → S w → Appends old old []
    → Progress S old old w (rest w) rest
progress_begun S old w rest s a = record { world = w; holds = s; front = []; whole = refl; after = refl; text = a }

-- acts without a line were made, and then more acts
pub progress_on : (S U : World → Type 0) (old mid new : Taken) (w : World) (all : List Act) (quiet : List Act)
    (more : World → List Act) (rest : World → List Act)
    → (c : Progress S old mid w all
    (λ v. (quiet ++ more (after_acts v quiet)) ++ rest (after_acts v (quiet ++ more (after_acts v quiet)))))
    → text_of quiet ≡ [] → Made U mid new (after_acts c.world quiet) (more (after_acts c.world quiet))
    → Progress U old new w all rest
progress_on S U old mid new w all quiet more rest c q m =
    let acts = quiet ++ more (after_acts c.world quiet) in
    record {
      world = after_acts c.world acts;
      holds = subst U (sym (after-append c.world quiet (more (after_acts c.world quiet)))) m.world;
      front = c.front ++ acts;
      whole = append_assoc c.front acts (rest (after_acts c.world acts)) ∙ c.whole;
      after = after-append w c.front acts ∙ ap (λ v. after_acts v acts) c.after;
      text = subst (Appends old new) (sym (text-append c.front acts ∙ ap (λ k. text_of c.front ++ k) (text-append quiet
          (more (after_acts c.world quiet)) ∙ ap (λ k. k ++ text_of (more (after_acts c.world quiet))) q)))
          (Appends-trans old mid new (text_of c.front) (text_of (more (after_acts c.world quiet))) c.text m.text);
    }

-- all is done
pub progress_end : (S : World → Type 0) (old new : Taken) (w : World) (all : List Act)
    → Progress S old new w all (λ v. []) → Made S old new w all
progress_end S old new w all c =
    let same = sym (append-nil c.front) ∙ c.whole in
    record {
      world = subst S (sym c.after ∙ ap (after_acts w) same) c.holds;
      text = subst (λ k. Appends old new (text_of k)) same c.text;
    }

-- steps were made, and the further acts were cut at a line
pub progress_cut : (S U : World → Type 0) (old mid new : Taken) (w : World) (all : List Act) (quiet : List Act)
    (more : World → List Act) (rest : World → List Act)
    → (c : Progress S old mid w all
    (λ v. (quiet ++ more (after_acts v quiet)) ++ rest (after_acts v (quiet ++ more (after_acts v quiet)))))
    → text_of quiet ≡ [] → Cut U mid new (after_acts c.world quiet) (more (after_acts c.world quiet))
    → Cut U old new w all
progress_cut S U old mid new w all quiet more rest c q m =
    let acts = more (after_acts c.world quiet) in
    let front = c.front ++ (quiet ++ m.front) in
    let tail = rest (after_acts c.world (quiet ++ acts)) in
    record {
      front = front;
      line = m.line;
      rest = m.rest ++ tail;
      whole =
          append_assoc c.front (quiet ++ m.front) (Writes m.line ∷ (m.rest ++ tail))
          ∙ ap (λ k. c.front ++ k) (append_assoc quiet m.front (Writes m.line ∷ (m.rest ++ tail))
          ∙ ap (λ k. quiet ++ k) (sym (append_assoc m.front (Writes m.line ∷ m.rest) tail)
          ∙ ap (λ k. k ++ tail) m.whole)
          ∙ sym (append_assoc quiet acts tail))
          ∙ c.whole;
      world = subst U (sym (after-append w c.front (quiet ++ m.front)
          ∙ ap (λ v. after_acts v (quiet ++ m.front)) c.after ∙ after-append c.world quiet m.front)) m.world;
      part = m.part;
      missing = m.missing;
      split = m.split;
      some = m.some;
      text =
          let joined = text-append c.front (quiet ++ m.front)
          ∙ ap (λ k. text_of c.front ++ k) (text-append quiet m.front ∙ ap (λ k. k ++ text_of m.front) q) in
          subst (Appends old new)
          (sym (ap (λ k. k ++ m.part) joined ∙ append_assoc (text_of c.front) (text_of m.front) m.part))
          (Appends-trans old mid new (text_of c.front) (text_of m.front ++ m.part) c.text m.text);
    }

-- one more step of a run: step t, at which the schedule gives this processor
module _ (old mid new : Taken) (w : World) (all : List Act) (ps : List Plan)
    (seed c count t cpu : ℕ) (inside : t < count) (drawn : cpu ≡ schedule seed c t) where
  unfold_one : (S : World → Type 0)
      → Progress S old mid w all (λ v. steps v ps seed c (count - t) t)
      → Progress S old mid w all (λ v. step v ps (schedule seed c t) t
      ++ steps (after_acts v (step v ps (schedule seed c t) t)) ps seed c (count - (t + 1)) (t + 1))
  unfold_one S k =
      let e : count - t ≡ suc (count - (t + 1)) = omega arith in
      subst (λ n. Progress S old mid w all (λ v. steps v ps seed c n t)) e k

  pub run_on : (S T U : World → Type 0)
      → Progress S old mid w all (λ v. steps v ps seed c (count - t) t)
      → ((v : World) → S v → T (after_acts v (raises ps t))) → ((v : World) → T v → Made U mid new v (turn v cpu t))
      → Progress U old new w all (λ v. steps v ps seed c (count - (t + 1)) (t + 1))
  run_on S T U k raise turned =
      let one = unfold_one S k in
      let made =
      subst (λ p. (v : World) → T v → Made U mid new v (turn v p t)) drawn turned _ (raise one.world one.holds) in
      progress_on S U old mid new w all (raises ps t) (λ v. turn v (schedule seed c t) t)
      (λ v. steps v ps seed c (count - (t + 1)) (t + 1)) one (text-raises ps t) made

  pub run_cut : (S T U : World → Type 0)
      → Progress S old mid w all (λ v. steps v ps seed c (count - t) t)
      → ((v : World) → S v → T (after_acts v (raises ps t))) → ((v : World) → T v → Cut U mid new v (turn v cpu t))
      → Cut U old new w all
  run_cut S T U k raise turned =
      let one = unfold_one S k in
      let cut =
      subst (λ p. (v : World) → T v → Cut U mid new v (turn v p t)) drawn turned _ (raise one.world one.holds) in
      progress_cut S U old mid new w all (raises ps t) (λ v. turn v (schedule seed c t) t)
      (λ v. steps v ps seed c (count - (t + 1)) (t + 1)) one (text-raises ps t) cut

-- no step is made yet
pub begun : (S : World → Type 0) (old : Taken) (w : World) (ps : List Plan) (seed c count : ℕ) → S w
    → Progress S old old w (steps w ps seed c count 0) (λ v. steps v ps seed c (count - 0) 0)
begun S old w ps seed c count h =
    let zero_off : count ≡ count - 0 = omega arith in
    subst (λ n. Progress S old old w (steps w ps seed c count 0) (λ v. steps v ps seed c n 0)) zero_off
    (progress_begun S old w (λ v. steps v ps seed c count 0) h (Appends-nil old))

-- a machine has a processor
pub has_cpus : (S : World → Type 0) (n : ℕ) → StandsForSome S
    → ((w : World) → S w → IsSoundWorld w × (length w.cpus ≡ n)) → n ≢ 0
has_cpus S n some sound e = ∥∥₁_elim some (hlevel props) (λ (k : (w : World) × S w).
    let s = sound k.0 k.1 in omega (arith, s.0.at_least_one, s.1, e))
