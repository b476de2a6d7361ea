-- What running a line does, from how it was read and answered.
use Rattle.std.proofs.Common.{◌≡◌, ℕ, ◌≤◌, ◌++◌, Option, None, Some, List, [], length, refl, sym, ap, ◌∙◌, subst}
use Rattle.std.proofs.Common.{replicate}
use Rattle.std.specs.Prelude.{codes, decimal, Result, Ok, Err, MatchResult}
use Rattle.std.specs.Result.{IsErrAnd}
use Rattle.std.proofs.lemmas.List.{length-replicate}
use Rattle.pip_io.proofs.Taken.{Appends-nil, Keeps-refl}
use Rattle.pip_base.specs.Memory.{Memory, zeros}
use Rattle.pip_io.specs.Taken.{Taken, Appends, AppendsPart}
use Rattle.pip_model.specs.Boot.{boot_tree, zero_words}
use Rattle.pip_model.specs.Booted.{HasBooted, IsBooted}
use Rattle.pip_model.specs.Grammar.{line_meaning}
use Rattle.pip_model.specs.Layout.{LaysOut}
use Rattle.pip_model.specs.Script.{Verdict, quiet, says, bad, verdict_in}
use Rattle.pip_model.specs.Text.{cpus_of, judge, line_text, said_text, verdict_or_bad}
use Rattle.pip_model.specs.Worlds.{World, boot_world}
use Rattle.pip_model.specs.declared.script.Said.{Said}
use Rattle.pip_model.specs.declared.script.ScriptLine.{ScriptLine}
use Rattle.pip_model.specs.declared.script.ScriptLine.TheVariants as L
use Rattle.pip_model.proofs.Trees.Boot.{zeros_small}
use Rattle.pip_script.specs.Replies.{RepliesBy, RepliesIn, RepliesTo}
use Rattle.pip_switch.specs.Standing.{StandsAs, State}
use Rattle.pip_command_contracts.specs.Machines.{StandsIfAny}
use Rattle.pip_commands.specs.Runs.{IsCutShort, LeadsBy, OfSome, Runs, RunsIn, Stopped}
use Rattle.pip_commands.specs.declared.commands.script.line.ScriptLineError.{ScriptLineError}
use Rattle.pip_commands.specs.declared.commands.script.line.ScriptLineError.TheVariants.{Bad, Write, Memory as NoMemory}

-- a failed write stops a line
pub write_stops : {A : Type 0} (r : Result A ScriptLineError) (F : A → Type 0) (G : ScriptLineError → Type 0)
    → IsErrAnd r (λ e. e ≡ Write)
    → G Write → MatchResult r F G
write_stops (Ok a) F G is h = absurd is
write_stops (Err e) F G is h = subst G (sym is) h

-- and so does want of memory
pub memory_stops : {A : Type 0} (r : Result A ScriptLineError) (F : A → Type 0) (G : ScriptLineError → Type 0)
    → IsErrAnd r (λ e. e ≡ NoMemory) → G NoMemory → MatchResult r F G
memory_stops (Ok a) F G is h = absurd is
memory_stops (Err e) F G is h = subst G (sym is) h

-- a blank line does nothing
pub runs_blank : (v : Option World) (line : List ℕ) (before : Taken) (machine : Option State) → StandsIfAny machine v
    → ((cpus : ℕ) → line_meaning cpus line ≡ Some L.Blank) → Runs v line before before machine
runs_blank v line before machine stands is = record {
  text = [];
  world = v;
  leads = subst (λ m. LeadsBy (verdict_or_bad v m) v [] v) (sym (is (cpus_of v))) (blank_leads v);
  wrote = Appends-nil before;
  stands = stands;
}
  where
    blank_leads : (v : Option World) → LeadsBy (verdict_or_bad v (Some L.Blank)) v [] v
    blank_leads None = (refl, refl)
    blank_leads (Some w) = (refl, refl)

-- ---- before there is a world

pub first_memory : (line : List ℕ) (before : Taken) (n c : ℕ) → line_meaning 0 line ≡ Some (L.Boot n c)
    → Stopped NoMemory None line before before
first_memory line before n c is = (refl, record { frames = n; cpus = c; meaning = is }, Keeps-refl before)

-- zeros in the root's pages are words
pub is_booted : (m : Memory) (n : ℕ) → 16 ≤ n → n ≤ 4096 → LaysOut (boot_tree n) m → IsBooted n (λ g. zero_words) m
is_booted m n low high laid = record { least = low; most = high; small = zeros_small; laid = laid }

-- frames that held zeros were made those of the boot tree
pub boots_zeros : (old m : Memory) (n : ℕ) → old ≡ replicate n (zeros 1024) → LaysOut (boot_tree (length old)) m
    → 16 ≤ n → n ≤ 4096 → IsBooted n (λ g. zero_words) m
boots_zeros old m n was laid low high =
    is_booted m n low high (subst (λ k. LaysOut (boot_tree k) m) (ap length was ∙ length-replicate n (zeros 1024)) laid)

pub has_booted : (m : Memory) (n : ℕ) → 16 ≤ n → n ≤ 4096 → LaysOut (boot_tree n) m → HasBooted m
has_booted m n low high laid = record { frames = n; words = λ g. zero_words; booted = is_booted m n low high laid }

module _ (line : List ℕ) (before after : Taken) (n c : ℕ) (is : line_meaning 0 line ≡ Some (L.Boot n c)) where
  abbrev boot_text : List ℕ
  boot_text = line_text (codes "boot " ++ decimal n ++ codes " " ++ decimal c)

  pub first_boot : (machine : State) → StandsAs machine (boot_world n c) → Appends before after boot_text
      → Runs None line before after (Some machine)
  first_boot machine stands wrote = record {
    text = boot_text;
    world = Some (boot_world n c);
    leads = subst (λ m. LeadsBy (verdict_or_bad None m) None boot_text (Some (boot_world n c))) (sym is) (refl, refl);
    wrote = wrote;
    stands = stands;
  }

  pub first_cut : AppendsPart before after boot_text → Stopped Write None line before after
  first_cut part = record { said = _; world = boot_world n c; verdict = ap (verdict_or_bad None) is; wrote = part }

-- ---- in a world that a machine of that many processors stands for

module _ (w : World) (cpus : ℕ) (line : List ℕ)
    (count : length w.cpus ≡ cpus) (before after : Taken) (stands : World → Type 0) where
  judged : (read : Option ScriptLine) → line_meaning cpus line ≡ read
      → judge (Some w) line ≡ verdict_or_bad (Some w) read
  judged read is = ap (verdict_or_bad (Some w)) (ap (λ k. line_meaning k line) count ∙ is)

  -- the answer to a line is of one in the grammar
  in_some : (read : Option ScriptLine) (said : Said) → RepliesTo w read (Some said) stands
      → (l : ScriptLine) × (read ≡ Some l) × RepliesIn w l (Some said) stands
  in_some None said h = absurd h
  in_some (Some l) said h = (l, refl, h)

  pub in_none : RepliesTo w (line_meaning cpus line) None stands → Stopped Bad (Some w) line before before
  in_none h = by (line_meaning cpus line) refl h
    where
      by : (read : Option ScriptLine) → line_meaning cpus line ≡ read → RepliesTo w read None stands
          → Stopped Bad (Some w) line before before
      by None e k = (judged None e, Keeps-refl before)
      by (Some l) e k = absurd k

  module _ (said : Said) (replies : RepliesTo w (line_meaning cpus line) (Some said) stands) where
    pub in_said : Appends before after (line_text (said_text said)) → RunsIn w line before after stands
    in_said wrote = let x = in_some (line_meaning cpus line) said replies in
        by x.0 (verdict_in w x.0) (judged (Some x.0) x.1) x.2
      where
        by : (l : ScriptLine) (x : Verdict) → judge (Some w) line ≡ x → RepliesBy x w (Some said) stands
            → RunsIn w line before after stands
        by l quiet e k = absurd k
        by l bad e k = absurd k
        by l (says s v) e k = record {
          text = line_text (said_text said);
          world = Some v;
          leads = subst (λ x. LeadsBy x (Some w) (line_text (said_text said)) (Some v)) (sym e)
              (ap (λ t. line_text (said_text t)) k.0, refl);
          wrote = wrote;
          stands = k.1;
        }

    pub in_cut : AppendsPart before after (line_text (said_text said)) → Stopped Write (Some w) line before after
    in_cut part = let x = in_some (line_meaning cpus line) said replies in
        by x.0 (verdict_in w x.0) (judged (Some x.0) x.1) x.2
      where
        by : (l : ScriptLine) (x : Verdict) → judge (Some w) line ≡ x → RepliesBy x w (Some said) stands
            → IsCutShort (Some w) line before after
        by l quiet e k = absurd k
        by l bad e k = absurd k
        by l (says s v) e k =
            record { said = said; world = v; verdict = e ∙ ap (λ t. says t v) (sym k.0); wrote = part }
