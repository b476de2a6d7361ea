-- What a report shows, from how it was written.
use Rattle.std.proofs.Common.{◌≡◌, ℕ, List, ◌++◌, length, ap, ◌∙◌, subst}
use Rattle.std.specs.Prelude.{◌≢◌, [], Result, Ok, Err, IsErr, IsOk, OnErr}
use Rattle.pip_io.proofs.Taken.{Appends-trans, cut_sent, part_sent, Appends-kept}
use Rattle.pip_base.specs.declared.types.Plan.{Plan}
use Rattle.pip_cpu.specs.Made.{MadeOrCut}
use Rattle.pip_io.proofs.Piecewise.{part_after}
use Rattle.pip_io.specs.Taken.{Taken, Appends, Keeps, Wrote}
use Rattle.pip_model.specs.Acts.{after_acts}
use Rattle.pip_model.specs.Dump.{frames_text, tree_text}
use Rattle.pip_model.specs.Images.{Image}
use Rattle.pip_model.specs.Partitions.{HasPartition, IsHeld}
use Rattle.pip_model.specs.Run.{end_line, trace_image_line, image_world, run, steps, trace}
use Rattle.pip_model.specs.RunTexts.{stepped_world}
use Rattle.pip_model.specs.Tree.{Tree}
use Rattle.pip_model.specs.Worlds.{World}
use Rattle.pip_switch.specs.Standing.{StandsAs, State}
use Rattle.pip_switch.proofs.Running.{root_held}
use Rattle.pip_children.proofs.Cuts.{cut_part}
use Rattle.pip_commands.specs.Shown.{ShowsOut, ShowsReport}
use Rattle.pip_command_contracts.specs.Loading.{Begins}
use Rattle.pip_commands.specs.declared.commands.run.report.Report.{Report}
use Rattle.pip_commands.specs.declared.commands.run.report.Report.TheVariants as R

module _ (i : Image) (frames pages : ℕ) (plans : List Plan)
    (p q : State) (count seed : ℕ) (b : Begins i frames pages plans p) where
  abbrev StandsAt : World → Type 0
  StandsAt = StandsAs q

  -- ---- the trace

  same_acts : trace (image_world i) (trace_image_line frames (length p.cpus) (length plans) pages) plans seed
      (length p.cpus) count ≡ run i count seed
  same_acts =
      ap (λ n. trace (image_world i) (trace_image_line n (length p.cpus) (length plans) pages) plans seed
      (length p.cpus) count) b.frames
      ∙ ap (λ c. trace (image_world i) (trace_image_line i.frames c (length plans) pages) plans seed c count) b.cpus
      ∙ ap (λ ps. trace (image_world i) (trace_image_line i.frames i.cpus (length ps) pages) ps seed i.cpus count)
      b.plans
      ∙ ap (λ k. trace (image_world i) (trace_image_line i.frames i.cpus (length i.plans) k) i.plans seed i.cpus count)
      b.pages

  run_shows : {T E : Type 0} (r : Result T E) (old new : Taken)
      → MadeOrCut r StandsAt old new (image_world i) (run i count seed) → ShowsReport r R.Trace i count seed old new q
  run_shows (Ok v) old new m = (m.text, m.world)
  run_shows (Err e) old new m = cut_part StandsAt old new (image_world i) (run i count seed) m

  pub trace_shows : {T E : Type 0} (r : Result T E) (old new : Taken)
      → MadeOrCut r StandsAt old new (image_world i) (trace (image_world i)
      (trace_image_line frames (length p.cpus) (length plans) pages) plans seed (length p.cpus) count)
      → ShowsReport r R.Trace i count seed old new q
  trace_shows r old new m = run_shows r old new (subst (MadeOrCut r StandsAt old new (image_world i)) same_acts m)

  -- ---- the tree and the frames

  -- the steps were made
  pub passed : ((w : World) → StandsAs p w → StandsAt (after_acts w (steps w plans seed (length p.cpus) count 0)))
      → StandsAt (stepped_world i count seed)
  passed makes =
      subst (λ c. StandsAt (after_acts (image_world i) (steps (image_world i) i.plans seed c count 0))) b.cpus
      (subst (λ ps. StandsAt (after_acts (image_world i) (steps (image_world i) ps seed (length p.cpus) count 0)))
      b.plans (makes (image_world i) b.stands))

-- the tree of a world for which a machine stands is in its frames, and the root is there
pub held : (s : State) (w : World) → StandsAs s w → IsHeld w.tree s.memory
held s w stands = (stands.bare.sound.tree, stands.bare.shows.laid)

pub has_root : (s : State) (w : World) → StandsAs s w → HasPartition s.memory 1
has_root s w stands = root_held s.memory s.cpus (record { world = w; stands = stands.bare })

-- a text, and then its last line
pub ended_text : {T E : Type 0} (r : Result T E) (old mid new : Taken) (text line : List ℕ) → Appends old mid text
    → Wrote r mid new line → Wrote r old new (text ++ line)
ended_text (Ok v) old mid new text line before after = Appends-trans old mid new text line before after
ended_text (Err e) old mid new text line before after = part_after old mid new text line before after

-- the tree was shown, or the frames
module _ (i : Image) (q : State) (count seed : ℕ) (stands : StandsAs q (stepped_world i count seed)) {T E : Type 0}
    (r : Result T E) (old new : Taken) where
  pub tree_shows : ((t : Tree) → IsHeld t q.memory → Wrote r old new (tree_text t ++ end_line count))
      → ShowsReport r R.Tree i count seed old new q
  tree_shows wrote = go r (wrote (stepped_world i count seed).tree (held q (stepped_world i count seed) stands))
    where
      go : {T E : Type 0} (r : Result T E) → Wrote r old new
          (tree_text (stepped_world i count seed).tree ++ end_line count) → ShowsReport r R.Tree i count seed old new q
      go (Ok v) h = (h, stands)
      go (Err e) h = h

  pub frames_shows : ((t : Tree) → IsHeld t q.memory → Wrote r old new (frames_text t ++ end_line count))
      → ShowsReport r R.Frames i count seed old new q
  frames_shows wrote = go r (wrote (stepped_world i count seed).tree (held q (stepped_world i count seed) stands))
    where
      go : {T E : Type 0} (r : Result T E) → Wrote r old new
          (frames_text (stepped_world i count seed).tree ++ end_line count) → ShowsReport r R.Frames i count seed old
          new q
      go (Ok v) h = (h, stands)
      go (Err e) h = h

-- ---- a text that was taken, and then a settling

-- it was not taken whole
pub shows_cut : {T E A B : Type 0} (r : Result T E) (r' : Result A B)
    (x : Report) (i : Image) (count seed : ℕ) (old new : Taken) (q : State) → IsErr r → IsErr r'
    → ShowsReport r x i count seed old new q → ShowsOut r' x i count seed old new q
shows_cut (Ok v) r' x i count seed old new q err err' h = absurd (cc)
shows_cut (Err e) (Ok v) x i count seed old new q err err' h = absurd (cc)
shows_cut (Err e) (Err f) x i count seed old new q err err' h = part_sent _ _ _ h

-- it was
pub shows_settled : {T E A B : Type 0} (r : Result T E) (r' : Result A B)
    (x : Report) (i : Image) (count seed : ℕ) (old mid new : Taken) (q : State) → IsOk r
    → ShowsReport r x i count seed old mid q → Keeps mid new → OnErr r' (new.buffered ≢ [])
    → ShowsOut r' x i count seed old new q
shows_settled (Ok v) (Ok w) x i count seed old mid new q ok h kept some = (Appends-kept old mid new _ h.0 kept, h.1)
shows_settled (Ok v) (Err f) x i count seed old mid new q ok h kept some = cut_sent old mid new _ h.0 kept some
shows_settled (Err e) r' x i count seed old mid new q ok h kept some = absurd (cc)
