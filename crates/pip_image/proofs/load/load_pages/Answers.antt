use Rattle.std.proofs.Common.{arith, ◌≡◌, ◌∙◌, subst, true}
use Rattle.pip_model.specs.Images.{has_row}
use Rattle.pip_image.specs.Coming.{coming}
use Rattle.pip_io.proofs.Pacing.{paced_after}
use Rattle.pip_image.specs.Pacing.{IsFaultless, IsPartless}
use Rattle.pip_image.proofs.Steps.{faultless_after}
use Rattle.pip_image.proofs.Loaded.{loads_page, loads_refused}
use Rattle.pip_image.proofs.load.load_pages.Goals as goal

pub loop-words-preserved : goal.loop-words-preserved
loop-words-preserved g c =
    let was = c.loop-words.invariant in
    let now = c.in-Ok.ensures in
    let next = now.next in
    let frames = was.frames in
    let least = c.loop-words.reader.place.least in
    let most = c.loop-words.reader.place.most in
    record {
      name = now.same_source ∙ was.name;
      sink = now.sink ∙ was.sink;
      none = now.plans;
      frames = now.frames ∙ was.frames;
      is_open = now.is_open;
      no_faults = now.no_faults ∙ was.no_faults;
      count = c.load_page.ensures.count ∙ was.count;
      kept = c.load_page.ensures.count ∙ was.kept;
      done = rw (← next.seen) at (loads_page c.args.head.now.frames (coming c.args.reader.now.place) (coming
          c.loop-words.reader.place) (coming c.next_page.new.self.place) _ _ _ c.loop-words.reader.place.seen.items
          (g.M.Frames.memory c.loop-words.mem) (g.M.Frames.memory c.load_page.new.mem) (record {
            vpage = c.in-Ok.vpage;
            words = c.next_page.new.words;
          }) (omega (arith, frames, least)) (omega (arith, frames, most)) (subst (λ n.
          has_row n c.in-Ok.vpage ≡ true) was.frames next.row) next.unseen c.load_page.ensures.small
          c.load_page.ensures.lays was.done now.reads);
    }

pub returns-in-Err-clause-loaded : goal.returns-in-Err-clause-loaded
returns-in-Err-clause-loaded g c =
    let was = c.loop-words.invariant in
    loads_refused c.args.head.now.frames (coming c.args.reader.now.place) (coming c.loop-words.reader.place) _ _ _
    c.loop-words.reader.place.seen.items _ _ _ _ c.in-Err.error was.no_faults was.done c.in-Err.ensures.reads

pub next_page-requires-clause-paced : goal.next_page-requires-clause-paced
next_page-requires-clause-paced g c =
    let was = c.loop-words.invariant in
    let took = was.done.took in
    let paced = paced_after g.S.Source.allows (IsFaultless (coming c.args.reader.now.place))
    (IsPartless (coming c.loop-words.reader.place)) _ _ _ _ (g.K.Sink.history c.args.joint.now.sink.now) took.bytes
    was.no_faults took.taken
    (λ bytes is. faultless_after (coming c.args.reader.now.place) (coming c.loop-words.reader.place) _ _ _ took bytes
    is.1) c.requires.paced in
    rw was.sink paced
