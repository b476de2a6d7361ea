-- Where nothing was written the frames are as they were taken back.
use Rattle.std.proofs.Common.{◌∙◌, sym}
use Rattle.std.proofs.lemmas.Bool.Decides.{Decides-eqb}
use Rattle.std.proofs.lemmas.Slice.Eq.{slice_eq-Decides}
use Rattle.pip_every.proofs.Writing.{was_rewound}
use Rattle.pip_every.proofs.journals.journal.Journal.is_at.Goals as goal

pub returns-then-self : goal.returns-then-self
returns-then-self g c same =
    let s = c.args.self.now in
    let words = (slice_eq-Decides Decides-eqb c.as_slice.result.now c.args.words.now c.eq.result c.eq.ensures).0 same in
    was_rewound g.F.First.words s.first.block.frames s.base.block.frames s.frames.block.frames s.words.items
    c.args.words.now s.still s.first_is s.kept s.rewound c.if-self.true (sym c.as_slice.ensures.value ∙ words)
