-- Frames that are at these words already stay.
use Rattle.std.proofs.Common.{◌∙◌, refl, sym}
use Rattle.std.proofs.lemmas.Bool.{not-false}
use Rattle.std.proofs.lemmas.Bool.Decides.{Decides-eqb}
use Rattle.std.proofs.lemmas.Slice.Eq.{slice_eq-Decides}
use Rattle.pip_every.proofs.Writing.{is_rewound}
use Rattle.pip_every.proofs.journals.journal.JournalRewind.rewind.Goals as goal

pub returns-else-ne : goal.returns-else-ne
returns-else-ne g c =
    let s = c.close.new.self in
    let words = (slice_eq-Decides Decides-eqb c.as_slice.result.now c.args.words.now _ refl).0
    (not-false _ (sym c.if-ne.ensures)) in
    is_rewound g.F.First.words s.first.block.frames s.base.block.frames s.frames.block.frames s.words.items
    c.args.words.now s.first_is s.kept c.close.ensures (sym c.as_slice.ensures.value ∙ words)
