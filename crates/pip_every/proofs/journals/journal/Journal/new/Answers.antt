-- At first all frames are opened, with all their parts.
use Rattle.std.proofs.Common.{ap, arith, length}
use Rattle.pip_every.specs.Opening.{not_rewound}
use Rattle.pip_every.proofs.Closing.{no_part_shut, none_above, none_shut}
use Rattle.pip_every.proofs.journals.journal.Journal.new.Goals as goal

pub invariant_of-result-clause-tracks : goal.invariant_of-result-clause-tracks
invariant_of-result-clause-tracks g c =
    ∣ none_shut _ _ _ _ (c.in_ok-opened.ensures.items_if_clones_equal (λ y h. h)) ∣₁

pub invariant_of-result-clause-tracks_parts : goal.invariant_of-result-clause-tracks_parts
invariant_of-result-clause-tracks_parts g c = ∣ no_part_shut _ _ _ _ c.in_ok-parts.ensures ∣₁

pub invariant_of-result-clause-rewound : goal.invariant_of-result-clause-rewound
invariant_of-result-clause-rewound g c =
    not_rewound c.in_ok-base.base.block.frames c.args.frames.block.frames

pub invariant_of-result-clause-below : goal.invariant_of-result-clause-below
invariant_of-result-clause-below g c =
    let frames = c.count-count.ensures in
    let first = c.in_ok-base.ensures in
    ∣ none_above c.in_ok-base.base.block.frames c.args.frames.block.frames c.count-count.result
    (omega (arith, ap length first, ap length c.requires.first, c.requires.count, frames)) (omega (arith, frames)) ∣₁
