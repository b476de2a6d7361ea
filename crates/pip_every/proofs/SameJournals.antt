-- A journal is its fields: what holds of them has one proof.
use Rattle.std.proofs.Common.{◌≡◌, length}
use mathlib.Core.HLevel.{is_prop→PathP}
use Rattle.std.proofs.Math.Nat.{ℕ_set}
use Rattle.std.proofs.Math.Logic.{∥∥₁_prop}
use Rattle.std.specs.Coded.{coded_list, coded_ℕ}
use base.Stored.{Coded-set}
use Rattle.pip_every.specs.Changes.{IsRewritten}
use Rattle.pip_every.specs.Tracks.{StaysFrom, IsRewound, Tracks, TracksParts}
use Rattle.pip_every.specs.declared.journals.journal.Journal.{Journal}

pub same_journals : {F : Type 0} {d : _} (a b : Journal F d) → a.frames ≡ b.frames → a.first ≡ b.first
    → a.base ≡ b.base → a.words ≡ b.words → a.opened ≡ b.opened → a.parts ≡ b.parts → a.still ≡ b.still → a.top ≡ b.top
    → a.of ≡ b.of → a ≡ b
same_journals {F} {d} a b frames first base words opened parts still top of = λ i. record {
  frames = frames i;
  first = first i;
  base = base i;
  words = words i;
  opened = opened i;
  parts = parts i;
  still = still i;
  top = top i;
  of = of i;
  first_is = is_prop→PathP (λ j. (first j).block.frames ≡ d.words)
      (λ j. Coded-set (coded_list (coded_list coded_ℕ)) (first j).block.frames d.words) a.first_is b.first_is i;
  count = is_prop→PathP (λ j. length (frames j).block.frames ≡ length (first j).block.frames)
      (λ j. ℕ_set (length (frames j).block.frames) (length (first j).block.frames)) a.count b.count i;
  base_count = is_prop→PathP (λ j. length (base j).block.frames ≡ length (first j).block.frames)
      (λ j. ℕ_set (length (base j).block.frames) (length (first j).block.frames)) a.base_count b.base_count i;
  kept = is_prop→PathP (λ j. ∥ IsRewritten (first j).block.frames (base j).block.frames (words j).items ∥₁)
      (λ j. ∥∥₁_prop) a.kept b.kept i;
  each = is_prop→PathP (λ j. length (opened j).items ≡ length (first j).block.frames)
      (λ j. ℕ_set (length (opened j).items) (length (first j).block.frames)) a.each b.each i;
  rows = is_prop→PathP (λ j. length (parts j).items ≡ length (first j).block.frames)
      (λ j. ℕ_set (length (parts j).items) (length (first j).block.frames)) a.rows b.rows i;
  tracks = is_prop→PathP (λ j. ∥ Tracks (base j).block.frames (frames j).block.frames (opened j).items ∥₁)
      (λ j. ∥∥₁_prop) a.tracks b.tracks i;
  tracks_parts = is_prop→PathP (λ j. ∥ TracksParts (base j).block.frames (frames j).block.frames (parts j).items ∥₁)
      (λ j. ∥∥₁_prop) a.tracks_parts b.tracks_parts i;
  below = is_prop→PathP (λ j. ∥ StaysFrom (base j).block.frames (frames j).block.frames (top j) ∥₁)
      (λ j. ∥∥₁_prop) a.below b.below i;
  rewound = is_prop→PathP
      (λ j. ∥ IsRewound (base j).block.frames (frames j).block.frames (still j) ∥₁)
      (λ j. ∥∥₁_prop) a.rewound b.rewound i;
}
