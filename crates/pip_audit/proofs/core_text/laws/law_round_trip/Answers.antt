use Rattle.std.proofs.Common.{◌^◌, ◌<◌, length, refl, subst, sym}
use Rattle.pip_base.specs.Memory.{word_at}
use Rattle.pip_model.specs.Layout.{layout}
use Rattle.pip_audit.proofs.CanonicalRun.{only_texts}
use Rattle.pip_audit.proofs.RoundTrip.{all_frames}
use Rattle.pip_audit.proofs.core_text.laws.law_round_trip.Goals as goal

pub returns : goal.returns
returns c = record {
  back = record {
    memory = λ m count shape small most few.
        all_frames (length m) (word_at m) 128 refl m shape refl (λ f i a b. refl) small most count few;
    tree = λ t m count lays small most few.
        all_frames t.frames (layout t) 128 refl m lays.shape lays.count lays.word
        (λ f i a b. subst (λ w. w < 2 ^ 32) (lays.word f i a b) (small f i (subst (λ n. f < n) (sym lays.count) a) b))
        most count few;
  };
  only = λ n bytes m h. let w = only_texts n 128 refl bytes m h in
      record { shape = w.shape; count = w.count; small = w.small; last = w.last; few = w.few; is = w.is };
}
