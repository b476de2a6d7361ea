-- The first word that differs, in a frame and among frames.
use Rattle.std.proofs.Common.{◌≡◌, ℕ, zero, suc, ◌+◌, ◌<◌, ◌≤◌, ◌==◌, inl, inr, length, refl, sym, ap, ap₂, ◌∙◌, arith}
use Rattle.std.proofs.Common.{Option, Some, None, Bool, true, false, cond}
use Rattle.std.specs.Prelude.{nat_lt}
use Rattle.std.proofs.lemmas.Bool.Decides.{nat_tests}
use Rattle.pip_base.specs.Memory.{Memory, word_at}
use Rattle.pip_model.specs.declared.reading.Difference.{Difference}
use Rattle.pip_model.specs.Audit.{difference, difference_between, difference_from, frame_difference}
use Rattle.pip_model.specs.Layout.{layout}
use Rattle.pip_model.specs.NodeWords.{DescriptorPage, DirectoryPage, ListPage, Role as PageRole, TablePage}
use Rattle.pip_model.specs.declared.level.Level.TheVariants.{Mmu, Shadow1, Shadow2}
use Rattle.pip_model.specs.ReadOff.{first, or_first}
use Rattle.pip_model.proofs.Audit.Over.{first_hit, first_none}
use Rattle.pip_audit.specs.Comparing.{Covers, CoversPlain, CoversRole, CoversTables, GoesOn, IsDifference, differs_in}
use Rattle.pip_audit.specs.Comparing.{earlier_of, tree_in}
use Rattle.pip_audit.proofs.Loads.{first_where}

pub frame_none : (m : Memory) (want : ℕ → ℕ → ℕ) (f : ℕ)
    → ((k : ℕ) → k < 1024 → difference_between f k (word_at m f k) (want f k) ≡ None) → None ≡ frame_difference m want f
unfolding frame_difference
frame_none m want f h = sym (first_none (λ i. difference_between f i (word_at m f i) (want f i)) 0 1024
    (λ k lo hi. h k (omega (arith, hi))))

pub frame_hit : (m : Memory) (want : ℕ → ℕ → ℕ) (f i : ℕ) (d : Difference) → i < 1024
    → Some d ≡ difference_between f i (word_at m f i) (want f i)
    → ((k : ℕ) → k < i → difference_between f k (word_at m f k) (want f k) ≡ None) → Some d ≡ frame_difference m want f
unfolding frame_difference
frame_hit m want f i d below e h = sym (first_hit (λ i. difference_between f i (word_at m f i) (want f i)) 0 1024 i d
    (omega arith) (omega (arith, below)) (sym e) (λ j lo hi. h j hi))

-- ---- frames that are the same word by word

first_same : {A : Type 0} (f g : ℕ → Option A) (from n : ℕ) → ((k : ℕ) → from ≤ k → k < from + n → f k ≡ g k)
    → first f from n ≡ first g from n
unfolding first
first_same f g from zero h = refl
first_same f g from (suc n) h = ap₂ or_first (h from (omega arith) (omega arith))
    (first_same f g (from + 1) n (λ k lo hi. h k (omega (arith, lo)) (omega (arith, hi))))

pub frame_same : (m : Memory) (want other : ℕ → ℕ → ℕ) (f : ℕ) → ((i : ℕ) → i < 1024 → want f i ≡ other f i)
    → frame_difference m want f ≡ frame_difference m other f
unfolding frame_difference
frame_same m want other f h =
    first_same (λ i. difference_between f i (word_at m f i) (want f i))
    (λ i. difference_between f i (word_at m f i) (other f i)) 0 1024
    (λ k lo hi. ap (difference_between f k (word_at m f k)) (h k (omega (arith, hi))))

-- a difference names its frame
pub differs_frame : (m : Memory) (want : ℕ → ℕ → ℕ) (f : ℕ) (d : Difference) → frame_difference m want f ≡ Some d
    → d.frame ≡ f
unfolding frame_difference
differs_frame m want f d e =
    let r = first_where (λ i. difference_between f i (word_at m f i) (want f i)) 0 1024 d e in
    go (word_at m f r.0 == want f r.0) r.0 r.3
  where
    go : (b : Bool) (i : ℕ) → cond b None
        (Some (record { frame = f; index = i; found = word_at m f i; want = want f i })) ≡ Some d → d.frame ≡ f
    go true i q = cc
    go false i q = sym (of q)
      where
        of : {c : Difference} → Some c ≡ Some d → c.frame ≡ d.frame
        of q = cc

-- ---- what was found so far

never : {A : Type 0} {d : Difference} → None ≡ Some d → A
never q = cc

same : {c d : Difference} → Some c ≡ Some d → c ≡ d
same q = cc

module _ (m : Memory) where
  one_is : (f : ℕ) (b : Difference) → f < length m → Some b ≡ differs_in m f → IsDifference m (Some b)
  one_is f b below e = λ d q.
      let name : b.frame ≡ f = differs_frame m (layout (tree_in m)) f b (sym e) in
      let at : d.frame ≡ f = ap (λ (z : Difference). z.frame) (sym (same q)) ∙ name in
      (omega (arith, below, at), ap (differs_in m) at ∙ sym e ∙ q)

  pub goes_same : (found : Option Difference) → IsDifference m found → GoesOn m found found
  goes_same found is = record { is = is; stays = λ f c. c }

  pub goes_then : (a b c : Option Difference) → GoesOn m a b → GoesOn m b c → GoesOn m a c
  goes_then a b c p q = record { is = q.is; stays = λ f k. q.stays f (p.stays f k) }

  module _ (f : ℕ) (below : f < length m) where
    pub goes_earlier : (found here : Option Difference) → here ≡ differs_in m f → IsDifference m found
        → GoesOn m found (earlier_of found here)
    goes_earlier None None e is = goes_same None is
    goes_earlier None (Some b) e is =
        record { is = one_is f b below e; stays = λ g c. elim c [ inl q ↦ inl q | inr w ↦ never w.1 ] }
    goes_earlier (Some a) None e is = goes_same (Some a) is
    goes_earlier (Some a) (Some b) e is = go (nat_lt b.frame a.frame) refl
      where
        go : (z : Bool) → nat_lt b.frame a.frame ≡ z → GoesOn m (Some a) (cond z (Some b) (Some a))
        go false q = goes_same (Some a) is
        go true q = record {
          is = one_is f b below e;
          stays = λ g c. elim c [
            | inl w ↦ inl w
            | inr w ↦
                let at : a.frame ≡ w.0.frame = ap (λ (z : Difference). z.frame) (same w.1) in
                let least = w.2 in
                let less : b.frame < a.frame = grind (arith, nat_tests, q) in
                inr (b, refl, omega (arith, at, least, less))
          ];
        }

    pub covers_earlier : (found here : Option Difference) → here ≡ differs_in m f → Covers m (earlier_of found here) f
    covers_earlier None None e = inl (sym e)
    covers_earlier None (Some b) e = let name : b.frame ≡ f = differs_frame m (layout (tree_in m)) f b (sym e) in
        inr (b, refl, omega (arith, name))
    covers_earlier (Some a) None e = inl (sym e)
    covers_earlier (Some a) (Some b) e = go (nat_lt b.frame a.frame) refl
      where
        name : b.frame ≡ f
        name = differs_frame m (layout (tree_in m)) f b (sym e)

        go : (z : Bool) → nat_lt b.frame a.frame ≡ z → Covers m (cond z (Some b) (Some a)) f
        go true q = let at = name in inr (b, refl, omega (arith, at))
        go false q = let at = name in let most : a.frame ≤ b.frame = grind (arith, nat_tests, q) in
            inr (a, refl, omega (arith, at, most))

  -- when each frame is covered, it is the first of all
  pub whole : (found : Option Difference) → IsDifference m found → ((f : ℕ) → f < length m → Covers m found f)
      → found ≡ difference m (tree_in m)
  unfolding difference_from
  whole None is all = sym (first_none (differs_in m) 0 (length m)
      (λ k lo hi. elim (all k (omega (arith, hi))) [ inl q ↦ q | inr w ↦ never w.1 ]))
  whole (Some d) is all =
      let k = is d refl in
      let below = k.0 in
      sym (first_hit (differs_in m) 0 (length m) d.frame d (omega arith) (omega (arith, below)) k.1
      (λ j lo hi. elim (all j (omega (arith, hi, below))) [
        | inl q ↦ q
        | inr w ↦
            let at : d.frame ≡ w.0.frame = ap (λ (z : Difference). z.frame) (same w.1) in
            let least = w.2 in
            absurd (omega (arith, at, least, hi))
      ]))

-- a role that was covered still is
pub role_stays : (m : Memory) (a b : Option Difference) (part : ℕ) (r : PageRole) → GoesOn m a b → CoversRole m a part r
    → CoversRole m b part r
role_stays m a b part r goes c = λ f e. goes.stays f (c f e)

-- one kind of page of a node after the other
pub plain_covered : (m : Memory) (part : ℕ) (f1 f2 f3 f4 f5 f6 : Option Difference)
    → GoesOn m f1 f2 → GoesOn m f2 f3 → GoesOn m f3 f4 → GoesOn m f4 f5 → GoesOn m f5 f6
    → CoversRole m f1 part DescriptorPage → CoversRole m f2 part (DirectoryPage Mmu)
    → CoversRole m f3 part (DirectoryPage Shadow1) → CoversRole m f4 part (DirectoryPage Shadow2)
    → ((k : ℕ) → CoversRole m f5 part (ListPage k)) → CoversTables m f6 part Mmu → CoversPlain m f6 part
plain_covered m part f1 f2 f3 f4 f5 f6 g2 g3 g4 g5 g6 descriptor mmu shadow1 shadow2 list tables = go
  where
    to_4 : GoesOn m f4 f6
    to_4 = goes_then m f4 f5 f6 g5 g6

    to_3 : GoesOn m f3 f6
    to_3 = goes_then m f3 f4 f6 g4 to_4

    to_2 : GoesOn m f2 f6
    to_2 = goes_then m f2 f3 f6 g3 to_3

    go : CoversPlain m f6 part
    go DescriptorPage e = role_stays m f1 f6 part DescriptorPage (goes_then m f1 f2 f6 g2 to_2) descriptor
    go (DirectoryPage Mmu) e = role_stays m f2 f6 part (DirectoryPage Mmu) to_2 mmu
    go (DirectoryPage Shadow1) e = role_stays m f3 f6 part (DirectoryPage Shadow1) to_3 shadow1
    go (DirectoryPage Shadow2) e = role_stays m f4 f6 part (DirectoryPage Shadow2) to_4 shadow2
    go (TablePage Mmu d) e = tables d
    go (TablePage Shadow1 d) e = cc
    go (TablePage Shadow2 d) e = cc
    go (ListPage k) e = role_stays m f5 f6 part (ListPage k) g6 (list k)
