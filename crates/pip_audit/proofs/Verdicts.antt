-- What is said of a memory, by what was read and what it breaks.
use Rattle.std.proofs.Common.{◌≡◌, ℕ, [], ◌∷◌, inl, inr, length, sym, ap, ◌∙◌, subst, Option, Some, None}
use Rattle.pip_base.specs.Memory.{Memory}
use Rattle.pip_model.specs.declared.reading.Difference.{Difference}
use Rattle.pip_model.specs.declared.reading.Stop.{Stop}
use Rattle.pip_model.specs.Audit.{HasWordsOnly, difference, finding, finding_at, finding_of}
use Rattle.pip_model.specs.Lists.{In}
use Rattle.pip_model.specs.Parts.{broken_part}
use Rattle.pip_model.specs.Sound.{IsSound}
use Rattle.pip_model.proofs.Audit.AuditLaw.{read_sound}
use Rattle.pip_audit.specs.declared.auditor.Verdict.TheVariants as V
use Rattle.pip_audit.specs.Comparing.{tree_found, tree_in}
use Rattle.pip_audit.specs.Verdict.{verdict_of}
use Rattle.pip_model.specs.ReadOff.{Halts, IsTree, node_read, tree_of}
use Rattle.pip_model.specs.ReadOff.{tree_of_reading, tree_unless, visits, walk}
use Rattle.pip_model.specs.Tree.{Node}
use Rattle.pip_audit.specs.declared.auditor.Auditor.{Auditor}
use Rattle.pip_audit.specs.Reading.{IsRead, tree_read}

pub tree_is : (m : Memory) (a : Auditor) (r : IsRead m a) → tree_of m ≡ IsTree (tree_read m r.others)
unfolding tree_of
tree_is m a r =
    ap (λ o. tree_unless o (tree_of_reading m (node_read m 1)
    (walk m (node_read m 1) (length m) (visits m (node_read m 1)) []))) r.has_read.root
    ∙ ap (tree_of_reading m (node_read m 1)) r.whole

-- the reading stops
pub says_unread : (m : Memory) (s : Stop) → tree_of m ≡ Halts s → V.Unread s.frame s.index ≡ verdict_of (finding m)
unfolding finding
says_unread m s e = sym (ap (λ t. verdict_of (finding_of m t)) e)

-- what is found where a tree was read is what is found of this tree, by the part that it breaks
finds : (m : Memory) (a : Auditor) (r : IsRead m a) (p : Option ℕ) → p ≡ broken_part (tree_in m)
    → finding m ≡ finding_at (tree_in m) p (difference m (tree_in m))
unfolding finding
finds m a r p b =
    let t = tree_read m r.others in
    let is = tree_is m a r in
    ap (finding_of m) is ∙ ap (λ u. finding_at u (broken_part u) (difference m u)) (sym (ap (tree_found m) is))
    ∙ ap (λ o. finding_at (tree_in m) o (difference m (tree_in m))) (sym b)

pub says_unsound : (m : Memory) (a : Auditor) (r : IsRead m a) (p : ℕ) → Some p ≡ broken_part (tree_in m)
    → V.Unsound p ≡ verdict_of (finding m)
says_unsound m a r p b = sym (ap verdict_of (finds m a r (Some p) b))

-- where it breaks none, the first difference tells
pub says_compared : (m : Memory) (a : Auditor) (r : IsRead m a) (d : Option Difference) → None ≡ broken_part (tree_in m)
    → d ≡ difference m (tree_in m) → verdict_of (finding_at (tree_in m) None d) ≡ verdict_of (finding m)
says_compared m a r d b q =
    ap (λ o. verdict_of (finding_at (tree_in m) None o)) q ∙ sym (ap verdict_of (finds m a r None b))

-- and the tree is sound
pub is_sound : (m : Memory) (a : Auditor) (r : IsRead m a) → HasWordsOnly m → None ≡ broken_part (tree_in m)
    → IsSound (tree_in m)
is_sound m a r words b = subst IsSound (sym (ap (tree_found m) (tree_is m a r)))
    (read_sound m words (node_read m 1) r.others made
    (sym (b ∙ ap (λ t. broken_part (tree_found m t)) (tree_is m a r))))
  where
    made : (x : Node) → In x (node_read m 1 ∷ r.others) → (f : ℕ) × (x ≡ node_read m f)
    made x (inl q) = (1, q)
    made x (inr i) = (x.name, (r.has_read.nodes x i).2)
