-- Two of the values that lie in a row: they are taken out at once, and put back with another second. Assumes `Logic`.
use Rattle.std.proofs.Common.{◌≡◌, ◌≢◌, ℕ, zero, suc, ◌+◌, ◌*◌, ◌<◌, List, [], ◌∷◌, length, length-set, get_or, set}
use Rattle.std.proofs.Common.{refl, sym, ap, ◌∙◌}
use native.Mathlib.Nat.{le_of_suc-le-suc, not-suc-le-zero}
use seplogic.Ra.Ura.{Ura}
use base.Fraction.{full_share}
use base.Logic.{ent, sep}
use base.Fml.{Fml, ftrue, fsep, feq}
use types.Logic.{Logic, sem}
use types.Kit.{‵, ◌⊛◌, ◌$◌, ◌∵◌, !, qed, move, drop, use1, use2, use3, split, split3, rewrite, fsplit, fjoin, feq_i}
use types.Kit.{done}
use denote.RattleType.{RattleType}
use denote.Array.{Array}
use denote.ArrayMemory.{Single, Array-apart, Array-whole}
use denote.Memory.{part_at, mem, shares}
use denote.Index.{row, others, takes, puts, puts_back, place, place_is}

module _ (R : RattleType) where
  abbrev X : Type 0
  X = R.Denot

  abbrev s : ℕ
  s = (mem R).size

  -- one value, whole
  abbrev pub part : X → ℕ → ℕ → Fml
  part x b o = part_at R full_share x b o

  abbrev rest : List X → ℕ → ℕ → Fml
  rest xs b o = row R full_share xs b o

  -- the row without the values at i and j
  abbrev pub others2 : List X → ℕ → ℕ → ℕ → ℕ → Fml
  others2 [] i j b o = ftrue
  others2 (x ∷ xs) zero zero b o = ftrue
  others2 (x ∷ xs) zero (suc j) b o = others (shares R) full_share xs j b (o + s)
  others2 (x ∷ xs) (suc i) zero b o = others (shares R) full_share xs i b (o + s)
  others2 (x ∷ xs) (suc i) (suc j) b o = fsep (part x b o) (others2 xs i j b (o + s))

  module _ {M : Type 1} {𝓤 : Ura M} (𝓛 : Logic 𝓤) (d : X) where
    two_out : (xs : List X) (i j b o : ℕ) → i < length xs → j < length xs → i ≢ j
        → ent 𝓤 (sem 𝓛 (rest xs b o)) (sep 𝓤 (sem 𝓛 (part (get_or xs i d) b (place s o i)))
        (sep 𝓤 (sem 𝓛 (part (get_or xs j d) b (place s o j))) (sem 𝓛 (others2 xs i j b o))))
    two_out [] i j b o li lj ne = absurd (not-suc-le-zero li)
    two_out (x ∷ xs) zero zero b o li lj ne = absurd (ne refl)
    two_out (x ∷ xs) zero (suc j) b o li lj ne =
        qed 𝓛 (‵ (rest (x ∷ xs) b o) ∷ []) ∵ fsplit ! $ move ! (1 ∷ []) $
        use1 𝓛 (‵ (part (get_or xs j d) b (place s (o + s) j)) ⊛ ‵ (others (shares R) full_share xs j b (o + s)))
        (takes (shares R) full_share 𝓛 xs j d b (o + s) (le_of_suc-le-suc lj)) $ split ! $ move ! (2 ∷ []) $ done !
    two_out (x ∷ xs) (suc i) zero b o li lj ne =
        qed 𝓛 (‵ (rest (x ∷ xs) b o) ∷ []) ∵ fsplit ! $ move ! (1 ∷ []) $
        use1 𝓛 (‵ (part (get_or xs i d) b (place s (o + s) i)) ⊛ ‵ (others (shares R) full_share xs i b (o + s))) (takes
        (shares R) full_share 𝓛 xs i d b (o + s) (le_of_suc-le-suc li)) $ split ! $ move ! (0 ∷ 2 ∷ []) $ done !
    two_out (x ∷ xs) (suc i) (suc j) b o li lj ne =
        qed 𝓛 (‵ (rest (x ∷ xs) b o) ∷ []) ∵ fsplit ! $ move ! (1 ∷ []) $
        use1 𝓛 (‵ (part (get_or xs i d) b (place s (o + s) i))
        ⊛ (‵ (part (get_or xs j d) b (place s (o + s) j)) ⊛ ‵ (others2 xs i j b (o + s)))) (two_out xs i j b
        (o + s) (le_of_suc-le-suc li) (le_of_suc-le-suc lj) (λ e. ne (rw e))) $
        split3 ! $ move ! (3 ∷ 2 ∷ []) $ fjoin ! $ move ! (1 ∷ 2 ∷ 0 ∷ []) $ done !

    two_in : (xs : List X) (i j b o : ℕ) (w : X) → i < length xs → j < length xs → i ≢ j
        → ent 𝓤 (sep 𝓤 (sem 𝓛 (part (get_or xs i d) b (place s o i)))
        (sep 𝓤 (sem 𝓛 (part w b (place s o j))) (sem 𝓛 (others2 xs i j b o)))) (sem 𝓛 (rest (set xs j w) b o))
    two_in [] i j b o w li lj ne = absurd (not-suc-le-zero li)
    two_in (x ∷ xs) zero zero b o w li lj ne = absurd (ne refl)
    two_in (x ∷ xs) zero (suc j) b o w li lj ne =
        qed 𝓛 (‵ (part x b o) ∷ ‵ (part w b (place s (o + s) j)) ∷ ‵ (others (shares R) full_share xs j b (o + s)) ∷ [])
        ∵ move ! (1 ∷ 2 ∷ []) $
        use2 𝓛 (‵ (rest (set xs j w) b (o + s))) (puts (shares R) full_share 𝓛 xs j w b (o + s) (le_of_suc-le-suc lj)) $
        move ! (1 ∷ 0 ∷ []) $ done !
    two_in (x ∷ xs) (suc i) zero b o w li lj ne =
        qed 𝓛 (‵ (part (get_or xs i d) b (place s (o + s) i)) ∷ ‵ (part w b o)
        ∷ ‵ (others (shares R) full_share xs i b (o + s)) ∷ []) ∵ move ! (0 ∷ 2 ∷ []) $
        use2 𝓛 (‵ (rest xs b (o + s))) (puts_back (shares R) full_share 𝓛 xs i d b (o + s) (le_of_suc-le-suc li)) $
        move ! (1 ∷ 0 ∷ []) $ done !
    two_in (x ∷ xs) (suc i) (suc j) b o w li lj ne =
        qed 𝓛 (‵ (part (get_or xs i d) b (place s (o + s) i)) ∷ ‵ (part w b (place s (o + s) j)) ∷ ‵ (fsep (part x b o)
        (others2 xs i j b (o + s))) ∷ []) ∵ move ! (2 ∷ []) $ fsplit ! $ move ! (2 ∷ 3 ∷ 1 ∷ []) $
        use3 𝓛 (‵ (rest (set xs j w) b (o + s))) (two_in xs i j b (o + s) w (le_of_suc-le-suc li) (le_of_suc-le-suc lj)
        (λ e. ne (rw e))) $ move ! (1 ∷ 0 ∷ []) $ done !

    -- two values are taken out of an array of n
    module _ (n : ℕ) (xs : List X) (i j b o : ℕ) (li : i < length xs) (lj : j < length xs) (ne : i ≢ j) where
      pub array_out : Single R.mir → ent 𝓤 (sem 𝓛 (part_at (Array R n) full_share xs b o))
          (sep 𝓤 (sem 𝓛 (part (get_or xs i d) b (i * s + o))) (sep 𝓤
          (sem 𝓛 (part (get_or xs j d) b (j * s + o))) (sem 𝓛 (others2 xs i j b o))))
      array_out single =
          qed 𝓛 (‵ (part_at (Array R n) full_share xs b o) ∷ []) ∵
          use1 𝓛 (‵ (fsep (feq ℕ (length xs) n) (rest xs b o))) (Array-apart 𝓛 R full_share single n xs b o) $
          fsplit ! $ drop ! $
          use1 𝓛 (‵ (part (get_or xs i d) b (place s o i)) ⊛ (‵ (part (get_or xs j d) b (place s o j))
          ⊛ ‵ (others2 xs i j b o))) (two_out xs i j b o li lj ne) $ split3 ! $
          rewrite ! 0 (λ (k : ℕ). ‵ (part (get_or xs i d) b k)) (place_is s o i) refl $
          rewrite ! 1 (λ (k : ℕ). ‵ (part (get_or xs j d) b k)) (place_is s o j) refl $ done !

      pub array_in : n ≡ length xs → (w : X) → ent 𝓤 (sep 𝓤 (sem 𝓛 (part (get_or xs i d) b (i * s + o))) (sep 𝓤
          (sem 𝓛 (part w b (j * s + o))) (sem 𝓛 (others2 xs i j b o))))
          (sem 𝓛 (part_at (Array R n) full_share (set xs j w) b o))
      array_in counted w =
          qed 𝓛 (‵ (part (get_or xs i d) b (i * s + o)) ∷ ‵ (part w b (j * s + o)) ∷ ‵ (others2 xs i j b o) ∷ []) ∵
          rewrite ! 0 (λ (k : ℕ). ‵ (part (get_or xs i d) b k)) (sym (place_is s o i)) refl $
          rewrite ! 1 (λ (k : ℕ). ‵ (part w b k)) (sym (place_is s o j)) refl $
          use3 𝓛 (‵ (rest (set xs j w) b o)) (two_in xs i j b o w li lj ne) $
          feq_i ! ℕ (length (set xs j w)) n (cc (length-set xs j w)) $ fjoin ! $
          use1 𝓛 (‵ (part_at (Array R n) full_share (set xs j w) b o)) (Array-whole 𝓛 R full_share n (set xs j w) b o) $
          done !
