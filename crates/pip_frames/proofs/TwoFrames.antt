-- Two frames of a block: they are taken out, the first is shared and the second lent, and the block follows the second.
use Rattle.std.proofs.Common.{◌≡◌, ◌≢◌, ℕ, ◌+◌, ◌*◌, ◌<◌, List, [], ◌∷◌, length, get_or, set, refl, sym, w32}
use seplogic.Ra.Ura.{Ura}
use base.Fraction.{full_share}
use base.Logic.{SProp, ent, sep, emp, ex}
use base.Fml.{Fml, Lft, Share, GName, Incl-refl, ftrue, fsep, fseps, flft, fobs, fauth, fbor, fobor}
use mir.Syntax.{named}
use mir.Val.{Val, vptr}
use types.Logic.{Logic, sem}
use types.Kit.{‵, raw, ◌⊛◌, some, later, ◌$◌, ◌∵◌, !, qed, move, keep, drop, use1, use2, use3, split, split3, pick}
use types.Kit.{await, updating, now, show, rewrite, fsplit, fsplit3, fjoin, fjoin3, fpack, feq_i, group, done}
use types.SemTy.{Body}
use types.Follow.{takes_beside}
use denote.Array.{Array}
use denote.Builtin.{u32}
use denote.Copied.{uint_Copied}
use denote.Shares.{Shares-Array}
use denote.Memory.{cell_at, part_at, part_of, mem, shared_of}
use denote.Ref.{MutRef}
use denote.RawPtr.{Ptr, block_ptr, lies_at}
use denote.Follow.{follows}
use Rattle.pip_frames.specs.Ownership.{Frame, right_to_free}
use Rattle.pip_frames.specs.declared.block.Block.{Block}
use Rattle.pip_frames.specs.contracts.block.Block.{the_row as R}
use Rattle.pip_frames.specs.Lending.{block_with_frame}
use Rattle.pip_frames.proofs.BlockSteps.{Words}
use Rattle.pip_frames.proofs.TwoInRow.{part, others2, array_in}

module _ {M : Type 1} {𝓤 : Ura M} (𝓛 : Logic 𝓤) where
  open 𝓛 use {H, A}

  module _ (h : Block) (i j b o rb ro : ℕ) (us : List Val) (e : h.at ≡ block_ptr b o) (li : i < length h.frames)
      (lj : j < length h.frames) (ne : i ≢ j) where
    abbrev xs : List (List ℕ)
    xs = h.frames

    abbrev pub Rest : Fml
    Rest = fsep (others2 Frame xs i j b o) (fsep (right_to_free h.at h.count)
        (fsep (Words.own_val (h.at, (h.count, tt)) us) (cell_at full_share R.mir us rb ro)))

    abbrev pub Read : Fml
    Read = part Frame (get_or xs i []) b (i * 4096 + o)

    pub back : (w : List ℕ)
        → ent 𝓤 (sep 𝓤 (sem 𝓛 ((mem Frame).own_at w b (j * 4096 + o))) (sep 𝓤 (sem 𝓛 (fseps (Read ∷ []))) (sem 𝓛 Rest)))
        (sem 𝓛 ((mem R).own_at (block_with_frame h j w) rb ro))
    unfolding part_of fseps
    back w =
        qed 𝓛 (‵ (part Frame w b (j * 4096 + o)) ∷ ‵ (fsep Read ftrue) ∷ ‵ Rest ∷ []) ∵ move ! (1 ∷ []) $ fsplit ! $
        move ! (3 ∷ []) $ fsplit ! $ move ! (2 ∷ 4 ∷ 0 ∷ []) $
        use3 𝓛 (‵ (part_at (Array Frame h.count) full_share (set xs j w) b o))
        (array_in Frame 𝓛 [] h.count xs i j b o li lj ne h.counted w) $
        rewrite ! 0 (λ (p : Ptr). ‵ (lies_at (Array Frame h.count) full_share p (set xs j w))) (sym e) refl $
        move ! (1 ∷ []) $ fsplit3 ! $ move ! (3 ∷ 0 ∷ []) $ fjoin ! $ move ! (1 ∷ 0 ∷ []) $ fjoin ! $
        move ! (1 ∷ 0 ∷ []) $ fjoin ! $
        fpack ! (List Val) (λ vs. fsep (cell_at full_share R.mir vs rb ro) (R.own_val (block_with_frame h j w) vs)) us $
        keep ! (0 ∷ []) $ done !

    module _ (κ : Lft) (q : Share) (γ : GName) where
      abbrev pub Two : GName → SProp 𝓤
      Two γ' = sep 𝓤 (sem 𝓛 ((MutRef (named 0) κ Frame).own_val
          (record { ref_ptr = (b, j * 4096 + o); ghost_name = γ'; now = get_or xs j [] }) (vptr b (j * 4096 + o) ∷ [])))
          (sep 𝓤 (sem 𝓛 (shared_of Frame (get_or xs i []) b (i * 4096 + o) κ))
          (sep 𝓤 (A.lft κ q) (sem 𝓛 (follows R Frame γ γ' (block_with_frame h j)))))

      pub lends_two : (u v : base.Stored.Gv)
          → ent 𝓤 (sep 𝓤 (A.obor κ q (Body (mem R) rb ro γ)) (sep 𝓤 (A.obs γ u) (sep 𝓤 (A.auth γ v) (sep 𝓤 (sem 𝓛
          ((mem Frame).own_at (get_or xs j []) b (j * 4096 + o))) (sep 𝓤 (sem 𝓛 (fseps (Read ∷ []))) (sem 𝓛 Rest))))))
          (H.⇛ (ex 𝓤 Two))
      lends_two u v =
          let y : List ℕ = get_or xs j [] in
          qed 𝓛 (‵ (fobor κ q (Body (mem R) rb ro γ)) ∷ ‵ (fobs γ u) ∷ ‵ (fauth γ v) ∷ ‵ ((mem Frame).own_at y b
          (j * 4096 + o)) ∷ ‵ (fseps (Read ∷ [])) ∷ ‵ Rest ∷ []) ∵ updating ! $ group ! 6 $
          use1 𝓛 (later (some (λ (γ' : GName). ‵ (fobs γ' ((mem Frame).coded.code y))
          ⊛ (‵ (fbor κ (Body (mem Frame) b (j * 4096 + o) γ'))
          ⊛ (‵ (flft κ q) ⊛ (‵ (follows R Frame γ γ' (block_with_frame h j)) ⊛ (‵ (fbor κ Read) ⊛ raw (emp 𝓤))))))))
          (takes_beside 𝓛 (mem R) (mem Frame) (block_with_frame h j) κ q rb ro b (j * 4096 + o) γ
          (Read ∷ []) (sem 𝓛 Rest) back u v y) $ await ! tt $ pick ! (λ γ'. split3 ! $ move ! (2 ∷ []) $ split3 ! $
          move ! (2 ∷ []) $ split ! $ move ! (1 ∷ []) $ drop ! $
          -- [the first frame's borrow; the token; how the block follows; obs; the second frame's borrow]
          use2 𝓛 (later (‵ (shared_of Frame (get_or xs i []) b (i * 4096 + o) κ) ⊛ ‵ (flft κ q)))
          (Shares-Array 𝓛 u32 tt 1024 κ ((uint_Copied 𝓛 w32).shares full_share κ) (get_or xs i []) κ ((κ, q) ∷ []) b
          (i * 4096 + o) (Incl-refl κ) (Incl-refl κ)) $ await ! tt $ split ! $
          move ! (3 ∷ 4 ∷ []) $ feq_i ! (List Val) (vptr b (j * 4096 + o) ∷ []) (vptr b (j * 4096 + o) ∷ []) refl $
          fjoin3 ! $ now ! $ show ! Two γ' $ done !)
