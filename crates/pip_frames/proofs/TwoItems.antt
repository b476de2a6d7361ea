-- Two items of a Vec: they are taken out, the first is shared and the second lent, and the Vec follows the second.
-- Assumes `Logic`.
use mathlib.Core.Path.{◌≡◌, refl}
use mathlib.Core.Logic.{◌≢◌}
use Prim.Native.Nat.{ℕ, ◌+◌, ◌-◌, ◌*◌, ◌<◌, ◌^◌}
use mathlib.Core.List.{List, [], ◌∷◌}
use lib.ListN.{length, get_or, set}
use seplogic.Ra.Ura.{Ura}
use base.Fraction.{full_share}
use base.Logic.{SProp, ent, sep, emp, ex}
use base.Fml.{Fml, Lft, Share, GName, Incl, Incl-refl, ftrue, fsep, fseps, flft, fobs, fauth, fbor, fobor, froom}
use mir.Syntax.{named, ty_array}
use mir.Val.{Val, vptr}
use mir.Raw.{raw as bare}
use types.Logic.{Logic, sem}
use types.Kit.{‵, raw, ◌⊛◌, some, later, ◌$◌, ◌∵◌, !, qed, move, keep, drop, use1, use2, use3, split, split3, pick}
use types.Kit.{await, updating, now, show, fsplit, fsplit3, fjoin, fjoin3, fpack, feq_i, group, done}
use types.SemTy.{Body as Borrowed}
use types.Follow.{takes_beside}
use denote.Array.{Array}
use denote.Memory.{cell_at, part_at, part_of, mem, shared_of}
use denote.Param.Laws.{param_laws}
use denote.Ref.{MutRef}
use denote.RawPtr.{block_ptr}
use denote.Steps.{nothing}
use denote.Follow.{follows}
use Rattle.std.specs.Vec.{with_item}
use Rattle.pip_frames.proofs.TwoInRow.{part, others2, array_out, array_in}
use Rattle.std.proofs.alloc.Calls.{token}
use Rattle.std.proofs.VecSteps.El.{El, el_x, elτ, el_d, el_heap, el_len, el_cap, el_items, el_ok, R, Vr, sz, handle}
use Rattle.std.proofs.VecSteps.El.{vec_val}
use Rattle.std.proofs.VecSteps.Opens.{blk_in, vec_made}

module _ (E : El) {M : Type 1} {𝓤 : Ura M} (𝓛 : Logic 𝓤) (d : el_x E) where
  abbrev s : ℕ
  s = sz E

  module _ (h : el_d E) (i j b o rb ro : ℕ) (hv : Val) (at_b : h.ptr ≡ block_ptr b o)
      (fl : el_len E h < 2 ^ 64) (fc : el_cap E h < 2 ^ 64) (fit : el_cap E h * sz E < 2 ^ 63) (pos : 0 < el_cap E h)
      (li : i < length (el_items E h)) (lj : j < length (el_items E h)) (ne : i ≢ j) where
    abbrev n : ℕ
    n = el_len E h

    abbrev c : ℕ
    c = el_cap E h

    abbrev xs : List (el_x E)
    xs = el_items E h

    abbrev pub Rest : Fml
    Rest = fsep (others2 (R E) xs i j b o) (fsep (froom (ty_array (elτ E) (c - n)) b
        (o + n * s)) (fsep (token E.al (el_heap E h) (bare (ty_array (elτ E) c)) (block_ptr b o))
        (fsep (handle E (el_heap E h) hv) (cell_at full_share (Vr E).mir (vec_val E hv b o n c ∷ []) rb ro))))

    abbrev pub Read : Fml
    Read = part (R E) (get_or xs i d) b (i * s + o)

    back : (w : el_x E)
        → ent 𝓤 (sep 𝓤 (sem 𝓛 ((mem (R E)).own_at w b (j * s + o))) (sep 𝓤 (sem 𝓛 (fseps (Read ∷ []))) (sem 𝓛 Rest)))
        (sem 𝓛 ((mem (Vr E)).own_at (with_item h j w) rb ro))
    unfolding part_of fseps
    back w =
        qed 𝓛 (‵ (part (R E) w b (j * s + o)) ∷ ‵ (fsep Read ftrue) ∷ ‵ Rest ∷ []) ∵ move ! (1 ∷ []) $ fsplit ! $
        move ! (3 ∷ []) $ fsplit ! $ move ! (2 ∷ 4 ∷ 0 ∷ []) $
        use3 𝓛 (‵ (part_at (Array (R E) n) full_share (set xs j w) b o))
        (array_in (R E) 𝓛 d n xs i j b o li lj ne (el_ok E h).0 w) $
        move ! (1 ∷ []) $ fsplit ! $ move ! (1 ∷ []) $ fsplit3 ! $
        -- [the token; the handle; the words; the room; the items; nothing]
        move ! (4 ∷ 3 ∷ 0 ∷ []) $ blk_in E ! (el_heap E h) b o n c (set xs j w) pos $
        vec_made E ! (with_item h j w) b o n c (set xs j w) (at_b, refl, refl, refl) fl fc fit $ move ! (1 ∷ 0 ∷ []) $
        fjoin ! $
        fpack ! (List Val) (λ us. fsep (cell_at full_share (Vr E).mir us rb ro) ((Vr E).own_val (with_item h j w) us))
        (vec_val E hv b o n c ∷ []) $ keep ! (0 ∷ []) $ done !

    module _ (κ : Lft) (q : Share) (γ : GName) where
      abbrev pub Two : GName → SProp 𝓤
      Two γ' = sep 𝓤 (sem 𝓛 ((MutRef (named 0) κ (R E)).own_val
          (record { ref_ptr = (b, j * s + o); ghost_name = γ'; now = get_or xs j d }) (vptr b (j * s + o) ∷ [])))
          (sep 𝓤 (sem 𝓛 (shared_of (R E) (get_or xs i d) b (i * s + o) κ))
          (sep 𝓤 (𝓛.A.lft κ q) (sem 𝓛 (follows (Vr E) (R E) γ γ' (with_item h j)))))

      -- from what `vec_opens` gives
      pub lends_two : Incl κ E.row.lives
          → ent 𝓤 (sep 𝓤 (sem 𝓛 (part_at (Array (R E) n) full_share xs b o))
          (sep 𝓤 (sem 𝓛 (froom (ty_array (elτ E) (c - n)) b (o + n * s))) (sep 𝓤
          (sem 𝓛 (token E.al (el_heap E h) (bare (ty_array (elτ E) c)) (block_ptr b o)))
          (sep 𝓤 (sem 𝓛 (cell_at full_share (Vr E).mir (vec_val E hv b o n c ∷ []) rb ro))
          (sep 𝓤 (sem 𝓛 (fsep (fobor κ q (Borrowed (mem (Vr E)) rb ro γ)) (handle E (el_heap E h) hv)))
          (sep 𝓤 (𝓛.A.obs γ ((Vr E).coded.code h)) (𝓛.A.auth γ ((Vr E).coded.code h))))))))
          (𝓛.H.⇛ (ex 𝓤 Two))
      unfolding fseps
      lends_two within =
          let x : el_x E = get_or xs i d in
          let y : el_x E = get_or xs j d in
          qed 𝓛 (‵ (part_at (Array (R E) n) full_share xs b o) ∷ ‵ (froom (ty_array (elτ E) (c - n)) b (o + n * s))
          ∷ ‵ (token E.al (el_heap E h) (bare (ty_array (elτ E) c)) (block_ptr b o))
          ∷ ‵ (cell_at full_share (Vr E).mir (vec_val E hv b o n c ∷ []) rb ro)
          ∷ ‵ (fsep (fobor κ q (Borrowed (mem (Vr E)) rb ro γ)) (handle E (el_heap E h) hv))
          ∷ ‵ (fobs γ ((Vr E).coded.code h)) ∷ ‵ (fauth γ ((Vr E).coded.code h)) ∷ []) ∵ updating ! $
          use1 𝓛 (‵ (part (R E) x b (i * s + o)) ⊛ (‵ (part (R E) y b (j * s + o)) ⊛ ‵ (others2 (R E) xs i j b o)))
          (array_out (R E) 𝓛 d n xs i j b o li lj ne tt) $ split3 ! $
          -- [the first; the second; the others; the room; the token; the words; the open borrow and the handle; obs;
          -- auth]
          nothing ! $ move ! (1 ∷ 0 ∷ []) $ fjoin ! $ move ! (6 ∷ []) $ fsplit ! $
          move ! (1 ∷ 7 ∷ []) $ fjoin ! $ move ! (6 ∷ 0 ∷ []) $ fjoin ! $ move ! (5 ∷ 0 ∷ []) $ fjoin ! $
          move ! (4 ∷ 0 ∷ []) $ fjoin ! $
          move ! (1 ∷ 4 ∷ 5 ∷ 3 ∷ 2 ∷ 0 ∷ []) $ group ! 6 $
          use1 𝓛 (later (some (λ (γ' : GName). ‵ (fobs γ' ((mem (R E)).coded.code y))
          ⊛ (‵ (fbor κ (Borrowed (mem (R E)) b (j * s + o) γ'))
          ⊛ (‵ (flft κ q) ⊛ (‵ (follows (Vr E) (R E) γ γ' (with_item h j)) ⊛ (‵ (fbor κ Read) ⊛ raw (emp 𝓤))))))))
          (takes_beside 𝓛 (mem (Vr E)) (mem (R E)) (with_item h j) κ q rb ro b (j * s + o) γ (Read ∷ []) (sem 𝓛 Rest)
          back ((Vr E).coded.code h) ((Vr E).coded.code h) y) $ await ! tt $ pick ! (λ γ'. split3 ! $
          move ! (2 ∷ []) $ split3 ! $ move ! (2 ∷ []) $ split ! $ move ! (1 ∷ []) $ drop ! $
          -- [the first's borrow; the token; how the Vec follows; obs; the second's borrow]
          use2 𝓛 (later (‵ (shared_of (R E) x b (i * s + o) κ) ⊛ ‵ (flft κ q))) ((param_laws 0 E.row E.laws).shares 𝓛 x
          κ ((κ, q) ∷ []) b (i * s + o) within (Incl-refl κ)) $ await ! tt $ split ! $
          move ! (3 ∷ 4 ∷ []) $ feq_i ! (List Val) (vptr b (j * s + o) ∷ []) (vptr b (j * s + o) ∷ []) refl $ fjoin3 ! $
          now ! $ show ! Two γ' $ done !)
