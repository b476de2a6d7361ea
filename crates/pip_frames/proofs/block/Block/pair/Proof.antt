-- Two frames are lent, the first for reading and the second for writing, and the block follows the second.
use Rattle.pip_frames.proofs.BlockSteps.{◌≡◌, ℕ, ◌+◌, ◌*◌, ◌^◌, ◌≤◌, ◌<◌, List, [], ◌∷◌, length, get_or, refl, sym, ap}
use Rattle.pip_frames.proofs.BlockSteps.{◌∙◌, lit<, w64, arith, proved, full_share, id⊢, GName, ftrue, flft, named, Val}
use Rattle.pip_frames.proofs.BlockSteps.{vptr, fact, tables, ‵, raw, ◌⊛◌, some, later, at_ret, ◌$◌, ◌∵◌, !, qed, move}
use Rattle.pip_frames.proofs.BlockSteps.{keep, drop, use1, use2, split, split3, join, pick, await, rewrite, fsplit}
use Rattle.pip_frames.proofs.BlockSteps.{fsplit3, fjoin, feq_i, suffices, frame, group, done, whole, sub, look_in}
use Rattle.pip_frames.proofs.BlockSteps.{enter, of_opd, bin, addr, load, stop, fld, first, blocks, exec, returns}
use Rattle.pip_frames.proofs.BlockSteps.{alloc_all, pass_all, free_all, look_at, get, through, sets, sets_last, env}
use Rattle.pip_frames.proofs.BlockSteps.{usize, yes, no, shows, owns, Array, cell_at, uint_vals, uint_Tells, MutRef}
use Rattle.pip_frames.proofs.BlockSteps.{ShrRef, mut_vals, mut_Tells, Ptr, lies_at, in_a_block, plain, mut_ref_to}
use Rattle.pip_frames.proofs.BlockSteps.{nothing, opens, peeks, heard, follows, Stays, walk_of, says, stay_dropped}
use Rattle.pip_frames.proofs.BlockSteps.{Goes-dropped, Goes-spent_ref, ends_at, Frame, R, block_with_frame, big_lit}
use Rattle.pip_frames.proofs.BlockSteps.{hide}
use mathlib.Core.Logic.{◌≢◌}
use types.Part.{agg}
use types.Run.{and_then, no_more}
use base.Fml.{fseps}
use denote.Memory.{shared_of}
use denote.Struct.Tuple.{Tuple}
use Rattle.pip_frames.proofs.TwoFrames.{lends_two}
use Rattle.pip_frames.proofs.TwoInRow.{part, others2, array_out}
use Rattle.pip_frames.proofs.Pairs.{pair_val, pair_of}
use Rattle.pip_frames.specs.contracts.block.Block.pair as f
use Rattle.pip_frames.proofs.block.Block.pair.Statement.{statement}
use Rattle.pip_frames.proofs.block.Block.pair.Code as code
use Rattle.pip_frames.proofs.block.Block.TheLaws.{lowers}

abbrev stayed : Stays f.ended.signature.params f.ended.kept
stayed = (
  stay_dropped (mut_ref_to (0 ∷ []) tt (plain (λ _. R))) no,
  (stay_dropped (plain (λ _. usize)) yes, (stay_dropped (plain (λ _. usize)) yes, tt)),
)

pub pair_spec : {M : Type 1} → statement M
unfolding fseps
pair_spec 𝓤 𝓛 𝓜 𝓡 wired =
    let c = f.clauses 𝓛 𝓜.mem 𝓡.returns in let W = walk_of 𝓛 f.ended stayed c in let 𝓣 = tables 𝓤 𝓛.H 𝓜 𝓡 𝓡.env in
    let num = Goes-dropped 𝓛 1 (plain (λ _. usize)) yes (λ κs x w. refl) in
    proved 𝓛 f.ended stayed c 𝓜 𝓡 (Goes-spent_ref 𝓛 1 (0 ∷ []) tt (plain (λ _. R)), (num, (num, tt)))
    f.Key.name code.function (code.unfolded 𝓤 𝓛.H 𝓜 𝓡 wired)
    (λ κs. (mut_vals, (uint_vals w64, (uint_vals w64, tt)))) (λ κs.
    (mut_Tells (named 0) κs.0 R, (uint_Tells w64, (uint_Tells w64, tt)))) (λ κs qs bounds a _ are.
    let κ = κs.0 in let q = qs.0 in let rb = a.0.ref_ptr.0 in let ro = a.0.ref_ptr.1 in let h = a.0.now in
    let γ = a.0.ghost_name in let i = a.1.0 in let j = a.1.1.0 in
    let y : W.Ghost = ((κs, qs, bounds, a, (mut_vals a.0, (uint_vals w64 i, (uint_vals w64 j, tt)))), tt) in
    let few : h.count ≤ 4096 = h.most in let same : h.count ≡ length h.frames = h.counted in
    let Asked : Type 0 = (i < h.count) × (j < h.count) × (i ≢ j) in
    qed 𝓛 (((‵ (flft κ q) ⊛ ‵ ftrue) ⊛ ‵ (owns (MutRef (named 0) κ R ∷ usize ∷ usize ∷ []) a
    (mut_vals a.0, (uint_vals w64 i, (uint_vals w64 j, tt))))) ∷ raw (fact 𝓤 Asked) ∷ []) ∵
    move ! (1 ∷ []) $ heard ! Asked (λ asked.
    let in_i : i < h.count = asked.0 in let in_j : j < h.count = asked.1 in
    let far_i : i * 4096 < 2 ^ 64 = omega arith in let far_j : j * 4096 < 2 ^ 64 = omega arith in
    let li : i < length h.frames = omega arith in let lj : j < length h.frames = omega arith in
    let xr : List ℕ = get_or h.frames i [] in let xw : List ℕ = get_or h.frames j [] in
    split ! $ enter ! _ _ _ _ _ $ alloc_all ! (λ l.
    pass_all ! refl ((tt, tt), ((tt, record { fits = are.1.0.1 }), ((tt, record { fits = are.1.1.0.1 }), tt))) $
    move ! (1 ∷ []) $ fsplit ! $ fsplit3 ! $ drop ! $ move ! (3 ∷ []) $ split ! $ move ! (2 ∷ 3 ∷ 0 ∷ []) $
    opens ! tt R rb ro
    (λ us. move ! (1 ∷ []) $ peeks ! R _ (shows 𝓛 R) h us (λ is. fsplit ! $ move ! (1 ∷ []) $ fsplit ! $
    in_a_block ! h.at (λ p. lies_at (Array Frame h.count) full_share p h.frames) (id⊢ 𝓤 _) (λ b o e.
    let Cell = λ (ws : List Val). ‵ (cell_at full_share R.mir ws rb ro) in
    let word = lowers.val_is h us is ∙ ap (λ (p : Ptr). lowers.lowered (record h { at = p }) ∷ []) e in
    use1 𝓛
    (‵ (part Frame xr b (i * 4096 + o)) ⊛ (‵ (part Frame xw b (j * 4096 + o)) ⊛ ‵ (others2 Frame h.frames i j b o)))
    (array_out Frame 𝓛 [] h.count h.frames i j b o li lj asked.2 tt) $ split3 ! $
    rewrite ! 5 Cell word refl $
    first ! $ blocks ! $
    sets ! (of_opd ! (load ! (through ! refl (fld ! refl (stop !))) (look_in ! 5 (sub ! 0 refl (whole !))))) refl
    (tt, tt) $
    sets ! (bin ! (get ! refl) (big_lit ! (record { fits = lit< tt })) (record { fits = far_i })) refl
    (tt, record { fits = far_i }) $
    sets ! (bin ! (get ! refl) (get ! refl) tt) refl (tt, tt) $
    sets ! (addr ! (through ! refl (stop !))) refl (tt, tt) $
    sets ! (of_opd ! (load ! (through ! refl (fld ! refl (stop !))) (look_in ! 5 (sub ! 0 refl (whole !))))) refl
    (tt, tt) $
    sets ! (bin ! (get ! refl) (big_lit ! (record { fits = lit< tt })) (record { fits = far_j })) refl
    (tt, record { fits = far_j }) $
    sets ! (bin ! (get ! refl) (get ! refl) tt) refl (tt, tt) $
    sets ! (addr ! (through ! refl (stop !))) refl (tt, tt) $
    sets_last ! (agg ! (and_then ! (get ! refl) (and_then ! (get ! refl) (no_more !)))) refl (tt, (tt, (tt, tt))) $
    exec ! 𝓣.C 𝓣.Λ (env code.Mir.locals l) code.Mir.t-2 (at_ret _ (W.post y)) $
    sets ! (of_opd ! (get ! refl)) refl (tt, (tt, (tt, tt))) $
    rewrite ! 5 Cell (sym word) refl $ nothing ! $ move ! (1 ∷ 0 ∷ []) $ fjoin ! $
    -- [the first frame; the second; the others; the right; the words' own; the cell; the open borrow; obs; auth]
    move ! (4 ∷ 5 ∷ []) $ fjoin ! $ move ! (4 ∷ 0 ∷ []) $ fjoin ! $ move ! (3 ∷ 0 ∷ []) $ fjoin ! $
    move ! (3 ∷ 4 ∷ 5 ∷ 2 ∷ 1 ∷ 0 ∷ []) $ group ! 6 $
    let v1 : Val = vptr b (i * 4096 + o) in let v2 : Val = vptr b (j * 4096 + o) in let v : Val = pair_val v1 v2 in
    use1 𝓛 (later (some (λ (γ' : GName). ‵ ((MutRef (named 0) κ Frame).own_val (record {
      ref_ptr = (b, j * 4096 + o);
      ghost_name = γ';
      now = xw;
    }) (v2 ∷ [])) ⊛ (‵ (shared_of Frame xr b (i * 4096 + o) κ)
    ⊛ (‵ (flft κ q) ⊛ ‵ (follows R Frame γ γ' (block_with_frame h j)))))))
    (lends_two 𝓛 h i j b o rb ro us e li lj asked.2 κ q γ ((R).coded.code h) ((R).coded.code h)) $ await ! tt $
    pick ! (λ γ'.
    returns ! (look_at ! 0 refl) $ free_all ! refl $ keep ! (0 ∷ []) $ split3 ! $ move ! (2 ∷ []) $ split ! $
    -- [the token; how the block follows; the second; the first]
    let rx : (ShrRef (named 0) κ Frame).Denot = record { ref_ptr = (b, i * 4096 + o); now = xr } in
    let wx : (MutRef (named 0) κ Frame).Denot = record { ref_ptr = (b, j * 4096 + o); ghost_name = γ'; now = xw } in
    move ! (3 ∷ []) $ hide ! $ feq_i ! (List Val) (v1 ∷ []) (v1 ∷ []) refl $ fjoin ! $ move ! (0 ∷ 3 ∷ []) $
    use2 𝓛 (‵ ((Tuple (ShrRef (named 0) κ Frame ∷ MutRef (named 0) κ Frame ∷ [])).own_val (rx, wx) (v ∷ []))) (pair_of 𝓛
    (ShrRef (named 0) κ Frame) (MutRef (named 0) κ Frame) rx wx v1 v2) $
    suffices ! _ (ends_at 𝓛 f.ended stayed c y v (rx, wx) (tt, (tt, (tt, tt))) (tt, (tt, (tt, tt)))) $
    nothing ! $ nothing ! $ fjoin ! $ nothing ! $ fjoin ! $ nothing ! $ fjoin ! $ join ! $ nothing ! $
    move ! (2 ∷ 0 ∷ []) $ join ! $ join ! $ frame ! $ says ! (refl, refl) $ done !)))))))
