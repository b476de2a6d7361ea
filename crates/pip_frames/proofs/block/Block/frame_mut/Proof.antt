-- One frame is lent for writing, and the block follows it.
use Rattle.pip_frames.proofs.BlockSteps.{◌≡◌, ℕ, ◌+◌, ◌*◌, ◌^◌, ◌≤◌, ◌<◌, List, [], ◌∷◌, length, get_or, refl, sym, ap}
use Rattle.pip_frames.proofs.BlockSteps.{◌∙◌, w64, arith, proved, full_share, id⊢, GName, ftrue, flft, named, Val, vptr}
use Rattle.pip_frames.proofs.BlockSteps.{fact, tables, sem, ‵, raw, ◌⊛◌, some, later, at_ret, ◌$◌, ◌∵◌, !, qed, move}
use Rattle.pip_frames.proofs.BlockSteps.{keep, drop, use1, split, join, pick, await, rewrite, fsplit, fsplit3, fjoin}
use Rattle.pip_frames.proofs.BlockSteps.{suffices, frame, group, done, whole, sub, look_in, enter, of_opd, bin, addr}
use Rattle.pip_frames.proofs.BlockSteps.{load, stop, fld, first, blocks, exec, returns, alloc_all, pass_all, free_all}
use Rattle.pip_frames.proofs.BlockSteps.{look_at, get, through, sets, sets_last, env, usize, yes, no, shows, owns}
use Rattle.pip_frames.proofs.BlockSteps.{Array, cell_at, part_at, shares, others, uint_vals, uint_Tells, MutRef}
use Rattle.pip_frames.proofs.BlockSteps.{mut_vals, mut_Tells, Ptr, lies_at, in_a_block, plain, mut_ref_to, nothing}
use Rattle.pip_frames.proofs.BlockSteps.{opens, peeks, heard, follows, lends_Part, Stays, walk_of, says, stay_dropped}
use Rattle.pip_frames.proofs.BlockSteps.{Goes-dropped, Goes-spent_ref, ends_at, Frame, R, block_with_frame, frame_out}
use Rattle.pip_frames.proofs.BlockSteps.{Rest, back, split3, big_lit, lit<}
use Rattle.pip_frames.specs.contracts.block.Block.frame_mut as f
use Rattle.pip_frames.proofs.block.Block.frame_mut.Statement.{statement}
use Rattle.pip_frames.proofs.block.Block.frame_mut.Code as code
use Rattle.pip_frames.proofs.block.Block.TheLaws.{lowers}

abbrev stayed : Stays f.ended.signature.params f.ended.kept
stayed = (stay_dropped (mut_ref_to (0 ∷ []) tt (plain (λ _. R))) no, (stay_dropped (plain (λ _. usize)) yes, tt))

pub frame_mut_spec : {M : Type 1} → statement M
frame_mut_spec 𝓤 𝓛 𝓜 𝓡 wired =
    let c = f.clauses 𝓛 𝓜.mem 𝓡.returns in let W = walk_of 𝓛 f.ended stayed c in let 𝓣 = tables 𝓤 𝓛.H 𝓜 𝓡 𝓡.env in
    proved 𝓛 f.ended stayed c 𝓜 𝓡 (
      Goes-spent_ref 𝓛 1 (0 ∷ []) tt (plain (λ _. R)),
      (Goes-dropped 𝓛 1 (plain (λ _. usize)) yes (λ κs x w. refl), tt),
    )
    f.Key.name code.function (code.unfolded 𝓤 𝓛.H 𝓜 𝓡 wired)
    (λ κs. (mut_vals, (uint_vals w64, tt))) (λ κs.
    (mut_Tells (named 0) κs.0 R, (uint_Tells w64, tt))) (λ κs qs bounds a _ are.
    let κ = κs.0 in let q = qs.0 in let rb = a.0.ref_ptr.0 in let ro = a.0.ref_ptr.1 in let h = a.0.now in
    let γ = a.0.ghost_name in let i = a.1.0 in
    let y : W.Ghost = ((κs, qs, bounds, a, (mut_vals a.0, (uint_vals w64 i, tt))), tt) in
    let fit : h.count ≤ 4096 = h.most in let same : h.count ≡ length h.frames = h.counted in
    let x : List ℕ = get_or h.frames i [] in
    qed 𝓛 (((‵ (flft κ q) ⊛ ‵ ftrue) ⊛ ‵ (owns (MutRef (named 0) κ R ∷ usize ∷ []) a
    (mut_vals a.0, (uint_vals w64 i, tt)))) ∷ raw (fact 𝓤 (i < h.count)) ∷ []) ∵
    move ! (1 ∷ []) $ heard ! (i < h.count) (λ inside.
    let far : i * 4096 < 2 ^ 64 = omega arith in let within : i < length h.frames = omega arith in
    split ! $
    enter ! _ _ _ _ _ $ alloc_all ! (λ l. pass_all ! refl ((tt, tt), ((tt, record { fits = are.1.0.1 }), tt)) $
    move ! (1 ∷ []) $ fsplit ! $ fsplit3 ! $ drop ! $ move ! (3 ∷ []) $ split ! $ move ! (2 ∷ 3 ∷ 0 ∷ []) $
    opens ! tt R rb ro
    (λ us. move ! (1 ∷ []) $ peeks ! R _ (shows 𝓛 R) h us (λ is. fsplit ! $ move ! (1 ∷ []) $ fsplit ! $
    in_a_block ! h.at (λ p. lies_at (Array Frame h.count) full_share p h.frames) (id⊢ 𝓤 _) (λ b o e.
    let Cell = λ (ws : List Val). ‵ (cell_at full_share R.mir ws rb ro) in
    let word = lowers.val_is h us is ∙ ap (λ (p : Ptr). lowers.lowered (record h { at = p }) ∷ []) e in
    use1 𝓛 (‵ (part_at Frame full_share x b (i * 4096 + o)) ⊛ ‵ (others (shares Frame) full_share h.frames i b o))
    (frame_out 𝓛 h.count h.frames i b o within) $ split ! $
    rewrite ! 4 Cell word refl $
    first ! $ blocks ! $
    sets ! (of_opd ! (load ! (through ! refl (fld ! refl (stop !))) (look_in ! 4 (sub ! 0 refl (whole !))))) refl
    (tt, tt) $
    sets ! (bin ! (get ! refl) (big_lit ! (record { fits = lit< tt })) (record { fits = far })) refl
    (tt, record { fits = far }) $
    sets ! (bin ! (get ! refl) (get ! refl) tt) refl (tt, tt) $
    sets_last ! (addr ! (through ! refl (stop !))) refl (tt, tt) $
    exec ! 𝓣.C 𝓣.Λ (env code.Mir.locals l) code.Mir.t-2 (at_ret _ (W.post y)) $
    sets ! (of_opd ! (get ! refl)) refl (tt, tt) $
    rewrite ! 4 Cell (sym word) refl $
    -- [the frame; the others; the right; the words' own; the cell; the open borrow; obs; auth]
    move ! (3 ∷ 4 ∷ []) $ fjoin ! $ move ! (3 ∷ 0 ∷ []) $ fjoin ! $ move ! (2 ∷ 0 ∷ []) $ fjoin ! $
    move ! (2 ∷ 3 ∷ 4 ∷ 1 ∷ 0 ∷ []) $ group ! 5 $
    use1 𝓛 (later (some (λ (γ' : GName). ‵ ((MutRef (named 0) κ Frame).own_val
    (record { ref_ptr = (b, i * 4096 + o); ghost_name = γ'; now = x }) (vptr b (i * 4096 + o) ∷ [])) ⊛ ‵ (flft κ q)
    ⊛ ‵ (follows R Frame γ γ' (block_with_frame h i)))))
    (lends_Part 𝓛 R Frame (block_with_frame h i) (named 0) κ q rb ro b (i * 4096 + o) γ (sem 𝓛
    (Rest 𝓛 h i b o rb ro us e within)) (back 𝓛 h i b o rb ro us e within) ((R).coded.code h) ((R).coded.code h) x)
    $ await ! tt $ pick ! (λ γ'.
    returns ! (look_at ! 0 refl) $ free_all ! refl $ keep ! (0 ∷ []) $ split3 ! $
    suffices ! _ (ends_at 𝓛 f.ended stayed c y (vptr b (i * 4096 + o)) (record {
      ref_ptr = (b, i * 4096 + o);
      ghost_name = γ';
      now = x;
    }) (tt, (tt, tt)) (tt, (tt, tt))) $
    nothing ! $ nothing ! $ fjoin ! $ nothing ! $ fjoin ! $ join ! $ nothing ! $ move ! (2 ∷ 0 ∷ []) $ join ! $ join ! $
    frame ! $ says ! refl $ done !)))))))
