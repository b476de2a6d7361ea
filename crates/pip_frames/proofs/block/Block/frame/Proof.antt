-- One frame is lent for reading.
use Rattle.pip_frames.proofs.BlockSteps.{◌≡◌, ℕ, ◌+◌, ◌*◌, ◌^◌, ◌≤◌, ◌<◌, List, [], ◌∷◌, length, get_or, refl, lit<}
use Rattle.pip_frames.proofs.BlockSteps.{w64, arith, proved, ftrue, flft, named, Val, vptr, fact, tables, ‵, raw, ◌⊛◌}
use Rattle.pip_frames.proofs.BlockSteps.{at_ret, ◌$◌, ◌∵◌, !, qed, move, keep, drop, use1, split, join, rewrite, fsplit}
use Rattle.pip_frames.proofs.BlockSteps.{fjoin, feq_i, suffices, frame, done, enter, of_opd, bin, addr, load, stop, fld}
use Rattle.pip_frames.proofs.BlockSteps.{first, blocks, exec, returns, alloc_all, pass_all, free_all, look_at, get}
use Rattle.pip_frames.proofs.BlockSteps.{through, sets, sets_last, env, usize, yes, owns, uint_vals, uint_Tells, ShrRef}
use Rattle.pip_frames.proofs.BlockSteps.{shr_vals, shr_Tells, plain, nothing, heard, Stays, walk_of, says, stay_dropped}
use Rattle.pip_frames.proofs.BlockSteps.{Goes-dropped, ends_at, Frame, R, big_lit, hide, Words, place, place_is}
use base.Fml.{fhide}
use types.Run.{look}
use denote.Builtin.{RefOf}
use denote.Memory.{hidden_shr, shared_of}
use denote.Opens.{unhide}
use denote.RawPtr.{block_of, count_of, InBlock}
use denote.Struct.Lending.{in_block_says, lent_out}
use Rattle.std.proofs.Words.{pointer_in, pointer_out}
use Rattle.pip_frames.proofs.Seen.{frame_seen, shows_at}
use Rattle.pip_frames.specs.contracts.block.Block as C
use Rattle.pip_frames.specs.contracts.block.Block.frame as f
use Rattle.pip_frames.proofs.block.Block.frame.Statement.{statement}
use Rattle.pip_frames.proofs.block.Block.frame.Code as code

abbrev stayed : Stays f.ended.signature.params f.ended.kept
stayed = (stay_dropped (RefOf (0 ∷ []) tt (plain (λ _. R)) (λ _. tt)) yes, (stay_dropped (plain (λ _. usize)) yes, tt))

pub frame_spec : {M : Type 1} → statement M
frame_spec 𝓤 𝓛 𝓜 𝓡 wired =
    let c = f.clauses 𝓛 𝓜.mem 𝓡.returns in let W = walk_of 𝓛 f.ended stayed c in let 𝓣 = tables 𝓤 𝓛.H 𝓜 𝓡 𝓡.env in
    proved 𝓛 f.ended stayed c 𝓜 𝓡 (
      Goes-dropped 𝓛 1 (RefOf (0 ∷ []) tt (plain (λ _. R)) (λ _. tt)) yes (λ κs x w. refl),
      (Goes-dropped 𝓛 1 (plain (λ _. usize)) yes (λ κs x w. refl), tt),
    )
    f.Key.name code.function (code.unfolded 𝓤 𝓛.H 𝓜 𝓡 wired)
    (λ κs. (shr_vals, (uint_vals w64, tt))) (λ κs.
    (shr_Tells (named 0) κs.0 R, (uint_Tells w64, tt))) (λ κs qs bounds a _ are.
    let κ = κs.0 in let q = qs.0 in let rb = a.0.ref_ptr.0 in let ro = a.0.ref_ptr.1 in let h = a.0.now in
    let i = a.1.0 in
    let y : W.Ghost = ((κs, qs, bounds, a, (shr_vals a.0, (uint_vals w64 i, tt))), tt) in
    let few : h.count ≤ 4096 = h.most in let same : h.count ≡ length h.frames = h.counted in
    let b = block_of h.at in let o = count_of h.at in let x : List ℕ = get_or h.frames i [] in
    qed 𝓛 (((‵ (flft κ q) ⊛ ‵ ftrue) ⊛ ‵ (owns (ShrRef (named 0) κ R ∷ usize ∷ []) a
    (shr_vals a.0, (uint_vals w64 i, tt)))) ∷ raw (fact 𝓤 (i < h.count)) ∷ []) ∵
    move ! (1 ∷ []) $ heard ! (i < h.count) (λ inside.
    let far : i * 4096 < 2 ^ 64 = omega arith in let within : i < length h.frames = omega arith in
    split ! $ enter ! _ _ _ _ _ $
    alloc_all ! (λ l. pass_all ! refl ((tt, tt), ((tt, record { fits = are.1.0.1 }), tt)) $
    move ! (1 ∷ []) $ fsplit ! $ fsplit ! $ drop ! $
    use1 𝓛 (‵ (hidden_shr Words κ (h.at, (h.count, tt)) rb ro) ⊛ ‵ (fhide (C.the_lent h h.at κ)))
    (lent_out 𝓛 C.struct C.the_codes C.the_heap C.the_lent κ h rb ro) $ split ! $
    move ! (1 ∷ []) $ unhide ! $ fsplit ! $ use1 𝓛 (raw (fact 𝓤 (InBlock h.at))) (in_block_says 𝓛 h.at) $
    heard ! (InBlock h.at) (λ inb.
    fsplit ! $ drop ! $ use1 𝓛 (‵ (shared_of Frame x b (place 4096 o i) κ)) (frame_seen 𝓛 κ h.frames i b o within) $
    rewrite ! 0 (λ (k : ℕ). ‵ (shared_of Frame x b k κ)) (place_is 4096 o i) refl $ hide ! $
    -- [the frame; the words; the number; the token]
    move ! (3 ∷ []) $ split ! $ move ! (3 ∷ 0 ∷ []) $
    first ! $ blocks ! $
    pointer_in ! tt h.at inb rb (ro + 0) (shows_at 𝓛 κ h rb ro) (λ q0.
    sets ! (of_opd ! (load ! (through ! refl (fld ! refl (stop !))) (look ! 1 refl))) refl (tt, tt) $
    pointer_out ! tt h.at inb rb (ro + 0) $
    sets ! (bin ! (get ! refl) (big_lit ! (record { fits = lit< tt })) (record { fits = far })) refl
    (tt, record { fits = far }) $
    sets ! (bin ! (get ! refl) (get ! refl) tt) refl (tt, tt) $
    sets_last ! (addr ! (through ! refl (stop !))) refl (tt, tt) $
    exec ! 𝓣.C 𝓣.Λ (env code.Mir.locals l) code.Mir.t-2 (at_ret _ (W.post y)) $
    sets ! (of_opd ! (get ! refl)) refl (tt, tt) $
    returns ! (look_at ! 0 refl) $ free_all ! refl $
    keep ! (3 ∷ 0 ∷ []) $
    let v : Val = vptr b (i * 4096 + o) in
    feq_i ! (List Val) (v ∷ []) (v ∷ []) refl $ fjoin ! $ move ! (1 ∷ 0 ∷ []) $
    suffices ! _ (ends_at 𝓛 f.ended stayed c y v (record { ref_ptr = (b, i * 4096 + o); now = x })
    (tt, (tt, tt)) (tt, (tt, tt))) $ says ! refl $
    nothing ! $ move ! (1 ∷ 0 ∷ []) $ join ! $ frame ! $ nothing ! $ nothing ! $ fjoin ! $ nothing ! $ fjoin ! $
    done !)))))
