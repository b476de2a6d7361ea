-- The number of frames is read.
use Rattle.pip_frames.proofs.BlockSteps.{◌≤◌, ◌+◌, [], ◌∷◌, length, ◌≡◌, refl, w64, proved, ftrue, flft, named, vint}
use Rattle.pip_frames.proofs.BlockSteps.{tables, ‵, ◌⊛◌, ◌$◌, ◌∵◌, !, qed, move, keep, drop, use1, split, join, fsplit}
use Rattle.pip_frames.proofs.BlockSteps.{fjoin, suffices, frame, done, enter, of_opd, load, stop, fld, returns}
use Rattle.pip_frames.proofs.BlockSteps.{alloc_all, pass_all, free_all, look_at, through, sets, usize, yes, owns}
use Rattle.pip_frames.proofs.BlockSteps.{ShrRef, shr_vals, shr_Tells, plain, nothing, Stays, walk_of, says}
use Rattle.pip_frames.proofs.BlockSteps.{stay_dropped, Goes-dropped, ends_at, R, Words}
use base.Fml.{fhide}
use types.Run.{look}
use denote.Builtin.{RefOf}
use denote.Memory.{hidden_shr}
use denote.Plain.{uint_Makes}
use denote.Steps.{owned}
use denote.Struct.Lending.{lent_out}
use Rattle.std.proofs.Words.{word_in, word_out}
use Rattle.pip_frames.proofs.Seen.{shows_count}
use Rattle.pip_frames.specs.contracts.block.Block as C
use Rattle.pip_frames.specs.contracts.block.Block.count as f
use Rattle.pip_frames.proofs.block.Block.count.Statement.{statement}
use Rattle.pip_frames.proofs.block.Block.count.Code as code

abbrev stayed : Stays f.ended.signature.params f.ended.kept
stayed = (stay_dropped (RefOf (0 ∷ []) tt (plain (λ _. R)) (λ _. tt)) yes, tt)

pub count_spec : {M : Type 1} → statement M
count_spec 𝓤 𝓛 𝓜 𝓡 wired =
    let c = f.clauses 𝓛 𝓜.mem 𝓡.returns in let W = walk_of 𝓛 f.ended stayed c in let 𝓣 = tables 𝓤 𝓛.H 𝓜 𝓡 𝓡.env in
    proved 𝓛 f.ended stayed c 𝓜 𝓡
    (Goes-dropped 𝓛 1 (RefOf (0 ∷ []) tt (plain (λ _. R)) (λ _. tt)) yes (λ κs x w. refl), tt)
    f.Key.name code.function (code.unfolded 𝓤 𝓛.H 𝓜 𝓡 wired)
    (λ κs. (shr_vals, tt)) (λ κs. (shr_Tells (named 0) κs.0 R, tt)) (λ κs qs bounds a _ are.
    let κ = κs.0 in let q = qs.0 in let rb = a.0.ref_ptr.0 in let ro = a.0.ref_ptr.1 in let h = a.0.now in
    let y : W.Ghost = ((κs, qs, bounds, a, (shr_vals a.0, tt)), tt) in
    let few : h.count ≤ 4096 = h.most in let same : h.count ≡ length h.frames = h.counted in
    qed 𝓛 (((‵ (flft κ q) ⊛ ‵ ftrue) ⊛ ‵ (owns (ShrRef (named 0) κ R ∷ []) a (shr_vals a.0, tt))) ∷ ‵ ftrue ∷ []) ∵
    split ! $ enter ! _ _ _ _ _ $ alloc_all ! (λ l. pass_all ! refl ((tt, tt), tt) $
    move ! (1 ∷ []) $ fsplit ! $ fsplit ! $ drop ! $
    use1 𝓛 (‵ (hidden_shr Words κ (h.at, (h.count, tt)) rb ro) ⊛ ‵ (fhide (C.the_lent h h.at κ)))
    (lent_out 𝓛 C.struct C.the_codes C.the_heap C.the_lent κ h rb ro) $ split ! $
    move ! (3 ∷ []) $ split ! $ move ! (2 ∷ 0 ∷ []) $
    word_in ! tt h.count rb (ro + 8) (shows_count 𝓛 κ h rb ro) (λ q0 fn.
    sets ! (of_opd ! (load ! (through ! refl (fld ! refl (stop !))) (look ! 1 refl))) refl (tt, record { fits = fn }) $
    word_out ! tt h.count rb (ro + 8) fn $
    returns ! (look_at ! 0 refl) $ free_all ! refl $ keep ! (0 ∷ []) $
    owned ! usize _ (uint_Makes 𝓛 w64) h.count (vint w64 h.count ∷ []) (refl, fn) $ move ! (1 ∷ []) $
    suffices ! _ (ends_at 𝓛 f.ended stayed c y (vint w64 h.count) h.count (tt, tt) (tt, tt)) $ says ! (refl, same, few)
    $
    nothing ! $ move ! (1 ∷ 0 ∷ []) $ join ! $ frame ! $ nothing ! $ nothing ! $ fjoin ! $ done !)))
