-- The block goes back to the allocator.
use Rattle.pip_frames.proofs.BlockSteps.{◌≡◌, ◌≤◌, ◌<◌, ◌*◌, ◌^◌, List, [], ◌∷◌, refl, ap, lit<, arith, w64, proved}
use Rattle.pip_frames.proofs.BlockSteps.{full_share, id⊢, ftrue, flft, named, Val, vint, vptr, fact, tables, ‵, raw}
use Rattle.pip_frames.proofs.BlockSteps.{◌⊛◌, some, later, at_ret, ◌$◌, ◌∵◌, !, qed, move, keep, drop, use0, use1}
use Rattle.pip_frames.proofs.BlockSteps.{split, join, pick, await, rewrite, regoal, fsplit, fjoin, feq_i, feq_l}
use Rattle.pip_frames.proofs.BlockSteps.{suffices, done, plain, nothing, Stays, walk_of, stay_dropped, Goes-dropped}
use Rattle.pip_frames.proofs.BlockSteps.{ends_at, R, yes, owns, ShrRef, shr_vals, shr_Tells, usize, Array, Ptr}
use Rattle.pip_frames.proofs.BlockSteps.{block_ptr, lies_at, in_a_block, enter, of_opd, lit, bin, fld, stop, whole, sub}
use Rattle.pip_frames.proofs.BlockSteps.{first, blocks, exec, returns, alloc_all, pass_all, free_all, look_at, get}
use Rattle.pip_frames.proofs.BlockSteps.{sets, env, Frame, right_to_free, big_lit}
use base.Logic.{emp}
use base.Fml.{froom}
use mir.Syntax.{ty_array}
use mir.Raw.{raw as bare}
use mir.Val.{vunit}
use prog.Capped.{capped_is}
use prog.Memory.{capped, size, align}
use mir.Syntax.{ty_unit}
use mir.Val.{has_ty, WT}
use lib.Dec.{T}
use mathlib.Core.Path.{sym, subst}
use prog.Wp.{WpFn}
use contract.Monad.{fact_i}
use types.Kit.{prop}
use types.Run.{and_then, no_more, unit_lit}
use types.ByLocal.{get_in, lands_last}
use denote.Builtin.{RefOf, unit}
use denote.Memory.{lone}
use denote.Plain.{uint_Makes}
use denote.Steps.{owned, only}
use denote.Triple.Call.{calls_at_last}
use denote.Triple.Clauses.{lasts}
use denote.Triple.Spec.{triple_of}
use denote.Triple.Table.{framed}
use Rattle.std.proofs.alloc.Calls.{Goes-blank}
use Rattle.std.specs.contracts.alloc.Global.{the_row as Gl}
use Rattle.std.specs.contracts.impls.GlobalAllocator.deallocate as g
use Rattle.std.proofs.impls.GlobalAllocator.deallocate.Met.{met}
use Rattle.pip_frames.proofs.Freed.{room_left}
use Rattle.pip_frames.specs.contracts.block.Block.free as f
use Rattle.pip_frames.proofs.block.Block.free.Statement.{statement}
use Rattle.pip_frames.proofs.block.Block.free.Code as code
use Rattle.pip_frames.proofs.block.Block.TheLaws.{lowers}

abbrev stayed : Stays f.ended.signature.params f.ended.kept
stayed = (stay_dropped (plain (λ _. R)) yes, (stay_dropped (RefOf (0 ∷ []) tt (plain (λ _. Gl)) (λ _. tt)) yes, tt))

pub free_spec : {M : Type 1} → statement M
free_spec 𝓤 𝓛 𝓜 𝓡 wired =
    let c = f.clauses 𝓛 𝓜.mem 𝓡.returns in let W = walk_of 𝓛 f.ended stayed c in let 𝓣 = tables 𝓤 𝓛.H 𝓜 𝓡 𝓡.env in
    let G = triple_of 𝓛 g.signature (g.spec 𝓛 𝓜.mem 𝓡.returns) in
    proved 𝓛 f.ended stayed c 𝓜 𝓡 (
      Goes-blank 𝓛 1 (plain (λ _. R)) yes (λ κs x w. tt),
      (Goes-dropped 𝓛 1 (RefOf (0 ∷ []) tt (plain (λ _. Gl)) (λ _. tt)) yes (λ κs x w. refl), tt),
    )
    f.Key.name code.function (code.unfolded 𝓤 𝓛.H 𝓜 𝓡 wired)
    (λ κs. ((λ h. lowers.lowered h ∷ []), (shr_vals, tt))) (λ κs.
    (lowers.val_is, (shr_Tells (named 0) κs.0 Gl, tt))) (λ κs qs bounds a _ are.
    let κ = κs.0 in let q = qs.0 in let h = a.0 in let r = a.1.0 in let n = h.count in
    let few : h.count ≤ 4096 = h.most in
    let fn : n < 2 ^ 64 = omega arith in let fs : n * 4096 < 2 ^ 64 = omega arith in
    let y : W.Ghost = ((κs, qs, bounds, a, (lowers.lowered h ∷ [], (shr_vals r, tt))), tt) in
    let τ = bare (ty_array (lone Frame.mir) n) in
    let Layout : Type 0 = (capped (size τ) ≡ n * 4096) × (capped (align τ) ≡ 4) in
    qed 𝓛 (((‵ (flft κ q) ⊛ ‵ ftrue)
    ⊛ ‵ (owns (R ∷ ShrRef (named 0) κ Gl ∷ []) a (lowers.lowered h ∷ [], (shr_vals r, tt)))) ∷ ‵ ftrue ∷ []) ∵
    split ! $ move ! (1 ∷ []) $ fsplit ! $ fsplit ! $ drop ! $ fsplit ! $
    in_a_block ! h.at (λ p. lies_at (Array Frame n) full_share p h.frames) (id⊢ 𝓤 _) (λ b o e.
    use1 𝓛 (‵ (froom τ b o)) (room_left 𝓛 n h.frames b o) $ rewrite ! 1 (λ (p : Ptr). ‵ (right_to_free p n)) e refl $
    fjoin ! $
    move ! (1 ∷ []) $ fsplit ! $ move ! (2 ∷ 0 ∷ 3 ∷ []) $
    -- [the block; the handle; the token; ..]
    regoal ! (λ (p : Ptr). prop (WpFn 𝓤 𝓛.H 𝓣.C 𝓣.Λ code.function
    (lowers.lowered (record h { at = p }) ∷ vptr r.ref_ptr.0 r.ref_ptr.1 ∷ []) (W.post y))) e refl $
    enter ! _ _ _ _ _ $ alloc_all ! (λ l. pass_all ! refl ((tt, (tt, (record { fits = fn }, tt))), ((tt, tt), tt)) $
    sets ! (of_opd ! (get_in ! (fld ! refl (stop !)) (sub ! 0 refl (whole !)))) refl (tt, tt) $
    sets ! (of_opd ! (get_in ! (fld ! refl (stop !)) (sub ! 1 refl (whole !)))) refl (tt, record { fits = fn }) $
    first ! $ blocks ! $
    sets ! (of_opd ! (get ! refl)) refl (tt, tt) $
    sets ! (bin ! (get ! refl) (big_lit ! (record { fits = lit< tt })) (record { fits = fs })) refl
    (tt, record { fits = fs }) $
    let z : G.Ghost = (
      (
        (κ, tt),
        (q, tt),
        tt,
        (r, (block_ptr b o, (n * 4096, (4, tt)))),
        (shr_vals r, (vptr b o ∷ [], (vint w64 (n * 4096) ∷ [], (vint w64 4 ∷ [], tt)))),
      ),
      τ,
    ) in
    use0 𝓛 (raw (fact 𝓤 Layout)) (fact_i 𝓤 Layout (emp 𝓤) (capped_is (n * 4096) fs, refl)) $ join ! $
    nothing ! $ owned ! usize _ (uint_Makes 𝓛 w64) 4 (vint w64 4 ∷ []) (refl, lit< tt) $ fjoin ! $
    owned ! usize _ (uint_Makes 𝓛 w64) (n * 4096) (vint w64 (n * 4096) ∷ []) (refl, fs) $ fjoin ! $
    feq_i ! (List Val) (vptr b o ∷ []) (vptr b o ∷ []) refl $ fjoin ! $ move ! (2 ∷ 0 ∷ []) $ fjoin ! $
    move ! (2 ∷ 0 ∷ []) $ join ! $ join ! $ use1 𝓛 (raw (G.pre z)) (id⊢ 𝓤 _) $
    calls_at_last ! (framed 𝓤 𝓛.H 𝓜 (tables 𝓤 𝓛.H 𝓜 𝓡 𝓡.env)) G
    (met 𝓤 𝓛 𝓜 𝓡 (code.calls-std::impls::GlobalAllocator::deallocate 𝓡.env wired)) z
    (and_then ! (get ! refl) (and_then ! (get ! refl) (and_then ! (get ! refl) (and_then ! (lit ! tt) (no_more !)))))
    (λ v.
    use1 𝓛 (later (some (λ (u : Unit {0}). ((‵ (flft κ q) ⊛ ‵ ftrue) ⊛ ‵ (unit.own_val u (v ∷ [])))
    ⊛ some (λ (ws : Unit {0} × (Unit {0} × (Unit {0} × (Unit {0} × Unit {0})))). ‵ (lasts g.ended z.0.0 z.0.3 ws)
    ⊛ ‵ ftrue)))) (id⊢ 𝓤 _) $
    await ! tt $ pick ! (λ u. split ! $ split ! $ split ! $ move ! (2 ∷ []) $ feq_l ! (λ is_unit.
    lands_last ! refl (subst (λ (x : Val). T (has_ty ty_unit x) × WT x) (sym (ap only is_unit)) (tt, tt)) $
    exec ! 𝓣.C 𝓣.Λ (env code.Mir.locals l) code.Mir.t-4 (at_ret _ (W.post y)) $
    sets ! (of_opd ! (unit_lit !)) refl (tt, tt) $
    returns ! (look_at ! 0 refl) $ free_all ! refl $ keep ! (0 ∷ []) $
    suffices ! _ (ends_at 𝓛 f.ended stayed c y vunit tt (tt, (tt, tt)) (tt, (tt, tt))) $
    nothing ! $ feq_i ! (List Val) (vunit ∷ []) (vunit ∷ []) refl $ nothing ! $ nothing ! $ fjoin ! $ nothing ! $
    fjoin ! $ join ! $ nothing ! $ move ! (3 ∷ 0 ∷ []) $ join ! $ join ! $ done !))))))
