-- Room for the frames is asked of the allocator.
use Rattle.pip_frames.proofs.BlockSteps.{◌≡◌, ◌≤◌, ◌<◌, ◌*◌, ◌^◌, [], ◌∷◌, refl, lit<, arith, w64, proved, id⊢, ftrue}
use Rattle.pip_frames.proofs.BlockSteps.{flft, named, Val, vint, vptr, fact, tables, ‵, raw, ◌⊛◌, some, later, at_ret}
use Rattle.pip_frames.proofs.BlockSteps.{◌$◌, ◌∵◌, !, qed, move, keep, drop, use0, use1, use2, split, join, pick, await}
use Rattle.pip_frames.proofs.BlockSteps.{fsplit, fjoin, suffices, frame, done, plain, nothing, heard, Stays, walk_of}
use Rattle.pip_frames.proofs.BlockSteps.{says, stay_dropped, Goes-dropped, ends_at, yes, owns, ShrRef, shr_vals}
use Rattle.pip_frames.proofs.BlockSteps.{shr_Tells, uint_vals, uint_Tells, usize, Ptr, block_ptr, enter, of_opd, lit}
use Rattle.pip_frames.proofs.BlockSteps.{bin, fld, stop, whole, first, exec, returns, alloc_all, pass_all, free_all}
use Rattle.pip_frames.proofs.BlockSteps.{look_at, get, sets, sets_last, env, Frame, big_lit}
use base.Logic.{emp}
use mathlib.Core.Bool.{true, false}
use mir.Syntax.{ty_array, Body}
use mir.Raw.{raw as bare}
use mir.Val.{vstruct, vcons, vnil}
use prog.Capped.{capped_is}
use prog.Memory.{capped, size, align}
use prog.Wp.{Wp, after_seq, at_return}
use contract.Monad.{fact_i}
use types.Kit.{Post as After, any_q}
use types.Part.{agg}
use types.Match.{live, vrt, in_variant}
use types.Run.{and_then, no_more, switches_on}
use types.ByLocal.{get_in, get_tag, lands_as}
use denote.Builtin.{RefOf}
use denote.Laws.{Is}
use denote.Memory.{lone}
use denote.Plain.{uint_Makes}
use denote.RattleType.{RattleType}
use denote.Steps.{owned}
use denote.Struct.Struct.{Struct, Struct-Makes}
use denote.Struct.Declared as Declared
use denote.Triple.Call.{calls_at}
use denote.Triple.Clauses.{lasts}
use denote.Triple.Spec.{triple_of}
use denote.Triple.Table.{framed}
use Rattle.std.specs.Prelude.{Ok, Err}
use Rattle.std.specs.Allocator.{block_if_ok}
use Rattle.std.proofs.alloc.Calls.{Answer, Answer-typed}
use Rattle.std.proofs.alloc.Shapes.{after, head, arm_body}
use Rattle.std.specs.contracts.alloc.Global.{the_row as Gl}
use Rattle.std.specs.contracts.impls.GlobalAllocator.allocate as g
use Rattle.std.proofs.impls.GlobalAllocator.allocate.Met.{met}
use Rattle.std.specs.contracts.result.Result as RS
use Rattle.std.specs.contracts.alloc.AllocError as AE
use Rattle.std.proofs.ResultValues.{ok_of, err_of}
use Rattle.pip_frames.specs.declared.block.Room.{Room}
use Rattle.pip_frames.specs.contracts.block.Room.{the_row as Rm}
use Rattle.pip_frames.specs.Ownership.{free_token}
use Rattle.pip_frames.proofs.Taken.{Answered, answered, answers, Words, made_of}
use Rattle.pip_frames.specs.contracts.block.take as f
use Rattle.pip_frames.proofs.block.take.Statement.{statement}
use Rattle.pip_frames.proofs.block.take.Code as code

abbrev stayed : Stays f.ended.signature.params f.ended.kept
stayed = (stay_dropped (RefOf (0 ∷ []) tt (plain (λ _. Gl)) (λ _. tt)) yes, (stay_dropped (plain (λ _. usize)) yes, tt))

pub take_spec : {M : Type 1} → statement M
take_spec 𝓤 𝓛 𝓜 𝓡 wired =
    let c = f.clauses 𝓛 𝓜.mem 𝓡.returns in let W = walk_of 𝓛 f.ended stayed c in let 𝓣 = tables 𝓤 𝓛.H 𝓜 𝓡 𝓡.env in
    let G = triple_of 𝓛 g.signature (g.spec 𝓛 𝓜.mem 𝓡.returns) in
    proved 𝓛 f.ended stayed c 𝓜 𝓡 (
      Goes-dropped 𝓛 1 (RefOf (0 ∷ []) tt (plain (λ _. Gl)) (λ _. tt)) yes
          (λ κs x w. refl),
      (Goes-dropped 𝓛 1 (plain (λ _. usize)) yes (λ κs x w. refl), tt),
    )
    f.Key.name code.function (code.unfolded 𝓤 𝓛.H 𝓜 𝓡 wired)
    (λ κs. (shr_vals, (uint_vals w64, tt))) (λ κs.
    (shr_Tells (named 0) κs.0 Gl, (uint_Tells w64, tt))) (λ κs qs bounds a _ are.
    let κ = κs.0 in let q = qs.0 in let r = a.0 in let n = a.1.0 in
    let y : W.Ghost = ((κs, qs, bounds, a, (shr_vals r, (uint_vals w64 n, tt))), tt) in
    let τ = bare (ty_array (lone Frame.mir) n) in
    let both : Body = head (after 2 (code.function).body) in
    let Layout : Type 0 = (capped (size τ) ≡ n * 4096) × (capped (align τ) ≡ 4) in
    qed 𝓛 (((‵ (flft κ q) ⊛ ‵ ftrue) ⊛ ‵ (owns (ShrRef (named 0) κ Gl ∷ usize ∷ []) a
    (shr_vals r, (uint_vals w64 n, tt)))) ∷ raw (fact 𝓤 ((16 ≤ n) × (n ≤ 4096))) ∷ []) ∵
    move ! (1 ∷ []) $ heard ! ((16 ≤ n) × (n ≤ 4096)) (λ bounds. let few : n ≤ 4096 = bounds.1 in
    let fs : n * 4096 < 2 ^ 64 = omega arith in
    split ! $ move ! (1 ∷ []) $ fsplit ! $ move ! (1 ∷ []) $ drop ! $
    -- [the handle; the token; ..]
    enter ! _ _ _ _ _ $ alloc_all ! (λ l. pass_all ! refl ((tt, tt), ((tt, record { fits = are.1.0.1 }), tt)) $
    let Then : After 𝓤 𝓛.H = any_q (after_seq 𝓤 𝓛.H (Wp 𝓤 𝓛.H 𝓣.C 𝓣.Λ (env code.Mir.locals l) code.Mir.t-4
    (at_return 𝓤 𝓛.H (env code.Mir.locals l) (W.post y))) (at_return 𝓤 𝓛.H (env code.Mir.locals l) (W.post y))) in
    sets ! (bin ! (get ! refl) (big_lit ! (record { fits = lit< tt })) (record { fits = fs })) refl
    (tt, record { fits = fs }) $
    let z : G.Ghost = (
      (
        (κ, tt),
        (q, tt),
        tt,
        (r, (n * 4096, (4, tt))),
        (shr_vals r, (vint w64 (n * 4096) ∷ [], (vint w64 4 ∷ [], tt))),
      ),
      τ,
    ) in
    use0 𝓛 (raw (fact 𝓤 Layout)) (fact_i 𝓤 Layout (emp 𝓤) (capped_is (n * 4096) fs, refl)) $
    nothing ! $ owned ! usize _ (uint_Makes 𝓛 w64) 4 (vint w64 4 ∷ []) (refl, lit< tt) $ fjoin ! $
    owned ! usize _ (uint_Makes 𝓛 w64) (n * 4096) (vint w64 (n * 4096) ∷ []) (refl, fs) $ fjoin ! $
    move ! (2 ∷ 0 ∷ []) $ fjoin ! $ move ! (2 ∷ 0 ∷ []) $ join ! $ join ! $ use1 𝓛 (raw (G.pre z)) (id⊢ 𝓤 _) $
    calls_at ! (framed 𝓤 𝓛.H 𝓜 (tables 𝓤 𝓛.H 𝓜 𝓡 𝓡.env)) G
    (met 𝓤 𝓛 𝓜 𝓡 (code.calls-std::impls::GlobalAllocator::allocate 𝓡.env wired)) z
    (and_then ! (get ! refl) (and_then ! (get ! refl) (and_then ! (lit ! tt) (no_more !)))) (λ v.
    use1 𝓛 (later (some (λ (s : Answer.Denot). ((‵ (flft κ q) ⊛ ‵ ftrue) ⊛ ‵ (Answer.own_val s (v ∷ [])))
    ⊛ some (λ (ws : Unit {0} × (Unit {0} × (Unit {0} × Unit {0}))). ‵ (lasts g.ended z.0.0 z.0.3 ws)
    ⊛ ‵ (block_if_ok free_token τ s))))) (id⊢ 𝓤 _) $
    await ! tt $ pick ! (λ s. split ! $ move ! (1 ∷ []) $
    pick ! (λ ws. split ! $ drop ! $ move ! (1 ∷ []) $ split ! $ split ! $ move ! (2 ∷ 3 ∷ []) $
    use2 𝓛 (raw (Answered 𝓛 τ v)) (answered 𝓛 τ v s) $
    answers ! τ v (λ b o e.
    let p : Ptr = block_ptr b o in let made : Val = vstruct (vcons (vptr b o) (vcons (vint w64 n) vnil)) in
    let room : Room = record { at = p; count = n; least = bounds.0; most = few } in
    lands_as ! e refl (Answer-typed true b o) $ first ! $
    switches_on ! (get_tag ! (vrt ! refl (fld ! refl (stop !))) (whole !)) $
    exec ! 𝓣.C 𝓣.Λ (env code.Mir.locals l) (arm_body 0 both) Then $
    sets ! (of_opd ! (get_in ! (vrt ! refl (fld ! refl (stop !))) (in_variant ! 0 0 refl refl (whole !)))) refl (tt, tt)
    $
    sets ! (of_opd ! (get ! refl)) refl (tt, tt) $
    sets ! (agg ! (and_then ! (get ! refl) (and_then ! (get ! refl) (no_more !)))) refl
    (tt, (tt, (record { fits = are.1.0.1 }, tt))) $
    sets_last ! (agg ! (and_then ! (lit ! tt) (and_then ! (get ! refl) (no_more !)))) refl
    (tt, (record { fits = lit< tt }, ((tt, (record { fits = are.1.0.1 }, tt)), tt))) $
    exec ! 𝓣.C 𝓣.Λ (env code.Mir.locals l) code.Mir.t-4 (at_ret _ (W.post y)) $
    sets ! (of_opd ! (get ! refl)) refl (tt, (record { fits = lit< tt }, ((tt, (record { fits = are.1.0.1 }, tt)), tt)))
    $
    fjoin ! $ use0 𝓛 (‵ (Words.own_val (p, (n, tt)) (made ∷ []))) (made_of 𝓛 b o n are.1.0.1) $ fjoin ! $
    use1 𝓛 (‵ ((RS.the_row Rm AE.the_row).own_val (Ok room) (live 0 (vcons made vnil) ∷ []))) (ok_of 𝓛 Rm AE.the_row
    room made) $
    returns ! (look_at ! 0 refl) $ free_all ! refl $ keep ! (0 ∷ 1 ∷ []) $
    suffices ! _ (ends_at 𝓛 f.ended stayed c y (live 0 (vcons made vnil)) (Ok room) (tt, (tt, tt)) (tt, (tt, tt))) $
    says ! refl $
    nothing ! $ move ! (2 ∷ 0 ∷ []) $ join ! $ frame ! $ nothing ! $ nothing ! $ fjoin ! $ nothing ! $ fjoin ! $
    done !) (λ e.
    let Refusal : RattleType = Struct (Declared.shape AE.the_type) in
    let none : Val = live 1 (vcons (vstruct vnil) vnil) in
    lands_as ! e refl (Answer-typed false 0 0) $ first ! $
    switches_on ! (get_tag ! (vrt ! refl (fld ! refl (stop !))) (whole !)) $
    exec ! 𝓣.C 𝓣.Λ (env code.Mir.locals l) (arm_body 1 both) Then $
    sets ! (of_opd ! (get_in ! (vrt ! refl (fld ! refl (stop !))) (in_variant ! 1 0 refl refl (whole !)))) refl (tt, tt)
    $
    sets_last ! (agg ! (and_then ! (lit ! tt) (and_then ! (get ! refl) (no_more !)))) refl
    (tt, (record { fits = lit< tt }, (tt, tt))) $
    exec ! 𝓣.C 𝓣.Λ (env code.Mir.locals l) code.Mir.t-4 (at_ret _ (W.post y)) $
    sets ! (of_opd ! (get ! refl)) refl (tt, (record { fits = lit< tt }, (tt, tt))) $
    owned ! Refusal (Is Refusal) (Struct-Makes 𝓛 (Declared.shape AE.the_type) tt) tt
    (vstruct vnil ∷ []) (tt, (refl, tt)) $
    use1 𝓛 (‵ ((RS.the_row Rm AE.the_row).own_val (Err (record {})) (none ∷ []))) (err_of 𝓛 Rm AE.the_row
    (record {}) (vstruct vnil)) $
    returns ! (look_at ! 0 refl) $ free_all ! refl $ keep ! (0 ∷ 1 ∷ []) $
    suffices ! _ (ends_at 𝓛 f.ended stayed c y none (Err (record {})) (tt, (tt, tt)) (tt, (tt, tt))) $ says ! tt $
    nothing ! $ move ! (2 ∷ 0 ∷ []) $ join ! $ frame ! $ nothing ! $ nothing ! $ fjoin ! $ nothing ! $ fjoin ! $
    done !)))))))
