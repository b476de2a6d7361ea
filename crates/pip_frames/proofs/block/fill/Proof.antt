-- Each frame is written, from the first on.
use Rattle.pip_frames.proofs.BlockSteps.{◌≡◌, ℕ, ◌+◌, ◌*◌, ◌^◌, ◌≤◌, ◌<◌, List, [], ◌∷◌, length, refl, sym, lit<, arith}
use Rattle.pip_frames.proofs.BlockSteps.{w32, w64, proved, full_share, id⊢, SProp, ftrue, fsep, Val, vint, vptr, tables}
use Rattle.pip_frames.proofs.BlockSteps.{Logic, sem, ‵, ◌⊛◌, at_ret, ◌$◌, ◌∵◌, !, qed, by, move, keep, drop, use0, use1}
use Rattle.pip_frames.proofs.BlockSteps.{use2, split, join, rewrite, regoal, fsplit, fjoin, fpack, feq_i, suffices}
use Rattle.pip_frames.proofs.BlockSteps.{done, u32, yes, owns, Array, Array-whole, cell_at, part_at, row, place}
use Rattle.pip_frames.proofs.BlockSteps.{place_is, uint_vals, uint_Tells, Ptr, block_ptr, in_a_block, plain, nothing}
use Rattle.pip_frames.proofs.BlockSteps.{Stays, walk_of, says, stay_dropped, Goes-dropped, ends_at, enter, of_opd, lit}
use Rattle.pip_frames.proofs.BlockSteps.{bin, stop, fld, whole, sub, first, blocks, exec, returns, alloc_all, pass_all}
use Rattle.pip_frames.proofs.BlockSteps.{free_all, look_at, get, through, sets, sets_last, env, Frame, right_to_free}
use Rattle.pip_frames.proofs.BlockSteps.{Block, R, big_lit}
use Rattle.std.proofs.Common.{suc, ◌-◌, replicate}
use Rattle.std.proofs.lemmas.List.{length-replicate}
use Rattle.std.proofs.alloc.Shapes.{after}
use base.Logic.{ent}
use denote.Shadow.{makes_shadow}
use lib.Dec.{ltb→lt, nltb→le, T}
use lib.WfN.{lt-wf_rel}
use mathlib.Core.WellFounded.InvImage
use seplogic.Ra.Ura.{Ura}
use base.Fml.{froom, fat}
use mir.Syntax.{ty_array, ty_int}
use mir.Raw.{raw as bare}
use mir.Val.{vstruct, vcons, vnil, has_ty, WT}
use prog.Model.{Model}
use contract.Running.{Running, tables_of}
use prog.Wp.{Env, Out, Wp, WpFn, at_return, after_seq, after_block, after_turn}
use types.Kit.{Item, Sq, any_q, runs, prop}
use types.Part.{agg}
use types.Run.{and_then, no_more, assigns_last, init, skips, jumps, branches, loops, again, Below}
use types.ByLocal.{get_in, holding, forget_but, take_at, give_at}
use denote.Array.{array_vals, array_val, Array-Tells, Array-Makes, Array-Lawful}
use denote.Laws.{Is}
use denote.Memory.{lone, part_of}
use denote.Plain.{uint_Makes, uint_Lawful}
use denote.Steps.{owned}
use Rattle.std.proofs.alloc.Calls.{Goes-blank}
use Rattle.pip_frames.specs.declared.block.Room.{Room}
use Rattle.pip_frames.specs.contracts.block.Room.{the_row as Rm}
use Rattle.pip_frames.proofs.block.Room.TheLaws.{lowers}
use Rattle.pip_frames.proofs.BlockSteps.{Words}
use Rattle.pip_frames.proofs.Filled.{place_next, same_more}
use Rattle.pip_frames.specs.contracts.block.fill as f
use Rattle.pip_frames.proofs.block.fill.Statement.{statement}
use Rattle.pip_frames.proofs.block.fill.Code as code

abbrev stayed : Stays f.ended.signature.params f.ended.kept
stayed = (stay_dropped (plain (λ _. Rm)) yes, (stay_dropped (plain (λ _. Frame)) yes, tt))

abbrev wv : List ℕ → Val
wv w = array_val (mathlib.Core.List.map (λ (x : ℕ). vint w32 x) w)

abbrev made_val : Room → ℕ → ℕ → Val
made_val r b o = vstruct (vcons (vptr b o) (vcons (vint w64 r.count) vnil))

abbrev full : Room → List ℕ → ℕ → ℕ → Block
full r w b o = record {
  at = block_ptr b o;
  count = r.count;
  frames = replicate r.count w;
  counted = sym (length-replicate r.count w);
  least = r.least;
  most = r.most;
}

module _ {M : Type 1} {𝓤 : Ura M} (𝓛 : Logic 𝓤) (𝓜 : Model 𝓤 𝓛.H) (𝓡 : Running 𝓤 𝓛.H 𝓜) (r : Room) (w : List ℕ)
    (b o : ℕ) (is : Is Frame w (wv w ∷ [])) (Post : Val → SProp 𝓤)
    (exits : ent 𝓤 (sem 𝓛 ((R).own_val (full r w b o) (made_val r b o ∷ []))) (Post (made_val r b o))) (l : ℕ → ℕ) where
  abbrev n : ℕ
  n = r.count

  abbrev 𝓣 : contract.Running.MachineTables 𝓤 𝓛.H 𝓜
  𝓣 = tables 𝓤 𝓛.H 𝓜 𝓡 𝓡.env

  abbrev En : Env 𝓤 𝓛.H
  En = env code.Mir.locals l

  abbrev F : mir.Syntax.Ty
  F = bare (lone Frame.mir)

  abbrev Moved : Type 0
  Moved = (i : ℕ) × (i ≤ n)

  abbrev Nearer : Moved → Moved → Type 0
  Nearer t u = n - t.0 < n - u.0

  abbrev Now : Moved → List (Item 𝓤)
  Now t = ‵ (row Frame full_share (replicate t.0 w) b o) ∷ ‵ (froom (ty_array F (n - t.0)) b (place 4096 o t.0))
      ∷ ‵ (right_to_free (block_ptr b o) n)
      ∷ holding 𝓛 En ((1, lowers.lowered (record r { at = block_ptr b o })) ∷ (2, wv w) ∷ (3, vptr b o)
      ∷ (4, vint w64 n) ∷ (5, vint w64 t.0) ∷ [])

  abbrev Turned : Moved → Out → SProp 𝓤
  Turned t = after_turn 𝓤 𝓛.H (Below 𝓛 Nearer Now t) (after_block 𝓤 𝓛.H
      (after_seq 𝓤 𝓛.H (Wp 𝓤 𝓛.H 𝓣.C 𝓣.Λ En code.Mir.t-5 (at_return 𝓤 𝓛.H En Post)) (at_return 𝓤 𝓛.H En Post)))

  turns : (t : Moved) → Sq 𝓛 (Now t) (runs 𝓣.C 𝓣.Λ En code.Mir.turn-1 (any_q (Turned t)))
  unfolding after_turn part_of
  turns t =
      let i : ℕ = t.0 in let le : t.0 ≤ n = t.1 in let few : n ≤ 4096 = r.most in
      let good : T (has_ty (ty_array (ty_int w32) 1024) (wv w)) × WT (wv w) =
      ((Array-Lawful 𝓛 u32 (uint_Lawful 𝓛 w32) 1024).typed w (wv w ∷ []) is).0 in
      sets ! (bin ! (get ! refl) (get ! refl) tt) refl (tt, tt) $ first ! $ branches ! (get ! refl)
      (λ less. let h : i < n = ltb→lt i n less in let fm : i * 4096 < 2 ^ 64 = omega arith in
      let fj : i + 1 < 2 ^ 64 = omega arith in let cut : n - i ≡ suc (n - suc i) = omega arith in
      let one : i + 1 ≡ suc i = omega arith in
      skips ! $ exec ! 𝓣.C 𝓣.Λ En (after 2 code.Mir.turn-1) (any_q (Turned t)) $ first ! $ blocks ! $
      sets ! (bin ! (get ! refl) (big_lit ! (record { fits = lit< tt })) (record { fits = fm })) refl
      (tt, record { fits = fm }) $
      sets ! (bin ! (get ! refl) (get ! refl) tt) refl (tt, tt) $
      rewrite ! 1 (λ (k : ℕ). ‵ (froom (ty_array F k) b (place 4096 o i))) cut refl $ move ! (1 ∷ []) $
      use1 𝓛 (‵ (froom F b (place 4096 o i)) ⊛ ‵ (froom (ty_array F (n - suc i)) b
      (place 4096 o i + 4096))) (𝓛.laws.room_uncons F (n - suc i) b (place 4096 o i)) $ split ! $
      rewrite ! 0 (λ (k : ℕ). ‵ (froom F b k)) (place_is 4096 o i) refl $
      rewrite ! 1 (λ (k : ℕ). ‵ (froom (ty_array F (n - suc i)) b k)) (place_next o i) refl $
      assigns_last ! (of_opd ! (get ! refl)) (through ! refl (stop !)) (init ! 0 refl good) $
      exec ! 𝓣.C 𝓣.Λ En (after 3 code.Mir.turn-1) (any_q (Turned t)) $
      sets_last ! (bin ! (get ! refl) (lit ! tt) (record { fits = fj })) refl (tt, record { fits = fj }) $
      owned ! Frame (Is Frame) (Array-Makes 𝓛 u32 (uint_Makes 𝓛 w32) 1024) w (wv w ∷ []) is $ move ! (1 ∷ 0 ∷ []) $
      fjoin ! $
      fpack ! (List Val) (λ vs. fsep (cell_at full_share Frame.mir vs b (i * 4096 + o)) (Frame.own_val w vs))
      (wv w ∷ []) $
      rewrite ! 0 (λ (k : ℕ). ‵ (part_at Frame full_share w b k)) (sym (place_is 4096 o i)) refl $ move ! (2 ∷ 0 ∷ []) $
      use2 𝓛 (‵ (row Frame full_share (replicate (suc i) w) b o)) (same_more 𝓛 w b i o) $
      forget_but ! En (1 ∷ 2 ∷ 3 ∷ 4 ∷ 5 ∷ []) refl $ take_at ! 5 $
      rewrite ! 0 (λ (k : ℕ). ‵ (fat full_share (ty_int w64) (l 5) 0 (vint w64 k))) one refl $ give_at ! 5 $
      again ! Nearer Now t (suc i, omega arith) (omega arith))
      (λ over. let ge = nltb→le i n over in let all : i ≡ n = omega arith in
      let fn : n < 2 ^ 64 = omega arith in
      jumps ! $ exec ! 𝓣.C 𝓣.Λ En code.Mir.t-5 (at_ret En Post) $
      rewrite ! 0 (λ (k : ℕ). ‵ (row Frame full_share (replicate k w) b o)) all refl $ move ! (1 ∷ []) $ drop ! $
      feq_i ! ℕ (length (replicate n w)) n (length-replicate n w) $ fjoin ! $
      use1 𝓛 (‵ (part_at (Array Frame n) full_share (replicate n w) b o))
      (Array-whole 𝓛 Frame full_share n (replicate n w) b o) $ fjoin ! $
      sets ! (agg ! (and_then ! (get ! refl) (and_then ! (get ! refl) (no_more !)))) refl
      (tt, (tt, (record { fits = fn }, tt))) $
      use0 𝓛 (‵ (Words.own_val (block_ptr b o, (n, tt)) (made_val r b o ∷ []))) (makes_shadow 𝓛
      (Words.own_val (block_ptr b o, (n, tt)) (made_val r b o ∷ [])) (λ _. (
        tt,
        (tt, ((tt, tt), tt)),
      )) ((vptr b o ∷ [], (vint w64 n ∷ [], tt)), (refl, (refl, ((refl, fn), tt))))) $ fjoin ! $
      returns ! (look_at ! 0 refl) $ free_all ! refl $ keep ! (0 ∷ []) $ by ! exits)

pub fill_spec : {M : Type 1} → statement M
unfolding tables_of
fill_spec 𝓤 𝓛 𝓜 𝓡 wired =
    let c = f.clauses 𝓛 𝓜.mem 𝓡.returns in let W = walk_of 𝓛 f.ended stayed c in let 𝓣' = tables 𝓤 𝓛.H 𝓜 𝓡 𝓡.env in
    proved 𝓛 f.ended stayed c 𝓜 𝓡 (
      Goes-blank 𝓛 0 (plain (λ _. Rm)) yes (λ κs x w. tt),
      (Goes-dropped 𝓛 0 (plain (λ _. Frame)) yes (λ κs x w. refl), tt),
    )
    f.Key.name code.function (code.unfolded 𝓤 𝓛.H 𝓜 𝓡 wired)
    (λ κs. ((λ h. lowers.lowered h ∷ []), (array_vals (uint_vals w32), tt))) (λ κs.
    (lowers.val_is, (Array-Tells u32 (uint_vals w32) (uint_Tells w32) 1024, tt))) (λ κs qs bounds a _ are.
    let r = a.0 in let w = a.1.0 in let few : r.count ≤ 4096 = r.most in let fn : r.count < 2 ^ 64 = omega arith in
    let y : W.Ghost = ((κs, qs, bounds, a, (lowers.lowered r ∷ [], (wv w ∷ [], tt))), tt) in
    let τ = bare (ty_array (lone Frame.mir) r.count) in
    let good : T (has_ty (ty_array (ty_int w32) 1024) (wv w)) × WT (wv w) =
    ((Array-Lawful 𝓛 u32 (uint_Lawful 𝓛 w32) 1024).typed w (wv w ∷ []) are.1.0).0 in
    let start : r.count ≡ r.count - 0 = omega arith in
    qed 𝓛 ((‵ ftrue ⊛ ‵ (owns (Rm ∷ Frame ∷ []) a (lowers.lowered r ∷ [], (wv w ∷ [], tt)))) ∷ ‵ ftrue ∷ []) ∵
    split ! $ drop ! $ fsplit ! $ fsplit ! $ drop ! $ fsplit ! $
    in_a_block ! r.at (λ p. denote.RawPtr.room_for τ p) (id⊢ 𝓤 _) (λ b o e.
    rewrite ! 1 (λ (p : Ptr). ‵ (right_to_free p r.count)) e refl $ keep ! (0 ∷ 1 ∷ []) $
    rewrite ! 0 (λ (k : ℕ). ‵ (froom (ty_array (bare (lone Frame.mir)) k) b o)) start refl $ nothing ! $
    regoal ! (λ (p : Ptr). prop (WpFn 𝓤 𝓛.H 𝓣'.C 𝓣'.Λ code.function
    (lowers.lowered (record r { at = p }) ∷ wv w ∷ []) (W.post y))) e refl $
    let out : ent 𝓤 (sem 𝓛 ((R).own_val (full r w b o) (made_val r b o ∷ []))) (W.post y (made_val r b o)) =
    qed 𝓛 (‵ ((R).own_val (full r w b o) (made_val r b o ∷ [])) ∷ []) ∵ suffices ! _ (ends_at 𝓛 f.ended stayed c y
    (made_val r b o) (full r w b o) (tt, (tt, tt)) (tt, (tt, tt))) $ says ! (refl, refl) $
    nothing ! $ nothing ! $ fjoin ! $ nothing ! $ fjoin ! $ join ! $ nothing ! $ join ! $ done ! in
    enter ! _ _ _ _ _ $ alloc_all ! (λ l. pass_all ! refl ((tt, (tt, (record { fits = fn }, tt))), (good, tt)) $
    sets ! (of_opd ! (get_in ! (fld ! refl (stop !)) (sub ! 0 refl (whole !)))) refl (tt, tt) $
    sets ! (of_opd ! (get_in ! (fld ! refl (stop !)) (sub ! 1 refl (whole !)))) refl (tt, record { fits = fn }) $
    sets ! (of_opd ! (lit ! tt)) refl (tt, record { fits = lit< tt }) $
    first ! $ blocks ! $ loops ! (tables_of 𝓤 𝓛.H 𝓜 𝓣') (Nearer 𝓛 𝓜 𝓡 r w b o are.1.0 (W.post y) out l)
    (InvImage.wf (λ (t : Moved 𝓛 𝓜 𝓡 r w b o are.1.0 (W.post y) out l). r.count - t.0) lt-wf_rel.wf)
    (Now 𝓛 𝓜 𝓡 r w b o are.1.0 (W.post y) out l) (turns 𝓛 𝓜 𝓡 r w b o are.1.0 (W.post y) out l) (0, omega arith))))
