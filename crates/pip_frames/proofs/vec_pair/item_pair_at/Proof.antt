-- The item at `write` is lent, which the Vec follows, and the one at `read` is shared for as long. Assumes `Logic`.
use mathlib.Core.Path.{◌≡◌, refl, ◌∙◌}
use mathlib.Core.Logic.{◌≢◌}
use Prim.Native.Nat.{ℕ, ◌+◌, ◌*◌, ◌≤◌, ◌<◌, ◌^◌}
use native.Mathlib.Omega.{arith}
use mathlib.Core.List.{List, [], ◌∷◌}
use lib.ListN.{length, get_or}
use seplogic.Ra.Ura.{Ura}
use base.Fraction.{full_share}
use mir.Syntax.{Fn, w64, named, ty_ptr}
use mir.MapTy.{inst_fn}
use mir.Val.{Val, vptr}
use base.Logic.{SProp, ent}
use base.Fml.{GName, ftrue, fat, flft, Incl-trans}
use prog.Memory.{Memory}
use prog.Routine.{Routine}
use prog.Wp.{Env, WpFn, Tables}
use types.Logic.{Logic}
use contract.BorrowLft.{◌⊑◌}
use contract.Monad.{Fun, fact}
use contract.Running.{tables, tables_of}
use sound.WpLaws.{WpFn-mono}
use types.Kit.{‵, raw, ◌⊛◌, some, later, at_ret, ◌$◌, ◌∵◌, !, qed, move, keep, use1, use2, drop, split, split3, join}
use types.Kit.{pick, rewrite, fsplit, fsplit3, fjoin, feq_i, suffices, frame, await, group, done}
use types.Part.{agg}
use types.Run.{size_lit, stop, addr, bin, and_then, no_more, of_opd, first, blocks, exec, returns, enter}
use types.ByLocal.{alloc_all, pass_all, free_all, look_at, get, through, sets, sets_last, env}
use denote.Exit.{no, yes}
use denote.Builtin.{usize, RawPtr}
use denote.RattleType.{owns}
use denote.RawPtr.{Ptr, ptr_val, rawptr_vals, rawptr_Tells, rawptr_Lawful}
use denote.Plain.{uint_vals, uint_Tells}
use denote.Ref.{MutRef, ShrRef, mut_vals, mut_Tells}
use denote.Memory.{shared_of}
use denote.Signature.{plain, types_at, mut_ref_to}
use denote.Struct.Tuple.{Tuple}
use denote.Opens.{hide}
use denote.Steps.{heard, nothing}
use denote.Follow.{follows}
use denote.Triple.Clauses.{Clauses, Ended, closing}
use denote.Triple.Spec.{Meets, triple_of}
use denote.Triple.Table.{entered}
use denote.Triple.Walked.{says, Stays, stay_dropped, walk_of, ends_at, walked, Goes-spent_ref, Goes-dropped, walk_Meets}
use Rattle.std.specs.Vec.{with_item}
use Rattle.std.proofs.ptr.Rows.{hd, one_below, times_below}
use Rattle.std.proofs.slice.Lists.{any-default}
use Rattle.pip_frames.proofs.Pairs.{pair_val, pair_of}
use Rattle.std.proofs.VecSteps.El.{wider, El, args, el_x, el_d, el_len, el_cap, el_items, el_ok, R, Vr, sz}
use Rattle.std.proofs.VecSteps.Opens.{vec_opens}
use Rattle.std.proofs.VecSteps.Shapes.{after}
use Rattle.pip_frames.proofs.TwoItems.{lends_two}
use Rattle.pip_frames.specs.contracts.vec_pair.item_pair_at as F
use Rattle.pip_frames.specs.contracts.vec_pair.item_pair_at.Key.{name as #self}
use Rattle.pip_frames.proofs.vec_pair.item_pair_at.Statement as stated
use Rattle.pip_frames.proofs.vec_pair.item_pair_at.Code as code

module _ (E : El) where
  abbrev here : Fn
  here = inst_fn (args E) code.function

  abbrev ended : Ended
  ended = F.ended E.row E.al.row E.al.g E.al.d E.al.drops

  abbrev stayed : Stays ended.signature.params ended.kept
  stayed = (
    stay_dropped (mut_ref_to (0 ∷ []) tt (plain (λ _. Vr E))) no,
    (
      stay_dropped (plain (λ _. RawPtr)) yes,
      (stay_dropped (plain (λ _. usize)) yes, (stay_dropped (plain (λ _. usize)) yes, tt)),
    ),
  )

  module _ {M : Type 1} {𝓤 : Ura M} (𝓛 : Logic 𝓤) (at_mem : Memory → SProp 𝓤) (run : Routine → Fun 𝓤)
      (𝓣 : Tables 𝓤 𝓛.H) where
    open 𝓛 use {H}

    abbrev held : Clauses 𝓤 ended
    held = F.clauses E.row E.al.row E.al.g E.al.d E.al.drops 𝓛 at_mem run

    abbrev Bound : Type 0
    Bound = (walk_of 𝓛 ended stayed held).Ghost

    abbrev spelled : Bound → Bound
    spelled z = (
      (
        z.0.0,
        z.0.1,
        z.0.2,
        z.0.3,
        (
          mut_vals z.0.3.0,
          (rawptr_vals z.0.3.1.0, (uint_vals w64 z.0.3.1.1.0, (uint_vals w64 z.0.3.1.1.1.0, tt))),
        ),
      ),
      z.1,
    )

    walk : (z : Bound) → z.0.3.1.1.0 < 2 ^ 64 → z.0.3.1.1.1.0 < 2 ^ 64
        → ent 𝓤 ((walk_of 𝓛 ended stayed held).pre (spelled z)) (WpFn 𝓤 H 𝓣.C 𝓣.Λ here
        ((walk_of 𝓛 ended stayed held).args (spelled z)) ((walk_of 𝓛 ended stayed held).post (spelled z)))
    walk z fi fj =
        let κ = z.0.0.0 in let κ₁ = z.0.0.1.0 in let κ₂ = z.0.0.1.1.0 in let q = z.0.1.0 in let q₁ = z.0.1.1.0 in
        let q₂ = z.0.1.1.1.0 in
        let rb : ℕ = z.0.3.0.ref_ptr.0 in let ro : ℕ = z.0.3.0.ref_ptr.1 in let γ : GName = z.0.3.0.ghost_name in
        let h : el_d E = z.0.3.0.now in
        let p : Ptr = z.0.3.1.0 in let i : ℕ = z.0.3.1.1.0 in let j : ℕ = z.0.3.1.1.1.0 in
        let Post : Val → SProp 𝓤 = (walk_of 𝓛 ended stayed held).post (spelled z) in
        let n : ℕ = el_len E h in let c : ℕ = el_cap E h in let lens : n ≡ length (el_items E h) = (el_ok E h).0 in
        let le : n ≤ c = (el_ok E h).1 in
        let Asked : Type 0 = (p ≡ h.ptr) × (i < n) × (j < n) × (i ≢ j) in
        qed 𝓛 (((‵ (flft κ q) ⊛ ‵ (flft κ₁ q₁) ⊛ ‵ (flft κ₂ q₂) ⊛ ‵ ftrue)
        ⊛ ‵ (owns (types_at ended.signature.params z.0.0) z.0.3 (spelled z).0.4))
        ∷ (raw (fact 𝓤 (κ₁ ⊑ E.row.lives)) ⊛ raw (fact 𝓤 (κ₂ ⊑ E.al.row.lives)) ⊛ raw (fact 𝓤 Asked)) ∷ []) ∵
        move ! (1 ∷ []) $ split ! $ heard ! (κ₁ ⊑ E.row.lives) (λ within. split ! $ drop ! $ heard ! Asked (λ asked.
        let li : i < length (el_items E h) = omega arith in let lj : j < length (el_items E h) = omega arith in
        let pos : 0 < c = omega arith in
        let d : el_x E = hd (el_items E h) (omega arith) in
        let x : el_x E = get_or (el_items E h) i d in let w : el_x E = get_or (el_items E h) j d in
        split ! $ split ! $ move ! (2 ∷ []) $ fsplit ! $ fsplit3 ! $ keep ! (1 ∷ 2 ∷ 4 ∷ 5 ∷ []) $
        enter ! 𝓣.C 𝓣.Λ here _ _ $ alloc_all ! (λ l. pass_all ! refl (
          (tt, tt),
          (((rawptr_Lawful 𝓛).typed p _ refl).0, ((tt, record { fits = fi }), ((tt, record { fits = fj }), tt))),
        ) $
        let En : Env 𝓤 H = env here.locals l in
        vec_opens E ! tt h rb ro pos (λ b o hv at_b fl fc fit.
        let s : ℕ = sz E in
        let tiny : s < 2 ^ 64 = wider s (one_below c s (2 ^ 63) pos fit) in
        let fmi : i * s < 2 ^ 64 = wider (i * s) (times_below i c s (2 ^ 63) (omega arith) fit) in
        let fmj : j * s < 2 ^ 64 = wider (j * s) (times_below j c s (2 ^ 63) (omega arith) fit) in
        let v1 : Val = vptr b (i * s + o) in let v2 : Val = vptr b (j * s + o) in let v : Val = pair_val v1 v2 in
        rewrite ! 26 (λ (p' : Ptr). ‵ (fat full_share ty_ptr (l 2) 0 (ptr_val p'))) (asked.0 ∙ at_b) refl $
        first ! $ blocks ! $
        sets ! (bin ! (get ! refl) (size_lit ! (record { fits = tiny })) (record { fits = fmi })) refl
        (tt, record { fits = fmi }) $
        sets ! (bin ! (get ! refl) (get ! refl) tt) refl (tt, tt) $
        sets ! (addr ! (through ! refl (stop !))) refl (tt, tt) $
        sets ! (bin ! (get ! refl) (size_lit ! (record { fits = tiny })) (record { fits = fmj })) refl
        (tt, record { fits = fmj }) $
        sets ! (bin ! (get ! refl) (get ! refl) tt) refl (tt, tt) $
        sets ! (addr ! (through ! refl (stop !))) refl (tt, tt) $
        sets_last ! (agg ! (and_then ! (get ! refl) (and_then ! (get ! refl) (no_more !)))) refl (tt, (tt, (tt, tt))) $
        exec ! 𝓣.C 𝓣.Λ En (after 1 here.body) (at_ret En Post) $
        sets ! (of_opd ! (get ! refl)) refl (tt, (tt, (tt, tt))) $
        group ! 7 $
        use1 𝓛 (later (some (λ (γ' : GName). ‵ ((MutRef (named 0) κ (R E)).own_val (record {
          ref_ptr = (b, j * s + o);
          ghost_name = γ';
          now = w;
        }) (v2 ∷ [])) ⊛ (‵ (shared_of (R E) x b (i * s + o) κ)
        ⊛ (‵ (flft κ q) ⊛ ‵ (follows (Vr E) (R E) γ γ' (with_item h j)))))))
        (lends_two E 𝓛 d h i j b o rb ro hv at_b fl fc fit pos li lj asked.3 κ q γ (Incl-trans z.0.2.0 within)) $
        await ! tt $ pick ! (λ γ'.
        returns ! (look_at ! 0 refl) $ free_all ! refl $ split3 ! $
        -- [the second; the first; the token and how the Vec follows; the other tokens]
        let rx : (ShrRef (named 0) κ (R E)).Denot = record { ref_ptr = (b, i * s + o); now = x } in
        let wx : (MutRef (named 0) κ (R E)).Denot = record { ref_ptr = (b, j * s + o); ghost_name = γ'; now = w } in
        move ! (1 ∷ []) $ hide ! $ feq_i ! (List Val) (v1 ∷ []) (v1 ∷ []) refl $ fjoin ! $
        use2 𝓛 (‵ ((Tuple (ShrRef (named 0) κ (R E) ∷ MutRef (named 0) κ (R E) ∷ [])).own_val (rx, wx) (v ∷ [])))
        (pair_of 𝓛 (ShrRef (named 0) κ (R E)) (MutRef (named 0) κ (R E)) rx wx v1 v2) $
        suffices ! _ (ends_at 𝓛 ended stayed held (spelled z) v
        (rx, wx) (tt, (tt, (tt, (tt, tt)))) (tt, (tt, (tt, (tt, tt))))) $
        nothing ! $ nothing ! $ fjoin ! $ nothing ! $ fjoin ! $ nothing ! $ fjoin ! $ nothing ! $ fjoin ! $ join ! $
        move ! (1 ∷ []) $ split ! $ move ! (0 ∷ 3 ∷ []) $ join ! $ move ! (0 ∷ 2 ∷ []) $ join ! $ frame ! $
        says ! (any-default (el_items E h) i d x (omega arith), any-default (el_items E h) j d w (omega arith)) $
        done !)))))

    meets : Meets 𝓛 ended.signature (WpFn 𝓤 H 𝓣.C 𝓣.Λ here) (closing 𝓛 ended held)
    meets =
        let num = Goes-dropped 𝓛 3 (plain (λ _. usize)) yes (λ κs x f. refl) in
        walk_Meets 𝓛 ended stayed (
          Goes-spent_ref 𝓛 3 (0 ∷ []) tt (plain (λ _. Vr E)),
          (Goes-dropped 𝓛 3 (plain (λ _. RawPtr)) yes (λ κs x f. refl), (num, (num, tt))),
        ) held
        (WpFn 𝓤 H 𝓣.C 𝓣.Λ here) (WpFn-mono 𝓤 H 𝓛.laws 𝓣 here)
        (walked 𝓛 ended stayed held (WpFn 𝓤 H 𝓣.C 𝓣.Λ here)
        (λ κs. (mut_vals, (rawptr_vals, (uint_vals w64, (uint_vals w64, tt))))) (λ κs.
        (mut_Tells (named 0) κs.0 (Vr E), (rawptr_Tells, (uint_Tells w64, (uint_Tells w64, tt)))))
        (λ κs qs bounds a g are. walk (
          (
            κs,
            qs,
            bounds,
            a,
            (
              mut_vals a.0,
              (
                rawptr_vals a.1.0,
                (uint_vals w64 a.1.1.0, (uint_vals w64 a.1.1.1.0, tt)),
              ),
            ),
          ),
          g,
        ) are.1.1.0.1 are.1.1.1.0.1))

pub item_pair_at_spec : {M : Type 1} → stated.statement M
unfolding tables_of
item_pair_at_spec 𝓤 𝓛 𝓜 𝓡 wired Y Z L LZ g d dd met md =
    let E : El = record { row = Y; laws = L; al = record { row = Z; laws = LZ; g = g; d = d; drops = dd } } in
    let 𝓣 : Tables 𝓤 𝓛.H = tables_of 𝓤 𝓛.H 𝓜 (tables 𝓤 𝓛.H 𝓜 𝓡 𝓡.env) in
    entered 𝓤 𝓛.H (triple_of 𝓛 (ended E).signature (F.spec Y Z g d dd 𝓛 𝓜.mem 𝓡.returns)) 𝓣.C 𝓣.Λ (#self (args E))
    (here E) (code.unfolded 𝓤 𝓛.H 𝓜 𝓡 wired (Y, (Z, tt)) d dd)
    (meets E 𝓛 𝓜.mem 𝓡.returns 𝓣)
