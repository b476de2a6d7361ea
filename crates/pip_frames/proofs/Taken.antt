-- What `allocate` answered: room for n frames with the right to free it, or nothing.
use mathlib.Core.Path.{◌≡◌, refl, ap, ◌∙◌}
use mathlib.Core.Bool.{Bool, true, false}
use mathlib.Core.List.{List, [], ◌∷◌, ◌++◌}
use Prim.Native.Nat.{ℕ, ◌<◌, ◌^◌}
use seplogic.Ra.Ura.{Ura}
use base.Logic.{SProp, ent, sep, ex, guard, emp, never, fst∗, id⊢}
use base.Fml.{fsep, froom, ftrue}
use mir.Syntax.{Ty, w64}
use mir.Val.{Val, of_list, vstruct, vcons, vnil, vptr, vint}
use types.Logic.{Logic, sem}
use types.Kit.{Goal, Item, Seq, ‵, raw, some, given, ◌$◌, ◌∵◌, !, qed, keep, drop, use1, pick, learn, show, check}
use types.Kit.{fsplit, fpick, feq_l, done}
use types.Match.{live}
use denote.RawPtr.{Ptr, block_ptr, null_ptr, ptr_val, room_for, in_a_block}
use denote.RattleType.{RattleType}
use denote.Shadow.{makes_shadow}
use Rattle.pip_frames.specs.Ownership.{free_token}
use denote.Steps.{only}
use Rattle.std.specs.Prelude.{Ok, Err}
use Rattle.std.specs.Allocator.{block_if_ok}
use Rattle.std.proofs.alloc.Calls.{Answer, answer_val, got}

module _ {M : Type 1} {𝓤 : Ura M} (𝓛 : Logic 𝓤) (τ : Ty) (v : Val) where
  abbrev pub Answered : SProp 𝓤
  Answered =
      ex 𝓤 (λ (c : Bool × (ℕ × ℕ)). guard 𝓤 (v ≡ answer_val c.0 c.1.0 c.1.1) (sem 𝓛 (got free_token τ c.0 c.1.0 c.1.1)))

  pub answered : (r : Answer.Denot)
      → ent 𝓤 (sep 𝓤 (sem 𝓛 (Answer.own_val r (v ∷ []))) (sem 𝓛 (block_if_ok free_token τ r))) Answered
  answered (Ok r) =
      qed 𝓛 (‵ (Answer.own_val (Ok r) (v ∷ [])) ∷ ‵ (fsep (room_for τ r) (free_token τ r)) ∷ []) ∵
      fpick ! (λ us. fsplit ! $
      feq_l ! (λ e. fpick ! (λ vss. fsplit ! $ feq_l ! (λ e'. fsplit ! $ feq_l ! (λ e''. drop ! $
      in_a_block ! r (λ z. fsep (room_for τ z) (free_token τ z)) (fst∗ 𝓤 (never 𝓤) (sem 𝓛 (free_token τ null_ptr)))
      (λ b o at.
      show ! (λ (c : Bool × (ℕ × ℕ)).
      guard 𝓤 (v ≡ answer_val c.0 c.1.0 c.1.1) (sem 𝓛 (got free_token τ c.0 c.1.0 c.1.1))) (true, (b, o)) $
      check ! (cc) $ done !))))))
  answered (Err n) =
      qed 𝓛 (‵ (Answer.own_val (Err n) (v ∷ [])) ∷ ‵ ftrue ∷ []) ∵
      fpick ! (λ us. fsplit ! $ feq_l ! (λ e.
      fpick ! (λ vss. fsplit ! $ feq_l ! (λ e'. fsplit ! $ fpick ! (λ none. fsplit ! $ feq_l ! (λ e''. keep ! [] $
      show ! (λ (c : Bool × (ℕ × ℕ)).
      guard 𝓤 (v ≡ answer_val c.0 c.1.0 c.1.1) (sem 𝓛 (got free_token τ c.0 c.1.0 c.1.1))) (false, (0, 0)) $
      check ! (cc) $
      done !))))))

module _ {M : Type 1} {𝓤 : Ura M} {𝓛 : Logic 𝓤} {K : Type 0} {Γ : List (Item 𝓤)} {G : Goal 𝓤 𝓛.H} where
  at : (τ : Ty) (v : Val) (y : Bool) (b o : ℕ) → K → v ≡ answer_val y b o
      → ((b o : ℕ) → v ≡ answer_val true b o → Seq K 𝓛 (‵ (froom τ b o) ∷ ‵ (free_token τ (block_ptr b o)) ∷ Γ) G)
      → (v ≡ answer_val false 0 0 → Seq K 𝓛 Γ G) → Seq K 𝓛 (‵ (got free_token τ y b o) ∷ Γ) G
  at τ v true b o t e ok none = fsplit t $ ok b o e
  at τ v false b o t e ok none = drop t $ none e

  pub answers : K → (τ : Ty) (v : Val)
      → ((b o : ℕ) → v ≡ answer_val true b o → Seq K 𝓛 (‵ (froom τ b o) ∷ ‵ (free_token τ (block_ptr b o)) ∷ Γ) G)
      → (v ≡ answer_val false 0 0 → Seq K 𝓛 Γ G) → Seq K 𝓛 (raw (Answered 𝓛 τ v) ∷ Γ) G
  answers t τ v ok none =
      use1 𝓛 (some (λ (c : Bool × (ℕ × ℕ)).
      given (v ≡ answer_val c.0 c.1.0 c.1.1) (‵ (got free_token τ c.0 c.1.0 c.1.1)))) (id⊢ 𝓤 (Answered 𝓛 τ v)) $
      pick t (λ c. learn t (λ e. at τ v c.0 c.1.0 c.1.1 t e ok none))

abbrev pub Words : RattleType
Words = denote.Struct.Struct.Struct (denote.Struct.Owning.shape Rattle.pip_frames.specs.contracts.block.Room.the_type)

module _ {M : Type 1} {𝓤 : Ura M} (𝓛 : Logic 𝓤) where
  pub made_of : (b o n : ℕ) → n < 2 ^ 64 → ent 𝓤 (emp 𝓤)
      (sem 𝓛 (Words.own_val (block_ptr b o, (n, tt)) (vstruct (vcons (vptr b o) (vcons (vint w64 n) vnil)) ∷ [])))
  made_of b o n f = makes_shadow 𝓛
      (Words.own_val (block_ptr b o, (n, tt)) (vstruct (vcons (vptr b o) (vcons (vint w64 n) vnil)) ∷ [])) (λ _.
      (tt, (tt, ((tt, tt), tt)))) ((vptr b o ∷ [], (vint w64 n ∷ [], tt)), (refl, (refl, ((refl, f), tt))))
