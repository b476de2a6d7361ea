-- What `slots` writes of a child is a matter of that child alone.
use Rattle.std.proofs.Common.{◌≡◌, ℕ, zero, suc, ◌+◌, ◌*◌, ◌≤◌, inl, inr, Bool, true, false, cond, List, [], ◌∷◌}
use Rattle.std.proofs.Common.{◌++◌, length, take, Some, refl, sym, ap, ◌∙◌, subst, append-nil, append_assoc, arith}
use Rattle.std.specs.Prelude.{Ok, slice_get}
use Rattle.pip_model.specs.Acts.{Makes, after_acts, text_of}
use Rattle.pip_model.specs.Events as E
use Rattle.pip_model.specs.Images.{Image, image}
use Rattle.pip_model.specs.Run.{end_line, image_world, trace_image_line}
use Rattle.pip_model.specs.Turn.{call_line, moved_line, outcome_of, turn, world_of}
use Rattle.pip_model.specs.Worlds.{World}
use Rattle.pip_model.proofs.OnLists.Acts.{after-append, text-append}
use Rattle.pip_slots.specs.declared.time_slot.TimeSlot.{TimeSlot}
use Rattle.pip_slots.specs.Images.{HasRooms, round_plan, round_steps, slots_text, slots_world}
use Rattle.pip_slots.specs.declared.time_slot.RoundSlot.{RoundSlot}
use Rattle.pip_slots.specs.Slots.{after_slot, closing, next_step, opening, plan_steps, polling, rest_acts}
use Rattle.pip_slots.specs.Slots.{slot_acts, slot_entry, slot_texts, slot_turn, slot_turns}
use Rattle.pip_slots.proofs.Images.{images_separate_slots, plan_words}
use Rattle.pip_slots.proofs.Texts.{texts_count, texts_joined}
use Rattle.pip_native.specs.Watching.{addresses, built_from, ready_world, root_runs}
use Rattle.pip_children.specs.Dues.{IsChildrenAnswer, IsRoomy}
use Rattle.pip_lab_commands.specs.Dues.{slots_due}
use Rattle.pip_command_contracts.specs.EndsBy.{Response}
use Rattle.pip_search_commands.specs.EveryLaw.{IsLineAt}
use Rattle.pip_search_commands.specs.RunLaw.{AreLinesOf}
use Rattle.pip_lab_commands.specs.SlotsLaw.{AreSlotTexts, ChildrenAreSeparate}
use Rattle.arrayvec.specs.ArrayVec.{ArrayVec}
use Rattle.pip_command_contracts.proofs.Accepted.{IsAccepted, accepted}
use Rattle.pip_search_commands.proofs.EveryLines.{call_at, lines_are_of_runs, moved_at}

some_same : {A : Type 0} {x y : A} → Some x ≡ Some y → x ≡ y
some_same e = cc

-- ---- the lines of a slot are of its steps

-- any label will do
abbrev Any : List ℕ → Type 0
Any label = Unit {0}

-- a step, and then others
stepped : (t n : ℕ) (label line rest : List ℕ) → IsLineAt t label line → AreLinesOf Any (t + 1) n rest
    → AreLinesOf Any t (suc n) (line ++ rest)
stepped t n label line rest is more = record {
  label = label;
  line = line;
  rest = rest;
  whole = refl;
  same = is;
  known = λ some. tt;
  goes_on = more;
}

-- a step that writes nothing
silent : (t : ℕ) → IsLineAt t [] []
silent t = inl (refl, refl)

alone : (t : ℕ) (label line : List ℕ) → IsLineAt t label line → IsLineAt t label (line ++ [])
alone t label line = subst (IsLineAt t label) (sym (append-nil line))

-- the last step
closed : (w : World) (t : ℕ) → AreLinesOf Any t 1 (text_of (closing w t))
closed w t = go (root_runs w)
  where
    at_end : World
    at_end = world_of w (E.Raise 0)

    go : (b : Bool) → AreLinesOf Any t 1 (text_of (cond b [] (Makes (E.Raise 0) ∷ polling at_end t)))
    go true = stepped t 0 [] [] [] (silent t) refl
    go false =
        let o = outcome_of at_end (E.Poll 0) in
        stepped t 0 (moved_line 0 0 o) (moved_line t 0 o) [] (moved_at t 0 o) refl

-- a step within
turned : (w : World) (t n : ℕ) (rest : List ℕ) → AreLinesOf Any (t + 1) n rest
    → AreLinesOf Any t (suc n) (text_of (slot_turn w t) ++ rest)
turned w t n rest more = go (root_runs w)
  where
    go : (b : Bool) → AreLinesOf Any t (suc n) (text_of (cond b [] (turn w 0 t)) ++ rest)
    go true = stepped t n [] [] rest (silent t) more
    go false = stepped t n (text_of (turn w 0 0)) (text_of (turn w 0 t)) rest (lines_are_of_runs w 0 t) more

-- the steps after the first
rest_lines : (w : World) (n t : ℕ) → AreLinesOf Any t (suc n) (text_of (rest_acts w n t))
rest_lines w zero t = subst (λ x. AreLinesOf Any t 1 (text_of (closing w x))) (let e : t ≡ t + 0 = omega arith in e)
    (closed w t)
rest_lines w (suc n) t =
    let v = after_acts w (slot_turn w t) in
    let last = closing (after_acts w (slot_turns w (suc n) t)) (t + suc n) in
    let one = slot_turn w t in
    let more = slot_turns v n (t + 1) in
    let same : rest_acts w (suc n) t ≡ one ++ rest_acts v n (t + 1) =
    append_assoc one more last ∙ ap (λ l. one ++ (more ++ l)) (after w t n) in
    subst (AreLinesOf Any t (suc (suc n))) (sym (ap text_of same ∙ text-append one (rest_acts v n (t + 1))))
    (turned w t (suc n) (text_of (rest_acts v n (t + 1))) (rest_lines v n (t + 1)))
  where
    after : (w : World) (t n : ℕ) → closing (after_acts w (slot_turns w (suc n) t)) (t + suc n)
        ≡ closing (after_acts (after_acts w (slot_turn w t)) (slot_turns (after_acts w (slot_turn w t)) n (t + 1)))
        (t + 1 + n)
    after w t n =
        let e : t + suc n ≡ t + 1 + n = omega arith in
        ap (λ v. closing v (t + suc n))
        (after-append w (slot_turn w t) (slot_turns (after_acts w (slot_turn w t)) n (t + 1)))
        ∙ ap (closing (after_acts (after_acts w (slot_turn w t))
        (slot_turns (after_acts w (slot_turn w t)) n (t + 1)))) e

-- all steps of a slot
slot_lines : (w : World) (s : TimeSlot) (t : ℕ) → AreLinesOf Any t (s.turns + 2) (text_of (slot_acts w s t))
slot_lines w s t =
    let o = outcome_of w (slot_entry s.child) in
    let v = after_acts w (opening w s.child t) in
    let two : suc (suc s.turns) ≡ s.turns + 2 = omega arith in
    subst (λ n. AreLinesOf Any t n (text_of (slot_acts w s t))) two
    (subst (AreLinesOf Any t (suc (suc s.turns)))
    (sym (text-append (opening w s.child t) (rest_acts v s.turns (t + 1))))
    (stepped t (suc s.turns) (call_line 0 0 8 o) (call_line t 0 8 o ++ []) (text_of (rest_acts v s.turns (t + 1)))
    (alone t (call_line 0 0 8 o) (call_line t 0 8 o) (call_at t 0 8 o)) (rest_lines v s.turns (t + 1))))

-- ---- the answers

-- a good answer is the text, if the input is an image
good_answer : (round : ArrayVec RoundSlot) (c n : ℕ) (input : List ℕ) (a : Image) (v : Response) → image input ≡ Ok a
    → (slots_due n c round).answer input v → v.status ≡ 0
    → IsRoomy n a.frames × (v.last ≡ Some (slots_text a n round.items c))
good_answer round c n input a v is (inl short) zero_is =
    absurd (let e : 8 ≡ 0 = sym (ap (λ r. r.status) short.1) ∙ zero_is in omega (arith, e))
good_answer round c n input a v is (inr answer) zero_is =
    let h = subst (λ r. IsChildrenAnswer (λ i. slots_text i n round.items c) (λ i. slots_world i n round.items c) n
    input r v) is answer in
    (h.0, ap (λ r. r.last) h.1)

rooms : (n : ℕ) (a : Image) → IsAccepted a → n ≤ 8 → IsRoomy n a.frames → HasRooms n a
rooms n a i most roomy = record {
  most = most;
  room = roomy;
  frames_least = i.frames_least;
  frames_most = i.frames_most;
  cpus_least = i.cpus_least;
  cpus_most = i.cpus_most;
  words = i.words;
}

-- each line of a slot is of a step of it
slot_at : (w : World) (ss : List TimeSlot) (t j : ℕ) (s : TimeSlot) (slot : List ℕ) → slice_get ss j ≡ Some s
    → slice_get (slot_texts w ss t) j ≡ Some slot → AreLinesOf Any (t + plan_steps (take j ss)) (s.turns + 2) slot
slot_at w [] t j s slot is at = absurd (cc)
slot_at w (x ∷ ss) t zero s slot is at =
    let e : t ≡ t + 0 = omega arith in
    subst (λ k. AreLinesOf Any k (s.turns + 2) slot) e
    (subst (λ y. AreLinesOf Any t (y.turns + 2) slot) (some_same is)
    (subst (AreLinesOf Any t (x.turns + 2)) (some_same at) (slot_lines w x t)))
slot_at w (x ∷ ss) t (suc j) s slot is at =
    let e : (t + (x.turns + 2)) + plan_steps (take j ss) ≡ t + ((x.turns + 2) + plan_steps (take j ss)) = omega arith in
    subst (λ k. AreLinesOf Any k (s.turns + 2) slot) e
    (slot_at (after_slot w x t) ss (next_step x t) j s slot is at)

texts_are : (a : Image) (n : ℕ) (round : List RoundSlot) (c : ℕ) → AreSlotTexts a n round c
    (slot_texts (ready_world (image_world a) n) (round_plan n round c) 0) (slots_text a n round c)
texts_are a n round c =
    let w = ready_world (image_world a) n in
    let ss = round_plan n round c in
    record {
      count = texts_count w ss 0;
      whole = ap (λ l. trace_image_line a.frames a.cpus (length a.plans) (length a.pages)
          ++ (built_from 0 (addresses n n) ++ (l ++ end_line (c * round_steps round)))) (sym (texts_joined w ss 0));
      lines = λ j s slot is at.
          let first : 0 + plan_steps (take j ss) ≡ plan_steps (take j ss) = omega arith in
          subst (λ k. AreLinesOf Any k (s.turns + 2) slot) first (slot_at w ss 0 j s slot is at);
    }

pub children_are_separate : ChildrenAreSeparate
children_are_separate input other a b n k c round v u bytes bytes' is is' low most agree answer answer' good good' =
    let x = good_answer round c n input a v is answer good in
    let y = good_answer round c n other b u is' answer' good' in
    let ra = rooms n a (accepted input a bytes is) most x.0 in
    let rb = rooms n b (accepted other b bytes' is') most y.0 in
    let ss = round_plan n round.items c in
    record {
      text = slots_text a n round.items c;
      other = slots_text b n round.items c;
      text_is = x.1;
      other_is = y.1;
      texts = slot_texts (ready_world (image_world a) n) ss 0;
      others = slot_texts (ready_world (image_world b) n) ss 0;
      are = texts_are a n round.items c;
      others_are = texts_are b n round.items c;
      same = images_separate_slots a b n k 0 ss low ra rb agree (plan_words n round.items c most);
    }
