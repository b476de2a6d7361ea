-- Where the last line of `apart` is `apart yes`, its lines are all that can come.
use Rattle.std.proofs.Common.{◌≡◌, ◌≢◌, ℕ, zero, suc, ◌+◌, ◌-◌, inl, inr, not, Bool, true, false, List, [], ◌∷◌}
use Rattle.std.proofs.Common.{◌++◌, length, take, None, Some, refl, sym, ap, ◌∙◌, subst, arith, append_assoc}
use Rattle.std.proofs.Common.{append-nil, eqb-true, decimal}
use Rattle.std.specs.Prelude.{◌==◌, codes, flat_map, reverse, slice_get}
use Rattle.std.specs.List.{list_any}
use Rattle.std.proofs.lemmas.List.{reverse-append}
use Rattle.pip_apart.specs.Alone.{mark}
use Rattle.pip_apart.specs.Found.{GuestAlone, IsLineOf, Known, ShowOnly, all_stay, has_closed, hold_apart}
use Rattle.pip_apart.specs.Found.{is_marked, stays}
use Rattle.pip_apart.specs.Texts.{apart_line, guest_line, guest_text, leaving_text, root_line, shown_text}
use Rattle.pip_apart.specs.Texts.{spaced, taken_line, turn_line, turns_way, unmarked}
use Rattle.pip_apart.proofs.Known.{runs_show_known, slots_show_known}
use Rattle.pip_apart.proofs.Telling.{none_marked}
use Rattle.pip_apart.proofs.Testing.{both}
use Rattle.pip_base.specs.declared.types.Plan.{Plan}
use Rattle.pip_audit.specs.CoreRead.{AreWholeLines}
use Rattle.pip_guests.specs.Programs.{Slot, all_steps, next_world, ready, run_slots, turn_of}
use Rattle.pip_model.specs.Acts.{Act, after_acts, text_of}
use Rattle.pip_model.specs.Images.{Image}
use Rattle.pip_model.specs.Run.{image_world, raises, schedule, steps, trace_image_line}
use Rattle.pip_model.specs.RunTexts.{stepped_world}
use Rattle.pip_model.specs.Turn.{turn}
use Rattle.pip_model.specs.Worlds.{World}
use Rattle.pip_model.proofs.OnLists.Acts.{text-append, text-raises, text-trace}
use Rattle.pip_search.specs.Summary.{Witness}
use Rattle.pip_search.specs.declared.searching.Extent.{Extent}
use Rattle.pip_search.specs.declared.searching.Extent.TheVariants.{Closed, Stopped, Within}
use Rattle.pip_every.specs.Texts.{inner, verdict_line}
use Rattle.pip_io.proofs.Piecewise.{flat_split}
use Rattle.pip_search_commands.specs.ApartLaw.{HasLineOf, SaysYes, SlotsAreNamed, YesNamesAll, YesNamesRuns}
use Rattle.pip_search_commands.specs.ApartText.{apart_text}
use Rattle.pip_search_commands.specs.SearchDues.{IsFoundApart, most_choices}
use Rattle.pip_command_contracts.specs.EndsBy.{or_nothing, plainly}
use Rattle.pip_search_commands.specs.RunLaw.{AreLinesOf}
use Rattle.pip_command_contracts.proofs.Accepted.{accepted}
use Rattle.pip_search_commands.proofs.EveryLines.{lines_are_of_runs}

-- ---- whole lines

pub both_whole : (xs ys : List ℕ) → AreWholeLines xs → AreWholeLines ys → AreWholeLines (xs ++ ys)
both_whole xs ys h (inr (front, is)) = inr (
  xs ++ front,
  rw (is, ← append_assoc xs front (10 ∷ [])),
)
both_whole xs ys h (inl none) = rw (none, append-nil xs) h

pub all_whole : {A : Type 0} (f : A → List ℕ) → ((x : A) → AreWholeLines (f x)) → (xs : List A)
    → AreWholeLines (flat_map f xs)
all_whole f h [] = inl refl
all_whole f h (x ∷ xs) = both_whole (f x) (flat_map f xs) (h x) (all_whole f h xs)

turn_whole : (cpus : List ℕ) (x : Witness) → AreWholeLines (turn_line cpus x)
turn_whole cpus x = inr (
  leaving_text x.label ++ (decimal (length x.way - 1) ++ inner (unmarked x.label) ++ codes ":" ++ turns_way cpus x.way),
  sym (append_assoc (leaving_text x.label)
      (decimal (length x.way - 1) ++ inner (unmarked x.label) ++ codes ":" ++ turns_way cpus x.way) (10 ∷ [])),
)

verdict_whole : (n : ℕ) (e : Extent) → AreWholeLines (verdict_line n e)
verdict_whole n (Closed d) =
    let front = codes "states " ++ decimal n ++ codes " depth " ++ decimal d in
    inr (front ++ codes " closed", sym (append_assoc front (codes " closed") (10 ∷ [])))
verdict_whole n (Within d) = inr (codes "states " ++ decimal n ++ codes " within " ++ decimal d, refl)
verdict_whole n (Stopped d) =
    let front = codes "states " ++ decimal n ++ codes " depth " ++ decimal d in
    inr (front ++ codes " stopped", sym (append_assoc front (codes " stopped") (10 ∷ [])))

head_whole : (top : ℕ) (cpus : List ℕ) → AreWholeLines (guest_line top cpus)
head_whole top cpus = inr (codes "guest " ++ decimal top ++ codes " on" ++ flat_map spaced cpus, refl)

guest_whole : (g : GuestAlone) → AreWholeLines (guest_text g)
guest_whole g =
    both_whole (guest_line g.top g.cpus ++ flat_map (turn_line g.cpus) g.lines) (verdict_line g.count g.end)
    (both_whole (guest_line g.top g.cpus) (flat_map (turn_line g.cpus) g.lines) (head_whole g.top g.cpus)
    (all_whole (turn_line g.cpus) (turn_whole g.cpus) g.lines)) (verdict_whole g.count g.end)

pub image_whole : (n c p k : ℕ) → AreWholeLines (trace_image_line n c p k)
image_whole n c p k = inr (
  codes "image " ++ decimal n ++ codes " " ++ decimal c ++ codes " " ++ decimal p ++ codes " "
      ++ decimal k,
  refl,
)

-- ---- the last line

-- the last byte but one of a text
last_but_one : (front end : List ℕ) → slice_get (reverse (front ++ end)) 1 ≡ slice_get (reverse end ++ reverse front) 1
last_but_one front end = rw (reverse-append front end)

-- no text ends with both
no_and_yes : (xs ys : List ℕ) → xs ++ apart_line false ≡ ys ++ apart_line true → ⊥
no_and_yes xs ys e =
    let o : ℕ = 111 in
    let s : ℕ = 115 in
    let same : Some o ≡ Some s =
    rw (← last_but_one xs (apart_line false), e, last_but_one ys (apart_line true)) in
    let z : o ≡ s = cc in omega arith

-- so the guests hold in company
says_yes : (i : Image) (k : Known) → SaysYes (apart_text i k) → hold_apart k ≡ true
says_yes i k (front, is) = go (hold_apart k) refl
  where
    before : List ℕ
    before = trace_image_line i.frames i.cpus (length i.plans) (length i.pages)
        ++ (flat_map guest_text k.guests ++ (root_line k.root ++ taken_line k.line))

    whole : (b : Bool) → trace_image_line i.frames i.cpus (length i.plans) (length i.pages)
        ++ (flat_map guest_text k.guests ++ (root_line k.root ++ taken_line k.line ++ apart_line b))
        ≡ before ++ apart_line b
    whole b = simp append_assoc

    go : (b : Bool) → hold_apart k ≡ b → hold_apart k ≡ true
    go true e = e
    go false e = absurd (no_and_yes before front (sym (whole false)
        ∙ (cc)))

-- ---- a line of a guest

-- each guest stays inside where all do
one_stays : (gs : List GuestAlone) (p : ℕ) (g : GuestAlone) → all_stay gs ≡ true → slice_get gs p ≡ Some g
    → stays g.end g.lines ≡ true
one_stays [] p g on at = cc
one_stays (h ∷ gs) zero g on at =
    let same : h ≡ g = cc in subst (λ x. stays x.end x.lines ≡ true) same (both (stays h.end h.lines) _ on).0
one_stays (h ∷ gs) (suc p) g on at = one_stays gs p g (both (stays h.end h.lines) _ on).1 at

-- so none of its labels has a mark
unmarked_at : (g : GuestAlone) (n : ℕ) (x : Witness) → stays g.end g.lines ≡ true → slice_get g.lines n ≡ Some x
    → is_marked x.label ≡ false
unmarked_at g n x on at = go x.label refl
  where
    off : (b : Bool) → not b ≡ true → b ≡ false
    off true e = cc
    off false e = refl

    plain : (text : List ℕ) → x.label ≢ mark ∷ text
    plain text = none_marked g.lines
        (off (list_any (λ x. is_marked x.label) g.lines) (both (has_closed g.end) _ on).1) n x text at

    go : (label : List ℕ) → x.label ≡ label → is_marked label ≡ false
    go [] e = refl
    go (c ∷ cs) e = test (c == mark) refl
      where
        test : (b : Bool) → (c == mark) ≡ b → b ≡ false
        test false d = refl
        test true d = absurd (plain cs (rw (e, eqb-true c mark d)))

-- the pieces of a text before and after a line in its midst
regrouped : (a b c d line e f g h : List ℕ) → a ++ ((b ++ (((c ++ (d ++ (line ++ e))) ++ f) ++ g)) ++ h)
    ≡ (a ++ (b ++ (c ++ d))) ++ (line ++ (e ++ (f ++ (g ++ h))))
regrouped a b c d line e f g h = simp append_assoc

-- what one of these searches found is a line of the text
named : (i : Image) (k : Known) → all_stay k.guests ≡ true → (label : List ℕ) → IsLineOf k.guests label
    → HasLineOf (apart_text i k) label
named i k on label is =
    let g = is.guest in
    let x = is.witness in
    let step = length x.way - 1 in
    let way = turns_way g.cpus x.way in
    let image = trace_image_line i.frames i.cpus (length i.plans) (length i.pages) in
    let last = root_line k.root ++ taken_line k.line ++ apart_line (hold_apart k) in
    let (others, split) = flat_split guest_text k.guests is.place g is.guest_at in
    let (more, cut) = flat_split (turn_line g.cpus) g.lines is.number x is.at in
    let off = unmarked_at g is.number x (one_stays k.guests is.place g on is.guest_at) is.at in
    let front = flat_map guest_text (take is.place k.guests) in
    let mine = flat_map (turn_line g.cpus) (take is.number g.lines) in
    let plain : turn_line g.cpus x ≡ shown_text step label way =
    rw (off, is.same) in
    let line : flat_map (turn_line g.cpus) g.lines ≡ mine ++ (shown_text step label way ++ more) =
    rw (cut, plain) in
    let guest : guest_text g
    ≡ (guest_line g.top g.cpus ++ (mine ++ (shown_text step label way ++ more))) ++ verdict_line g.count g.end =
    rw line in
    record {
      before = image ++ (front ++ (guest_line g.top g.cpus ++ mine));
      step = step;
      way = way;
      after = more ++ (verdict_line g.count g.end ++ (others ++ last));
      begins = both_whole image (front ++ (guest_line g.top g.cpus ++ mine))
          (image_whole i.frames i.cpus (length i.plans) (length i.pages))
          (both_whole front (guest_line g.top g.cpus ++ mine)
          (all_whole guest_text guest_whole (take is.place k.guests))
          (both_whole (guest_line g.top g.cpus) mine (head_whole g.top g.cpus)
          (all_whole (turn_line g.cpus) (turn_whole g.cpus) (take is.number g.lines))));
      whole = cc (regrouped image front (guest_line g.top g.cpus) mine (shown_text step label way) more
          (verdict_line g.count g.end) others last);
    }

-- ---- slots, and the steps of a run

module _ (text : List ℕ) (gs : List GuestAlone) (plans : List Plan)
    (known : (label : List ℕ) → IsLineOf gs label → HasLineOf text label) where
  slots_named : (w : World) (ss : List Slot) → ShowOnly (IsLineOf gs) plans w ss → SlotsAreNamed text plans w ss
  slots_named w [] h = tt
  slots_named w (s ∷ ss) h = (
    record {
      label = text_of (turn (ready plans w s) s.cpu 0);
      same = lines_are_of_runs (ready plans w s) s.cpu s.step;
      named = λ some. known (text_of (turn (ready plans w s) s.cpu 0)) (h.0 some);
    },
    slots_named (next_world plans w s) ss h.1,
  )

  steps_named : (seed c n t : ℕ) (w : World) → ShowOnly (IsLineOf gs) plans w (run_slots seed c n t)
      → AreLinesOf (HasLineOf text) t n (text_of (all_steps plans w (run_slots seed c n t)))
  steps_named seed c zero t w h = refl
  steps_named seed c (suc n) t w h =
      let s : Slot = record { step = t; cpu = schedule seed c t } in
      let v : World = ready plans w s in
      let others : List Act = all_steps plans (next_world plans w s) (run_slots seed c n (t + 1)) in
      record {
        label = text_of (turn v s.cpu 0);
        line = text_of (turn_of v s);
        rest = text_of others;
        whole = rw (
          text-append (raises plans t ++ turn_of v s) others,
          text-append (raises plans t) (turn_of v s),
          text-raises plans t,
        );
        same = lines_are_of_runs v s.cpu t;
        known = λ some. known (text_of (turn v s.cpu 0)) (h.0 some);
        goes_on = steps_named seed c n (t + 1) (next_world plans w s) h.1;
      }

-- ---- the laws

pub same_answer : (text other : List ℕ) → plainly 0 text None ≡ plainly 0 other None → text ≡ other
same_answer text other e = ap (λ v. or_nothing v.last) e

-- the answer is known of the image, and its guests hold in company
module _ (states count seed : ℕ) (i : Image) (text : List ℕ)
    (f : IsFoundApart states count seed i (plainly 0 text None)) (says : SaysYes text) where
  text_is : text ≡ apart_text i f.known
  text_is = same_answer text (apart_text i f.known) f.text

  pub holds : hold_apart f.known ≡ true
  holds = says_yes i f.known (rw (← text_is) says)

  known_named : (label : List ℕ) → IsLineOf f.known.guests label → HasLineOf text label
  known_named label is = rw text_is (named i f.known (both (all_stay f.known.guests) _ holds).0 label is)

pub yes_names_all : YesNamesAll
yes_names_all states count seed i text plans ss f says below =
    slots_named text f.known.guests plans (known_named states count seed i text f says) (stepped_world i count seed) ss
    (slots_show_known (stepped_world i count seed) (most_choices None) states f.known plans ss f.found
    (holds states count seed i text f says) below)

pub yes_names_runs : YesNamesRuns
yes_names_runs input states count seed n i text bytes is f says =
    let w = image_world i in
    let line = trace_image_line i.frames i.cpus (length i.plans) (length i.pages) in
    let r = runs_show_known w i.plans seed i.cpus count n (most_choices None) states f.known f.found
    (holds states count seed i text f says) (accepted input i bytes is).lines in
    let first : List Act = steps w i.plans seed i.cpus count 0 in
    let others : List Act = all_steps i.plans (after_acts w first) (run_slots seed i.cpus n count) in
    record {
      lines = text_of others;
      whole = rw (text-trace w line i.plans seed i.cpus (count + n), r.acts, text-append first others);
      named = steps_named text f.known.guests i.plans (known_named states count seed i text f says) seed i.cpus n count
          (after_acts w first) r.show;
    }
