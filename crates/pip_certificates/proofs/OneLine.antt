-- What a choice shows is one line, with its newline, or nothing.
use Rattle.std.proofs.Common.{◌≡◌, ℕ, zero, suc, ◌%◌, ◌/◌, ◌^◌, true, false, ◌==◌, nat_lt, ◌⊎◌, inl, inr}
use Rattle.std.proofs.Common.{List, [], ◌∷◌, ◌++◌, Option, None, Some, refl, sym, arith, append-nil}
use Rattle.std.proofs.Common.{append_assoc, decimal}
use Rattle.std.specs.Fmt.{digit_glyph, digits, digits_onto}
use Rattle.std.specs.Prelude.{Bool, codes, if◌then◌else◌, slice_index, ◌-◌}
use Rattle.std.proofs.lemmas.Bool.Decides.{nat_tests}
use Rattle.std.proofs.lemmas.List.Folds.{list_any-append}
use Rattle.pip_base.specs.Status.{status_number}
use Rattle.pip_base.specs.declared.types.Ctx.{Ctx}
use Rattle.pip_base.specs.declared.outcome.Outcome.{Outcome}
use Rattle.pip_base.specs.declared.outcome.Outcome.TheVariants as O
use Rattle.pip_every.specs.Moments.{Moment, Scope, choice_label}
use Rattle.pip_script.specs.Lines.{HasNoNewline}
use Rattle.pip_model.specs.Acts.{Makes, text_of}
use Rattle.pip_model.specs.Effects.{at_next, word_effect}
use Rattle.pip_model.specs.Events as E
use Rattle.pip_model.specs.InstrRead.{instr_of}
use Rattle.pip_model.specs.Text.{hex_digit, word_digits, word_text}
use Rattle.pip_model.specs.Turn.{acts_after_fetch, acts_after_poll, arguments, call_line, effect_acts, head, load_acts}
use Rattle.pip_model.specs.Turn.{moved_line, out_line, outcome_of, store_acts, turn, word_acts, world_of}
use Rattle.pip_model.specs.Worlds.{World, runs_on}
use Rattle.pip_model.specs.declared.effect.Effect.{Effect}
use Rattle.pip_model.specs.declared.effect.Effect.TheVariants as F
use Rattle.pip_model.specs.declared.processors.Occupant.{Occupant}

-- ---- texts without a newline

pub record IsPlain (bytes : List ℕ) : Type 0 where
  pub none : HasNoNewline bytes

pub both : {xs ys : List ℕ} → IsPlain xs → IsPlain ys → IsPlain (xs ++ ys)
both {xs} {ys} h k = record {
  none = rw (list_any-append (λ b. b == 10) xs ys, h.none, k.none);
}

digits_plain : (k n : ℕ) (acc : List ℕ) → HasNoNewline acc → HasNoNewline (digits_onto k 10 false n acc)
digits_plain zero n acc h = h
digits_plain (suc k) n acc h = grind (arith, nat_tests, h, digits_plain k (n / 10) (digit_glyph false (n % 10) ∷ acc))

pub number : (n : ℕ) → IsPlain (decimal n)
unfolding digits
number n = record { none = digits_plain 64 n [] refl }

pub digit : (d : ℕ) {rest : List ℕ} → IsPlain rest → IsPlain (hex_digit d ∷ rest)
digit d h = let none = h.none in record { none = grind (arith, nat_tests, none) }

pub nothing : IsPlain []
nothing = record { none = refl }

pub space : IsPlain (32 ∷ [])
space = record { none = refl }

pub digits_of_word : (w : ℕ) → IsPlain (word_digits w)
digits_of_word w = digit (w / 2 ^ 28 % 16) (digit (w / 2 ^ 24 % 16) (digit (w / 2 ^ 20 % 16) (digit (w / 2 ^ 16 % 16)
    (digit (w / 2 ^ 12 % 16) (digit (w / 2 ^ 8 % 16) (digit (w / 2 ^ 4 % 16) (digit (w % 16) nothing)))))))

pub word : (w : ℕ) → IsPlain (word_text w)
word w = let digits = (digits_of_word w).none in record { none = digits }

-- ---- what a turn shows

-- nothing, or a line with its newline
abbrev pub IsOneLine : List ℕ → Type 0
IsOneLine text = (text ≡ []) ⊎ ((line : List ℕ) × (IsPlain line × (text ≡ line ++ 10 ∷ [])))

line_is : (t cpu : ℕ) (x : List ℕ) → IsPlain x → IsOneLine (head t cpu ++ (x ++ 10 ∷ []))
line_is t cpu x h =
    let plain : IsPlain (head t cpu ++ x) = both (both (both (number t) space) (number cpu)) h in
    inr (head t cpu ++ x, (plain, sym (append_assoc (head t cpu) x (10 ∷ []))))

-- so is a line that is put together in another way
alike : (t cpu : ℕ) (x line : List ℕ) → IsPlain x → line ≡ head t cpu ++ (x ++ 10 ∷ []) → IsOneLine line
alike t cpu x line h is = rw is (line_is t cpu x h)

alone : (a : List ℕ) → IsOneLine a → IsOneLine (a ++ [])
alone a is = rw (append-nil a) is

-- a text, and a number after a space
and_number : {a : List ℕ} (n : ℕ) → IsPlain a → IsPlain (a ++ codes " " ++ decimal n)
and_number n h = both (both h space) (number n)

moved : (t cpu : ℕ) (o : Outcome) → IsOneLine (moved_line t cpu o)
moved t cpu (O.Switched from to k) =
    line_is t cpu (codes " switch " ++ decimal from ++ codes " " ++ decimal to ++ codes " " ++ decimal k)
    (and_number k (and_number to (both {xs = codes " switch "} (record { none = refl }) (number from))))
moved t cpu (O.Parked from k) = line_is t cpu (codes " park " ++ decimal from ++ codes " " ++ decimal k)
    (and_number k (both {xs = codes " park "} (record { none = refl }) (number from)))
moved t cpu (O.Word v) = inl refl
moved t cpu O.Done = inl refl
moved t cpu (O.Reply s v) = inl refl
moved t cpu O.Idle = inl refl

called : (t cpu n : ℕ) (o : Outcome) → IsOneLine (call_line t cpu n o)
called t cpu n (O.Reply s v) =
    let call : IsPlain (codes " call " ++ decimal n) = both {xs = codes " call "} (record { none = refl }) (number n) in
    let reply : IsPlain (codes " call " ++ decimal n ++ codes " reply ") = both call (record { none = refl }) in
    alike t cpu
    (codes " call " ++ decimal n ++ codes " reply " ++ decimal (status_number s) ++ codes " " ++ word_text v)
    (call_line t cpu n (O.Reply s v))
    (both (both (both reply (number (status_number s))) space) (word v)) (simp append_assoc)
called t cpu n (O.Switched from to k) =
    let call : IsPlain (codes " call " ++ decimal n) = both {xs = codes " call "} (record { none = refl }) (number n) in
    let moves : IsPlain (codes " call " ++ decimal n ++ codes " switch ") = both call (record { none = refl }) in
    alike t cpu
    (codes " call " ++ decimal n ++ codes " switch " ++ decimal from ++ codes " " ++ decimal to ++ codes " "
    ++ decimal k) (call_line t cpu n (O.Switched from to k))
    (and_number k (and_number to (both moves (number from)))) (simp append_assoc)
called t cpu n (O.Parked from k) = inl refl
called t cpu n (O.Word v) = inl refl
called t cpu n O.Done = inl refl
called t cpu n O.Idle = inl refl

shown : (t cpu v : ℕ) → IsOneLine (out_line t cpu v)
shown t cpu v = alike t cpu (codes " out " ++ word_text v) (out_line t cpu v)
    (both {xs = codes " out "} (record { none = refl }) (word v)) (simp append_assoc)

-- ---- the texts

moves : (t cpu : ℕ) (o : Outcome) → IsOneLine (moved_line t cpu o ++ [])
moves t cpu o = alone (moved_line t cpu o) (moved t cpu o)

loads : (t cpu : ℕ) (x : Ctx) (a : ℕ) (o : Outcome) → IsOneLine (text_of (load_acts t cpu x a o))
loads t cpu x a (O.Word v) = inl refl
loads t cpu x a O.Done = moves t cpu O.Done
loads t cpu x a (O.Reply s v) = moves t cpu (O.Reply s v)
loads t cpu x a (O.Switched from to k) = moves t cpu (O.Switched from to k)
loads t cpu x a (O.Parked from k) = moves t cpu (O.Parked from k)
loads t cpu x a O.Idle = moves t cpu O.Idle

stores : (t cpu : ℕ) (x : Ctx) (o : Outcome) → IsOneLine (text_of (store_acts t cpu x o))
stores t cpu x O.Done = inl refl
stores t cpu x (O.Word v) = moves t cpu (O.Word v)
stores t cpu x (O.Reply s v) = moves t cpu (O.Reply s v)
stores t cpu x (O.Switched from to k) = moves t cpu (O.Switched from to k)
stores t cpu x (O.Parked from k) = moves t cpu (O.Parked from k)
stores t cpu x O.Idle = moves t cpu O.Idle

effects : (w : World) (t cpu : ℕ) (x : Ctx) (e : Effect) → IsOneLine (text_of (effect_acts w t cpu x e))
effects w t cpu x (F.Sets a v) = inl refl
effects w t cpu x (F.Goes pc) = inl refl
effects w t cpu x (F.Links a pc) = inl refl
effects w t cpu x (F.Loads a va size) = loads t cpu x a (outcome_of w (E.Load cpu va size))
effects w t cpu x (F.Stores va v size) = stores t cpu x (outcome_of w (E.Store cpu va size v))
effects w t cpu x (F.Traps k a b) = moves t cpu (outcome_of w (E.Trap cpu k a b))
effects w t cpu x (F.Interrupts k) =
    moves t cpu (outcome_of (world_of w (E.SetContext cpu (at_next x))) (E.Trap cpu k 0 0))
effects w t cpu x (F.Calls n) =
    let o = outcome_of (world_of w (E.SetContext cpu (at_next x))) (E.Call cpu n (arguments x)) in
    alone (call_line t cpu n o) (called t cpu n o)
effects w t cpu x (F.Shows v) = alone (out_line t cpu v) (shown t cpu v)

words : (w : World) (t cpu v : ℕ) (o : Option Occupant) → IsOneLine (text_of (word_acts w t cpu v o))
words w t cpu v None = inl refl
words w t cpu v (Some r) = effects w t cpu r.ctx (word_effect r.ctx v (instr_of v))

fetched : (w : World) (t cpu : ℕ) (o : Outcome) → IsOneLine (text_of (acts_after_fetch w t cpu o))
fetched w t cpu (O.Word v) = words w t cpu v (runs_on w cpu)
fetched w t cpu O.Done = moves t cpu O.Done
fetched w t cpu (O.Reply s v) = moves t cpu (O.Reply s v)
fetched w t cpu (O.Switched from to k) = moves t cpu (O.Switched from to k)
fetched w t cpu (O.Parked from k) = moves t cpu (O.Parked from k)
fetched w t cpu O.Idle = moves t cpu O.Idle

polled : (w : World) (t cpu : ℕ) (o : Outcome) → IsOneLine (text_of (acts_after_poll w t cpu o))
polled w t cpu (O.Switched from to k) = moves t cpu (O.Switched from to k)
polled w t cpu O.Idle = inl refl
polled w t cpu (O.Word v) = fetched (world_of w (E.Fetch cpu)) t cpu (outcome_of w (E.Fetch cpu))
polled w t cpu O.Done = fetched (world_of w (E.Fetch cpu)) t cpu (outcome_of w (E.Fetch cpu))
polled w t cpu (O.Reply s v) = fetched (world_of w (E.Fetch cpu)) t cpu (outcome_of w (E.Fetch cpu))
polled w t cpu (O.Parked from k) = fetched (world_of w (E.Fetch cpu)) t cpu (outcome_of w (E.Fetch cpu))

pub turn_shows : (w : World) (cpu t : ℕ) → IsOneLine (text_of (turn w cpu t))
turn_shows w cpu t = polled (world_of w (E.Poll cpu)) t cpu (outcome_of w (E.Poll cpu))

pub choice_shows : (g : Scope) (m : Moment) (k : ℕ) → IsOneLine (choice_label g m k)
choice_shows g m k = by_tests (nat_lt k g.cpus) (nat_lt m.turns g.from)
  where
    by_tests : (own early : Bool) → IsOneLine (text_of (if own then turn m.world k 0
        else if early then [] else Makes (E.Raise (slice_index g.lines (k - g.cpus))) ∷ []))
    by_tests true early = turn_shows m.world k 0
    by_tests false true = inl refl
    by_tests false false = inl refl
