-- What a run of children shows, from how it was made.
use Rattle.std.proofs.Common.{◌≡◌, ◌≢◌, ℕ, zero, suc, ◌≤◌, ◌<◌, List, [], ◌∷◌, ◌++◌, length, refl, ap, ◌∙◌, subst}
use Rattle.std.proofs.Common.{arith}
use Rattle.std.specs.Prelude.{Result, Ok, Err, IsErr, IsOk, OnErr}
use Rattle.pip_base.specs.declared.types.Plan.{Plan}
use Rattle.pip_cpu.specs.Made.{Cut, Made}
use Rattle.pip_io.proofs.Piecewise.{part_after, part_longer}
use Rattle.pip_io.specs.Taken.{Taken, Appends, AppendsPart, Keeps, Wrote}
use Rattle.pip_io.proofs.Taken.{Appends-trans, Appends-kept, cut_sent, part_sent}
use Rattle.pip_model.specs.Acts.{Act, text_of}
use Rattle.pip_model.specs.Images.{Image, image_word}
use Rattle.pip_model.specs.Run.{end_line, trace_image_line, image_world}
use Rattle.pip_model.specs.Worlds.{World}
use Rattle.pip_switch.specs.Standing.{StandsAs, State}
use Rattle.pip_native.specs.Rooms.{HasRoomForChildren}
use Rattle.pip_native.specs.Watching.{addresses, built_from, ready_world, with_handlers}
use Rattle.pip_native.proofs.Beginning.{room_first}
use Rattle.pip_native.proofs.Entries.{handlers_as, room_kept}
use Rattle.pip_command_contracts.specs.Loading.{Begins}
use Rattle.pip_children.specs.Children.{Schedule, children_text, image_acts}
use Rattle.pip_children.specs.Dues.{IsRoomy}
use Rattle.pip_children.specs.Loading.{ShowsChildren, ShowsChildrenOut}
use Rattle.pip_children.proofs.Cuts.{cut_part}

-- there is room for the children
pub room_begun : (i : Image) (n frames pages : ℕ) (plans : List Plan) (p : State) → Begins i frames pages plans p
    → IsRoomy n frames → n ≤ 8 → HasRoomForChildren n 0 (with_handlers (image_world i) 256)
room_begun i n frames pages plans p b roomy most =
    let s = b.stands.bare.sound in
    let h = room_first n i.frames i.cpus (image_word i.frames i.pages) s most (subst (IsRoomy n) b.frames roomy) in
    room_kept n 0 (image_world i) (with_handlers (image_world i) 256)
    (handlers_as n 0 (image_world i) s h 256 (omega arith)) h

-- a machine has a processor
pub has_first : (p : State) (w : World) → StandsAs p w → 0 < length p.cpus
has_first p w stands =
    let l = subst (λ cs. 1 ≤ length cs) stands.bare.shows.cpus stands.bare.sound.at_least_one in
    omega (arith, l)

pub address_count : (n k : ℕ) → length (addresses n k) ≡ k
address_count n zero = refl
address_count n (suc k) = let e = address_count n k in one_longer (addresses n k) _ k e
  where
    one_longer : (xs : List ℕ) (x k : ℕ) → length xs ≡ k → length (xs ++ x ∷ []) ≡ suc k
    one_longer [] x k e = ap suc e
    one_longer (y ∷ xs) x zero e = absurd (let z : ⊥ = omega (arith, e) in z)
    one_longer (y ∷ xs) x (suc k) e = ap suc (one_longer xs x k (omega (arith, e)))

module _ (s : Schedule) (i : Image) (n frames pages : ℕ) (plans : List Plan)
    (p : State) (b : Begins i frames pages plans p) where
  abbrev line : List ℕ
  line = trace_image_line i.frames i.cpus (length i.plans) (length i.pages)

  abbrev lines : List ℕ
  lines = built_from 0 (addresses n n)

  abbrev acts : List Act
  acts = image_acts s i n

  abbrev last : List ℕ
  last = end_line (s.steps n)

  abbrev text : List ℕ
  text = children_text s i n

  pub same_line : trace_image_line frames (length p.cpus) (length plans) pages ≡ line
  same_line =
      ap (λ f. trace_image_line f (length p.cpus) (length plans) pages) b.frames
      ∙ ap (λ c. trace_image_line i.frames c (length plans) pages) b.cpus
      ∙ ap (λ ps. trace_image_line i.frames i.cpus (length ps) pages) b.plans
      ∙ ap (λ k. trace_image_line i.frames i.cpus (length i.plans) k) b.pages

  -- the first line wasn't taken whole
  pub cut_first : (old new : Taken) → AppendsPart old new (trace_image_line frames (length p.cpus) (length plans) pages)
      → AppendsPart old new text
  cut_first old new x =
      part_longer old new line (lines ++ (text_of acts ++ last)) (subst (AppendsPart old new) same_line x)

  module _ (old one : Taken) (x : Appends old one (trace_image_line frames (length p.cpus) (length plans) pages)) where
    began : Appends old one line
    began = subst (Appends old one) same_line x

    -- the lines of the children weren't
    pub cut_built : (new : Taken) (xs : List ℕ) → xs ≡ addresses n n → AppendsPart one new (built_from 0 xs)
        → AppendsPart old new text
    cut_built new xs same y =
        part_after old one new line (lines ++ (text_of acts ++ last)) began (part_longer one new lines
        (text_of acts ++ last) (subst (λ xs. AppendsPart one new (built_from 0 xs)) same y))

    module _ (two : Taken) (xs : List ℕ) (same : xs ≡ addresses n n) (y : Appends one two (built_from 0 xs)) where
      told : Appends one two lines
      told = subst (λ xs. Appends one two (built_from 0 xs)) same y

      -- the steps were cut
      pub cut_steps : (S : World → Type 0) (new : Taken) → Cut S two new (ready_world (image_world i) n) acts
          → AppendsPart old new text
      cut_steps S new z =
          part_after old one new line (lines ++ (text_of acts ++ last)) began
          (part_after one two new lines (text_of acts ++ last) told
          (part_longer two new (text_of acts) last (cut_part S two new (ready_world (image_world i) n) acts z)))

      -- they were made
      pub made_steps : {T E : Type 0} (r : Result T E) (q : State) (three new : Taken) → Made (StandsAs q) two three
          (ready_world (image_world i) n) acts → Wrote r three new last → ShowsChildren r s i n old new q
      made_steps (Ok v) q three new z w = (
        Appends-trans old one new line (lines ++ (text_of acts ++ last)) began
            (Appends-trans one two new lines (text_of acts ++ last) told
            (Appends-trans two three new (text_of acts) last z.text w)),
        z.world,
      )
      made_steps (Err e) q three new z w =
          part_after old one new line (lines ++ (text_of acts ++ last)) began
          (part_after one two new lines (text_of acts ++ last) told
          (part_after two three new (text_of acts) last z.text w))

-- ---- a text that was taken, and then a settling

-- it was not taken whole
pub children_unsettled : {T E A B : Type 0} (r : Result T E) (r' : Result A B) (s : Schedule) (i : Image) (n : ℕ)
    (old new : Taken) (q : State) → IsErr r → IsErr r' → ShowsChildren r s i n old new q
    → ShowsChildrenOut r' s i n old new q
children_unsettled (Ok v) r' s i n old new q err err' h = absurd cc
children_unsettled (Err e) (Ok v) s i n old new q err err' h = absurd cc
children_unsettled (Err e) (Err f) s i n old new q err err' h = part_sent _ _ _ h

-- it was
pub children_settled : {T E A B : Type 0} (r : Result T E) (r' : Result A B) (s : Schedule) (i : Image) (n : ℕ)
    (old mid new : Taken) (q : State) → IsOk r → ShowsChildren r s i n old mid q → Keeps mid new
    → OnErr r' (new.buffered ≢ []) → ShowsChildrenOut r' s i n old new q
children_settled (Ok v) (Ok w) s i n old mid new q ok h kept some = (Appends-kept old mid new _ h.0 kept, h.1)
children_settled (Ok v) (Err f) s i n old mid new q ok h kept some = cut_sent old mid new _ h.0 kept some
children_settled (Err e) r' s i n old mid new q ok h kept some = absurd cc
