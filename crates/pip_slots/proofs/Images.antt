-- The law of slots, for the children that are built of an image's pages.
use Rattle.std.proofs.Common.{◌++◌, ◌≡◌, ◌≢◌, ℕ, zero, suc, ◌<◌, ◌&&◌, ◌⊎◌, inl, inr, Bool, true, false, cond}
use Rattle.std.proofs.Common.{◌≤◌, List, [], ◌∷◌, refl, sym, ap₂, subst, Option, Some, None, arith, eq-eqb}
use Rattle.std.specs.Prelude.{nat_le, nat_lt, slice_index}
use Rattle.std.specs.List.{AllByRecursion}
use Rattle.pip_model.specs.Boot.{boot_tree_with, first_user, frame_of_root}
use Rattle.pip_model.specs.Cache.{empty_caches}
use Rattle.pip_model.specs.Images.{Image, image_word}
use Rattle.pip_model.specs.Run.{image_world}
use Rattle.pip_model.specs.Lists.{In}
use Rattle.pip_model.specs.Sound.{IsWord}
use Rattle.pip_model.specs.Tree.{child_at, node, row_pages, vpage, word_of}
use Rattle.pip_model.specs.Worlds.{IsSoundWorld, World, boot_cpus, boot_world_with, idle_cpus}
use Rattle.pip_model.proofs.Events.Soundness.{at_cpu, boot_world-sound_with}
use Rattle.pip_model.proofs.Trees.Ancestry.{named_node}
use Rattle.pip_model.proofs.Trees.Children.{child_is}
use Rattle.pip_model.proofs.Trees.Lookup.{in_other, root_found}
use Rattle.pip_guests.specs.Guests.{IsSameGuest}
use Rattle.pip_native.specs.Watching.{addresses, fresh, page_address, ready_world, with_handlers}
use Rattle.pip_native.proofs.Beginning.{room_first}
use Rattle.pip_slots.specs.Images.{AgreeOnChild, HasRooms, ImagesBegin, ImagesSeparate, ImagesSeparateRounds}
use Rattle.pip_slots.specs.Images.{ImagesSeparateSlots, placed, round_plan}
use Rattle.pip_slots.specs.declared.time_slot.RoundSlot.{RoundSlot}
use Rattle.pip_slots.specs.Slots.{IsBetweenSlots, IsRootsChild, IsSameInSlots, rounds}
use Rattle.pip_slots.specs.declared.time_slot.TimeSlot.{TimeSlot}
use Rattle.pip_slots.proofs.Slots.{slots_separate}
use Rattle.pip_slots.proofs.Stages.{Stage, stage_children, stage_handlers, stage_takes}
use Rattle.pip_slots.proofs.Twins.{Twin, twin_guest, twin_ready}

-- ---- the beginning

idle_at : (c i : ℕ) → at_cpu (idle_cpus c) i ≡ None
idle_at zero i = refl
idle_at (suc c) zero = refl
idle_at (suc c) (suc i) = idle_at c i

alone_first : (c j : ℕ) → j ≢ 0 → at_cpu (boot_cpus c) j ≡ None
alone_first zero j n = refl
alone_first (suc c) zero n = absurd (n refl)
alone_first (suc c) (suc j) n = idle_at c j

begins_soundly : (a : Image) (n : ℕ) → HasRooms n a → IsSoundWorld (image_world a)
begins_soundly a n r = boot_world-sound_with (image_word a.frames a.pages) a.frames a.cpus r.frames_least r.frames_most
    r.cpus_least r.cpus_most r.words

first_stage : (a : Image) (n : ℕ) → HasRooms n a → Stage a.frames n 0 0 (image_world a)
first_stage a n r = record {
  sound = begins_soundly a n r;
  size = refl;
  room = room_first n a.frames a.cpus (image_word a.frames a.pages) (begins_soundly a n r) r.most r.room;
  alone = alone_first a.cpus;
  quiet = refl;
  table = λ b k e l. absurd (let z : ⊥ = omega arith in z);
  children = λ j l. absurd (let z : ⊥ = omega arith in z);
}

pub ready_stage : (a : Image) (n : ℕ) → HasRooms n a → Stage a.frames n n 256 (ready_world (image_world a) n)
ready_stage a n r = stage_children a.frames n n (with_handlers (image_world a) 256) r.most (omega arith)
    (stage_handlers a.frames n 256 (image_world a) (omega arith) (first_stage a n r))

-- the slots can begin
stage_between : (F n i : ℕ) (w : World) → Stage F n i 256 w → IsBetweenSlots w
stage_between F n i w h = record {
  sound = h.sound;
  root = rw (h.room.runs, eq-eqb h.room.runner.name w.tree.root.name h.room.root);
  alone = h.alone;
  quiet = h.quiet;
  takes = stage_takes F n i w h;
}

-- ---- two images

module _ (a b : Image) (n k : ℕ) (low : k < n) (ra : HasRooms n a) (rb : HasRooms n b) (g : AgreeOnChild n k a b)
  where
    -- the two pages of the child
    abbrev Its : ℕ → Type 0
    Its f = (frame_of_root a.frames (vpage (page_address k)) ≡ Some f)
        ⊎ (frame_of_root a.frames (vpage (fresh n k 11)) ≡ Some f)

    abbrev theirs : ℕ → Option (ℕ → ℕ)
    theirs = (boot_tree_with (image_word b.frames b.pages) a.frames).words

    image_twin : Twin Its (image_world a) (image_world b)
    image_twin = record {
      words = theirs;
      caches = empty_caches a.cpus;
      same = ap₂ (λ f c. boot_world_with (image_word b.frames b.pages) f c) (sym g.frames) (sym g.cpus);
      agree = λ f i h l. go (nat_le (first_user a.frames) f && nat_lt f a.frames) f i (words f i h l);
    }
      where
        words : (f i : ℕ) → Its f → i < 1024 → image_word b.frames b.pages f i ≡ image_word a.frames a.pages f i
        words f i (inl e) l = sym (g.program f i e l)
        words f i (inr e) l = sym (g.handlers f i e l)

        go : (c : Bool) (f i : ℕ) → image_word b.frames b.pages f i ≡ image_word a.frames a.pages f i
            → word_of (cond c (Some (image_word b.frames b.pages f)) None) i
            ≡ word_of (cond c (Some (image_word a.frames a.pages f)) None) i
        go true f i e = e
        go false f i e = refl

-- child k is there
child_there : (a : Image) (n k : ℕ) → (r : HasRooms n a) → (low : k < n) → IsRootsChild (ready_world (image_world a)
    n)
    (fresh n k 0) ((ready_stage a n r).children k low).node.name
child_there a n k r low =
    let h = ready_stage a n r in
    let w = ready_world (image_world a) n in
    let s = h.sound.tree in
    let c = h.children k low in
    record {
      node = c.node;
      child = subst (λ d. child_at w.tree w.tree.root.name d ≡ Some c.node) c.born
          (child_is w.tree s w.tree.root.name c.node.name w.tree.root c.node (root_found w.tree)
          (in_other w.tree s c.node c.there) c.up);
      name = refl;
    }

pub images_begin : ImagesBegin
images_begin a n r = (
  stage_between a.frames n n (ready_world (image_world a) n) (ready_stage a n r),
  (λ k low. (((ready_stage a n r).children k low).node.name, child_there a n k r low)),
)

-- the child is there, and the same in both
pub images_agree : (a b : Image) (n k : ℕ) → k < n → HasRooms n a → HasRooms n b → AgreeOnChild n k a b
    → (p : ℕ) × IsRootsChild (ready_world (image_world a) n) (fresh n k 0) p
    × IsSameGuest p (ready_world (image_world a) n) (ready_world (image_world b) n)
images_agree a b n k low ra rb g =
    let h = ready_stage a n ra in
    let w = ready_world (image_world a) n in
    let v = ready_world (image_world b) n in
    let c = h.children k low in
    let s = h.sound.tree in
    let same = named_node w.tree c.node.name s c.node (inr c.there) refl in
    let size : w.tree.frames ≡ a.frames = h.size in
    let inside = λ (f : ℕ) (j : In f (row_pages (node w.tree c.node.name))).
    rw size at (c.pages f (subst (λ x. In f (row_pages x)) same j)) in
    let twin = twin_ready (Its a b n k low ra rb g) a.frames n ra.most (image_world a) (image_world b)
    (first_stage a n ra) (image_twin a b n k low ra rb g) in (
      c.node.name,
      child_there a n k ra low,
      twin_guest (Its a b n k low ra rb g) c.node.name w v inside twin,
    )

-- it has the same slots in both
images_same : (a b : Image) (n k t : ℕ) (ss : List TimeSlot) → k < n → HasRooms n a → HasRooms n b
    → AgreeOnChild n k a b → AllByRecursion (λ s. IsWord s.child) ss → (p : ℕ) × IsSameInSlots (fresh n k 0) p
    (ready_world (image_world a) n) (ready_world (image_world b) n) ss t
images_same a b n k t ss low ra rb g all =
    let h = images_agree a b n k low ra rb g in (
      h.0,
      slots_separate (ready_world (image_world a) n) (ready_world (image_world b) n) (fresh n k 0) h.0 ss t
          (images_begin a n ra).0 (images_begin b n rb).0 h.1 h.2 all,
    )

pub images_separate : ImagesSeparate
images_separate a b n k t ss low ra rb g all = (images_same a b n k t ss low ra rb g all).1.lines

pub images_separate_slots : ImagesSeparateSlots
images_separate_slots a b n k t ss low ra rb g all = (images_same a b n k t ss low ra rb g all).1.texts

-- ---- rounds

words_append : (xs ys : List TimeSlot) → AllByRecursion (λ s. IsWord s.child) xs
    → AllByRecursion (λ s. IsWord s.child) ys → AllByRecursion (λ s. IsWord s.child) (xs ++ ys)
words_append [] ys h k = k
words_append (x ∷ xs) ys h k = (h.0, words_append xs ys h.1 k)

rounds_words : (ss : List TimeSlot) (c : ℕ) → AllByRecursion (λ s. IsWord s.child) ss
    → AllByRecursion (λ s. IsWord s.child) (rounds ss c)
rounds_words ss zero h = tt
rounds_words ss (suc c) h = words_append ss (rounds ss c) h (rounds_words ss c h)

one_more : (xs : List ℕ) (d : ℕ) → AllByRecursion IsWord xs → IsWord d → AllByRecursion IsWord (xs ++ d ∷ [])
one_more [] d h k = (k, tt)
one_more (x ∷ xs) d h k = (h.0, one_more xs d h.1 k)

addresses_words : (n i : ℕ) → n ≤ 8 → i ≤ n → AllByRecursion IsWord (addresses n i)
addresses_words n zero most l = tt
addresses_words n (suc i) most l = one_more (addresses n i) (fresh n i 0) (addresses_words n i most (omega arith))
    (omega arith)

-- the addresses of a round's slots are words
index_word : (ds : List ℕ) (i : ℕ) → AllByRecursion IsWord ds → IsWord (slice_index ds i)
index_word [] i h = omega arith
index_word (d ∷ ds) zero h = h.0
index_word (d ∷ ds) (suc i) h = index_word ds i h.1

placed_words : (xs : List RoundSlot) (ds : List ℕ) → AllByRecursion IsWord ds
    → AllByRecursion (λ s. IsWord s.child) (placed xs ds)
placed_words [] ds h = tt
placed_words (x ∷ xs) ds h = (index_word ds x.child h, placed_words xs ds h)

pub plan_words : (n : ℕ) (round : List RoundSlot) (c : ℕ) → n ≤ 8
    → AllByRecursion (λ s. IsWord s.child) (round_plan n round c)
plan_words n round c most = rounds_words (placed round (addresses n n)) c
    (placed_words round (addresses n n) (addresses_words n n most (omega arith)))

pub images_separate_rounds : ImagesSeparateRounds
images_separate_rounds a b n k c round low ra rb g =
    images_separate a b n k 0 (round_plan n round c) low ra rb g (plan_words n round c ra.most)
