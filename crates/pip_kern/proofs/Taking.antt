-- Pages taken back from a child: opened up the chain, and named in the taker's first shadow as nobody's.
use Rattle.std.proofs.Common.{◌≡◌, ℕ, ◌+◌, ◌*◌, ◌<◌, ◌≤◌, arith, true, List, [], ◌∷◌, ◌++◌, get_or, length, take, sym}
use Rattle.std.proofs.Common.{subst}
use Rattle.std.proofs.Common.{Option}
use Rattle.pip_model.specs.Answers.{pair_frames}
use Rattle.std.proofs.lemmas.List.{take_all}
use Rattle.pip_base.specs.declared.types.Pair.{Pair}
use Rattle.pip_base.specs.Memory.{Memory}
use Rattle.pip_model.specs.FullRows.{FullRow}
use Rattle.pip_model.specs.Midway.{Midway}
use Rattle.pip_model.specs.Tree.{Tree, chain, vpage}
use Rattle.pip_space.specs.Rows.{HasRow}
use Rattle.pip_kern.specs.Hiding.{CanSetUser, OnEachChain, SetsUser}
use Rattle.pip_kern.proofs.Marking.{NameSays, OthersSay, can_name, can_set, marking_start, one_more, page_marked}
use Rattle.pip_kern.proofs.Marking.{said, set_said}
use Rattle.pip_kern.specs.Taking.{CanTake, CanTakeEach, CanTakePage, CanTakePages, HasTaken, rows_taken, TakesPage}
use Rattle.pip_kern.specs.Taking.{TakesPages, TakesPageIn, TakesPagesIn}

-- no page is taken back yet
pub taking_start : (t : Tree) (m : Memory) (rows : ℕ → ℕ → Option FullRow) (p : ℕ) → Midway m t rows
    → Midway m t (rows_taken rows p [])
taking_start t m rows p k = marking_start t m rows p true (λ g. 0) k

-- ---- one page

-- a page that can be taken back can be opened
pub take_can_show : (m : Memory) (caller v : ℕ) → CanTakePage m caller v → CanSetUser m caller v
take_can_show m caller v c = can_set c.tree caller v c.frame c.can c.rows true (λ g. 0) c.taken m c.midway

-- and then said to be free
pub take_can_free : (m n : Memory) (caller v : ℕ) → CanTakePage m caller v → SetsUser caller v true m n
    → HasRow n caller v
take_can_free m n caller v c says = can_name c.tree caller v c.frame c.can c.rows true (λ g. 0) c.taken m c.midway n
    (set_said c.tree caller v c.frame c.can c.rows true (λ g. 0) c.taken m c.midway n (says c.tree))

-- and then it is taken back
pub page_taken : (t : Tree) (p v g : ℕ) → CanTake t p v g → (rows : ℕ → ℕ → Option FullRow) (gs : List ℕ) (m : Memory)
    → Midway m t (rows_taken rows p gs) → (n : Memory) → SetsUser p v true m n → (l : Memory) → NameSays n l p v 0
    → OthersSay n l p → HasTaken t rows p (gs ++ g ∷ []) m l
page_taken t p v g can rows gs m k n says l named others = page_marked t p v g can rows true (λ f. 0) gs m k n
    (set_said t p v g can rows true (λ f. 0) gs m k n (says t)) l named others

-- within a bound on the steps
pub takes_in : (m : Memory) (caller v before shown after : ℕ)
    → OnEachChain m caller v (λ t rows r. shown ≤ before + 7 * length (chain t caller)) → after ≤ shown + 2
    → TakesPageIn caller v m before after
takes_in m caller v before shown after says then t rows gs g can k =
    let one = said t caller v g can rows true (λ f. 0) gs m k (shown ≤ before + 7 * length (chain t caller)) (says t) in
    omega (arith, one, then)

-- ---- pages one after another

module _ (m n : Memory) (caller : ℕ) (ps : List Pair) (i v : ℕ) (q : Pair) (low : i < length ps) (at : q
    ≡ get_or ps i q) (place : v ≡ vpage q.va) (so_far : TakesPages caller ps (pair_frames (take i ps)) m n) where
  can_next : (t : Tree) → CanTakeEach t caller ps → CanTake t caller v q.frame
  can_next t each = rw place (subst (λ z. CanTake t caller (vpage z.va) z.frame) (sym at) (each i q low))

  -- the next page can be taken back
  pub next_can : CanTakePages m caller ps → CanTakePage n caller v
  unfolding can_next
  next_can c = record {
    tree = c.tree;
    rows = c.rows;
    taken = c.taken ++ pair_frames (take i ps);
    frame = q.frame;
    can = can_next c.tree c.each;
    midway = (so_far c.tree c.rows c.taken c.each c.midway).midway;
  }

  -- and then it is one of those that were taken back
  pub next_taken : (l : Memory) → TakesPage caller v n l → TakesPages caller ps (pair_frames (take (i + 1) ps)) m l
  unfolding can_next
  next_taken l says t rows gs each k =
      let old = so_far t rows gs each k in
      let new = says t rows (gs ++ pair_frames (take i ps)) q.frame (can_next t each) old.midway in
      one_more t rows caller true (λ g. 0) gs ps i q m n l low at old new

  -- within a bound on the steps
  pub next_in : (before between after : ℕ) → TakesPagesIn caller ps i m before between
      → TakesPageIn caller v n between after → TakesPagesIn caller ps (i + 1) m before after
  unfolding can_next
  next_in before between after so one t rows gs each k =
      let old = so_far t rows gs each k in
      let first = so t rows gs each k in
      let last = one t rows (gs ++ pair_frames (take i ps)) q.frame (can_next t each) old.midway in
      omega (arith, first, last)

-- in the end all are
pub all_taken : (m n : Memory) (caller : ℕ) (ps : List Pair) (i : ℕ) → length ps ≤ i
    → TakesPages caller ps (pair_frames (take i ps)) m n → TakesPages caller ps (pair_frames ps) m n
all_taken m n caller ps i high says = rw (take_all i ps high) at says
