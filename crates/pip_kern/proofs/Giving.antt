-- Pages given to a child: hidden up the chain, and named in the giver's first shadow.
use Rattle.std.proofs.Common.{◌≡◌, ℕ, ◌+◌, ◌*◌, ◌<◌, ◌≤◌, arith, false, List, [], ◌∷◌, ◌++◌, get_or, length, take, sym}
use Rattle.std.proofs.Common.{subst}
use Rattle.pip_model.specs.Answers.{pair_frames}
use Rattle.std.proofs.lemmas.List.{take_all}
use Rattle.pip_base.specs.declared.types.Pair.{Pair}
use Rattle.pip_base.specs.Words.{as_configuration, shadow1_word}
use Rattle.pip_base.specs.Memory.{Memory}
use Rattle.pip_model.specs.Layout.{LaysOut}
use Rattle.pip_model.specs.Midway.{Midway, tree_rows}
use Rattle.pip_model.specs.Sound.{IsSound}
use Rattle.pip_model.specs.Tree.{Node, Tree, chain, vpage}
use Rattle.pip_model.proofs.Frames.Midway.{laid_midway}
use Rattle.pip_space.specs.Rows.{HasRow}
use Rattle.pip_kern.specs.Hiding.{CanSetUser, OnEachChain, SetsUser}
use Rattle.pip_kern.specs.Giving.{CanGive, CanGiveEach, CanGivePage, CanGivePages, HasGiven, rows_given, given_to}
use Rattle.pip_kern.specs.Giving.{GivesPage, GivesFurtherPages, GivesPageIn, GivesPagesIn}
use Rattle.pip_kern.specs.Marking.{CanMark}
use Rattle.pip_kern.proofs.Marking.{NameSays, OthersSay, can_name, can_set, marking_start, one_more, page_marked}
use Rattle.pip_kern.proofs.Marking.{said, set_said}

-- before the first page is given, these are the tree's own rows
pub giving_start : (t : Tree) → IsSound t → (m : Memory) → LaysOut t m → (y : Node) → Midway m t (rows_given t y [])
giving_start t s m lays y = marking_start t m (tree_rows t) y.up false (given_to y) (laid_midway t s m lays)

-- ---- one page

can_mark : (t : Tree) (y : Node) (v w g : ℕ) → CanGive t y v w g → CanMark t y.up v g
can_mark t y v w g c = record {
  sound = c.sound;
  taker = c.giver;
  found = c.found;
  row = c.row;
  at = c.at;
  page = c.page;
  unheld = c.unheld;
}

-- a page that can be given can be hidden
pub give_can_hide : (m : Memory) (caller v w : ℕ) → CanGivePage m caller v w → CanSetUser m caller v
give_can_hide m caller v w c = rw (← c.up) (can_set c.tree c.child.up v c.frame
    (can_mark c.tree c.child v w c.frame c.can) (tree_rows c.tree) false (given_to c.child) c.given m c.midway)

-- and then named
pub give_can_name : (m n : Memory) (caller v w : ℕ) → CanGivePage m caller v w → SetsUser caller v false m n
    → HasRow n caller v
give_can_name m n caller v w c =
    subst (λ p. SetsUser p v false m n → HasRow n p v) c.up
    (λ says. can_name c.tree c.child.up v c.frame (can_mark c.tree c.child v w c.frame c.can) (tree_rows c.tree) false
    (given_to c.child) c.given m c.midway n
    (set_said c.tree c.child.up v c.frame (can_mark c.tree c.child v w c.frame c.can) (tree_rows c.tree) false
    (given_to c.child) c.given m c.midway n (says c.tree)))

-- and then it is given
pub give_gives : (m n l : Memory) (caller v w : ℕ) (t : Tree) (y : Node) (gs : List ℕ) (g : ℕ) → CanGive t y v w g
    → y.up ≡ caller → Midway m t (rows_given t y gs) → SetsUser caller v false m n → NameSays n l caller v w
    → OthersSay n l caller → HasGiven t y (gs ++ g ∷ []) m l
give_gives m n l caller v w t y gs g can up k =
    subst (λ p. SetsUser p v false m n → NameSays n l p v w → OthersSay n l p → HasGiven t y (gs ++ g ∷ []) m l) up
    (λ says named others. page_marked t y.up v g (can_mark t y v w g can) (tree_rows t) false (given_to y) gs m k n
    (set_said t y.up v g (can_mark t y v w g can) (tree_rows t) false (given_to y) gs m k n (says t)) l
    (rw (← can.word) named) others)

-- within a bound on the steps
pub gives_in : (m : Memory) (caller v w before hidden after : ℕ)
    → OnEachChain m caller v (λ t rows r. hidden ≤ before + 7 * length (chain t caller)) → after ≤ hidden + 2
    → GivesPageIn caller v w m before after
gives_in m caller v w before hidden after says then t y gs g can up k =
    omega (
      arith,
      subst (λ p. OnEachChain m p v (λ t rows r. hidden ≤ before + 7 * length (chain t p)) → hidden ≤ before
          + 7 * length (chain t p)) up (λ on. said t y.up v g (can_mark t y v w g can) (tree_rows t) false (given_to y)
          gs
          m k (hidden ≤ before + 7 * length (chain t y.up)) (on t)) says,
    )

-- ---- pages one after another

module _ (m n : Memory) (caller born : ℕ) (ps : List Pair) (i v : ℕ) (p : Pair) (low : i < length ps)
    (at : p ≡ get_or ps i p) (place : v ≡ vpage p.va)
    (so_far : GivesFurtherPages caller born ps (pair_frames (take i ps)) m n) where
  can_next : (t : Tree) (y : Node) → CanGiveEach t y born ps
      → CanGive t y v (shadow1_word as_configuration born) p.frame
  can_next t y each = rw place (subst (λ q. CanGive t y (vpage q.va) (shadow1_word as_configuration born) q.frame)
      (sym at) (each i p low))

  -- the next page can be given
  pub next_can : CanGivePages m caller born ps → CanGivePage n caller v (shadow1_word as_configuration born)
  unfolding can_next
  next_can c = record {
    tree = c.tree;
    child = c.child;
    given = c.given ++ pair_frames (take i ps);
    frame = p.frame;
    can = can_next c.tree c.child c.each;
    up = c.up;
    midway = (so_far c.tree c.child c.given c.each c.up c.midway).midway;
  }

  -- and then it is one of those that were given
  pub next_given : (l : Memory) → GivesPage caller v (shadow1_word as_configuration born) n l
      → GivesFurtherPages caller born ps (pair_frames (take (i + 1) ps)) m l
  unfolding can_next
  next_given l says t y gs each up k =
      let old = so_far t y gs each up k in
      let new = says t y (gs ++ pair_frames (take i ps)) p.frame (can_next t y each) up old.midway in
      one_more t (tree_rows t) y.up false (given_to y) gs ps i p m n l low at old new

  -- within a bound on the steps
  pub next_in : (before between after : ℕ) → GivesPagesIn caller born ps i m before between
      → GivesPageIn caller v (shadow1_word as_configuration born) n between after
      → GivesPagesIn caller born ps (i + 1) m before after
  unfolding can_next
  next_in before between after so one t y gs each up k =
      let old = so_far t y gs each up k in
      let first = so t y gs each up k in
      let last = one t y (gs ++ pair_frames (take i ps)) p.frame (can_next t y each) up old.midway in
      omega (arith, first, last)

-- in the end all are
pub all_given : (m n : Memory) (caller born : ℕ) (ps : List Pair) (i : ℕ) → length ps ≤ i → GivesFurtherPages caller
    born ps (pair_frames (take i ps)) m n → GivesFurtherPages caller born ps (pair_frames ps) m n
all_given m n caller born ps i high says =
    rw (take_all i ps high) at says
