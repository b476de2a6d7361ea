-- The stages of a machine whose root gives itself handlers and builds children.
use Rattle.std.proofs.Common.{◌≡◌, ◌≢◌, ℕ, zero, suc, ◌+◌, ◌*◌, ◌/◌, ◌%◌, ◌≤◌, ◌<◌, ◌==◌, ◌⊎◌, inl, inr}
use Rattle.std.proofs.Common.{true, false, cond, List, [], refl, sym, ap, ◌∙◌, subst, Option, Some, None, arith}
use Rattle.std.proofs.Common.{eq-eqb, eqb-true}
use Rattle.std.specs.Prelude.{is_none}
use Rattle.std.proofs.lemmas.Bool.{cases_eq, false_from_ne_true, ne_eqb}
use Rattle.pip_base.specs.declared.types.Access.TheVariants.{Load, Store}
use Rattle.pip_base.specs.declared.types.Size.TheVariants.{Word}
use Rattle.pip_model.specs.Accepted.{IsUnheld}
use Rattle.pip_model.specs.Answers.{page_of}
use Rattle.pip_model.specs.Boot.{frame_of_root}
use Rattle.pip_model.specs.Cache.{Places, places_after_access}
use Rattle.pip_model.specs.Events.{IsEvent}
use Rattle.pip_model.specs.Events as E
use Rattle.pip_model.specs.Happens.{with_word}
use Rattle.pip_model.specs.Lists.{In, has}
use Rattle.pip_model.specs.Reach.{Place, reach}
use Rattle.pip_model.specs.Sound.{IsSound, IsWord}
use Rattle.pip_model.specs.Tree.{Node, Row, Tree, config, free, hidden, holder, nodes}
use Rattle.pip_model.specs.Tree.{row_at, row_pages, vpage, word_of}
use Rattle.pip_model.specs.Worlds.{IsSoundWorld, World, runs_on}
use Rattle.pip_model.specs.declared.processors.Occupant.{Occupant}
use Rattle.pip_model.proofs.OnLists.Members.{Distinct-right, In-append_left, In-append_right, In-map, find_in, has_in}
use Rattle.pip_model.proofs.OnLists.Members.{same_at_key}
use Rattle.pip_model.proofs.Events.Soundness.{event-sound}
use Rattle.pip_model.proofs.Locality.OneEvent.{at_set_other}
use Rattle.pip_model.proofs.Trees.Ancestors.{child_on_way, holds_up, not_both, not_root, root_is_top}
use Rattle.pip_model.proofs.Trees.Free.{hidden_from, no_holder-unheld}
use Rattle.pip_parent.proofs.Stored.{with_words}
use Rattle.pip_parent.specs.Built.{child_with}
use Rattle.pip_parent.specs.Stages.{built_world}
use Rattle.pip_native.specs.Rooms.{HasRoomForChildren}
use Rattle.pip_native.specs.Watching.{after_store, child_wants, fresh, page_address, pages_taken, pool_of}
use Rattle.pip_native.specs.Watching.{with_built}
use Rattle.pip_native.specs.Watching.{with_child, with_children, with_entry, with_handlers}
use Rattle.pip_native.proofs.Building.{room_next}
use Rattle.pip_native.proofs.Open.{IsOpen, open_page, open_top, reached}
use Rattle.pip_slots.specs.Slots.{IsUnlent, TakesEachVector}
use Rattle.pip_slots.proofs.Roots.{root_node}
use Rattle.pip_slots.proofs.Sounds.{built_sound}

-- ---- the root's pages

-- rows of the root at different places have different pages
rows_differ : (t : Tree) → IsSound t → (u v : ℕ) (a b : Row) → row_at t.root.rows u ≡ Some a
    → row_at t.root.rows v ≡ Some b → u ≢ v → a.frame ≢ b.frame
rows_differ t s u v a b e f n d =
    let x = find_in (λ r. r.at == u) a t.root.rows e in
    let y = find_in (λ r. r.at == v) b t.root.rows f in
    let apart = Distinct-right (config t.root) (row_pages t.root) (s.pages_apart t.root (inl refl)).pages in
    let same = same_at_key (λ r. r.frame) a b t.root.rows apart x.0 y.0 d in
    n (rw (← eqb-true a.at u x.1, same, eqb-true b.at v y.1))

-- a page of the root that is free is no other partition's
free_unheld : (t : Tree) → IsSound t → (v : ℕ) (b : Row) → row_at t.root.rows v ≡ Some b
    → free t t.root.name v ≡ true → IsUnheld t t.root.name b.frame
free_unheld t s v b e f = no_holder-unheld t t.root.name b.frame (none (holder t t.root.name b.frame)
    (rw (root_node t s, e) at f))
  where
    none : (c : Option Node) → is_none c ≡ true → c ≡ None
    none None e = refl
    none (Some c) e = cc

unheld_unlent : (t : Tree) → IsSound t → (g : ℕ) → IsUnheld t t.root.name g → IsUnlent t g
unheld_unlent t s g u x i h = elim (root_is_top t s x (inr i)) [
  | inl e ↦ not_root t s x i (rw e)
  | inr a ↦
      let (c, j, up, o) = child_on_way t t.root x a in
      u c j up (elim o [
        | inl e ↦ rw e h
        | inr b ↦ In-append_right g (config c) (row_pages c) (holds_up t g s c x b h)
      ])
]

-- such a page is hidden from nobody
unlent_seen : (t : Tree) → IsSound t → (g : ℕ) → In g (row_pages t.root) → IsUnlent t g → hidden t g ≡ false
unlent_seen t s g r u = false_from_ne_true _ (λ z. go (hidden_from t g z))
  where
    go : (x : Node) × In x (nodes t) × In g (config x) → ⊥
    go (x, inl e, c) = not_both t g s t.root (inl refl) (rw (← e) c) r
    go (x, inr j, c) = u x j (In-append_left g (config x) (row_pages x) c)

-- the root loads from it
loads_at : (t : Tree) → IsSound t → (v : ℕ) (b : Row) → row_at t.root.rows v ≡ Some b → b.rights ≡ 7
    → IsUnlent t b.frame → (a : ℕ) → vpage a ≡ v → a % 4 ≡ 0
    → reach t t.root.name a Load Word ≡ Place b.frame (a % 4096 / 4)
loads_at t s v b e q u a at four =
    rw (
      root_node t s,
      eq-eqb (a % 4) 0 four,
      at,
      e,
      unlent_seen t s b.frame
          (In-map (λ r. r.frame) b t.root.rows (find_in (λ r. r.at == v) b t.root.rows e).0) u,
      q,
    )

-- ---- a word of a page

word_here : (t : Tree) (g i x k : ℕ) → word_of ((with_word t g i x).words g) k ≡ cond (k == i) x (word_of (t.words g) k)
word_here t g i x k = rw (eq-eqb g g refl)

word_there : (t : Tree) (g i x h k : ℕ) → h ≢ g → word_of ((with_word t g i x).words h) k ≡ word_of (t.words h) k
word_there t g i x h k n = rw (ne_eqb h g n)

-- what a store of the root makes of a world with other words and caches
pub store_on : (w : World) (words : ℕ → Option (ℕ → ℕ)) (cs : List Places) (r : Occupant) (va x g j : ℕ)
    → runs_on w 0 ≡ Some r → reach w.tree r.name va Store Word ≡ Place g j
    → after_store (with_words w words cs) va x ≡ with_words w (with_word (record w.tree { words = words }) g j x).words
    (places_after_access w.tree cs 0 r.name va Store Word)
store_on w words cs r va x g j runs at =
    rw (runs, at)

-- ---- a stage

-- the handlers' table has its first m words
abbrev pub HasTable : ℕ → World → Type 0
HasTable m w = (b : Row) (k : ℕ) → row_at w.tree.root.rows 0xfffff ≡ Some b → k < m
    → word_of (w.tree.words b.frame) k ≡ 0xfffff400

-- child j is there, with its two pages
pub record HasChild (n j : ℕ) (t : Tree) : Type 0 where
  pub node : Node
  pub there : In node t.others
  pub up : node.up ≡ t.root.name
  pub born : node.born ≡ fresh n j 0
  pub pages : (g : ℕ) → In g (row_pages node)
      → (frame_of_root t.frames (vpage (page_address j)) ≡ Some g)
      ⊎ (frame_of_root t.frames (vpage (fresh n j 11)) ≡ Some g)

-- of F frames
module _ (F : ℕ) where
  -- i of n children are built, and m words of the table are written
  pub record Stage (n i m : ℕ) (w : World) : Type 0 where
    pub sound : IsSoundWorld w
    pub size : w.tree.frames ≡ F
    pub room : HasRoomForChildren n i w
    pub alone : (j : ℕ) → j ≢ 0 → runs_on w j ≡ None
    pub quiet : w.tree.root.pending ≡ []
    pub table : HasTable m w
    pub children : (j : ℕ) → j < i → HasChild n j w.tree

  -- it stays where words and caches change
  stage_words : (n i m : ℕ) (w : World) (ws : ℕ → Option (ℕ → ℕ)) (cs : List Places) → Stage n i m w
      → IsSoundWorld (with_words w ws cs) → (m' : ℕ) → HasTable m' (with_words w ws cs)
      → Stage n i m' (with_words w ws cs)
  stage_words n i m w ws cs h s m' table = record {
    sound = s;
    size = h.size;
    room = search;
    alone = h.alone;
    quiet = h.quiet;
    table = table;
    children = λ j l. let c = h.children j l in
        search;
  }

  -- the root's row at an open page
  row_there : (t : Tree) → IsSound t → (v : ℕ) (o : IsOpen t v) → row_at t.root.rows v ≡ Some o.row
  row_there t s v o = rw (← root_node t s, o.found)

  -- a store of the root to an open page
  module _ (n i m : ℕ) (w : World) (h : Stage n i m w) (v : ℕ) (o : IsOpen w.tree v) (va x : ℕ) (at : vpage va ≡ v)
      (four : va % 4 ≡ 0) (word : IsWord va) (small : IsWord x) where
    pub reaches : reach w.tree h.room.runner.name va Store Word ≡ Place o.row.frame (va % 4096 / 4)
    reaches = cc (h.room.root, reached w.tree h.sound.tree v o va at four)

    stored : after_store w va x ≡ with_words w (with_word w.tree o.row.frame (va % 4096 / 4) x).words
        (places_after_access w.tree w.caches 0 h.room.runner.name va Store Word)
    stored = store_on w w.tree.words w.caches h.room.runner va x o.row.frame (va % 4096 / 4) h.room.runs reaches

    stored_sound : IsSoundWorld (after_store w va x)
    stored_sound = event-sound w (E.Store 0 va Word x) h.sound (word, small)

    stage_stored : (m' : ℕ) → HasTable m' (with_words w (with_word w.tree o.row.frame (va % 4096 / 4) x).words
        (places_after_access w.tree w.caches 0 h.room.runner.name va Store Word)) → Stage n i m' (after_store w va x)
    stage_stored m' table = rw stored (stage_words n i m w (with_word w.tree o.row.frame (va % 4096 / 4) x).words
        (places_after_access w.tree w.caches 0 h.room.runner.name va Store Word) h
        (subst IsSoundWorld stored stored_sound) m' table)

    -- where it is not the page of the table, the table stays
    stage_off : v ≢ 0xfffff → Stage n i m (after_store w va x)
    stage_off ne = stage_stored m (λ b k e l. word_there w.tree o.row.frame (va % 4096 / 4) x b.frame k
        (rows_differ w.tree h.sound.tree 0xfffff v b o.row e (row_there w.tree h.sound.tree v o) (λ q. ne (sym q)))
        ∙ h.table b k e l)

  -- ---- the table

  next_word : (n m : ℕ) (w : World) → m < 256 → Stage n 0 m w
      → Stage n 0 (suc m) (after_store w (0xfffff000 + 4 * m) 0xfffff400)
  next_word n m w l h = stage_stored n 0 m w h 0xfffff o va 0xfffff400 at (omega arith) (omega arith) (omega arith)
      (suc m) table
    where
      va : ℕ
      va = 0xfffff000 + 4 * m

      at : vpage va ≡ 0xfffff
      at = omega arith

      o : IsOpen w.tree 0xfffff
      o = open_top w.tree h.sound.tree h.room.top

      place : va % 4096 / 4 ≡ m
      place = omega arith

      table : HasTable (suc m) (with_words w (with_word w.tree o.row.frame (va % 4096 / 4) 0xfffff400).words
          (places_after_access w.tree w.caches 0 h.room.runner.name va Store Word))
      table b k e less =
          let same : Some b ≡ Some o.row = cc (row_there w.tree h.sound.tree 0xfffff o) in
          let row : b ≡ o.row = cc in
          ap (λ y. word_of ((with_word w.tree o.row.frame (va % 4096 / 4) 0xfffff400).words y.frame) k) row
          ∙ word_here w.tree o.row.frame (va % 4096 / 4) 0xfffff400 k
          ∙ ap (λ j. cond (k == j) 0xfffff400 (word_of (w.tree.words o.row.frame) k)) place
          ∙ elim (cases_eq k m) [
            | inl q ↦ rw (eq-eqb k m q)
            | inr q ↦
                rw (ne_eqb k m q, ← row, h.table b k e (omega arith))
          ]

  pub stage_handlers : (n m : ℕ) (w : World) → m ≤ 256 → Stage n 0 0 w → Stage n 0 m (with_handlers w m)
  stage_handlers n zero w l h = h
  stage_handlers n (suc m) w l h =
      next_word n m (with_handlers w m) (omega arith) (stage_handlers n m w (omega arith) h)

  -- ---- a child's entry

  -- page j of the twelve of child i is open before it is built
  pub fresh_open : (n i m j : ℕ) (w : World) → n ≤ 8 → i < n → j < 12 → Stage n i m w
      → IsOpen w.tree (1024 + (n + 12 * i + j))
  fresh_open n i m j w most low twelve h =
      let k = n + 12 * i + j in
      let inside : k < pages_taken n = omega arith in
      let at : vpage (page_address k) ≡ 1024 + k = omega arith in
      open_page w.tree h.sound.tree n k most h.room.frames inside
      (rw (← at) (h.room.left k (inr (omega arith, inside))))

  -- and that of its program
  pub program_open : (n i m : ℕ) (w : World) → n ≤ 8 → i < n → Stage n i m w → IsOpen w.tree (1024 + i)
  program_open n i m w most low h =
      let inside : i < pages_taken n = omega arith in
      let at : vpage (page_address i) ≡ 1024 + i = omega arith in
      open_page w.tree h.sound.tree n i most h.room.frames inside
      (rw (← at) (h.room.left i (inl (omega arith, low))))

  pub first_stored : (n i : ℕ) (w : World) → n ≤ 8 → i < n → Stage n i 256 w
      → Stage n i 256 (after_store w (fresh n i 11 + 0xfc) 0xfffff400)
  first_stored n i w most low h =
      stage_off n i 256 w h (1024 + (n + 12 * i + 11)) (fresh_open n i 256 11 w most low (omega arith) h)
      (fresh n i 11 + 0xfc) 0xfffff400 (omega arith) (omega arith) (omega arith) (omega arith)
      (λ e. let z : ⊥ = omega arith in z)

  pub stage_entry : (n i : ℕ) (w : World) → n ≤ 8 → i < n → Stage n i 256 w → Stage n i 256 (with_entry w n i)
  stage_entry n i w most low h =
      let u = after_store w (fresh n i 11 + 0xfc) 0xfffff400 in
      let hu = first_stored n i w most low h in
      stage_off n i 256 u hu (1024 + (n + 12 * i + 11)) (fresh_open n i 256 11 u most low (omega arith) hu)
      (fresh n i 11 + 0x400) 0x400000 (omega arith) (omega arith) (omega arith) (omega arith)
      (λ e. let z : ⊥ = omega arith in z)

  -- ---- a child

  -- the page that the root has at an open address
  page_frame : (t : Tree) → IsSound t → (p v a : ℕ) (o : IsOpen t v) → p ≡ t.root.name → vpage a ≡ v
      → frame_of_root t.frames (vpage a) ≡ Some (page_of t p a)
  page_frame t s p v a o is at =
      let row = row_there t s v o in
      let boot = ap (λ x. x.rows) s.boot_root.same in
      cc (o.found)

  module _ (n i : ℕ) (w : World) (most : n ≤ 8) (low : i < n) (h : Stage n i 256 w) where
    abbrev its : Node
    its = child_with w.tree h.room.runner.name (pool_of n i) child_wants 2 2

    abbrev made : World
    made = built_world w 0 h.room.runner (pool_of n i) child_wants

    made_sound : IsSoundWorld made
    made_sound = built_sound n i most low w h.sound h.room h.room.runner h.room.runs h.room.root

    made_room : HasRoomForChildren n (i + 1) made
    made_room = room_next n i most low w h.sound h.room h.room.runner h.room.runs h.room.root

    made_pages : (g : ℕ) → In g (row_pages its) → (frame_of_root w.tree.frames (vpage (page_address i)) ≡ Some g)
        ⊎ (frame_of_root w.tree.frames (vpage (fresh n i 11)) ≡ Some g)
    made_pages g (inl e) = inl (rw (
      page_frame w.tree h.sound.tree h.room.runner.name (1024 + i) (page_address i)
          (program_open n i 256 w most low h) h.room.root (omega arith),
      ← e,
    ))
    made_pages g (inr (inl e)) = inr (rw (
      page_frame w.tree h.sound.tree h.room.runner.name (1024 + (n + 12 * i + 11))
          (fresh n i 11) (fresh_open n i 256 11 w most low (omega arith) h) h.room.root (omega arith),
      ← e,
    ))
    made_pages g (inr (inr x)) = absurd x

    made_table : HasTable 256 made
    made_table b k e l = rw (off, h.table b k e l)
      where
        off : has (config its) b.frame ≡ false
        off = false_from_ne_true _
            (λ z. free_unheld made.tree made_sound.tree 0xfffff b e made_room.top its (inl refl) h.room.root
            (In-append_left b.frame (config its) (row_pages its) (has_in b.frame (config its) z)))

    made_children : (j : ℕ) → j < i + 1 → HasChild n j made.tree
    made_children j l = elim (cases_eq j i) [
      | inl e ↦ rw e (record { node = its; there = inl refl; up = h.room.root; born = refl; pages = made_pages })
      | inr e ↦
          let c = h.children j (omega arith) in
          record { node = c.node; there = inr c.there; up = c.up; born = c.born; pages = c.pages }
    ]

    stage_made : Stage n (i + 1) 256 made
    stage_made = record {
      sound = made_sound;
      size = h.size;
      room = made_room;
      alone = λ j e. at_set_other _ w.cpus 0 j e ∙ h.alone j e;
      quiet = h.quiet;
      table = made_table;
      children = made_children;
    }

    pub stage_built : Stage n (i + 1) 256 (with_built w (runs_on w 0) (pool_of n i))
    stage_built =
        rw h.room.runs stage_made

  pub stage_child : (n i : ℕ) (w : World) → n ≤ 8 → i < n → Stage n i 256 w → Stage n (i + 1) 256 (with_child w n i)
  stage_child n i w most low h = stage_built n i (with_entry w n i) most low (stage_entry n i w most low h)

  pub stage_children : (n i : ℕ) (w : World) → n ≤ 8 → i ≤ n → Stage n 0 256 w → Stage n i 256 (with_children w n i)
  stage_children n zero w most l h = h
  stage_children n (suc i) w most l h =
      let e : i + 1 ≡ suc i = omega arith in
      rw (← e) (stage_child n i (with_children w n i) most (omega arith) (stage_children n i w most (omega arith) h))

  -- ---- the root takes all vectors

  pub stage_takes : (n i : ℕ) (w : World) → Stage n i 256 w → TakesEachVector w.tree
  stage_takes n i w h k l =
      let t = w.tree in
      let s = h.sound.tree in
      let o = open_top t s h.room.top in
      let row = row_there t s 0xfffff o in
      let u = unheld_unlent t s o.row.frame (free_unheld t s 0xfffff o.row row h.room.top) in
      let va = 0xfffff000 + 4 * k in
      let table = loads_at t s 0xfffff o.row row o.rights u va (omega arith) (omega arith) in
      let place : va % 4096 / 4 ≡ k = omega arith in
      let word = ap (λ j. word_of (t.words o.row.frame) j) place ∙ h.table o.row k row l in
      let block_there = loads_at t s 0xfffff o.row row o.rights u 0xfffff400 refl refl in
      record {
        g = o.row.frame;
        i = va % 4096 / 4;
        h = o.row.frame;
        j = 256;
        table = table;
        names = rw (table, word, block_there, ← word);
        place = rw (word, block_there);
        table_unlent = u;
        block_unlent = u;
      }
