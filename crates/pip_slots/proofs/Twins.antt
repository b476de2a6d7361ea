-- Two machines whose roots give themselves handlers and build children alike: the partitions are the same, and pages
-- that had the same words have them still.
use Rattle.std.proofs.Common.{◌≡◌, ℕ, zero, suc, ◌+◌, ◌*◌, ◌%◌, ◌/◌, ◌≤◌, ◌<◌, inl, inr, Bool, true, false}
use Rattle.std.proofs.Common.{cond, List, refl, sym, ap, ◌∙◌, subst, Option, Some, None, arith, eq-eqb}
use Rattle.std.proofs.lemmas.Bool.{cases_eq, ne_eqb}
use Rattle.pip_base.specs.declared.types.Access.TheVariants.{Store}
use Rattle.pip_base.specs.declared.types.Size.TheVariants.{Word}
use Rattle.pip_model.specs.Answers.{words_without}
use Rattle.pip_model.specs.Cache.{Places, places_after_access}
use Rattle.pip_model.specs.Happens.{with_word}
use Rattle.pip_model.specs.Lists.{In, has}
use Rattle.pip_model.specs.Reach.{Place, reach}
use Rattle.pip_model.specs.Tree.{config, node, row_pages, word_of}
use Rattle.pip_model.specs.Worlds.{World, runs_on}
use Rattle.pip_model.specs.declared.processors.Occupant.{Occupant}
use Rattle.pip_parent.proofs.Stored.{with_words}
use Rattle.pip_parent.specs.Built.{child_with}
use Rattle.pip_parent.specs.Stages.{caches_before}
use Rattle.pip_native.specs.Watching.{after_store, child_wants, fresh, pool_of, ready_world, with_built}
use Rattle.pip_native.specs.Watching.{with_children, with_entry, with_handlers}
use Rattle.pip_native.proofs.Open.{open_top}
use Rattle.pip_guests.specs.Guests.{IsSameGuest}
use Rattle.pip_slots.proofs.Stages.{Stage, first_stored, fresh_open, reaches, stage_children, stage_entry}
use Rattle.pip_slots.proofs.Stages.{stage_handlers}
use Rattle.pip_slots.proofs.Stages.{store_on}

-- v is w with other words and caches, and in the pages of G the words are the same
pub record Twin (G : ℕ → Type 0) (w v : World) : Type 0 where
  pub words : ℕ → Option (ℕ → ℕ)
  pub caches : List Places
  pub same : v ≡ with_words w words caches
  pub agree : (g i : ℕ) → G g → i < 1024 → word_of (words g) i ≡ word_of (w.tree.words g) i

module _ (G : ℕ → Type 0) where
  -- both store a word to one place
  twin_store : (w v : World) (r : Occupant) (va x g j : ℕ) → runs_on w 0 ≡ Some r
      → reach w.tree r.name va Store Word ≡ Place g j → Twin G w v → Twin G (after_store w va x) (after_store v va x)
  twin_store w v r va x g j runs at t =
      rw (store_on w w.tree.words w.caches r va x g j runs at)
      (record {
        words = (with_word (record w.tree { words = t.words }) g j x).words;
        caches = places_after_access
            w.tree t.caches 0 r.name va Store Word;
        same = ap (λ u. after_store u va x) t.same ∙ store_on w t.words
            t.caches r va x g j runs at;
        agree = agree;
      })
    where
      agree : (h i : ℕ) → G h → i < 1024 → word_of ((with_word (record w.tree { words = t.words }) g j x).words h) i
          ≡ word_of ((with_word w.tree g j x).words h) i
      agree h i k l = elim (cases_eq h g) [
        | inl e ↦
            cc (eq-eqb h g e, t.agree g i (subst G e k) l, eq-eqb h g e)
        | inr e ↦
            cc (ne_eqb h g e, t.agree h i k l, ne_eqb h g e)
      ]

  -- both build a child
  twin_built : (n i : ℕ) (w v : World) (r : Occupant) → runs_on w 0 ≡ Some r → Twin G w v
      → Twin G (with_built w (runs_on w 0) (pool_of n i)) (with_built v (runs_on v 0) (pool_of n i))
  twin_built n i w v r runs t =
      rw runs (subst (λ y. Twin G (with_built w (Some r) (pool_of n i)) (with_built y (runs_on y 0) (pool_of n i)))
      (sym t.same) (subst (λ o. Twin G (with_built w (Some r) (pool_of n i))
      (with_built (with_words w t.words t.caches) o (pool_of n i))) (sym runs)
      (record {
        words = words_without gs t.words;
        caches = caches_before (with_words w t.words t.caches) 0 r.name
            (pool_of n i) child_wants 2;
        same = refl;
        agree = λ g i k l. go (has gs g) (t.words g) (w.tree.words g) i
            (t.agree g i k l);
      })))
    where
      gs : List ℕ
      gs = config (child_with w.tree r.name (pool_of n i) child_wants 2 2)

      go : (b : Bool) (x y : Option (ℕ → ℕ)) (i : ℕ) → word_of x i ≡ word_of y i
          → word_of (cond b None x) i ≡ word_of (cond b None y) i
      go true x y i e = refl
      go false x y i e = e

  module _ (F n : ℕ) (most : n ≤ 8) where
    twin_handlers : (m : ℕ) (w v : World) → m ≤ 256 → Stage F n 0 0 w → Twin G w v
        → Twin G (with_handlers w m) (with_handlers v m)
    twin_handlers zero w v l h t = t
    twin_handlers (suc m) w v l h t =
        let u = with_handlers w m in
        let hu = stage_handlers F n m w (omega arith) h in
        let o = open_top u.tree hu.sound.tree hu.room.top in
        let va = 0xfffff000 + 4 * m in
        twin_store u (with_handlers v m) hu.room.runner va 0xfffff400 o.row.frame (va % 4096 / 4) hu.room.runs
        (reaches F n 0 m u hu 0xfffff o va 0xfffff400 (omega arith) (omega arith) (omega arith) (omega arith))
        (twin_handlers m w v (omega arith) h t)

    twin_entry : (i : ℕ) (w v : World) → i < n → Stage F n i 256 w → Twin G w v
        → Twin G (with_entry w n i) (with_entry v n i)
    twin_entry i w v low h t =
        let page = 1024 + (n + 12 * i + 11) in
        let o = fresh_open F n i 256 11 w most low (omega arith) h in
        let a = fresh n i 11 + 0xfc in
        let one = twin_store w v h.room.runner a 0xfffff400 o.row.frame (a % 4096 / 4) h.room.runs
        (reaches F n i 256 w h page o a 0xfffff400 (omega arith) (omega arith) (omega arith) (omega
        arith)) t
        in
        let w1 = after_store w a 0xfffff400 in
        let h1 = first_stored F n i w most low h in
        let o1 = fresh_open F n i 256 11 w1 most low (omega arith) h1 in
        let b = fresh n i 11 + 0x400 in
        twin_store w1 (after_store v a 0xfffff400) h1.room.runner b 0x400000 o1.row.frame (b % 4096 / 4) h1.room.runs
        (reaches F n i 256 w1 h1 page o1 b 0x400000 (omega arith) (omega arith) (omega arith) (omega
        arith))
        one

    twin_children : (i : ℕ) (w v : World) → i ≤ n → Stage F n 0 256 w → Twin G w v
        → Twin G (with_children w n i) (with_children v n i)
    twin_children zero w v l h t = t
    twin_children (suc i) w v l h t =
        let low : i < n = omega arith in
        let w1 = with_children w n i in
        let h1 = stage_children F n i w most (omega arith) h in
        let one = twin_children i w v (omega arith) h t in
        let e = stage_entry F n i w1 most low h1 in
        twin_built n i (with_entry w1 n i) (with_entry (with_children v n i) n i) e.room.runner e.room.runs
        (twin_entry i w1 (with_children v n i) low h1 one)

    pub twin_ready : (w v : World) → Stage F n 0 0 w → Twin G w v → Twin G (ready_world w n) (ready_world v n)
    twin_ready w v h t =
        twin_children n (with_handlers w 256) (with_handlers v 256) (omega arith)
        (stage_handlers F n 256 w (omega arith) h) (twin_handlers 256 w v (omega arith) h t)

  -- in two such worlds a partition is the same whose pages are of G
  pub twin_guest : (p : ℕ) (w v : World) → ((g : ℕ) → In g (row_pages (node w.tree p)) → G g) → Twin G w v
      → IsSameGuest p w v
  twin_guest p w v inside t = rw t.same (record {
    below = record
        { nodes = λ x. ((λ h. h), (λ h. h)); words = λ g i j l. t.agree g i (inside g j) l };
    runs = λ i r h e. e;
    runs_back = λ i r h e. e;
  })
