-- What every call on memory keeps: one record of laws a call. A file for each fills it, and Table names them all.
use Rattle.std.proofs.Common.{◌≡◌, ℕ, ◌&&◌, false, List, refl, sym, ap, ◌∙◌, subst, arith, Option, Some, None}
use Rattle.std.specs.Prelude.{is_none, option_map}
use Rattle.pip_base.specs.declared.outcome.Status.{Status}
use Rattle.pip_base.specs.declared.outcome.Status.TheVariants as S
use Rattle.pip_model.specs.Answers.{Answer, Five, accept, answer_unless, child_name}
use Rattle.pip_model.specs.Cache.{IsUsable, Places}
use Rattle.pip_model.specs.declared.cached.Entry.{Entry}
use Rattle.pip_model.specs.GiveBack.{NamesChild}
use Rattle.pip_model.specs.Happens.{answer, is_accepted, takes_pages}
use Rattle.pip_model.specs.declared.call_name.MemoryCall.{MemoryCall}
use Rattle.pip_model.specs.declared.call_name.MemoryCall.TheVariants.{DeletePartition}
use Rattle.pip_model.specs.declared.call_name.CallName.TheVariants.{OnMemory}
use Rattle.pip_model.specs.Lists.{In}
use Rattle.pip_model.specs.Local.{SameRun}
use Rattle.pip_model.specs.Sound.{IsSound, IsWord}
use Rattle.pip_model.specs.Tree.{change_at, Node, Row, Tree, child_at, config, find_node, hidden, node, nodes, on_nodes}
use Rattle.pip_model.specs.Tree.{row_at, row_pages}
use Rattle.pip_model.specs.Worlds.{World, running}
use Rattle.pip_model.proofs.Trees.Ancestry.{node_on}
use Rattle.pip_model.proofs.Trees.ChangeNode.{change-else, change-keeps, with_child}
use Rattle.pip_model.proofs.Trees.Changes.{hidden_kept, names_kept}
use Rattle.pip_model.proofs.Trees.Free.{IsName, node_found}
use Rattle.pip_model.proofs.Trees.Lookup.{find_changed}
use Rattle.pip_model.proofs.Locality.Agree.{AgreeAnswers, Agreeing}
use Rattle.pip_model.proofs.Locality.Leaves.{LeavesTree, leaves_child, leaves_same}

-- what a cache may hold of t, it may hold of u
abbrev pub KeepsEntries : Tree → Tree → Type 0
KeepsEntries t u = (e : Entry) → IsUsable t e → IsUsable u e

-- what the answer b leaves as it was, where p makes the call k with a
pub record Keeps (k : MemoryCall) (w : World) (p : ℕ) (a : Five) (b : Answer) : Type 0 where
  -- what runs stays in the tree
  pub stays : (q : ℕ) → In q (running w) → IsName w.tree q → IsName b.tree q
  pub value : IsWord b.value
  -- a node that stays has its parent, and its rows unless the call was accepted to change them
  pub up : (q : ℕ) → IsName w.tree q → IsName b.tree q → (node b.tree q).up ≡ (node w.tree q).up
  pub rows : (q : ℕ) → IsName w.tree q → IsName b.tree q
      → ((b.status ≡ S.Ok) × NamesChild w.tree p (OnMemory k) a q → ⊥) → (node b.tree q).rows ≡ (node w.tree q).rows
  -- a page that is open before and after has its words
  pub words : IsWord a.x1 → (g : ℕ) → hidden w.tree g ≡ false → hidden b.tree g ≡ false
      → b.tree.words g ≡ w.tree.words g
  -- what caches hold is true, unless they are emptied
  pub entries : (is_accepted b.status && takes_pages k b.value) ≡ false → KeepsEntries w.tree b.tree
  -- whoever isn't below p has all that it had
  pub leaves : LeavesTree p w.tree b.tree

-- the laws of one call
pub record MemoryLaws (k : MemoryCall) : Type 0 where
  pub sound : (w : World) (p : ℕ) (a : Five) → IsSound w.tree → IsName w.tree p → IsWord a.x1
      → IsSound (answer k w p a).tree
  pub keeps : (w : World) (p : ℕ) (a : Five) → IsSound w.tree → IsName w.tree p → Keeps k w p a (answer k w p a)
  -- where trees agree below p it answers the same, and they agree again
  pub agrees : (w v : World) (p : ℕ) (a : Five) → Agreeing p w.tree v.tree → (k ≡ DeletePartition → SameRun p w v)
      → AgreeAnswers p (answer k w p a) (answer k v p a)
  -- it looks at no cache
  pub caches : (w : World) (cs : List Places) (p : ℕ) (a : Five)
      → answer k (record w { caches = cs }) p a ≡ answer k w p a

-- an answer that leaves the tree
pub same_tree : {k : MemoryCall} {w : World} {p : ℕ} {a : Five} (s : Status) (v : ℕ) → IsWord v
    → Keeps k w p a (record { status = s; value = v; tree = w.tree })
same_tree {w = w} {p = p} s v small = record {
  stays = λ q r i. i;
  value = small;
  up = λ q i j. refl;
  rows = λ q i j h. refl;
  words = λ l g h i. refl;
  entries = λ h e u. u;
  leaves = leaves_same p w.tree;
}

-- so all is shown of an answer where no condition is met
pub unless : {k : MemoryCall} {w : World} {p : ℕ} {a : Five} {o : Option Status} {b : Answer}
    → (o ≡ None → Keeps k w p a b) → Keeps k w p a (answer_unless w.tree o b)
unless {o = None} h = h refl
unless {o = Some s} h = same_tree s 0 (omega arith)

-- what is asked of a call that is accepted with the value v, and changes a child of p by f, and words
pub record ChildChange (k : MemoryCall) (w : World) (p : ℕ) (a : Five) (d v : ℕ) (f : Node → Node)
    (words : ℕ → Option (ℕ → ℕ)) : Type 0 where
  pub there : is_none (child_at w.tree p d) ≡ false
  pub name : (x : Node) → (f x).name ≡ x.name
  pub up : (x : Node) → (f x).up ≡ x.up
  pub value : IsWord v
  pub rows : (q : ℕ) → IsName w.tree q → (NamesChild w.tree p (OnMemory k) a q → ⊥)
      → (change_at (child_name w.tree p d) f (node w.tree q)).rows ≡ (node w.tree q).rows
  -- words of pages that p doesn't have, and of pages that are open before and after
  pub other_words : (g : ℕ) → (In g (row_pages (node w.tree p)) → ⊥) → words g ≡ w.tree.words g
  pub open_words : IsWord a.x1 → (g : ℕ) → hidden w.tree g ≡ false
      → hidden (with_child w.tree p d f words) g ≡ false → words g ≡ w.tree.words g
  pub entries : takes_pages k v ≡ false → KeepsEntries w.tree (with_child w.tree p d f words)

pub changed_child : {k : MemoryCall} {w : World} {p : ℕ} {a : Five} → IsSound w.tree → IsName w.tree p
    → (d v : ℕ) (f : Node → Node) (words : ℕ → Option (ℕ → ℕ)) → ChildChange k w p a d v f words
    → Keeps k w p a (accept v (with_child w.tree p d f words))
changed_child {w = w} {p = p} s n d v f words c =
    let g : Node → Node = change_at (child_name w.tree p d) f in
    let names = change-keeps (child_name w.tree p d) f (λ z. z.name) c.name in
    let ups = change-keeps (child_name w.tree p d) f (λ z. z.up) c.up in
    record {
      stays = λ q r i. subst (In q) (sym (names_kept g w.tree names ups (nodes w.tree))) i;
      value = c.value;
      up = λ q i j. rw (node_on g names w.tree q, ups (node w.tree q));
      rows = λ q i j h. rw (node_on g names w.tree q, c.rows q i (λ z. h (refl, z)));
      words = c.open_words;
      entries = c.entries;
      leaves = leaves_child w.tree p s n f c.name c.up d c.there words c.other_words;
    }

-- a node of another name keeps its rows
pub other_rows : (t : Tree) (c q : ℕ) (f : Node → Node) → IsName t q → (c ≡ q → ⊥)
    → (change_at c f (node t q)).rows ≡ (node t q).rows
other_rows t c q f i h = rw (change-else c f (node t q) (λ e. h (sym e ∙ (node_found t q i).1)))

-- a change of nodes that leaves names and configurations, and rows where they are found
pub entries_on : (f : Node → Node) (t : Tree) → ((x : Node) → (f x).name ≡ x.name)
    → ((x : Node) → config (f x) ≡ config x)
    → ((a : ℕ) (x : Node) (v : ℕ) (r : Row) → find_node t a ≡ Some x → row_at x.rows v ≡ Some r
    → row_at (f x).rows v ≡ Some r)
    → KeepsEntries t (on_nodes f t)
entries_on f t names configs rows e u = record {
  node = f u.node;
  found = rw (find_changed f t names e.part, u.found);
  row = u.row;
  at = rows e.part u.node e.vpage u.row u.found u.at;
  page = u.page;
  rights = u.rights;
  seen = hidden_kept f t configs e.page ∙ u.seen;
}
