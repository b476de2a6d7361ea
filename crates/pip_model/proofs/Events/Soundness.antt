-- Every event keeps a sound world sound.
use Rattle.std.proofs.Common.{◌≡◌, ℕ, zero, suc, ◌+◌, ◌*◌, ◌≤◌, ◌<◌, ◌-◌, ◌^◌, ◌%◌, ◌/◌, ◌==◌, ◌⊎◌, ◌&&◌, inl, inr}
use Rattle.std.proofs.Common.{Bool, true, false, not, cond, List, [], ◌∷◌, map, length, refl, sym, ap, ap₂, ◌∙◌, subst}
use Rattle.std.proofs.Common.{arith, eqb-true, Option, Some, None}
use Rattle.std.specs.Prelude.{is_some, is_none, slice_get, slice_set, filter_map, unwrap_or, option_map, find, filter}
use Rattle.std.specs.Prelude.{bit_and, nat_le, nat_lt, slice_index}
use Rattle.pip_base.specs.Status.{status_number}
use Rattle.pip_model.specs.Answers.{Answer, Five, accept, first_met, list_of, refuse}
use Rattle.pip_model.specs.Deliver.{deliver, deliver_to, nearest_above, nearest_among, nearest_taker, saved_on}
use Rattle.pip_model.specs.Deliver.{taker_or}
use Rattle.pip_model.specs.declared.processors.Taker.{Taker}
use Rattle.pip_model.specs.Events.{Event, IsEvent, below_of}
use Rattle.pip_model.specs.Handlers.{block, block_at, context_in, context_reached, context_word, handler, handler_at}
use Rattle.pip_model.specs.Handlers.{is_reached, save_place, saved_to, words_from, written_block}
use Rattle.pip_model.specs.Happens.{access_number, what_happens, after, answer, caches_after, call, call_named, event}
use Rattle.pip_model.specs.Happens.{fault_number, fault_vector, load_happens, on_running, with_word, written_over}
use Rattle.pip_model.specs.Happens.{wrote, moments}
use Rattle.pip_model.specs.declared.call_name.CallName.{CallName}
use Rattle.pip_model.specs.declared.call_name.CallName.TheVariants.{Masks, OnMemory, Unknown, Yields}
use Rattle.pip_model.specs.Lists.{Distinct, In, has}
use Rattle.pip_model.specs.Poll.{lowest_line, may_take, poll, poll_line, none_taken, lines_with, runs_elsewhere}
use Rattle.pip_model.specs.Poll.{take_line}
use Rattle.pip_model.specs.Reach.{Alignment, Fault, Faulted, Hidden, Place, Reached, Right, Unmapped, is_misaligned}
use Rattle.pip_model.specs.Reach.{reach, right, reach_by_row, word_reached}
use Rattle.pip_model.specs.Boot.{zero_words}
use Rattle.pip_model.specs.Sound.{AreLines, ArePageWords, IsContext, IsSound, IsWord}
use Rattle.pip_model.specs.Switching.{node_name, parent_of, reply_happens, reply_unless, with_reply, with_zeros}
use Rattle.pip_model.specs.Switching.{yield_place, yield_refusals, yield_to, yield_happens}
use Rattle.pip_model.specs.Tree.{Node, Row, Tree, chain, child_at, config, hidden, names_of, node, nodes, on_nodes}
use Rattle.pip_model.specs.Tree.{row_at, row_pages, vpage, word_of}
use Rattle.pip_model.specs.Cache.{Places}
use Rattle.pip_model.specs.Worlds.{Happened, IsSoundWorld, World, boot_cpus, boot_world, boot_world_with, done}
use Rattle.pip_model.specs.Worlds.{first_ctx, idle_cpus, lines_in, masked_node, with_running, running, runs_on}
use Rattle.pip_model.specs.Worlds.{save_running, handler_context, with_four, with_masked, with_pending}
use Rattle.pip_model.specs.declared.processors.Occupant.{Occupant}
use Rattle.pip_model.specs.Events as E
use Rattle.pip_base.specs.declared.types.Access.{Access}
use Rattle.pip_base.specs.declared.types.Access.TheVariants.{Load, Store, Fetch}
use Rattle.pip_base.specs.declared.types.Size.TheVariants.{Byte, Word}
use Rattle.std.specs.List.{AllByRecursion}
use Rattle.pip_model.proofs.Trees.Boot.{boot-sound_with, zeros_small}
use Rattle.pip_base.specs.declared.types.Ctx.{Ctx}
use Rattle.pip_base.specs.declared.types.Size.{Size}
use Rattle.pip_model.proofs.Trees.Control.{words-sound, masked-sound, pending-sound}
use Rattle.std.proofs.Math.ListN.{length-set}
use Rattle.std.proofs.lemmas.Bool.{and_parts, cases_Bool, eqb-false, leb-true, ltb-true, ltb-false}
use Rattle.pip_base.specs.declared.outcome.Status.{Status}
use Rattle.pip_base.specs.declared.outcome.Status.TheVariants as S
use Rattle.pip_model.proofs.Trees.Ancestors.{name_in, root_is_top, holds_up}
use Rattle.pip_model.proofs.Trees.Ancestry.{chain_members}
use Rattle.pip_model.proofs.Trees.Free.{passed}
use Rattle.pip_model.proofs.Trees.Changes.{names_kept}
use Rattle.pip_model.proofs.Calls.Table.{laws_of}
use Rattle.pip_model.proofs.Calls.Add.{child_found}
use Rattle.pip_model.proofs.Trees.Numbers.{born_small, reached_index, reached_small}
use Rattle.pip_model.proofs.OnLists.Members.{has_in, in_has, In-append_right, In-map, find_in}

abbrev pub names_at : List (Option Occupant) → List ℕ
names_at cs = map (λ r. r.name) (filter_map (λ o. o) cs)

-- what runs on a processor of a list
abbrev pub at_cpu : List (Option Occupant) → ℕ → Option Occupant
at_cpu cs i = unwrap_or (slice_get cs i) None

in_rest : (q : ℕ) (c : Option Occupant) (cs : List (Option Occupant)) → In q (names_at cs) → In q (names_at (c ∷ cs))
in_rest q None cs i = i
in_rest q (Some r) cs i = inr i

set_from : (q : ℕ) (o : Option Occupant) (cs : List (Option Occupant)) (i : ℕ) → In q (names_at (slice_set cs i o))
    → In q (names_at cs) ⊎ In q (names_at (o ∷ []))
set_from q o [] i h = inl h
set_from q None (c ∷ cs) zero h = inl (in_rest q c cs h)
set_from q (Some r) (c ∷ cs) zero (inl e) = inr (inl e)
set_from q (Some r) (c ∷ cs) zero (inr j) = inl (in_rest q c cs j)
set_from q o (None ∷ cs) (suc i) h = set_from q o cs i h
set_from q o (Some r ∷ cs) (suc i) (inl e) = inl (inl e)
set_from q o (Some r ∷ cs) (suc i) (inr j) = elim (set_from q o cs i j) [ inl k ↦ inl (inr k) | inr k ↦ inr k ]

at_named : (r : Occupant) (cs : List (Option Occupant)) (i : ℕ) → at_cpu cs i ≡ Some r → In r.name (names_at cs)
at_named r [] i e = cc
at_named r (Some c ∷ cs) zero e = let k : c ≡ r = cc in inl (rw (← k))
at_named r (None ∷ cs) zero e = cc
at_named r (c ∷ cs) (suc i) e = in_rest r.name c cs (at_named r cs i e)

-- what runs, runs on another processor or on this one
here_or_else : (q : ℕ) (cs : List (Option Occupant)) (i : ℕ) → In q (names_at cs)
    → In q (names_at (slice_set cs i None)) ⊎ ((r : Occupant) × (at_cpu cs i ≡ Some r) × (q ≡ r.name))
here_or_else q [] i h = absurd h
here_or_else q (None ∷ cs) zero h = inl h
here_or_else q (Some c ∷ cs) zero (inl e) = inr (c, refl, e)
here_or_else q (Some c ∷ cs) zero (inr j) = inl j
here_or_else q (None ∷ cs) (suc i) h = here_or_else q cs i h
here_or_else q (Some c ∷ cs) (suc i) (inl e) = inl (inl e)
here_or_else q (Some c ∷ cs) (suc i) (inr j) = elim (here_or_else q cs i j) [ inl k ↦ inl (inr k) | inr k ↦ inr k ]

-- r may come to processor i: it runs there, or nowhere
abbrev MayRun : List (Option Occupant) → ℕ → Occupant → Type 0
MayRun cs i r = (In r.name (names_at cs) → ⊥) ⊎ ((old : Occupant) × (at_cpu cs i ≡ Some old) × (old.name ≡ r.name))

set_none : (cs : List (Option Occupant)) (i : ℕ) → Distinct (names_at cs) → Distinct (names_at (slice_set cs i None))
set_none [] i d = d
set_none (None ∷ cs) zero d = d
set_none (Some r ∷ cs) zero d = d.1
set_none (None ∷ cs) (suc i) d = set_none cs i d
set_none (Some r ∷ cs) (suc i) d =
    ((λ j. elim (set_from r.name None cs i j) [ inl k ↦ d.0 k | inr k ↦ absurd k ]), set_none cs i d.1)

set_some : (r : Occupant) (cs : List (Option Occupant)) (i : ℕ) → Distinct (names_at cs) → MayRun cs i r
    → Distinct (names_at (slice_set cs i (Some r)))
set_some r [] i d m = d
set_some r (None ∷ cs) zero d (inl n) = (n, d)
set_some r (None ∷ cs) zero d (inr m) = let e = m.1 in cc
set_some r (Some c ∷ cs) zero d (inl n) = ((λ j. n (inr j)), d.1)
set_some r (Some c ∷ cs) zero d (inr m) = let e = m.1 in let k : c ≡ m.0 = cc in
    ((λ j. d.0 (rw (k, m.2) j)), d.1)
set_some r (None ∷ cs) (suc i) d m = set_some r cs i d m
set_some r (Some c ∷ cs) (suc i) d (inl n) = (
  (λ j. elim (set_from c.name (Some r) cs i j)
      [ inl k ↦ d.0 k | inr k ↦ elim k [ inl e ↦ n (inl (sym e)) | inr l ↦ absurd l ] ]),
  set_some r cs i d.1 (inl (λ j. n (inr j))),
)
set_some r (Some c ∷ cs) (suc i) d (inr m) = (
  (λ j. elim (set_from c.name (Some r) cs i j) [
    | inl k ↦ d.0 k
    | inr k ↦ elim k
        [ inl e ↦ d.0 (rw (e, ← m.2) (at_named m.0 cs i m.1)) | inr l ↦ absurd l ]
  ]),
  set_some r cs i d.1 (inr m),
)

-- what runs after a processor was set ran before, or was set
at_set : (o : Option Occupant) (cs : List (Option Occupant)) (i j : ℕ) (r : Occupant)
    → at_cpu (slice_set cs i o) j ≡ Some r → (at_cpu cs j ≡ Some r) ⊎ (o ≡ Some r)
at_set o [] i j r e = inl e
at_set o (c ∷ cs) zero zero r e = inr e
at_set o (c ∷ cs) zero (suc j) r e = inl e
at_set o (c ∷ cs) (suc i) zero r e = inl e
at_set o (c ∷ cs) (suc i) (suc j) r e = at_set o cs i j r e

-- the parts of a sound world, when its tree or one processor changes
pub tree_changed : (w : World) (t : Tree) → IsSoundWorld w → IsSound t
    → ((p : ℕ) → In p (running w) → In p (names_of (nodes t))) → IsSoundWorld (record w { tree = t })
tree_changed w t s h n = record {
  tree = h;
  at_least_one = s.at_least_one;
  at_most_four = s.at_most_four;
  one_processor_each = s.one_processor_each;
  names_nodes = n;
  contexts = s.contexts;
}

pub cpu_idle : (w : World) (i : ℕ) → IsSoundWorld w → IsSoundWorld (with_running w i None)
cpu_idle w i s = let l = length-set w.cpus i None in let a = s.at_least_one in let b = s.at_most_four in record {
  tree = s.tree;
  at_least_one = omega arith;
  at_most_four = omega arith;
  one_processor_each = set_none w.cpus i s.one_processor_each;
  names_nodes = λ p h. elim (set_from p None w.cpus i h) [ inl k ↦ s.names_nodes p k | inr k ↦ absurd k ];
  contexts = λ j r e. elim (at_set None w.cpus i j r e) [ inl k ↦ s.contexts j r k | inr k ↦ cc ];
}

pub cpu_runs : (w : World) (i : ℕ) (r : Occupant) → IsSoundWorld w → In r.name (names_of (nodes w.tree))
    → MayRun w.cpus i r → IsContext r.ctx → IsSoundWorld (with_running w i (Some r))
cpu_runs w i r s n m x = let l = length-set w.cpus i (Some r) in let a = s.at_least_one in let b = s.at_most_four in
    record {
      tree = s.tree;
      at_least_one = omega arith;
      at_most_four = omega arith;
      one_processor_each = set_some r w.cpus i s.one_processor_each m;
      names_nodes = λ p h. elim (set_from p (Some r) w.cpus i h) [
        | inl k ↦ s.names_nodes p k
        | inr k ↦
            elim k [ inl e ↦ subst (λ q. In q (names_of (nodes w.tree))) (sym e) n | inr j ↦ absurd j ]
      ];
      contexts = λ j q e. elim (at_set (Some r) w.cpus i j q e) [
        | inl k ↦ s.contexts j q k
        | inr k ↦ let z : r ≡ q = cc in
            rw (← z) x
      ];
    }

-- the partitions that stay: whoever ran is still there
abbrev Stays : Tree → Tree → List ℕ → Type 0
Stays t u rs = (p : ℕ) → In p rs → In p (names_of (nodes t)) → In p (names_of (nodes u))

stays_on : (f : Node → Node) (t : Tree) (rs : List ℕ) → ((x : Node) → (f x).name ≡ x.name)
    → ((x : Node) → (f x).up ≡ x.up) → Stays t (on_nodes f t) rs
stays_on f t rs names ups p i j = subst (In p) (sym (names_kept f t names ups (nodes t))) j

-- an answer that keeps a world sound
record IsSoundAnswer (t : Tree) (rs : List ℕ) (a : Answer) : Type 0 where
  sound : IsSound a.tree
  stays : Stays t a.tree rs
  value : IsWord a.value

-- what runs on a processor is in the tree
pub runs_named : (w : World) (cpu : ℕ) (r : Occupant) → IsSoundWorld w → runs_on w cpu ≡ Some r → In r.name (running w)
runs_named w cpu r s e = at_named r w.cpus cpu e

status_small : (s : Status) → IsWord (status_number s)
status_small S.Ok = omega arith
status_small S.UnknownCall = omega arith
status_small S.NotAligned = omega arith
status_small S.NullPage = omega arith
status_small S.Repeated = omega arith
status_small S.NotChild = omega arith
status_small S.NotMapped = omega arith
status_small S.NotFree = omega arith
status_small S.NoRight = omega arith
status_small S.NoTable = omega arith
status_small S.Taken = omega arith
status_small S.Absent = omega arith
status_small S.LentOn = omega arith
status_small S.NotEmpty = omega arith
status_small S.Running = omega arith
status_small S.BadVector = omega arith
status_small S.NoHandler = omega arith
status_small S.NoContext = omega arith
status_small S.BadSave = omega arith

reply_context : (c : Ctx) (s v : ℕ) → IsContext c → IsWord s → IsWord v
    → IsContext (record c { regs = with_reply s v c.regs })
reply_context c s v h a b = record { pc = h.pc; count = length_reply c.regs ∙ h.count; regs = words c.regs h.regs }
  where
    length_reply : (rs : List ℕ) → length (with_reply s v rs) ≡ length rs
    length_reply [] = refl
    length_reply (r ∷ []) = refl
    length_reply (r ∷ q ∷ rs) = refl

    words : (rs : List ℕ) → AllByRecursion IsWord rs → AllByRecursion IsWord (with_reply s v rs)
    words [] k = k
    words (r ∷ []) k = k
    words (r ∷ q ∷ rs) k = (a, (b, k.1.1))

replied-sound : (w : World) (cpu : ℕ) (r : Occupant) (a : Answer) → IsSoundWorld w → runs_on w cpu ≡ Some r
    → IsSoundAnswer w.tree (running w) a → IsSoundWorld (reply_happens w cpu r a).world
replied-sound w cpu r a s e k =
    let n = runs_named w cpu r s e in
    let t = tree_changed w a.tree s k.sound (λ p i. k.stays p i (s.names_nodes p i)) in
    cpu_runs (record w { tree = a.tree }) cpu _ t (t.names_nodes r.name n) (inr (r, e, refl)) (reply_context r.ctx
    (status_number a.status) a.value (s.contexts cpu r e) (status_small a.status) k.value)

-- the words of a block are a context
words_long : (n : ℕ) (w : ℕ → ℕ) (i : ℕ) → length (words_from n w i) ≡ n
words_long zero w i = refl
words_long (suc n) w i = rw (words_long n w (i + 1))

words_small : (n : ℕ) (w : ℕ → ℕ) (i : ℕ) → ((j : ℕ) → j < i + n → IsWord (w j))
    → AllByRecursion IsWord (words_from n w i)
words_small zero w i h = tt
words_small (suc n) w i h = (h i (omega arith), words_small n w (i + 1) (λ j l. h j (omega arith)))

context_small : (w : ℕ → ℕ) (i : ℕ) → ((j : ℕ) → j < i + 17 → IsWord (w j)) → IsContext (context_in w i)
context_small w i h = record {
  pc = h i (omega arith);
  count = words_long 16 w (i + 1);
  regs = words_small 16 w (i + 1) (λ j l. h j (omega arith));
}

-- the address of a block leaves room for 17 words in its page
pub block_room : (t : Tree) (p k a : ℕ) → block t p k ≡ Some a → a % 4096 ≤ 4028
block_room t p k a e = go (word_reached t (reach t p (4294963200 + 4 * k) Load Word)) e
  where
    go : (o : Option ℕ) → block_at t p o ≡ Some a → a % 4096 ≤ 4028
    go None q = cc
    go (Some b) q = at ((b % 4 == 0 && nat_le (b % 4096) 4028) && is_reached (reach t p b Load Word)) refl q
      where
        at : (c : Bool) → ((b % 4 == 0 && nat_le (b % 4096) 4028) && is_reached (reach t p b Load Word)) ≡ c
            → cond c (Some b) None ≡ Some a → a % 4096 ≤ 4028
        at true h z =
            let u : b ≡ a = cc in
            let l = leb-true (b % 4096) 4028 (and_parts (b % 4 == 0) (nat_le (b % 4096) 4028)
            (and_parts (b % 4 == 0 && nat_le (b % 4096) 4028) (is_reached (reach t p b Load Word)) h).0).1 in
            rw (← u) l
        at false h z = cc

pub handler_small : (t : Tree) (p k : ℕ) (c : Ctx) → IsSound t → handler t p k ≡ Some c → IsContext c
handler_small t p k c s e = go (block t p k) refl e
  where
    of : (a : ℕ) (q : Reached) → a % 4096 ≤ 4028 → reach t p a Load Word ≡ q → context_reached t q ≡ Some c
        → IsContext c
    of a (Faulted f) l h z = cc
    of a (Place g i) l h z =
        let u : context_in (word_of (t.words g)) i ≡ c = cc in
        let x = reached_index t p a g i Load Word h in
        rw (← u) (context_small (word_of (t.words g)) i (λ j m. s.numbers g j (omega (arith, l, m, x))))

    go : (o : Option ℕ) → block t p k ≡ o → handler_at t p o ≡ Some c → IsContext c
    go None h z = cc
    go (Some a) h z = of a (reach t p a Load Word) (block_room t p k a h) refl z

told_small : (c : Ctx) (k a b born : ℕ) → IsContext c → IsWord k → IsWord a → IsWord b → IsWord born
    → IsContext (handler_context c k a b born)
told_small c k a b born x hk ha hb h3 = record { pc = x.pc; count = long c.regs ∙ x.count; regs = words c.regs x.regs }
  where
    long : (rs : List ℕ) → length (with_four k a b born rs) ≡ length rs
    long [] = refl
    long (r0 ∷ []) = refl
    long (r0 ∷ r1 ∷ []) = refl
    long (r0 ∷ r1 ∷ r2 ∷ []) = refl
    long (r0 ∷ r1 ∷ r2 ∷ r3 ∷ rs) = refl

    words : (rs : List ℕ) → AllByRecursion IsWord rs → AllByRecursion IsWord (with_four k a b born rs)
    words [] h = h
    words (r0 ∷ []) h = h
    words (r0 ∷ r1 ∷ []) h = h
    words (r0 ∷ r1 ∷ r2 ∷ []) h = h
    words (r0 ∷ r1 ∷ r2 ∷ r3 ∷ rs) h = (hk, (ha, (hb, (h3, h.1.1.1.1))))

-- a save keeps a tree sound
index_small : (rs : List ℕ) (n : ℕ) → AllByRecursion IsWord rs → IsWord (slice_index rs n)
index_small [] n h = omega arith
index_small (r ∷ rs) zero h = h.0
index_small (r ∷ rs) (suc n) h = index_small rs n h.1

pub saved-sound : (t : Tree) (c : Ctx) (q : Reached) → IsContext c → IsSound t → IsSound (saved_to t c q)
saved-sound t c q x s =
    words-sound t (saved_to t c q).words s (λ g. same g (t.words g)) (λ g j l. small g j (t.words g) (s.numbers g j l))
  where
    same : (g : ℕ) (o : Option (ℕ → ℕ)) → is_some (option_map (λ old. written_block c g q old) o) ≡ is_some o
    same g None = refl
    same g (Some w) = refl

    word : (n : ℕ) → IsWord (context_word c n)
    word zero = x.pc
    word (suc n) = index_small c.regs n x.regs

    written : (g j : ℕ) (q : Reached) (w : ℕ → ℕ) → IsWord (w j) → IsWord (written_block c g q w j)
    written g j (Faulted f) w h = h
    written g j (Place f i) w h = at (f == g && (nat_le i j && nat_lt j (i + 17)))
      where
        at : (b : Bool) → IsWord (cond b (context_word c (j - i)) (w j))
        at true = word (j - i)
        at false = h

    small : (g j : ℕ) (o : Option (ℕ → ℕ)) → IsWord (word_of o j)
        → IsWord (word_of (option_map (λ old. written_block c g q old) o) j)
    small g j None h = h
    small g j (Some w) h = written g j q w h

save-sound : (w : World) (r : Occupant) → IsContext r.ctx → IsSoundWorld w → IsSoundWorld (saved_on w r)
save-sound w r x s =
    tree_changed w (saved_on w r).tree s (saved-sound w.tree r.ctx (save_place w.tree r.name 63) x s.tree) s.names_nodes

-- the way up leads to a node that does not run
record IsTaker (w : World) (y : Taker) : Type 0 where
  there : In y.to (names_of (nodes w.tree))
  still : In y.to (running w) → ⊥
  handler : IsContext y.handler
  born : IsWord y.born

nearest_among_is : (w : World) (k born : ℕ) (qs : List Node) (y : Taker) → IsSound w.tree → IsWord born
    → ((q : Node) → In q qs → In q (nodes w.tree)) → nearest_among w k born qs ≡ Some y → IsTaker w y
nearest_among_is w k born [] y s b n e = cc
nearest_among_is w k born (q ∷ qs) y s b n e = go (has (running w) q.name) (handler w.tree q.name k) refl refl e
    (nearest_among_is w k q.born qs y s (born_small w.tree s q (n q (inl refl))) (λ x i. n x (inr i)))
  where
    go : (b : Bool) (h : Option Ctx) → has (running w) q.name ≡ b → handler w.tree q.name k ≡ h → taker_or b h q born
        (nearest_among w k q.born qs) ≡ Some y → (nearest_among w k q.born qs ≡ Some y → IsTaker w y) → IsTaker w y
    go true h d l f ih = ih f
    go false None d l f ih = ih f
    go false (Some h) d l f ih =
        let z : q.name ≡ y.to = cc in
        let v : h ≡ y.handler = cc in
        let u : born ≡ y.born = cc in
        record {
          there = subst (λ v. In v (names_of (nodes w.tree))) z (name_in q (nodes w.tree) (n q (inl refl)));
          still = λ i. let m = in_has y.to (running w) i in
              let m' : has (running w) q.name ≡ true = rw z m in
              absurd (grind (arith, d, m'));
          handler = rw (← v) (handler_small w.tree q.name k h s l);
          born = rw (← u) b;
        }

nearest_taker_is : (w : World) (p k : ℕ) (y : Taker) → IsSound w.tree → nearest_taker w p k ≡ Some y → IsTaker w y
nearest_taker_is w p k y s e = go (chain w.tree p) (chain_members w.tree.root w.tree.others p) e
  where
    go : (qs : List Node) → ((z : Node) → In z qs → In z (nodes w.tree)) → nearest_above w k qs ≡ Some y → IsTaker w y
    go [] n f = cc
    go (q ∷ qs) n f = nearest_among_is w k q.born qs y s (born_small w.tree s q (n q (inl refl))) (λ z i. n z (inr i)) f

deliver-sound : (w : World) (cpu : ℕ) (r : Occupant) (k a b : ℕ) → IsWord k → IsWord a → IsWord b → IsContext r.ctx
    → IsSoundWorld w → IsSoundWorld (deliver w cpu r k a b).world
deliver-sound w cpu r k a b hk ha hb x s = go (nearest_taker w r.name k) refl
  where
    go : (o : Option Taker) → nearest_taker w r.name k ≡ o → IsSoundWorld (deliver_to w cpu r k a b o).world
    go None e = cpu_idle (saved_on w r) cpu (save-sound w r x s)
    go (Some y) e = let h = nearest_taker_is w r.name k y s.tree e in cpu_runs (saved_on w r) cpu _ (save-sound w r x s)
        h.there (inl h.still) (told_small y.handler k a b y.born h.handler hk ha hb h.born)

-- every name that `node` finds is in the tree
node_in_from : (t : Tree) (p : ℕ) (o : Option Node) → find (λ x. x.name == p) (nodes t) ≡ o
    → In (unwrap_or o t.root) (nodes t)
node_in_from t p None e = inl refl
node_in_from t p (Some x) e = (find_in (λ x. x.name == p) x (nodes t) e).0

pub node_in : (t : Tree) (p : ℕ) → In (node t p) (nodes t)
node_in t p = node_in_from t p (find (λ x. x.name == p) (nodes t)) refl

-- a page that is reached has words
pub reached_words : (t : Tree) (p va g i : ℕ) (a : Access) (z : Size) → IsSound t → In p (names_of (nodes t))
    → reach t p va a z ≡ Place g i → is_some (t.words g) ≡ true
reached_words t p va g i a z s n e = off (is_misaligned va z) (row_at (node t p).rows (vpage va)) refl e
  where
    row_root : (r : Row) → In r (node t p).rows → has (row_pages t.root) r.frame ≡ true
    row_root r i =
        let x = node t p in
        let h = In-append_right r.frame (config x) (row_pages x) (In-map (λ r. r.frame) r x.rows i) in
        in_has r.frame (row_pages t.root) (elim (root_is_top t s x (node_in t p)) [
          | inl q ↦ rw q (In-map (λ r. r.frame) r x.rows i)
          | inr u ↦ holds_up t r.frame s t.root x u h
        ])

    at : (r : Row) (h f : Bool) → In r (node t p).rows → hidden t r.frame ≡ h → cond h (Faulted Hidden)
        (cond f (Faulted Right) (Place r.frame (va % 4096 / 4))) ≡ Place g i → is_some (t.words g) ≡ true
    at r true f j k q = cc
    at r false true j k q = cc
    at r false false j k q =
        let u : r.frame ≡ g = cc in
        rw (← u) (s.words r.frame ∙ ap₂ (λ a b. a && not b) (row_root r j) k)

    off : (b : Bool) (o : Option Row) → row_at (node t p).rows (vpage va) ≡ o
        → cond b (Faulted Alignment) (reach_by_row t va a o) ≡ Place g i → is_some (t.words g) ≡ true
    off true o k q = cc
    off false None k q = cc
    off false (Some r) k q = at r (hidden t r.frame) (not (bit_and (right a) r.rights == right a))
        (find_in (λ r. r.at == vpage va) r (node t p).rows k).0 refl q

pub store-sound : (t : Tree) (g i x : ℕ) → IsWord x → IsSound t → is_some (t.words g) ≡ true
    → IsSound (with_word t g i x)
store-sound t g i x small s e = words-sound t (with_word t g i x).words s (λ h. at h (h == g) refl)
    (λ h j l. word h j (h == g) (j == i) (s.numbers h j l) (s.numbers g j l))
  where
    word : (h j : ℕ) (b c : Bool) → IsWord (word_of (t.words h) j) → IsWord (word_of (t.words g) j)
        → IsWord (word_of (cond b (Some (λ j. cond (j == i) x (word_of (t.words g) j))) (t.words h)) j)
    word h j true c k l = one (j == i)
      where
        one : (b : Bool) → IsWord (cond b x (word_of (t.words g) j))
        one true = small
        one false = l
    word h j false c k l = k

    at : (h : ℕ) (b : Bool) → (h == g) ≡ b
        → is_some (cond b (Some (λ j. cond (j == i) x (word_of (t.words g) j))) (t.words h)) ≡ is_some (t.words h)
    at h true q = sym (rw (eqb-true h g q) e)
    at h false q = refl

reply_unless-sound : (w : World) (cpu : ℕ) (r : Occupant) (o : Option Status) (h : Happened) → IsSoundWorld w
    → runs_on w cpu ≡ Some r → (o ≡ None → IsSoundWorld h.world) → IsSoundWorld (reply_unless w cpu r o h).world
reply_unless-sound w cpu r None h s e f = f refl
reply_unless-sound w cpu r (Some q) h s e f = replied-sound w cpu r (record { status = q; value = 0; tree = w.tree }) s
    e (record { sound = s.tree; stays = λ p i j. j; value = omega arith })

yielded-sound : (w : World) (cpu : ℕ) (r : Occupant) (a : Five) (q : ℕ) (o : Option Ctx) → IsContext r.ctx
    → ((c : Ctx) → o ≡ Some c → IsContext c) → IsSoundWorld w → In q (names_of (nodes w.tree))
    → MayRun w.cpus cpu (record { name = q; ctx = r.ctx }) → IsSoundWorld (yield_happens w cpu r a q o).world
yielded-sound w cpu r a q None x h s n m = s
yielded-sound w cpu r a q (Some c) x h s n m =
    let root = w.tree.root.name in
    let b = cond (r.name == root) false w.tree.root.masked in
    let t = saved_to w.tree (with_zeros r.ctx) (yield_place w.tree r.name a.x2) in
    let st : Stays t (with_masked root b t) (q ∷ running w) =
    stays_on (masked_node root b) t (q ∷ running w) (λ x. refl) (λ x. refl) in
    cpu_runs (record w { tree = with_masked root b t }) cpu _ (tree_changed w (with_masked root b t) s
    (masked-sound root b t (saved-sound w.tree (with_zeros r.ctx) (yield_place w.tree r.name a.x2)
    (reply_context r.ctx 0 0 x (omega arith) (omega arith)) s.tree)) (λ p i. st p (inr i) (s.names_nodes p i)))
    (st q (inl refl) n) m (h c refl)

-- a target that was found is in the tree
abbrev IsTarget : Tree → Option Node → Type 0
IsTarget t o = (x : Node) → o ≡ Some x → In x.name (names_of (nodes t))

some_node : (t : Tree) (y : Node) → In y (nodes t) → IsTarget t (Some y)
some_node t y i x e = let k : y ≡ x = cc in subst (λ z. In z.name (names_of (nodes t))) k (name_in y (nodes t) i)

parent_is : (t : Tree) (p : ℕ) (b : Bool) → IsTarget t (cond b None (Some (node t (node t p).up)))
parent_is t p true = λ x e. cc
parent_is t p false = some_node t (node t (node t p).up) (node_in t (node t p).up)

target_is : (t : Tree) (p d : ℕ) (b c : Bool)
    → IsTarget t (cond b (parent_of t p) (cond c (Some (node t p)) (child_at t p d)))
target_is t p d true c = parent_is t p (p == t.root.name)
target_is t p d false true = some_node t (node t p) (node_in t p)
target_is t p d false false = λ x e. inr (name_in x t.others (child_found t p d x e).0)

-- one that was found, since the refusal for none was not met
name_of_target : (t : Tree) (o : Option Node) → IsTarget t o → is_none o ≡ false → In (node_name o) (names_of (nodes t))
name_of_target t None h e = cc
name_of_target t (Some x) h e = h x refl

yield-sound : (w : World) (cpu : ℕ) (r : Occupant) (a : Five) (o : Option Node) → IsSoundWorld w
    → runs_on w cpu ≡ Some r → IsTarget w.tree o → IsSoundWorld (yield_to w cpu r a o).world
yield-sound w cpu r a o s e h = reply_unless-sound w cpu r (first_met (yield_refusals w r.name a o)) _ s e (λ u.
    let cs = yield_refusals w r.name a o in
    let n : is_none o ≡ false = passed cs u S.NotChild in
    let f : (not (node_name o == r.name) && has (running w) (node_name o)) ≡ false = passed cs u S.Running in
    yielded-sound w cpu r a (node_name o) (handler w.tree (node_name o) a.x1) (s.contexts cpu r e)
    (λ c q. handler_small w.tree (node_name o) a.x1 c s.tree q) s (name_of_target w.tree o h n)
    (may (node_name o == r.name) refl f))
  where
    -- the target is the caller, or it doesn't run
    may : (b : Bool) → (node_name o == r.name) ≡ b → (not b && has (running w) (node_name o)) ≡ false
        → MayRun w.cpus cpu (record { name = node_name o; ctx = r.ctx })
    may true z f = inr (r, e, sym (eqb-true (node_name o) r.name z))
    may false z f = inl (λ i. let m = in_has (node_name o) (running w) i in absurd (grind (arith, f, m)))

call-sound : (k : CallName) (w : World) (cpu : ℕ) (r : Occupant) (a : Five) → IsSoundWorld w → runs_on w cpu ≡ Some r
    → AllByRecursion IsWord (list_of a) → IsSoundWorld (call k w cpu r a).world
call-sound (OnMemory k) w cpu r a s e l =
    let n = s.names_nodes r.name (runs_named w cpu r s e) in
    let sound = (laws_of k).sound w r.name a s.tree n l.1.0 in
    let h = (laws_of k).keeps w r.name a s.tree n in
    replied-sound w cpu r (answer k w r.name a) s e (assumption)
call-sound Yields w cpu r a s e l = yield-sound w cpu r a _ s e (target_is w.tree r.name a.x0 (a.x0 == 0) (a.x0 == 1))
call-sound (Masks b) w cpu r a s e l = replied-sound w cpu r (accept 0 (with_masked r.name b w.tree)) s e
    (record {
      sound = masked-sound r.name b w.tree s.tree;
      stays = stays_on (masked_node r.name b) w.tree (running w) (λ x. refl) (λ x. refl);
      value = omega arith;
    })
call-sound Unknown w cpu r a s e l = replied-sound w cpu r (refuse w.tree S.UnknownCall) s e
    (record { sound = s.tree; stays = λ q i j. j; value = omega arith })

-- poll
lines_from : (low more : ℕ) (js : List ℕ) → low ≤ more → AreLines more js → AreLines low js
lines_from low more [] h l = tt
lines_from low more (j ∷ js) h l = let k = l.0 in (omega arith, l.1, l.2)

lines_out : (low j : ℕ) (js : List ℕ) → AreLines low js → AreLines low (filter (λ i. not (i == j)) js)
lines_out low j [] l = tt
lines_out low j (i ∷ js) l = go (i == j) (lines_out (suc i) j js l.2)
  where
    go : (b : Bool) → AreLines (suc i) (filter (λ i. not (i == j)) js)
        → AreLines low (cond (not b) (i ∷ filter (λ i. not (i == j)) js) (filter (λ i. not (i == j)) js))
    go true h = let k = l.0 in lines_from low (suc i) (filter (λ i. not (i == j)) js) (omega arith) h
    go false h = (l.0, l.1, h)

pub lines_left : (j : ℕ) (js : List ℕ) → AreLines 0 js → AreLines 0 (filter (λ i. not (i == j)) js)
lines_left j js l = lines_out 0 j js l

line_small : (low j : ℕ) (js : List ℕ) → AreLines low js → In j js → j < 16
line_small low j [] l i = absurd i
line_small low j (k ∷ js) l (inl e) = rw e l.1
line_small low j (k ∷ js) l (inr i) = line_small (suc k) j js l.2 i

pub lines_raised : (low j : ℕ) (js : List ℕ) → low ≤ j → j < 16 → AreLines low js → AreLines low (lines_with j js)
lines_raised low j [] a b l = (a, b, tt)
lines_raised low j (i ∷ is) a b l = go (nat_lt j i) (j == i) refl refl (lines_raised (suc i) j is)
  where
    go : (c d : Bool) → nat_lt j i ≡ c → (j == i) ≡ d
        → (suc i ≤ j → j < 16 → AreLines (suc i) is → AreLines (suc i) (lines_with j is))
        → AreLines low (cond c (j ∷ i ∷ is) (cond d (i ∷ is) (i ∷ lines_with j is)))
    go true d e f ih = let k = ltb-true j i e in (a, b, (omega arith, l.1, l.2))
    go false true e f ih = l
    go false false e f ih = let k = ltb-false j i e in let n = eqb-false j i f in
        (l.0, l.1, ih (omega arith) b l.2)

polled_same : (w : World) (o : Option Occupant) → (none_taken w o).world ≡ w
polled_same w None = refl
polled_same w (Some r) = refl

take-sound : (w : World) (cpu : ℕ) (o : Option Occupant) (j : ℕ) (h : Option Ctx) → IsWord (32 + j)
    → ((z : Ctx) → h ≡ Some z → IsContext z) → IsSoundWorld w → runs_on w cpu ≡ o → may_take w cpu o ≡ true
    → IsSoundWorld (take_line w cpu o j h).world
take-sound w cpu o j None jsmall known s e m = rw (polled_same w o) s
take-sound w cpu o j (Some h) jsmall known s e m =
    let n = w.tree.root.name in
    let js = filter (λ i. not (i == j)) w.tree.root.pending in
    let t0 = save_running w.tree o in
    let t1 = with_masked n true t0 in
    let t2 = with_pending js t1 in
    let names : (p : ℕ) → In p (names_of (nodes w.tree)) → In p (names_of (nodes t2)) = λ p i.
    stays_on (lines_in t1.root.name js) t1 (p ∷ []) (λ x. refl) (λ x. refl) p (inl refl)
    (stays_on (masked_node n true) t0 (p ∷ []) (λ x. refl) (λ x. refl) p (inl refl) (saved_names w.tree o p i)) in
    cpu_runs (record w { tree = t2 }) cpu _ (tree_changed w t2 s (pending-sound js t1 (lines_left j w.tree.root.pending
    s.tree.lines) (masked-sound n true t0 (sound_saved w.tree o (λ r q. s.contexts cpu r (cc)) s.tree)))
    (λ p i. names p (s.names_nodes p i))) (names n (inl refl)) (may o e m)
    (told_small h (32 + j) 0 0 0 (known h refl) jsmall (omega arith) (omega arith) (omega arith))
  where
    saved_names : (t : Tree) (o : Option Occupant) (p : ℕ) → In p (names_of (nodes t))
        → In p (names_of (nodes (save_running t o)))
    saved_names t None p i = i
    saved_names t (Some r) p i = i

    sound_saved : (t : Tree) (o : Option Occupant) → ((r : Occupant) → o ≡ Some r → IsContext r.ctx) → IsSound t
        → IsSound (save_running t o)
    sound_saved t None x q = q
    sound_saved t (Some r) x q = saved-sound t r.ctx (save_place t r.name 63) (x r refl) q

    -- the root runs elsewhere, or here, or nowhere
    may : (o : Option Occupant) → runs_on w cpu ≡ o → may_take w cpu o ≡ true
        → MayRun w.cpus cpu (record { name = w.tree.root.name; ctx = handler_context h (32 + j) 0 0 0 })
    may o e m = elim (cases_Bool (has (running w) w.tree.root.name)) [
      | inr f ↦ inl (λ i. let k = in_has w.tree.root.name (running w) i in absurd (grind (arith, f, k)))
      | inl f ↦ elim (here_or_else w.tree.root.name w.cpus cpu (has_in w.tree.root.name (running w) f)) [
        | inl i ↦ let k = in_has w.tree.root.name (running (with_running w cpu None)) i in
            let z = not_both (runs_elsewhere w cpu w.tree.root.name) _ m in absurd (grind (arith, k, z))
        | inr (r, d, q) ↦ inr (r, d, sym q)
      ]
    ]
      where
        not_both : (a b : Bool) → (not a && b) ≡ true → a ≡ false
        not_both a b e = grind arith

poll-sound : (w : World) (cpu : ℕ) (o : Option Occupant) → IsSoundWorld w → runs_on w cpu ≡ o
    → IsSoundWorld (poll w cpu o).world
poll-sound w cpu o s e = go (may_take w cpu o) (lowest_line w w.tree.root.pending) refl refl
  where
    go : (b : Bool) (j : Option ℕ) → may_take w cpu o ≡ b → lowest_line w w.tree.root.pending ≡ j
        → IsSoundWorld (cond b (poll_line w cpu o j) (none_taken w o)).world
    go false j m f = rw (polled_same w o) s
    go true None m f = rw (polled_same w o) s
    go true (Some j) m f =
        let k = line_small 0 j w.tree.root.pending s.tree.lines
        (find_in (λ j. is_some (handler w.tree w.tree.root.name (32 + j))) j w.tree.root.pending f).0 in
        take-sound w cpu o j (handler w.tree w.tree.root.name (32 + j)) (omega arith) (λ z q.
        handler_small w.tree w.tree.root.name (32 + j) z s.tree q) s e m

vector_small : (f : Fault) → IsWord (fault_vector f)
vector_small Alignment = omega arith
vector_small Unmapped = omega arith
vector_small Hidden = omega arith
vector_small Right = omega arith

fault_small : (a : Access) (f : Fault) → IsWord (16 * access_number a + fault_number f)
fault_small a f = omega (arith, access a, fault f)
  where
    access : (a : Access) → access_number a ≤ 2
    access Load = omega arith
    access Store = omega arith
    access Fetch = omega arith

    fault : (f : Fault) → fault_number f ≤ 3
    fault Alignment = omega arith
    fault Unmapped = omega arith
    fault Hidden = omega arith
    fault Right = omega arith

-- a word with a byte replaced is a word
byte_small : (k x w : ℕ) → k < 4 → x < 256 → IsWord w → IsWord (w + x * 256 ^ k - w / 256 ^ k % 256 * 256 ^ k)
byte_small zero x w h a b = omega arith
byte_small (suc zero) x w h a b = omega arith
byte_small (suc (suc zero)) x w h a b = omega arith
byte_small (suc (suc (suc zero))) x w h a b = omega arith
byte_small (suc (suc (suc (suc k)))) x w h a b = absurd (omega arith)

pub read_small : (va : ℕ) (z : Size) (x w : ℕ) → x < below_of z → IsWord w → IsWord (written_over va z x w)
read_small va Word x w a b = a
read_small va Byte x w a b = byte_small (va % 4) x w (omega arith) a b

loaded-sound : (w : World) (cpu : ℕ) (r : Occupant) (va : ℕ) (a : Access) (z : Size) (q : Reached) → IsWord va
    → IsContext r.ctx → IsSoundWorld w → IsSoundWorld (load_happens w cpu r va a z q).world
loaded-sound w cpu r va a z (Place g i) l x s = s
loaded-sound w cpu r va a z (Faulted f) l x s = deliver-sound w cpu r (fault_vector f) va
    (16 * access_number a + fault_number f) (vector_small f) l (fault_small a f) x s

wrote-sound : (w : World) (cpu : ℕ) (r : Occupant) (va : ℕ) (z : Size) (x : ℕ) (q : Reached) → IsWord va
    → x < below_of z → IsContext r.ctx → IsSoundWorld w → In r.name (names_of (nodes w.tree))
    → reach w.tree r.name va Store z ≡ q → IsSoundWorld (wrote w cpu r va z x q).world
wrote-sound w cpu r va z x (Place g i) l b y s n e = tree_changed w
    (with_word w.tree g i (written_over va z x (word_of (w.tree.words g) i))) s (store-sound w.tree g i _ (read_small va
    z x (word_of (w.tree.words g) i) b (s.tree.numbers g i (reached_small w.tree r.name va g i Store z e))) s.tree
    (reached_words w.tree r.name va g i Store z s.tree n e)) (λ p i. s.names_nodes p i)
wrote-sound w cpu r va z x (Faulted f) l b y s n e = deliver-sound w cpu r (fault_vector f) va
    (16 * access_number Store + fault_number f) (vector_small f) l (fault_small Store f) y s

pub acted-sound : (w : World) (e : Event) → IsSoundWorld w → IsEvent e → IsSoundWorld (what_happens w e).world
acted-sound w (E.Load cpu va z) s l = go (runs_on w cpu) refl
  where
    go : (o : Option Occupant) → runs_on w cpu ≡ o
        → IsSoundWorld (on_running w cpu o (λ r. load_happens w cpu r va Load z (reach w.tree r.name va Load z))).world
    go None e = s
    go (Some r) e = loaded-sound w cpu r va Load z (reach w.tree r.name va Load z) l (s.contexts cpu r e) s
acted-sound w (E.Store cpu va z x) s l = go (runs_on w cpu) refl
  where
    go : (o : Option Occupant) → runs_on w cpu ≡ o
        → IsSoundWorld (on_running w cpu o (λ r. wrote w cpu r va z x (reach w.tree r.name va Store z))).world
    go None e = s
    go (Some r) e = wrote-sound w cpu r va z x (reach w.tree r.name va Store z) l.0 l.1 (s.contexts cpu r e) s
        (s.names_nodes r.name (runs_named w cpu r s e)) refl
acted-sound w (E.Fetch cpu) s l = go (runs_on w cpu) refl
  where
    go : (o : Option Occupant) → runs_on w cpu ≡ o → IsSoundWorld (on_running w cpu o
        (λ r. load_happens w cpu r r.ctx.pc Fetch Word (reach w.tree r.name r.ctx.pc Fetch Word))).world
    go None e = s
    go (Some r) e = loaded-sound w cpu r r.ctx.pc Fetch Word (reach w.tree r.name r.ctx.pc Fetch Word)
        (s.contexts cpu r e).pc (s.contexts cpu r e) s
acted-sound w (E.Trap cpu k a b) s l = go (runs_on w cpu) refl
  where
    go : (o : Option Occupant) → runs_on w cpu ≡ o
        → IsSoundWorld (on_running w cpu o (λ r. deliver w cpu r k a b)).world
    go None e = s
    go (Some r) e = deliver-sound w cpu r k a b (omega arith) l.1 l.2 (s.contexts cpu r e) s
acted-sound w (E.Call cpu number a) s l = go (runs_on w cpu) refl
  where
    go : (o : Option Occupant) → runs_on w cpu ≡ o
        → IsSoundWorld (on_running w cpu o (λ r. call (call_named number) w cpu r a)).world
    go None e = s
    go (Some r) e = call-sound (call_named number) w cpu r a s e l.1
acted-sound w (E.Raise j) s l = let js = lines_with j w.tree.root.pending in tree_changed w (with_pending js w.tree) s
    (pending-sound js w.tree (lines_raised 0 j w.tree.root.pending (omega arith) l s.tree.lines) s.tree) (λ p i.
    stays_on (lines_in w.tree.root.name js) w.tree (p ∷ []) (λ x. refl) (λ x. refl) p (inl refl) (s.names_nodes p i))
acted-sound w (E.Poll cpu) s l = poll-sound w cpu (runs_on w cpu) s refl
acted-sound w (E.SetContext cpu c) s l = go (runs_on w cpu) refl
  where
    go : (o : Option Occupant) → runs_on w cpu ≡ o
        → IsSoundWorld (on_running w cpu o (λ r. done (with_running w cpu (Some (record r { ctx = c }))))).world
    go None e = s
    go (Some r) e = cpu_runs w cpu _ s (s.names_nodes r.name (runs_named w cpu r s e)) (inr (r, e, refl)) l

-- soundness looks at no cache
recached : (w : World) (cs : List Places) → IsSoundWorld w → IsSoundWorld (record w { caches = cs })
recached w cs s = record {
  tree = s.tree;
  at_least_one = s.at_least_one;
  at_most_four = s.at_most_four;
  one_processor_each = s.one_processor_each;
  names_nodes = s.names_nodes;
  contexts = s.contexts;
}

pub event-sound : (w : World) (e : Event) → IsSoundWorld w → IsEvent e → IsSoundWorld (event w e).world
event-sound w e s l = recached (what_happens w e).world (caches_after w e) (acted-sound w e s l)

pub idle_length : (c : ℕ) → length (idle_cpus c) ≡ c
idle_length zero = refl
idle_length (suc c) = rw (idle_length c)

idle_names : (c : ℕ) → names_at (idle_cpus c) ≡ []
idle_names zero = refl
idle_names (suc c) = idle_names c

pub first_context : IsContext first_ctx
first_context = let z : IsWord 0 = omega arith in record {
  pc = omega arith;
  count = refl;
  regs = (z, (z, (z, (z, (z, (z, (z, (z, (z, (z, (z, (z, (z, (z, (z, (z, tt))))))))))))))));
}

pub boot_world-sound_with : (words : ℕ → ℕ → ℕ) (n c : ℕ) → 16 ≤ n → n ≤ 4096 → 1 ≤ c → c ≤ 4 → ArePageWords words
    → IsSoundWorld (boot_world_with words n c)
boot_world-sound_with words n zero l h a b small = absurd (omega arith)
boot_world-sound_with words n (suc c) l h a b small = record {
  tree = boot-sound_with words n l h small;
  at_least_one = omega arith;
  at_most_four = omega (arith, idle_length c);
  one_processor_each = ((λ i. rw (idle_names c) at i), rw (idle_names c) tt);
  names_nodes = λ p i. elim i [ inl e ↦ inl e | inr j ↦ absurd (rw (idle_names c) at j) ];
  contexts = at;
}
  where
    idle : (c i : ℕ) (r : Occupant) → at_cpu (idle_cpus c) i ≡ Some r → ⊥
    idle zero i r e = cc
    idle (suc c) zero r e = cc
    idle (suc c) (suc i) r e = idle c i r e

    at : (i : ℕ) (r : Occupant) → at_cpu (boot_cpus (suc c)) i ≡ Some r → IsContext r.ctx
    at zero r e = let q : ◌≡◌ {A = Occupant} (record { name = 1; ctx = first_ctx }) r = cc in
        rw (← q) first_context
    at (suc i) r e = absurd (idle c i r e)

pub boot_world-sound : (n c : ℕ) → 16 ≤ n → n ≤ 4096 → 1 ≤ c → c ≤ 4 → IsSoundWorld (boot_world n c)
boot_world-sound n c l h a b = boot_world-sound_with (λ g. zero_words) n c l h a b zeros_small

-- soundness lasts, whatever events come
pub after-sound : (w : World) (es : List Event) → IsSoundWorld w → AllByRecursion IsEvent es → IsSoundWorld (after w es)
after-sound w [] s h = s
after-sound w (e ∷ es) s h = after-sound (event w e).world es (event-sound w e s h.0) h.1

pub moments-sound : (w : World) (es : List Event) → IsSoundWorld w → AllByRecursion IsEvent es
    → AllByRecursion IsSoundWorld (moments w es)
moments-sound w [] s h = (s, tt)
moments-sound w (e ∷ es) s h = (s, moments-sound (event w e).world es (event-sound w e s h.0) h.1)
