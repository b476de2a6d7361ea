-- The premises of the laws are met: a child's life, and a list of events by two siblings.
use Rattle.std.proofs.Common.{◌≡◌, ◌≢◌, ℕ, zero, suc, inl, inr, List, [], ◌∷◌, refl, sym, subst, arith, Some, None}
use Rattle.std.specs.Prelude.{unwrap_or, slice_get}
use Rattle.std.specs.List.{AllByRecursion}
use Rattle.pip_model.specs.Sound.{IsContext, IsSound, IsWord}
use Rattle.pip_model.proofs.Events.Soundness.{after-sound, boot_world-sound, first_context}
use Rattle.pip_base.specs.declared.outcome.Outcome.TheVariants as O
use Rattle.pip_base.specs.declared.outcome.Status.TheVariants as S
use Rattle.pip_base.specs.declared.types.Size.TheVariants.{Word}
use Rattle.pip_model.specs.Answers.{Five, list_of}
use Rattle.pip_model.specs.Events.{Event, IsEvent}
use Rattle.pip_model.specs.GiveBack.{IsLife, creation, deletion}
use Rattle.pip_model.specs.Happens.{after, event, moments}
use Rattle.pip_model.specs.Lists.{In}
use Rattle.pip_model.specs.Local.{AgreeBelow, AreFit, IsBelow, outcomes_below, only_below}
use Rattle.pip_model.specs.Tree.{Node, Tree, ancestry, names_of, nodes, word_of}
use Rattle.pip_model.specs.Cache.{empty_caches}
use Rattle.pip_model.specs.Worlds.{IsSoundWorld, World, boot_world, first_ctx}
use Rattle.pip_model.specs.declared.processors.Occupant.{Occupant}
use Rattle.pip_model.specs.Events as E

abbrev five : ℕ → ℕ → ℕ → ℕ → ℕ → Five
five a b c d e = record { x0 = a; x1 = b; x2 = c; x3 = d; x4 = e }

abbrev pages : Five
pages = five 0x401000 0x402000 0x403000 0x404000 0x405000

-- a store; then two blocks are named, and the root yields to itself and is saved
abbrev between : List Event
between = E.Store 0 0x400000 Word 7 ∷ E.Store 0 0xfffff100 Word 0xfffff400 ∷ E.Store 0 0xfffff0fc Word 0xfffff444
    ∷ E.Call 0 8 (five 1 64 63 0 0) ∷ []

life : IsLife (boot_world 32 1) 0 pages between 0 (five 0x401000 0 0 0 0) 1 13
life = record {
  maker = refl;
  makes = refl;
  child = refl;
  lives = there;
  fixed = ((λ x. x), ((λ x. x), ((λ x. x), ((λ x. x.0), tt))));
  ender = refl;
  ends = refl;
  same = refl;
}
  where
    there : (v : World) → In v (moments (creation (boot_world 32 1) 0 pages).world between)
        → In 13 (names_of (nodes v.tree))
    there v (inl e) = subst (λ v. In 13 (names_of (nodes v.tree))) (sym e) (inr (inl refl))
    there v (inr (inl e)) = subst (λ v. In 13 (names_of (nodes v.tree))) (sym e) (inr (inl refl))
    there v (inr (inr (inl e))) = subst (λ v. In 13 (names_of (nodes v.tree))) (sym e) (inr (inl refl))
    there v (inr (inr (inr (inl e)))) = subst (λ v. In 13 (names_of (nodes v.tree))) (sym e) (inr (inl refl))
    there v (inr (inr (inr (inr (inl e))))) = subst (λ v. In 13 (names_of (nodes v.tree))) (sym e) (inr (inl refl))
    there v (inr (inr (inr (inr (inr i))))) = absurd i

-- what was stored between is there at the end
stored : word_of ((deletion (after (creation (boot_world 32 1) 0 pages).world between) 0
    (five 0x401000 0 0 0 0)).world.tree.words 12) 0 ≡ 7
stored = refl

-- and what was saved: the pc
saved : word_of ((deletion (after (creation (boot_world 32 1) 0 pages).world between) 0
    (five 0x401000 0 0 0 0)).world.tree.words 31) 273 ≡ 0x400000
saved = refl

abbrev others : Five
others = five 0x406000 0x407000 0x408000 0x409000 0x40a000

-- two siblings, 13 and 18, that run
abbrev siblings : World
siblings = record {
  tree = (after (boot_world 32 2) (E.Call 0 0 pages ∷ E.Call 0 0 others ∷ [])).tree;
  cpus = Some (record { name = 13; ctx = first_ctx }) ∷ Some (record { name = 18; ctx = first_ctx }) ∷ [];
  caches = empty_caches 2;
}

-- such a world is sound where its tree is that of a run of the root, and these names are in it
runs_two : (t : Tree) (q : ℕ) → 13 ≢ q → IsSound t → In 13 (names_of (nodes t)) → In q (names_of (nodes t))
    → IsSoundWorld (record {
      tree = t;
      cpus = Some (record { name = 13; ctx = first_ctx })
          ∷ Some (record { name = q; ctx = first_ctx }) ∷ [];
      caches = empty_caches 2;
    })
runs_two t q n s a b = record {
  tree = s;
  at_least_one = omega arith;
  at_most_four = omega arith;
  one_processor_each = ((λ i. elim i [ inl e ↦ n e | inr j ↦ j ]), ((λ i. i), tt));
  names_nodes = λ p i. elim i [
    | inl e ↦ subst (λ z. In z (names_of (nodes t))) (sym e) a
    | inr j ↦
        elim j [ inl e ↦ subst (λ z. In z (names_of (nodes t))) (sym e) b | inr k ↦ absurd k ]
  ];
  contexts = context;
}
  where
    context : (i : ℕ) (r : Occupant) → unwrap_or (slice_get (Some (record { name = 13; ctx = first_ctx })
        ∷ Some (record { name = q; ctx = first_ctx }) ∷ []) i) None ≡ Some r → IsContext r.ctx
    context zero r e = let k : ◌≡◌ {A = Occupant} (record { name = 13; ctx = first_ctx }) r = cc in
        subst (λ z. IsContext z.ctx) k first_context
    context (suc zero) r e = let k : ◌≡◌ {A = Occupant} (record { name = q; ctx = first_ctx }) r = cc in
        subst (λ z. IsContext z.ctx) k first_context
    context (suc (suc i)) r e = cc

calls_are : (a : Five) → AllByRecursion IsWord (list_of a) → IsEvent (E.Call 0 0 a)
calls_are a h = (omega arith, h)

pages_are : IsEvent (E.Call 0 0 pages)
pages_are = calls_are pages (omega arith, (omega arith, (omega arith, (omega arith, (omega arith, tt)))))

others_are : IsEvent (E.Call 0 0 others)
others_are = calls_are others (omega arith, (omega arith, (omega arith, (omega arith, (omega arith, tt)))))

boot_is : IsSoundWorld (boot_world 32 2)
boot_is = boot_world-sound 32 2 (omega arith) (omega arith) (omega arith) (omega arith)

siblings_sound : IsSoundWorld siblings
siblings_sound = runs_two siblings.tree 18 (λ e. omega (arith, e)) (after-sound (boot_world 32 2) (E.Call 0 0 pages
    ∷ E.Call 0 0 others ∷ []) boot_is (pages_are, (others_are, tt))).tree (inr (inr (inl refl))) (inr (inl refl))

abbrev list : List Event
list = E.Call 1 10 pages ∷ E.Call 0 11 pages ∷ E.SetContext 1 first_ctx ∷ E.Call 0 12 pages ∷ []

fit : AreFit siblings.tree 13 siblings list
fit = (
  (λ k. k),
  inr (record { there = inr (inl refl); not_below = not_in; not_above = not_in' }),
  (
    (λ k. k),
    inl (inr (inr (inl refl)), inl refl),
    (
      tt,
      inr (record { there = inr (inl refl); not_below = not_in; not_above = not_in' }),
      ((λ k. k), inl (inr (inr (inl refl)), inl refl), tt),
    ),
  ),
)
  where
    not_in : In {A = ℕ} 13 (18 ∷ 1 ∷ []) → ⊥
    not_in (inl e) = absurd (omega (arith, e))
    not_in (inr (inl e)) = absurd (omega (arith, e))
    not_in (inr (inr i)) = i

    not_in' : In {A = ℕ} 18 (13 ∷ 1 ∷ []) → ⊥
    not_in' (inl e) = absurd (omega (arith, e))
    not_in' (inr (inl e)) = absurd (omega (arith, e))
    not_in' (inr (inr i)) = i

below_answers : outcomes_below siblings.tree 13 siblings list ≡ (O.Reply S.Ok 0 ∷ O.Reply S.UnknownCall 0 ∷ [])
below_answers = refl

below_events : only_below siblings.tree 13 siblings list ≡ (E.Call 0 11 pages ∷ E.Call 0 12 pages ∷ [])
below_events = refl

-- two worlds that differ in a sibling of 13 agree below it: only the second has 18
abbrev alone : World
alone = record {
  tree = (after (boot_world 32 2) (E.Call 0 0 pages ∷ [])).tree;
  cpus = Some (record { name = 13; ctx = first_ctx }) ∷ Some (record { name = 1; ctx = first_ctx }) ∷ [];
  caches = empty_caches 2;
}

alone_sound : IsSoundWorld alone
alone_sound = runs_two alone.tree 1 (λ e. omega (arith, e)) (after-sound (boot_world 32 2)
    (E.Call 0 0 pages ∷ []) boot_is (pages_are, tt)).tree (inr (inl refl)) (inl refl)

agree : AgreeBelow 13 alone siblings
agree = record {
  nodes = λ x. (to x, from x);
  words = λ g i h l. absurd h;
}
  where
    not_root : In {A = ℕ} 13 (1 ∷ []) → ⊥
    not_root (inl e) = absurd (omega (arith, e))
    not_root (inr i) = i

    not_sibling : In {A = ℕ} 13 (18 ∷ 1 ∷ []) → ⊥
    not_sibling (inl e) = absurd (omega (arith, e))
    not_sibling (inr i) = not_root i

    to : (x : Node) → IsBelow alone.tree 13 x → IsBelow siblings.tree 13 x
    to x (inl e, h) = absurd (not_root (subst (λ z. In 13 (ancestry alone.tree z.name)) e h))
    to x (inr (inl e), h) = (inr (inr (inl e)), subst (λ z. In 13 (ancestry siblings.tree z.name)) (sym e) (inl refl))
    to x (inr (inr i), h) = absurd i

    from : (x : Node) → IsBelow siblings.tree 13 x → IsBelow alone.tree 13 x
    from x (inl e, h) = absurd (not_root (subst (λ z. In 13 (ancestry siblings.tree z.name)) e h))
    from x (inr (inl e), h) = absurd (not_sibling (subst (λ z. In 13 (ancestry siblings.tree z.name)) e h))
    from x (inr (inr (inl e)), h) = (inr (inl e), subst (λ z. In 13 (ancestry alone.tree z.name)) (sym e) (inl refl))
    from x (inr (inr (inr i)), h) = absurd i

-- so a call of 13 answers the same in both
same_answer : (event alone (E.Call 0 0 pages)).outcome ≡ (event siblings (E.Call 0 0 pages)).outcome
same_answer = refl
