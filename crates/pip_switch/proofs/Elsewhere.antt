-- A machine that was taken elsewhere stands for worlds with empty caches.
use Rattle.std.proofs.Common.{◌≡◌, ℕ, zero, suc, List, [], ◌∷◌, length, replicate, refl, sym, ap, subst, ◌∙◌}
use Rattle.std.specs.Prelude.{Option, Some, None, slice_index_or}
use Rattle.pip_base.specs.Memory.{Memory}
use Rattle.pip_model.specs.Cache.{Agrees, AllAgree, Places, all_emptied, cache_at, no_entries}
use Rattle.pip_model.specs.Tree.{Tree}
use Rattle.pip_model.specs.Worlds.{World}
use Rattle.pip_model.specs.declared.cached.Entry.{Entry}
use Rattle.pip_model.specs.declared.processors.Occupant.{Occupant}
use Rattle.pip_switch.specs.Standing.{HasCachedWorld, HasWorld, StandsFor, StandsWith}

nothing_at : (n k : ℕ) (e : Entry) → slice_index_or {A = Option Entry} (replicate n None) k None ≡ Some e → ⊥
nothing_at zero k e h = cc
nothing_at (suc n) zero e h = cc
nothing_at (suc n) (suc k) e h = nothing_at n k e h

nothing_agrees : (t : Tree) (c : Places) → c.at ≡ no_entries → Agrees t c
unfolding no_entries
nothing_agrees t c none k e h = absurd (nothing_at 64 k e (ap (λ xs. slice_index_or xs k None) (sym none) ∙ h))

emptied_at : (cs : List Places) (cpu : ℕ) → (cache_at (all_emptied cs) cpu).at ≡ no_entries
emptied_at [] cpu = refl
emptied_at (c ∷ cs) zero = refl
emptied_at (c ∷ cs) (suc cpu) = emptied_at cs cpu

emptied_length : (cs : List Places) → length (all_emptied cs) ≡ length cs
emptied_length [] = refl
emptied_length (c ∷ cs) = ap suc (emptied_length cs)

pub emptied_agree : (t : Tree) (cs : List Places) → AllAgree t (all_emptied cs)
emptied_agree t cs cpu = nothing_agrees t (cache_at (all_emptied cs) cpu) (emptied_at cs cpu)

-- the world with other caches
pub bare_with : (m : Memory) (cs : List (Option Occupant)) (w : World) (ks : List Places)
    → StandsFor m cs w → StandsFor m cs (record w { caches = ks })
bare_with m cs w ks s = record {
  sound = record {
    tree = s.sound.tree;
    at_least_one = s.sound.at_least_one;
    at_most_four = s.sound.at_most_four;
    one_processor_each = s.sound.one_processor_each;
    names_nodes = s.sound.names_nodes;
    contexts = s.sound.contexts;
  };
  shows = record { laid = s.shows.laid; cpus = s.shows.cpus };
}

-- with the caches of a machine that was taken elsewhere
pub rewound : (m : Memory) (cs : List (Option Occupant)) (old ks : List Places)
    → ks ≡ all_emptied old → length old ≡ length cs → (w : World)
    → StandsFor m cs w → StandsWith m cs ks (record w { caches = ks })
rewound m cs old ks is each w s = record {
  bare = bare_with m cs w ks s;
  cached = λ cpu. subst (λ zs. Agrees w.tree (cache_at zs cpu)) (sym is) (emptied_agree w.tree old cpu);
  caches = refl;
  each = ap length is ∙ emptied_length old ∙ each;
}

pub rewound_world : (m : Memory) (cs : List (Option Occupant)) (old ks : List Places)
    → ks ≡ all_emptied old → length old ≡ length cs → HasWorld m cs → HasCachedWorld m cs ks
rewound_world m cs old ks is each h = record {
  world = record h.world { caches = ks };
  stands = rewound m cs old ks is each h.world h.stands;
}
