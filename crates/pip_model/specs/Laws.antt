-- What the laws on soundness, reach and layout say. Each is the contract of a function of this crate.
use Rattle.std.specs.Prelude.{◌≡◌, ◌≢◌, ◌↔◌, ℕ, ◌*◌, ◌≤◌, ◌⊎◌, List, flat_map, length}
use Rattle.pip_base.specs.declared.types.Access.{Access}
use Rattle.pip_base.specs.declared.types.Size.{Size}
use Rattle.pip_model.specs.Acts.{events_made}
use Rattle.pip_model.specs.Ancestors.{Above}
use Rattle.pip_model.specs.Dump.{tree_text}
use Rattle.pip_model.specs.Events.{Event, IsEvent}
use Rattle.pip_model.specs.Happens.{event, moments}
use Rattle.pip_model.specs.Layout.{AreSame, HasSameLayout, LaysOut}
use Rattle.pip_model.specs.Lists.{In}
use Rattle.pip_model.specs.Partitions.{IsHeld}
use Rattle.pip_model.specs.Reach.{Place, reach}
use Rattle.pip_model.specs.Sound.{ArePageWords, HasNumbers, IsSound}
use Rattle.pip_model.specs.Tree.{Node, Tree, ancestry, below, chain, config, held_pages, nodes, row_pages}
use Rattle.pip_model.specs.Work.{event_work, events_work, most_event_work, most_turn_work}
use Rattle.pip_model.specs.Turn.{turn}
use Rattle.pip_model.specs.Worlds.{Happened, IsCached, IsSoundWorld, World, boot_world_with}
use Rattle.pip_model.specs.Cache.{Places}
use Rattle.std.specs.List.{AllByRecursion}
use Rattle.pip_base.specs.Memory.{Memory}

-- Soundness. A machine begins with a sound world, whatever words the root has
abbrev pub BootIsSound : Type 0
BootIsSound = (words : ℕ → ℕ → ℕ) (n c : ℕ) → 16 ≤ n → n ≤ 4096 → 1 ≤ c → c ≤ 4 → ArePageWords words
    → IsSoundWorld (boot_world_with words n c)

-- soundness is lost by no event
abbrev pub EventsKeepSound : Type 0
EventsKeepSound = (w : World) (e : Event) → IsSoundWorld w → IsEvent e → IsSoundWorld (event w e).world

-- nor anywhere in a list of events
abbrev pub RunsKeepSound : Type 0
RunsKeepSound = (w : World) (es : List Event) → IsSoundWorld w → AllByRecursion IsEvent es
    → AllByRecursion IsSoundWorld (moments w es)

-- all numbers of a sound tree are words, pages are frames, vpages are below 2^20 and rights below 8
abbrev pub NumbersAreWords : Type 0
NumbersAreWords = (t : Tree) (x : Node) → IsSound t → In x (nodes t) → HasNumbers t.frames x

-- Caches. They hold nothing at first
abbrev pub BootIsCached : Type 0
BootIsCached = (words : ℕ → ℕ → ℕ) (n c : ℕ) → IsCached (boot_world_with words n c)

-- and after every event what they hold is what the tree says then
abbrev pub EventsKeepCaches : Type 0
EventsKeepCaches = (w : World) (e : Event) → IsSoundWorld w → IsCached w → IsEvent e → IsCached (event w e).world

-- no outcome depends on the caches, nor does any change of the tree and the processors
pub record DiffersInCaches (h k : Happened) : Type 0 where
  pub outcome : h.outcome ≡ k.outcome
  pub tree : h.world.tree ≡ k.world.tree
  pub cpus : h.world.cpus ≡ k.world.cpus

-- no outcome and no change of tree or processors depends on what the caches hold
abbrev pub CachesTellNothing : Type 0
CachesTellNothing = (w : World) (cs : List Places) (e : Event)
    → DiffersInCaches (event (record w { caches = cs }) e) (event w e)

-- Work. No event changes how many frames there are
abbrev pub EventsKeepFrames : Type 0
EventsKeepFrames = (w : World) (e : Event) → (event w e).world.tree.frames ≡ w.tree.frames

-- and by that number alone, no event takes more steps than this
abbrev pub EventsTakeAtMost : Type 0
EventsTakeAtMost = (w : World) (e : Event) → IsSoundWorld w → event_work w e ≤ most_event_work w.tree.frames

-- nor does a list of events, for each of them
abbrev pub RunsTakeAtMost : Type 0
RunsTakeAtMost = (w : World) (es : List Event) → IsSoundWorld w → AllByRecursion IsEvent es
    → events_work w es ≤ length es * most_event_work w.tree.frames

-- nor does any turn
abbrev pub TurnsTakeAtMost : Type 0
TurnsTakeAtMost = (w : World) (cpu t : ℕ) → IsSoundWorld w
    → events_work w (events_made (turn w cpu t)) ≤ most_turn_work w.tree.frames

-- no chain has more partitions than there are frames, and no subtree more pages of configuration
abbrev pub TreesAreSmall : Type 0
TreesAreSmall = (t : Tree) (p : ℕ) → IsSound t → (length (chain t p) ≤ t.frames)
    × (length (flat_map config (below t p)) ≤ t.frames)

-- Reach. A place that an access reaches is in no page of any partition's configuration
abbrev pub PlacesAreOpen : Type 0
PlacesAreOpen = (t : Tree) (p va g i : ℕ) (access : Access) (size : Size) (x : Node)
    → reach t p va access size ≡ Place g i → In x (nodes t) → In g (config x) → ⊥

-- to be above x is to be named in the ancestry of x, as another than x
abbrev pub AncestorsAreInLine : Type 0
AncestorsAreInLine = (t : Tree) (x y : Node) → IsSound t → In x (nodes t) → In y (nodes t)
    → Above t y x ↔ (y.name ≢ x.name) × In y.name (ancestry t x.name)

-- the partitions that map a page of x's configuration: all that are above x, and they alone
abbrev pub ConfigStandsAbove : Type 0
ConfigStandsAbove = (t : Tree) (g : ℕ) (x y : Node) → IsSound t → In x (nodes t) → In y (nodes t) → In g (config x)
    → (Above t y x → In g (row_pages y)) × (In g (row_pages y) → Above t y x)

-- a page is shared along one line of descent, and nowhere else
abbrev pub CommonPagesRelate : Type 0
CommonPagesRelate = (t : Tree) (g : ℕ) (x y : Node) → IsSound t → In x (nodes t) → In y (nodes t) → In g (held_pages x)
    → In g (held_pages y) → (x ≡ y) ⊎ (Above t x y ⊎ Above t y x)

-- Layout. A sound tree is known by its layout
abbrev pub LayoutTellsTree : Type 0
LayoutTellsTree = (t u : Tree) → IsSound t → IsSound u → HasSameLayout t u → AreSame t u

-- so a memory lays out one tree at most
abbrev pub FramesTellTree : Type 0
FramesTellTree = (t u : Tree) (m : Memory) → IsSound t → IsSound u → LaysOut t m → LaysOut u m → AreSame t u

-- so all sound trees that one memory lays out have the same text
abbrev pub TreesShowAlike : Type 0
TreesShowAlike = (t u : Tree) (m : Memory) → IsHeld t m → IsHeld u m → tree_text t ≡ tree_text u
