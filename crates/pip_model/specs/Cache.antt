-- The translation cache of a processor: its places and counts, and what an access makes of them.
use Rattle.std.specs.Prelude.{◌≡◌, ℕ, zero, suc, ◌+◌, ◌-◌, ◌%◌, ◌^◌, ◌==◌, ◌&&◌, false, if◌then◌else◌, List, [], ◌∷◌}
use Rattle.std.specs.Prelude.{map, Option, Some, None, replicate, slice_index_or, slice_set}
use Rattle.pip_base.specs.declared.rights.Rights.{Rights}
use Rattle.pip_base.specs.declared.types.Access.{Access}
use Rattle.pip_base.specs.declared.types.Size.{Size}
use Rattle.pip_base.specs.declared.types.Size.TheVariants.{Byte}
use Rattle.pip_model.specs.declared.cached.Entry.{Entry}
use Rattle.pip_model.specs.Reach.{Place, Reached, is_misaligned, reach}
use Rattle.pip_model.specs.Tree.{Node, Row, Tree, find_node, hidden, node, row_at, vpage}

-- 64 places, each empty or with an entry, and how many accesses hit and missed
pub record Places : Type 0 where
  pub at : List (Option Entry)
  pub hits : ℕ
  pub misses : ℕ

-- one more; a count stops at 2^64 - 1
abbrev pub one_more : ℕ → ℕ
one_more n = if n == 2 ^ 64 - 1 then n else n + 1

-- the 64 places of a translation cache, all empty
unfoldable pub no_entries : List (Option Entry)
no_entries = replicate 64 None

-- an empty translation cache, with its counts at 0
abbrev pub no_places : Places
no_places = record { at = no_entries; hits = 0; misses = 0 }

-- ---- one access of partition p, at vpage v

-- an entry, if it is that of partition p for vpage v
abbrev pub of_page : ℕ → ℕ → Option Entry → Option Entry
of_page p v None = None
of_page p v (Some e) = if (e.part == p) && (e.vpage == v) then Some e else None

-- what the place of v holds of p and v
abbrev pub holding : Places → ℕ → ℕ → Option Entry
holding c p v = of_page p v (slice_index_or c.at (v % 64) None)

-- what an entry answers: a page and its rights
abbrev pub page_and_rights : Entry → ℕ × Rights
page_and_rights e = (e.page, e.rights)

-- a hit or a miss is counted
abbrev pub counted_lookup : Places → Option Entry → Places
counted_lookup c (Some e) = record c { hits = one_more c.hits }
counted_lookup c None = record c { misses = one_more c.misses }

-- the cache after partition p was looked up in it at vpage v: a hit or a miss more
abbrev pub after_lookup : Places → ℕ → ℕ → Places
after_lookup c p v = counted_lookup c (holding c p v)

-- the place of an entry's vpage holds it
abbrev pub with_new_entry : Places → Entry → Places
with_new_entry c e = record c { at = slice_set c.at (e.vpage % 64) (Some e) }

-- all places are empty, and the counts stay
abbrev pub without_entries : Places → Places
without_entries c = record c { at = no_entries }

-- after a miss, an access that reaches a word fills the place with the row
abbrev pub filled_on_miss : Places → ℕ → ℕ → Option Entry → Option Row → Reached → Places
filled_on_miss c p v None (Some r) (Place g i) =
    with_new_entry c (record { part = p; vpage = v; page = r.frame; rights = record { 0 = r.rights } })
filled_on_miss c p v _ _ _ = c

-- the cache after an access of p at address va, which is aligned
abbrev pub cache_after_access : Tree → Places → ℕ → ℕ → Access → Places
cache_after_access t c p va access = filled_on_miss (after_lookup c p (vpage va)) p (vpage va) (holding c p (vpage va))
    (row_at (node t p).rows (vpage va)) (reach t p va access Byte)

-- ---- the caches of all processors

-- an empty translation cache for each of a number of processors
abbrev pub empty_caches : ℕ → List Places
empty_caches zero = []
empty_caches (suc n) = no_places ∷ empty_caches n

-- the translation cache of a processor
abbrev pub cache_at : List Places → ℕ → Places
cache_at cs cpu = slice_index_or cs cpu no_places

-- the caches of all processors, emptied
abbrev pub all_emptied : List Places → List Places
all_emptied cs = map without_entries cs

-- after an access on a processor; one that isn't aligned looks nothing up
abbrev pub places_after_access : Tree → List Places → ℕ → ℕ → ℕ → Access → Size → List Places
places_after_access t cs cpu p va access size = if is_misaligned va size then cs
    else slice_set cs cpu (cache_after_access t (cache_at cs cpu) p va access)

-- ---- what is always true of them

-- an entry is the row that its partition has now, and its page isn't hidden
pub record IsUsable (t : Tree) (e : Entry) : Type 0 where
  pub node : Node
  pub found : find_node t e.part ≡ Some node
  pub row : Row
  pub at : row_at node.rows e.vpage ≡ Some row
  pub page : row.frame ≡ e.page
  pub rights : row.rights ≡ e.rights.0
  pub seen : hidden t e.page ≡ false

-- every entry of a cache can be used in this tree
abbrev pub Agrees : Tree → Places → Type 0
Agrees t c = (k : ℕ) (e : Entry) → slice_index_or c.at k None ≡ Some e → IsUsable t e

-- every entry of every processor's cache can be used in this tree
abbrev pub AllAgree : Tree → List Places → Type 0
AllAgree t cs = (cpu : ℕ) → Agrees t (cache_at cs cpu)
