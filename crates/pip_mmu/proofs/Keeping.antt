-- A fetch from the page that a cache keeps.
use Rattle.std.proofs.Common.{◌≡◌, ℕ, ◌/◌, ◌%◌, ◌==◌, true, not, if◌then◌else◌, refl, sym, ap, ap₂, Some, None}
use Rattle.std.specs.Prelude.{Ok, option_map, slice_index_or}
use Rattle.pip_base.specs.declared.types.Access.TheVariants.{Fetch}
use Rattle.pip_base.specs.declared.types.Size.TheVariants.{Word}
use Rattle.pip_entry.specs.declared.leaf.Leaf.TheVariants.{Page}
use Rattle.pip_model.specs.Cache.{Agrees, Places, holding, page_and_rights}
use Rattle.pip_model.specs.Reach.{Faulted, Place, Right, reach}
use Rattle.pip_model.specs.Tree.{Node, Tree, find_node, vpage}
use Rattle.pip_mmu.specs.Answers.{place_answer}
use Rattle.pip_mmu.specs.Leaves.{through_leaf}
use Rattle.pip_mmu.proofs.Caching.{hit_leaf}
use Rattle.pip_mmu.proofs.Leaves.{reach_by_leaf}
use Rattle.pip_mmu.proofs.Places.{placed}
use Rattle.pip_tlb.specs.Kept.{MayFetch}

-- where the cache agrees, it reaches that page
pub kept_reached : (t : Tree) (c : Places) (part pc page : ℕ) (x : Node) → find_node t part ≡ Some x → Agrees t c
    → MayFetch c.at part (vpage pc) page → pc % 4 ≡ 0
    → Ok (page, pc % 4096 / 4) ≡ place_answer (reach t part pc Fetch Word)
kept_reached t c part pc page x found agrees may aligned =
    let v = vpage pc in
    let held : Some (may.entry.page, may.entry.rights) ≡ option_map page_and_rights (holding c part v) =
    ap (option_map page_and_rights) (sym may.held) in
    let leads : Place page (pc % 4096 / 4) ≡ through_leaf pc Fetch (Page may.entry.page true may.entry.rights) =
    ap₂ (λ f n. if not (n == 4) then Faulted Right else Place f (pc % 4096 / 4)) (sym may.leads) (sym may.right) in
    placed t part pc Word Fetch (Place page (pc % 4096 / 4)) (ap (λ n. not (n == 0)) aligned)
    (reach_by_leaf t part pc v x Fetch (Page may.entry.page true may.entry.rights) (Place page (pc % 4096 / 4)) found
    refl
    (hit_leaf t part v x found (slice_index_or c.at (v % 64) None) may.entry.page may.entry.rights
    (agrees (v % 64)) held) leads)
