-- What a place holds is kept for fetches.
use Rattle.std.specs.Prelude.{◌≡◌, ℕ, ◌*◌, ◌%◌, ◌==◌, true, List, Option, Some, None, bit_and, slice_index_or}
use Rattle.std.proofs.Common.{refl, sym, ◌∙◌, eqb-true}
use Rattle.std.proofs.lemmas.Nat.{and_comm}
use Rattle.pip_base.specs.Rights.{rights_number}
use Rattle.pip_model.specs.Cache.{of_page}
use Rattle.pip_model.specs.declared.cached.Entry.{Entry}
use Rattle.pip_tlb.specs.Kept.{IsKeptForFetches}

-- an entry of the place of v that its partition may execute
pub kept : (places : List (Option Entry)) (part v n : ℕ) (e : Entry) → n ≡ v
    → Some e ≡ of_page part v (slice_index_or places (v % 64) None)
    → true ≡ (bit_and (rights_number e.rights) 4 == 4) → IsKeptForFetches places part (4096 * n) e.page
kept places part v n e same held right = record {
  vpage = n;
  begins = refl;
  fetches = record {
    entry = e;
    held = (λ i. of_page part (same i) (slice_index_or places (same i % 64) None)) ∙ sym held;
    leads = refl;
    right = and_comm 4 (rights_number e.rights) ∙ eqb-true (bit_and (rights_number e.rights) 4) 4 (sym right);
  };
}
