-- The names of the program as a function.
use Rattle.std.specs.Prelude.{◌≡◌, ℕ, zero, suc, ◌+◌, ◌*◌, ◌-◌, ◌/◌, ◌%◌, ◌^◌, ◌<◌, ◌≤◌, ◌==◌, ◌&&◌, ◌||◌}
use Rattle.std.specs.Prelude.{if◌then◌else◌, Bool, true, false, List, [], ◌∷◌, Option, Some, None, bit_xor, is_some}
use Rattle.std.specs.Prelude.{length, slice_get}
use Rattle.std.specs.BTreeMap.{BTreeMap, get_by}
use Rattle.std.specs.Cmp.Lexicographic.{slice_cmp}
use Rattle.std.specs.Ordering.{nat_cmp}
use Rattle.std.specs.Str.{bytes_eq}
use denote.Ref.{Bor}
use Rattle.pip_model.specs.declared.assembly.AsmKind.TheVariants.{Twice}
use Rattle.pip_asm.specs.declared.names.Addresses.{Addresses}
use Rattle.pip_asm.specs.declared.names.NameSlot.{NameSlot}
use Rattle.pip_asm.specs.declared.reading.AsmLineError.{AsmLineError}
use Rattle.pip_asm.specs.declared.reading.AsmLineError.TheVariants as S

-- the hash of a name, from a number on: each byte is mixed in
unfoldable pub hash_on : ℕ → List ℕ → ℕ
hash_on hash [] = hash
hash_on hash (b ∷ bs) = hash_on ((bit_xor hash b * 0x9e3779b97f4a7c15) % 2 ^ 64) bs

-- the mark of a hash, which isn't 0
unfoldable pub mark_of : ℕ → ℕ
mark_of hash = hash / 2 ^ 33 + 1

-- where the eight places of a hash begin
unfoldable pub home_of : List NameSlot → ℕ → ℕ
home_of slots hash = hash % (length slots - 8)

-- a place has this name, whose mark is this
abbrev pub is_name_at : ℕ → List ℕ → NameSlot → Bool
is_name_at mark t s = (s.mark == mark) && bytes_eq s.name.now t

-- the address at a place, where it has this name
abbrev pub address_at : ℕ → List ℕ → Option NameSlot → Option ℕ
address_at mark t None = None
address_at mark t (Some s) = if is_name_at mark t s then Some s.address else None

-- the first of two, where it is there
abbrev pub first_there : Option ℕ → Option ℕ → Option ℕ
first_there None b = b
first_there (Some x) b = Some x

-- the address of a name in some places from one on
unfoldable pub found_in : List NameSlot → ℕ → List ℕ → ℕ → ℕ → Option ℕ
found_in slots mark t i zero = None
found_in slots mark t i (suc n) = first_there (address_at mark t (slice_get slots i)) (found_in slots mark t (i + 1) n)

-- a place is free
abbrev pub is_free : Option NameSlot → Bool
is_free None = false
is_free (Some s) = s.mark == 0

-- one of some places from one on is free
unfoldable pub has_free : List NameSlot → ℕ → ℕ → Bool
has_free slots i zero = false
has_free slots i (suc n) = is_free (slice_get slots i) || has_free slots (i + 1) n

-- a free one of the eight places from one on; or none, where none is free
abbrev pub IsFreePlace : List NameSlot → ℕ → Option ℕ → Type 0
IsFreePlace slots home None = has_free slots home 8 ≡ false
IsFreePlace slots home (Some k) = (home ≤ k) × (k < home + 8) × (is_free (slice_get slots k) ≡ true)

-- the address of a name in its places of the table
abbrev pub in_table : Addresses → List ℕ → Option ℕ
in_table n t = let hash = hash_on n.seed t in found_in n.slots.items (mark_of hash) t (home_of n.slots.items hash) 8

-- one of its places is free
abbrev pub has_room : Addresses → List ℕ → Bool
has_room n t = has_free n.slots.items (home_of n.slots.items (hash_on n.seed t)) 8

-- its address in the map
abbrev pub in_map : BTreeMap (Bor (List ℕ)) ℕ → List ℕ → Option ℕ
in_map m t = get_by (λ k. slice_cmp nat_cmp t k.now) m

-- the address of each name
unfoldable pub address_of_name : Addresses → List ℕ → Option ℕ
address_of_name n t = first_there (in_table n t) (in_map n.others t)

-- the table has a place, and the map no name that has room in the table
pub record IsKept (n : Addresses) : Type 0 where
  pub room : 8 < length n.slots.items
  pub others : (t : List ℕ) → has_room n t ≡ true → in_map n.others t ≡ None

-- a name isn't taken: it has an address, or no memory is left
abbrev pub IsTwice : Option ℕ → AsmLineError → Type 0
IsTwice address (S.Kind k) = (is_some address ≡ true) × (k ≡ Twice)
IsTwice address S.Memory = Unit {0}
