-- What a contract sees of a stack on the heap.
use Rattle.std.specs.Prelude.{ℕ, List, refl}
use Rattle.std.specs.Coded.{Coded, code_by, coded×, coded_ℕ, coded_list}

-- the items, and the slots that are reserved
pub record Heap (T : Type 0) : Type 0 where
  pub items : List T
  pub reserved : ℕ

-- it is stored as the pair of its fields
abbrev pub heap_code : {T : Type 0} → Coded T → Coded (Heap T)
heap_code {T} code =
    code_by (List T × ℕ) (coded× (coded_list code) coded_ℕ)
    (λ h. (h.items, h.reserved))
    (λ p. record { items = p.0; reserved = p.1 })
    (λ _. refl)

-- the stack with other items
abbrev pub with_items : {T : Type 0} → Heap T → List T → Heap T
with_items h xs = record { items = xs; reserved = h.reserved }
