-- What a contract sees of a stack whose limit can be set.
use Rattle.std.specs.Prelude.{ℕ, List, Option, Some, refl}
use Rattle.std.specs.Coded.{Coded, code_by, coded×, coded_ℕ, coded_list, coded_option}

-- the items, the slots that are reserved, and the limit, if one was set
pub record Limited (T : Type 0) : Type 0 where
  pub items : List T
  pub reserved : ℕ
  pub limit : Option ℕ

-- it is stored as the tuple of its fields
abbrev pub limited_code : {T : Type 0} → Coded T → Coded (Limited T)
limited_code {T} code =
    code_by (List T × (ℕ × Option ℕ))
    (coded× (coded_list code) (coded× coded_ℕ (coded_option coded_ℕ)))
    (λ s. (s.items, (s.reserved, s.limit)))
    (λ p. record { items = p.0; reserved = p.1.0; limit = p.1.1 })
    (λ _. refl)

-- the stack with other items
abbrev pub with_items : {T : Type 0} → Limited T → List T → Limited T
with_items s xs = record { items = xs; reserved = s.reserved; limit = s.limit }

-- the stack with this limit
abbrev pub with_limit : {T : Type 0} → Limited T → ℕ → Limited T
with_limit s n = record { items = s.items; reserved = s.reserved; limit = Some n }
