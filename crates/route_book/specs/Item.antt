-- What a contract sees of stops and marks. A pointer is its index and its generation.
use Rattle.std.specs.Prelude.{ℕ, Option, Some, None}
use Rattle.std.specs.Option.{option_map}
use Rattle.route_book.specs.declared.items.Ref.{Ref}
use Rattle.route_book.specs.declared.items.Ref.TheVariants.{To, Gone}

-- a stop: its ticket, and the pointer to its place
pub record StopView : Type 0 where
  pub ticket : ℕ
  pub place : Option (ℕ × ℕ)

-- a mark: its ticket, and the pointers to its place and its stop
pub record MarkView : Type 0 where
  pub ticket : ℕ
  pub place : Option (ℕ × ℕ)
  pub stop : Option (ℕ × ℕ)

-- the pointer of a reference, if there is one
abbrev pub pointer_of : {P : Type 0} → Ref P → Option P
pointer_of (To p) = Some p
pointer_of Gone = None

-- the index and the generation of that pointer
abbrev pub reference_of : {P : Type 0} → (P → ℕ) → (P → ℕ) → Ref P → Option (ℕ × ℕ)
reference_of index generation to = option_map (λ p. (index p, generation p)) (pointer_of to)
