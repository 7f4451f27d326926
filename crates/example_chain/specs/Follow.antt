-- Pointers that follow their entries through a compression.
use Rattle.std.specs.Prelude.{◌≡◌, ◌≢◌, ℕ, Option, Some, None, IsSome, IfSome}
use Rattle.std.specs.Option.{option_map}
use Rattle.triple_arena.specs.Entries.{value_if}

module _ {P T : Type 0} (before after : P → Option T) where
  -- what became of a pointer, if there is one: one that finds the same after, or none where it
  -- found nothing
  abbrev pub IsFollowed : Option P → Option P → Type 0
  IsFollowed None q = q ≡ None
  IsFollowed (Some p) None = before p ≡ None
  IsFollowed (Some p) (Some q) = IsSome (before p) × (after q ≡ before p)

module _ {P M : Type 0} (was : M → P) (index generation : P → ℕ)
    (entries : ℕ → Option (ℕ × M)) where
  -- the pointer to an entry that has this old pointer, or none where no entry has it
  abbrev pub IsNamed : P → Option P → Type 0
  IsNamed p None = (j : ℕ) → IfSome (entries j) (λ e. was e.1 ≢ p)
  IsNamed p (Some q) = option_map was (value_if (generation q) (entries (index q))) ≡ Some p

  -- the same of a pointer, if there is one
  abbrev pub IsNamedBy : Option P → Option P → Type 0
  IsNamedBy None q = q ≡ None
  IsNamedBy (Some p) q = IsNamed p q

module _ {P M V : Type 0} (index generation : P → ℕ) (was : M → P) (value : M → V) where
  -- an entry that moved: the new one has the pointer of the old one, and its value
  abbrev pub Keeps : ℕ × (ℕ × M) → ℕ × (ℕ × M) → Type 0
  Keeps old new = (index (was new.1.1) ≡ old.0) × (generation (was new.1.1) ≡ old.1.0)
      × (value new.1.1 ≡ value old.1.1)
