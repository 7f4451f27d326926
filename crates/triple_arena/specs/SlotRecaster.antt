-- How a compression that notes the new pointers leaves the slots. No public clause cites this
-- module.
use Rattle.std.specs.Prelude.{◌≡◌, ℕ, List, [], ◌∷◌, ◌++◌, Option}
use Rattle.triple_arena.specs.SlotCompression.{Compacts}

module _ {P : Type 0} (index generation : P → ℕ) where
  -- a call of a map that gives the value as it is, where the new pointer was noted under the old
  -- one
  abbrev pub notes : {T : Type 0} → List (ℕ × (ℕ × P)) → P → T → P → T → List (ℕ × (ℕ × P)) → Type 0
  notes noted from value to given noted' = (given ≡ value)
      × (noted' ≡ noted ++ (index from, (generation from, to)) ∷ [])

  -- the live slots stand in front, each with this generation and its value, and these new pointers
  -- were noted
  pub record CompactsNoting {T : Type 0} (g : ℕ) (old new : List (Option (ℕ × T)))
      (noted : List (ℕ × (ℕ × P))) : Type 0 where
    pub moved : Compacts index generation notes [] (λ _. g) old new
    pub all : moved.last ≡ noted
