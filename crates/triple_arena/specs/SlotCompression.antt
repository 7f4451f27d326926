-- How a compression leaves the slots. No public clause cites this module.
use Rattle.std.specs.Prelude.{◌≡◌, ℕ, Bool, false, List, map, Option, Some, None}
use Rattle.std.specs.List.{FoldsTo}
use Rattle.triple_arena.specs.LiveEntries.{listed_from}
use Rattle.triple_arena.specs.Compression.{Move, entry_before, entry_after, renewed, renewal_wraps}

-- the generation that an entry gets: the given one, or else its own one renewed
abbrev pub generation_after : Option ℕ → Bool → Option ℕ → ℕ → ℕ
generation_after last reset (Some given) own = given
generation_after last reset None own = renewed last reset own

-- whether the step of its own generation starts the generations again, where that is the one that
-- it gets
abbrev pub own_wraps : Option ℕ → Bool → Option ℕ → ℕ → Bool
own_wraps last reset (Some given) own = false
own_wraps last reset None own = renewal_wraps last reset own

module _ {P T : Type 0} (index generation : P → ℕ) where
  -- a map was called once at each live slot of `old`, in their order, and `new` has what it gave,
  -- each with the generation of its entry renewed
  pub record Compacts {F : Type 0} (step : F → P → T → P → T → F → Type 0) (f : F) (renew : ℕ → ℕ)
      (old new : List (Option (ℕ × T))) : Type 0 where
    pub moves : List (Move P T)
    pub last : F
    pub calls : FoldsTo (λ g move h. step g move.from move.value move.to move.given h) f moves last
    pub before : map (entry_before index generation) moves ≡ listed_from 1 old
    pub after : map (entry_after index generation) moves ≡ listed_from 1 new
    pub slots : new ≡ map (λ move. Some (renew (generation move.from), move.given)) moves
