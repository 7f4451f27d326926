-- A gap: where one more index may stand, and what it makes of the interlinks and the chains there.
use Rattle.std.specs.Prelude.{ℕ, Option, Some}
use Rattle.linked_lists.specs.LinkedLists.{Ends, IsBetween, put_between, added}
use Rattle.linked_lists.specs.Chains.{IsPutIn, IsOwnRing}
use Rattle.triple_arena_chain.specs.declared.gap.Gap.{Gap}
use Rattle.triple_arena_chain.specs.declared.gap.Gap.TheVariants.{Between, OwnRing}

-- one more index may stand at this gap
abbrev pub IsGap : (ℕ → Option Ends) → Gap ℕ → Type 0
IsGap ends (Between before after) = IsBetween ends (before, after)
IsGap ends OwnRing = Unit {0}

-- the interlinks with one more index at this gap
abbrev pub put_in : (ℕ → Option Ends) → ℕ → Gap ℕ → ℕ → Option Ends
put_in ends n (Between before after) = put_between ends n (before, after)
put_in ends n OwnRing = added ends n (Some n, Some n)

-- one more index stands at a gap
abbrev pub IsPutAt : Gap ℕ → ℕ → (ℕ → Option Ends) → (ℕ → Option Ends) → Type 0
IsPutAt (Between before after) n old new = IsPutIn (before, after) n old new
IsPutAt OwnRing n old new = IsOwnRing n old new
