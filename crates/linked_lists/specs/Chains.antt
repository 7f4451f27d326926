-- The chains that interlinks make, as lists, and what each change of interlinks makes of them.
use Rattle.std.specs.Prelude.{◌≡◌, ◌≢◌, ℕ, ◌≤◌, List, [], ◌∷◌, ◌++◌, Option, Some, None, IsSome}
use Rattle.linked_lists.specs.LinkedLists.{Ends, first_or, last_or, Off, On, Apart, IsLinear}
use Rattle.linked_lists.specs.LinkedLists.{IsRing}

-- a chain as a list of indexes: a linear one from its start to its end, or a ring from one of its
-- indexes once round
pub data Chain : Type 0 where
  Linear : List ℕ → Chain
  Cyclic : List ℕ → Chain

abbrev pub members : Chain → List ℕ
members (Linear xs) = xs
members (Cyclic xs) = xs

-- interlinks make this chain
abbrev pub IsChainOf : (ℕ → Option Ends) → Chain → Type 0
IsChainOf ends (Linear xs) = IsLinear ends xs
IsChainOf ends (Cyclic xs) = IsRing ends xs

-- the indexes of all these chains
abbrev pub all_members : List Chain → List ℕ
all_members [] = []
all_members (c ∷ cs) = members c ++ all_members cs

-- how a chain is written: it has an index, and a ring is read from its least one
abbrev pub IsWritten : Chain → Type 0
IsWritten (Linear xs) = xs ≢ []
IsWritten (Cyclic xs) = (first : ℕ) × (first_or xs None ≡ Some first)
    × ((k : ℕ) → On xs k → first ≤ k)

-- each of these is a chain of the interlinks
abbrev pub AreAllChainsOf : (ℕ → Option Ends) → List Chain → Type 0
AreAllChainsOf ends [] = Unit {0}
AreAllChainsOf ends (c ∷ cs) = (IsChainOf ends c × IsWritten c) × AreAllChainsOf ends cs

-- these are the chains of the interlinks: each live index stands in one of them, once
pub record AreChains (ends : ℕ → Option Ends) (cs : List Chain) : Type 0 where
  pub chains : AreAllChainsOf ends cs
  pub once : Apart (all_members cs)
  pub whole : (i : ℕ) → IsSome (ends i) → On (all_members cs) i

-- an index that is not there, or is not on a list
abbrev pub IsOffIf : List ℕ → Option ℕ → Type 0
IsOffIf xs None = Unit {0}
IsOffIf xs (Some i) = Off xs i

-- `q` was made the next of `p`, which was an end, as `q` was a start
pub record IsAppended (p q : ℕ) (old new : ℕ → Option Ends) : Type 0 where
  -- the chain that ended with `p` goes on with the one that began with `q`
  pub appended : (before after : List ℕ) → IsLinear old (before ++ p ∷ [])
      → IsLinear old (q ∷ after) → before ++ p ∷ [] ≢ q ∷ after
      → IsLinear new (before ++ p ∷ q ∷ after)
  -- where they were one chain it is a ring
  pub closed : (xs before after : List ℕ) → IsLinear old xs → xs ≡ before ++ p ∷ [] → xs ≡ q ∷ after
      → IsRing new xs
  -- each other chain is as it was
  pub others : (c : Chain) → IsChainOf old c → Off (members c) p → Off (members c) q
      → IsChainOf new c

-- `q` is no longer the next of `p`
pub record IsSplit (p q : ℕ) (old new : ℕ → Option Ends) : Type 0 where
  -- a linear chain ends with `p`, and another one begins with `q`
  pub split : (before after : List ℕ) → IsLinear old (before ++ p ∷ q ∷ after)
      → IsLinear new (before ++ p ∷ []) × IsLinear new (q ∷ after)
  -- a ring is linear from `q` on
  pub opened : (after : List ℕ) → IsRing old (q ∷ after) → IsLinear new (q ∷ after)
  -- each other chain is as it was
  pub others : (c : Chain) → IsChainOf old c → Off (members c) p → Off (members c) q
      → IsChainOf new c

-- one more index stands in a gap: behind the first of these, if any, and before the second, if any
pub record IsPutIn (gap : Ends) (n : ℕ) (old new : ℕ → Option Ends) : Type 0 where
  -- between two parts of a linear chain, of which either may be empty
  pub inside : (before after : List ℕ) → last_or None before ≡ gap.0 → first_or after None ≡ gap.1
      → IsLinear old (before ++ after)
      → IsLinear new (before ++ n ∷ after)
  -- between the end of a linear chain and the start of another one
  pub bridged : (before after : List ℕ) → last_or None before ≡ gap.0 → first_or after None ≡ gap.1
      → IsLinear old before → IsLinear old after
      → before ≢ after → IsLinear new (before ++ n ∷ after)
  -- between the end and the start of one linear chain, which is a ring then
  pub closed : (q : ℕ) (after : List ℕ) → last_or (Some q) after ≡ gap.0 → Some q ≡ gap.1
      → IsLinear old (q ∷ after) → IsRing new (n ∷ q ∷ after)
  -- between two neighbors in a ring
  pub in_ring : (q : ℕ) (after : List ℕ) → last_or (Some q) after ≡ gap.0 → Some q ≡ gap.1
      → IsRing old (q ∷ after) → IsRing new (n ∷ q ∷ after)
  -- each chain that has none of the two is as it was
  pub others : (c : Chain) → IsChainOf old c → IsOffIf (members c) gap.0 → IsOffIf (members c) gap.1
      → IsChainOf new c

-- one more index is a ring of its own
pub record IsOwnRing (n : ℕ) (old new : ℕ → Option Ends) : Type 0 where
  pub alone : IsRing new (n ∷ [])
  -- each other chain is as it was
  pub others : (c : Chain) → IsChainOf old c → IsChainOf new c

-- an index was taken out of its chain
pub record IsTaken (i : ℕ) (old new : ℕ → Option Ends) : Type 0 where
  -- a linear chain is there without it
  pub from_linear : (before after : List ℕ) → IsLinear old (before ++ i ∷ after)
      → IsLinear new (before ++ after)
  -- a ring too
  pub from_ring : (rest : List ℕ) → IsRing old (i ∷ rest) → IsRing new rest
  -- it is in no chain
  pub gone : new i ≡ None
  -- each other chain is as it was
  pub others : (c : Chain) → IsChainOf old c → Off (members c) i → IsChainOf new c

-- `p` has the next that `q` had
pub record IsTurned (p q : ℕ) (old new : ℕ → Option Ends) : Type 0 where
  -- of two linear chains `p` goes on with what followed `q`
  pub tails : (before after before' after' : List ℕ) → IsLinear old (before ++ p ∷ after)
      → IsLinear old (before' ++ q ∷ after')
      → before ++ p ∷ after ≢ before' ++ q ∷ after' → IsLinear new (before ++ p ∷ after')
  -- what stood between them in a linear chain, with `q`, is a ring, and the chain is there without
  -- it
  pub cut_out : (before between after : List ℕ)
      → IsLinear old (before ++ (p ∷ between ++ q ∷ after))
      → IsLinear new (before ++ p ∷ after) × IsRing new (between ++ q ∷ [])
  -- a ring is two: from `p` on what followed `q`, and what followed `p` up to `q`
  pub parted : (between after : List ℕ) → IsRing old (p ∷ between ++ q ∷ after)
      → IsRing new (p ∷ after) × IsRing new (between ++ q ∷ [])
  -- two rings are one
  pub merged : (rest rest' : List ℕ) → IsRing old (p ∷ rest) → IsRing old (q ∷ rest')
      → Off (p ∷ rest) q → IsRing new (p ∷ rest' ++ q ∷ rest)
  -- the ring of `q` is in the linear chain of `p`, behind it
  pub taken_in : (before after rest' : List ℕ) → IsLinear old (before ++ p ∷ after)
      → IsRing old (q ∷ rest')
      → IsLinear new (before ++ (p ∷ rest' ++ q ∷ after))

-- `p` and `q` have exchanged their nexts
pub record IsExchanged (p q : ℕ) (old new : ℕ → Option Ends) : Type 0 where
  pub first : p ≢ q → IsTurned p q old new
  pub second : p ≢ q → IsTurned q p old new
  -- one with itself: all is as it was
  pub itself : p ≡ q → (c : Chain) → IsChainOf old c → IsChainOf new c
  -- each other chain is as it was
  pub others : (c : Chain) → IsChainOf old c → Off (members c) p → Off (members c) q
      → IsChainOf new c
