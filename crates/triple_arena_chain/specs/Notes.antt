-- Links that are brought to their places, one after another. The next index of a link that is
-- placed is a new one, and its previous index is a note: it says where the link went that was
-- there. All others have the interlinks that they had.
use Rattle.std.specs.Prelude.{◌≡◌, ◌≢◌, ℕ, zero, suc, ◌+◌, ◌<◌, ◌≤◌, ◌⊎◌, [], Option, Some, None}
use Rattle.std.specs.Prelude.{is_some, IsSome, nat_le, if◌then◌else◌}
use Rattle.triple_arena.specs.Content.{Content, IsWellFormed}
use Rattle.triple_arena_chain.specs.LinkShape.{IndexLink}
use Rattle.linked_lists.specs.LinkedLists.{Ends, next_at, prev_at, with_prev, with_next_if}
use Rattle.triple_arena_chain.specs.Links.{ends_in, values_in, IsKept, IsChained}
use Rattle.triple_arena_chain.specs.CanonicalLayout.{IsHead, IsAlike, AreGathered, swapped_index}

-- so many notes of indexes up to `placed` lead from one index to another one
abbrev pub LeadsTo : (ℕ → Option Ends) → ℕ → ℕ → ℕ → ℕ → Type 0
LeadsTo e placed zero i k = (placed < i) × (i ≡ k)
LeadsTo e placed (suc n) i k = (j : ℕ) × (i ≤ placed) × (i < j) × (prev_at e i ≡ Some j)
    × LeadsTo e placed n j k

-- the notes lead from one index to another one
pub record IsLed (e : ℕ → Option Ends) (placed i k : ℕ) : Type 0 where
  pub steps : ℕ
  pub leads : LeadsTo e placed steps i k

-- the notes lead somewhere
abbrev pub IsLedOn : (ℕ → Option Ends) → ℕ → ℕ → Type 0
IsLedOn e placed i = (k : ℕ) × IsLed e placed i k

-- the indexes up to `n` are live, and each next is one further, or not past the link that has it
pub record IsRejoinable (e : ℕ → Option Ends) (n : ℕ) : Type 0 where
  pub live : (k : ℕ) → 1 ≤ k → k ≤ n → IsSome (e k)
  pub within : (k : ℕ) → IsSome (e k) → k ≤ n
  pub next : (p q : ℕ) → next_at e p ≡ Some q → (q ≡ p + 1) ⊎ (q ≤ p)
  pub named : (p q : ℕ) → next_at e p ≡ Some q → IsSome (e q)
  pub apart : (p q r : ℕ) → next_at e p ≡ Some r → next_at e q ≡ Some r → p ≡ q

module _ {T : Type 0} where
  -- the link at `at` changed places with the one at `place`, which is the next of `last` now and
  -- notes where that one went
  pub record IsBrought (last : Option ℕ) (at place : ℕ) (old new : Content (IndexLink T))
      : Type 0 where
    pub ends : (k : ℕ) → ends_in new k
        ≡ with_prev (λ i. with_next_if (ends_in old) last (Some place)
        (swapped_index at place i)) place (Some at) k
    pub values : (k : ℕ) → values_in new k ≡ values_in old (swapped_index at place k)
    pub kept : IsKept old new
    pub formed : IsWellFormed new

  -- the links up to `placed` have the next indexes that they have in `laid`, but for the one at
  -- `last`. The others have the interlinks that they had in `old`, and the notes lead to each of
  -- them. All have their values
  pub record AreNoted (placed last : ℕ) (to : ℕ → ℕ) (old : Content (IndexLink T))
      (laid : ℕ → Option Ends) (now : Content (IndexLink T)) : Type 0 where
    pub live : (k : ℕ) → is_some (ends_in now k) ≡ is_some (laid k)
    pub values : (x : ℕ) → IsSome (ends_in old x) → values_in now (to x) ≡ values_in old x
    pub kept : IsKept old now
    pub formed : IsWellFormed now
    pub ahead : (x : ℕ) → IsSome (ends_in old x) → placed < to x
        → ends_in now (to x) ≡ ends_in old x
    pub raw : (x : ℕ) → IsSome (ends_in old x) → to x ≡ last
        → next_at (ends_in now) last ≡ next_at (ends_in old) x
    pub done : (k : ℕ) → k ≤ placed → k ≢ last → next_at (ends_in now) k ≡ next_at laid k
    pub led : (x : ℕ) → IsSome (ends_in old x) → placed < to x
        → IsLed (ends_in now) placed x (to x)

  -- the chains up to `placed` are whole
  pub record AreLaid (placed : ℕ) (old : Content (IndexLink T)) (laid : ℕ → Option Ends)
      (now : Content (IndexLink T)) : Type 0 where
    pub chained : IsChained old
    pub full : old.free ≡ []
    pub alike : IsAlike now
    pub to : ℕ → ℕ
    pub gathered : AreGathered placed to (ends_in old) laid
    pub noted : AreNoted placed 0 to old laid now

  pub record HavePlaces (placed : ℕ) (old now : Content (IndexLink T)) : Type 0 where
    pub laid : ℕ → Option Ends
    pub are : AreLaid placed old laid now

  pub record IsGathering (placed : ℕ) (now : Content (IndexLink T)) : Type 0 where
    pub old : Content (IndexLink T)
    pub have : HavePlaces placed old now

  -- a chain begins at this index, where the one behind `placed` stands in it. Of a ring, `round` is
  -- the old name of that one
  pub record IsStart (placed h : ℕ) (round : Option ℕ) (to : ℕ → ℕ) (old : Content (IndexLink T))
      (laid : ℕ → Option Ends) : Type 0 where
    pub live : IsSome (laid h)
    pub head : IsHead laid h
    pub past : placed < h
    pub own : IsHead laid (placed + 1) → h ≡ placed + 1
    pub line : round ≡ None → prev_at laid h ≡ None
    pub ring : (x : ℕ) → round ≡ Some x → (h ≡ placed + 1)
        × (IsSome (ends_in old x) × (to x ≡ placed + 1))

  -- the same, whatever the links were
  abbrev pub StartsAt : ℕ → ℕ → Option ℕ → Content (IndexLink T) → Type 0
  StartsAt placed h round now =
      (old : Content (IndexLink T)) (laid : ℕ → Option Ends) (a : AreLaid placed old laid now)
      → IsStart placed h round a.to old laid

  -- the chains up to another index are whole, whatever the links were
  abbrev pub GathersUpTo : ℕ → ℕ → Content (IndexLink T) → Content (IndexLink T) → Type 0
  GathersUpTo first placed before after = (old : Content (IndexLink T))
      → HavePlaces first old before → HavePlaces placed old after

-- an index, if it is one of those up to `n`
abbrev pub up_to : ℕ → Option ℕ → Option ℕ
up_to n None = None
up_to n (Some q) = if nat_le q n then Some q else None

-- this index, where the next one is past `n`
abbrev pub before_past : ℕ → ℕ → Option ℕ → Option ℕ
before_past n i None = None
before_past n i (Some q) = if nat_le q n then None else Some i
