-- What is seen of a slot map.
use Rattle.std.specs.Prelude.{◌≡◌, ◌⊎◌, ℕ, ◌+◌, ◌-◌, ◌^◌, ◌<◌, ◌≤◌, List, filter, nat_lt, Bool}
use Rattle.std.specs.Prelude.{false, Option, Some, None, IfSome, IsSome, IsTrue}
use Rattle.triple_arena.specs.Content.{Content, empty, entry_at, get, IsWellFormed}
use Rattle.triple_arena.specs.LiveEntries.{live_entries}
use Rattle.triple_arena.specs.Walk.{Walk}
use Rattle.slot_map_c.specs.declared.handle.Handle.{Handle}
use Rattle.slot_map_c.specs.declared.refusal.Refusal.{Refusal}
use Rattle.slot_map_c.specs.declared.refusal.Refusal.TheVariants.{NoMemory, Full, Spent, Short}

-- the entries, and whether each generation was given, so that none is left for a further entry
pub record State : Type 0 where
  pub arena : Content ℕ
  pub is_spent : Bool

-- the greatest generation, which is the greatest number of entries too
abbrev pub greatest : ℕ
greatest = 2 ^ 32 - 1

-- a map without an entry and without a place, which may grow to the greatest number of entries
abbrev pub fresh : State
fresh = record {
  arena = empty 2 (record { reserved = 0; limit = Some greatest });
  is_spent = false;
}

-- it finds nothing, and no later entry gets it
pub record IsPast (s : State) (index generation : ℕ) : Type 0 where
  pub gone : get s.arena index generation ≡ None
  pub past : s.is_spent ≡ false → generation < s.arena.counter

-- while generations are left, no entry has one past that of the next entry
pub record IsSound (s : State) : Type 0 where
  pub formed : IsWellFormed s.arena
  pub limit : s.arena.room.limit ≡ Some greatest
  pub given : s.is_spent ≡ false → (i : ℕ)
      → IfSome (entry_at s.arena i) (λ e. e.0 ≤ s.arena.counter)

-- no generation is left once the counter has stepped
abbrev pub IsAtEnd : State → Type 0
IsAtEnd s = IsTrue s.is_spent ⊎ (s.arena.counter ≡ greatest)

-- the live entries at the indexes past this one, by rising index
abbrev pub entries_after : {T : Type 0} → Content T → ℕ → List (ℕ × (ℕ × T))
entries_after c n = filter (λ e. nat_lt n e.0) (live_entries c)

-- a rising walk has all entries past this index ahead of it, and no other
pub record GoesPast {T : Type 0} (c : Content T) (w : Walk) (n : ℕ) : Type 0 where
  pub rises : w.falls ≡ false
  pub low : w.low ≡ n + 1
  pub reaches : (j : ℕ) → IsSome (entry_at c j) → j ≤ w.high

-- the status that a refusal is told by
abbrev pub status_of : Refusal → ℕ
status_of NoMemory = 1
status_of Full = 2
status_of Spent = 3
status_of Short = 7

-- a handle as its index and its generation
abbrev pub pair_of : Handle → ℕ × ℕ
pair_of h = (h.index, h.generation)
