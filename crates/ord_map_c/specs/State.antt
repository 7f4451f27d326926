-- What is seen of an ordered map.
use Rattle.std.specs.Prelude.{◌≡◌, ◌⊎◌, ℕ, ◌-◌, ◌^◌, ◌<◌, ◌≤◌, ◌==◌, List, [], Bool, false}
use Rattle.std.specs.Prelude.{Option, Some, None, IfSome, IsTrue, if◌then◌else◌}
use Rattle.std.specs.Int.NonZero.{non_zero_u32_get}
use Rattle.std.specs.declared.cmp.Ordering.{Ordering}
use Rattle.std.specs.declared.cmp.Ordering.TheVariants.{Less, Equal, Greater}
use Rattle.std.specs.declared.num.NonZeroU32.{NonZeroU32}
use Rattle.triple_arena.specs.Entries.{value_if}
use Rattle.triple_arena_ord.specs.Ordered.{Ordered, IsOrdered, entry_in, ordered_entries}
use Rattle.triple_arena_ord.specs.States.{empty_in}
use Rattle.ord_map_c.specs.Entries.{Entry, Pair, KeysRise, first_of, last_of, with_key, from_key}
use Rattle.ord_map_c.specs.Entries.{past_key, below_key, entry, pair}
use Rattle.ord_map_c.specs.declared.handle.Handle.{Handle}
use Rattle.ord_map_c.specs.declared.refusal.Refusal.{Refusal}
use Rattle.ord_map_c.specs.declared.refusal.Refusal.TheVariants.{NoMemory, Full, Spent, NotFound}
use Rattle.ord_map_c.specs.declared.refusal.Refusal.TheVariants.{NoEntry}

abbrev pub Arena : Type 0
Arena = Ordered Pair

-- the entries, and whether each generation was given, so that none is left for a further entry
pub record State : Type 0 where
  pub arena : Arena
  pub is_spent : Bool

-- the entries in the order of their keys
abbrev pub listed : Arena → List Entry
listed o = ordered_entries o

-- the key and the value that a handle finds
abbrev pub pair_in : Arena → ℕ → ℕ → Option Pair
pair_in o index generation = value_if generation (entry_in o index)

-- the entry with a key stands in the arena, under this handle
pub record StandsUnder (o : Arena) (key index generation : ℕ) : Type 0 where
  pub value : ℕ
  pub in_list : with_key (listed o) key ≡ Some (entry index generation key value)
  pub in_arena : entry_in o index ≡ Some (generation, pair key value)

-- the greatest generation, which is the greatest number of entries too
abbrev pub greatest : ℕ
greatest = 2 ^ 32 - 1

-- a map without an entry and without a place, which may grow to the greatest number of entries
abbrev pub fresh : State
fresh = record {
  arena = empty_in 2 (record { reserved = 0; limit = Some greatest });
  is_spent = false;
}

-- it finds nothing, and no later entry gets it
pub record IsPast (s : State) (index generation : ℕ) : Type 0 where
  pub gone : pair_in s.arena index generation ≡ None
  pub past : s.is_spent ≡ false → generation < s.arena.chains.counter

-- the list is that of the search tree, and its keys rise
pub record IsMap (o : Arena) : Type 0 where
  pub ordered : IsOrdered o
  pub rise : KeysRise (listed o)

-- while generations are left, no entry has one past that of the next entry
pub record IsSound (s : State) : Type 0 where
  pub map : IsMap s.arena
  pub limit : s.arena.chains.room.limit ≡ Some greatest
  pub given : s.is_spent ≡ false → (i : ℕ)
      → IfSome (entry_in s.arena i) (λ e. e.0 ≤ s.arena.chains.counter)

-- no generation is left once the counter has stepped
abbrev pub IsAtEnd : State → Type 0
IsAtEnd s = IsTrue s.is_spent ⊎ (s.arena.chains.counter ≡ greatest)

-- the entry with this key, or else the neighbor of its place on that side
abbrev pub nearest_in : Ordering → List Entry → ℕ → Option Entry
nearest_in Less l key = first_of (past_key l key)
nearest_in Equal l key = with_key l key
nearest_in Greater l key = last_of (below_key l key)

-- the same by a number: 0 for the entry, 1 for the one behind the place, 2 for the one before it
abbrev pub nearest_by : ℕ → List Entry → ℕ → Option Entry
nearest_by side l key =
    if side == 0 then with_key l key
    else if side == 1 then first_of (past_key l key)
    else last_of (below_key l key)

-- the entry before or behind that with this key
abbrev pub beside_in : Bool → List Entry → ℕ → Option Entry
beside_in back l key = if back then last_of (below_key l key) else first_of (past_key l key)

-- the same of the entry that has this pair, if there is one
abbrev pub beside_of : Bool → List Entry → Option Pair → Option Entry
beside_of back l None = None
beside_of back l (Some t) = beside_in back l t.k

-- the entries from that which a handle finds on; from zeros on, all
abbrev pub rest_in : Arena → ℕ → ℕ → List Entry
rest_in o index generation =
    if index == 0 then listed o else from_pair (listed o) (pair_in o index generation)
  where
    from_pair : List Entry → Option Pair → List Entry
    from_pair l None = []
    from_pair l (Some t) = from_key l t.k

-- the status that a refusal is told by
abbrev pub status_of : Refusal → ℕ
status_of NoMemory = 1
status_of Full = 2
status_of Spent = 3
status_of NotFound = 4
status_of NoEntry = 7

-- a handle as its index and its generation
abbrev pub pair_of : Handle → ℕ × ℕ
pair_of h = (h.index, h.generation)
