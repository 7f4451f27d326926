-- What a holder keeps and owns: a box of the map, or nothing.
use Rattle.std.specs.Prelude.{Option, Some, None, Bool, true, false, ℕ, Box, List, []}
use Rattle.std.specs.Option.{option_map}
use base.Fml.{Fml, ftrue, ffalse}
use denote.RawPtr.{Ptr}
use Rattle.std.specs.Box.Ownership.{box_owns}
use Rattle.std.specs.Global.{Global}
use Rattle.std_heap.specs.contracts.GlobalAllocator.TheImpl.{ghosts}
use Rattle.raw_box.specs.declared.RawBox.{RawBox}
use Rattle.triple_arena_ord.specs.Ordered.{size_in}
use Rattle.ord_map_c.specs.Entries.{Entry, Pair}
use Rattle.ord_map_c.specs.State.{IsPast, beside_of, listed, pair_in, rest_in}
use Rattle.ord_map_c.specs.contracts.ord_map.OrdMap.{the_row}

abbrev pub Kept : Type 0
Kept = Option the_row.Denot

abbrev pub raw_kept : Option (RawBox the_row.Denot Global) → Kept
raw_kept r = option_map (λ b. b.value) r

abbrev pub box_kept : Option (Box the_row.Denot Global) → Kept
box_kept r = option_map (λ b. b.value) r

-- the holder that is made owns its map, and the memory that this stands in; another owns nothing
abbrev pub held : Bool → Ptr → Kept → Fml
held true p (Some x)
    = box_owns (ghosts.dealloc_token (record { memory = record { seal = tt } })) the_row p x
held true p None = ffalse
held false p (Some x) = ffalse
held false p None = ftrue

-- a map is kept, and this holds of it
abbrev pub OnKept : Kept → (the_row.Denot → Type 0) → Type 0
OnKept (Some m) F = F m
OnKept None F = ⊥

-- the entries in the order of their keys; if no map is kept, none
abbrev pub entries : Kept → List Entry
entries (Some m) = listed m.arena
entries None = []

-- the key and the value that a handle finds; if no map is kept, none
abbrev pub pair_at : Kept → ℕ → ℕ → Option Pair
pair_at (Some m) index generation = pair_in m.arena index generation
pair_at None index generation = None

-- the entry behind that which a handle finds, and the one before it
abbrev pub next_at : Kept → ℕ → ℕ → Option Entry
next_at (Some m) index generation
    = beside_of false (listed m.arena) (pair_in m.arena index generation)
next_at None index generation = None

abbrev pub previous_at : Kept → ℕ → ℕ → Option Entry
previous_at (Some m) index generation
    = beside_of true (listed m.arena) (pair_in m.arena index generation)
previous_at None index generation = None

-- the entries from that which a handle finds on; from zeros on, all
abbrev pub rest_at : Kept → ℕ → ℕ → List Entry
rest_at (Some m) index generation = rest_in m.arena index generation
rest_at None index generation = []

-- how many entries there are; if no map is kept, none
abbrev pub count : Kept → ℕ
count (Some m) = size_in m.arena
count None = 0

-- a map is kept in which the handle finds nothing, and no later entry gets it
abbrev pub HasEnded : Kept → ℕ → ℕ → Type 0
HasEnded (Some m) index generation = IsPast m index generation
HasEnded None index generation = ⊥

-- whether each generation was given, so that no entry can be stored any more
abbrev pub spent : Kept → Bool
spent (Some m) = m.is_spent
spent None = false
