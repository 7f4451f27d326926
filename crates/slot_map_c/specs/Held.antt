-- What a holder keeps and owns: a box of the map, or nothing.
use Rattle.std.specs.Prelude.{Option, Some, None, Bool, true, false, ℕ, Box}
use Rattle.std.specs.Option.{option_map}
use base.Fml.{Fml, ftrue, ffalse}
use denote.RawPtr.{Ptr}
use Rattle.std.specs.Box.Ownership.{box_owns}
use Rattle.std.specs.Global.{Global}
use Rattle.std_heap.specs.contracts.GlobalAllocator.TheImpl.{ghosts}
use Rattle.raw_box.specs.declared.RawBox.{RawBox}
use Rattle.triple_arena.specs.Content.{get, live_count}
use Rattle.slot_map_c.specs.State.{IsPast}
use Rattle.slot_map_c.specs.contracts.slot_map.SlotMap.{the_row}

abbrev pub Kept : Type 0
Kept = Option the_row.Denot

abbrev pub raw_kept : Option (RawBox the_row.Denot Global) → Kept
raw_kept r = option_map (λ b. b.value) r

abbrev pub box_kept : Option (Box the_row.Denot Global) → Kept
box_kept r = option_map (λ b. b.value) r

-- the holder that is made owns its map, and the memory that this stands in; another owns nothing
abbrev pub held : Bool → Ptr → Kept → Fml
held true p (Some x)
    = box_owns (ghosts.dealloc_token (record { memory = record { seal = tt } })) the_row p x
held true p None = ffalse
held false p (Some x) = ffalse
held false p None = ftrue

-- a map is kept, and this holds of it
abbrev pub OnKept : Kept → (the_row.Denot → Type 0) → Type 0
OnKept (Some m) F = F m
OnKept None F = ⊥

-- the value that a handle finds; if no map is kept, none
abbrev pub value_at : Kept → ℕ → ℕ → Option ℕ
value_at (Some m) index generation = get m.arena index generation
value_at None index generation = None

-- how many entries there are; if no map is kept, none
abbrev pub count : Kept → ℕ
count (Some m) = live_count m.arena
count None = 0

-- a map is kept in which the handle finds nothing, and no later entry gets it
abbrev pub HasEnded : Kept → ℕ → ℕ → Type 0
HasEnded (Some m) index generation = IsPast m index generation
HasEnded None index generation = ⊥

-- whether each generation was given, so that no entry can be stored any more
abbrev pub spent : Kept → Bool
spent (Some m) = m.is_spent
spent None = false
