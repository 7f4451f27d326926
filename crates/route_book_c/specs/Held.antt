-- What a holder keeps and owns: a box of the store, or nothing.
use Rattle.std.specs.Prelude.{Option, Some, None, Bool, true, false, ℕ, Box, length}
use Rattle.std.specs.Option.{option_map}
use base.Fml.{Fml, ftrue, ffalse}
use denote.RawPtr.{Ptr}
use Rattle.std.specs.Box.Ownership.{box_owns}
use Rattle.std.specs.Global.{Global}
use Rattle.std_heap.specs.contracts.GlobalAllocator.TheImpl.{ghosts}
use Rattle.raw_box.specs.declared.RawBox.{RawBox}
use Rattle.route_lines.specs.State.{stop_list}
use Rattle.route_book_c.specs.contracts.store.Store.{the_row}

abbrev pub Kept : Type 0
Kept = Option the_row.Denot

abbrev pub raw_kept : Option (RawBox the_row.Denot Global) → Kept
raw_kept r = option_map (λ b. b.value) r

abbrev pub box_kept : Option (Box the_row.Denot Global) → Kept
box_kept r = option_map (λ b. b.value) r

-- the holder that is made owns its store, and the memory that this stands in; another owns nothing
abbrev pub held : Bool → Ptr → Kept → Fml
held true p (Some x)
    = box_owns (ghosts.dealloc_token (record { memory = record { seal = tt } })) the_row p x
held true p None = ffalse
held false p (Some x) = ffalse
held false p None = ftrue

-- how many places, stops and marks live; if no store is kept, none
abbrev pub places : Kept → ℕ
places (Some b) = length b.book.state.places
places None = 0

abbrev pub stops : Kept → ℕ
stops (Some b) = length (stop_list b.book.state.routes)
stops None = 0

abbrev pub marks : Kept → ℕ
marks (Some b) = length b.book.state.marks
marks None = 0

-- a store is kept, and this holds of it
abbrev pub OnKept : Kept → (the_row.Denot → Type 0) → Type 0
OnKept (Some b) F = F b
OnKept None F = ⊥
