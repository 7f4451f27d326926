-- What becomes of a store that is moved to other pointers, stacks and rooms.
use Rattle.std.specs.Prelude.{◌≡◌, ◌||◌, ℕ, ◌+◌, Bool, [], Option, Some, None, min}
use Rattle.std.specs.Prelude.{if◌then◌else◌, nat_lt, length}
use Rattle.std.specs.List.{range_with_len}
use Rattle.std.specs.Option.{option_map, option_or}
use Rattle.triple_arena_ptr.specs.Generation.{second_generation}
use Rattle.triple_arena_stack.specs.Room.{Room}
use Rattle.triple_arena.specs.Content.{entry_at, live_count}
use Rattle.triple_arena_chain.specs.CanonicalLayout.{IsLaidOut}
use Rattle.triple_arena_chain.specs.Links.{ends_in, values_in}
use Rattle.triple_arena_ord.specs.Ordered.{entry_in, order_in}
use Rattle.route_lines.specs.State.{State, Rooms, in_rooms, stop_list}
use Rattle.route_lines.specs.declared.refusal.RoomError.{RoomError}
use Rattle.route_lines.specs.declared.refusal.RoomError.TheVariants.{TooSmall}
use Rattle.route_book.specs.Book.{Book}
use Rattle.route_book.specs.Holds.{IsLive}
use Rattle.route_book.specs.Item.{StopView, MarkView}
use Rattle.route_book.specs.Removals.{AreFirst, HaveGeneration}
use Rattle.route_book.specs.Rooms.{HasRooms, refusal_of}

-- a reference over other pointers: the same index, or the greatest one if it is past that, and
-- this generation
abbrev pub over : ℕ → ℕ → Option (ℕ × ℕ) → Option (ℕ × ℕ)
over greatest generation None = None
over greatest generation (Some p) = Some (min greatest p.0, generation)

-- a stop and a mark with such references
abbrev pub stop_over : ℕ → ℕ → StopView → StopView
stop_over greatest generation v = record v { place = over greatest generation v.place }

abbrev pub mark_over : ℕ → ℕ → MarkView → MarkView
mark_over greatest generation v =
    record v {
      place = over greatest generation v.place;
      stop = over greatest generation v.stop;
    }

-- this is made of each item, whose index stays, and all have the second generation
abbrev pub AreTransferred : {T U : Type 0} → Option ℕ → (T → U) → (ℕ → Option (ℕ × T))
    → (ℕ → Option (ℕ × U)) → Type 0
AreTransferred last f old new =
    (k : ℕ) → new k ≡ option_map (λ e. (second_generation last, f e.1)) (old k)

-- more items of a kind live than the room holds
abbrev pub is_too_small : Rooms → State → Bool
is_too_small rooms s =
    (nat_lt rooms.places (length s.places) || nat_lt rooms.stops (length (stop_list s.routes)))
    || nat_lt rooms.marks (length s.marks)

-- why a store with this state is not moved to these rooms, if the memory is there
abbrev pub move_refusal_of : Option ℕ → ℕ → Option ℕ → Rooms → State → Option RoomError
move_refusal_of last greatest limit rooms s =
    option_or (refusal_of last greatest limit (rooms.places + rooms.stops + rooms.marks))
    (if is_too_small rooms s then Some TooSmall else None)

-- a store that was moved: its state is the old one in its rooms, its counters have started, at
-- the generation that all items have, its arenas have the rooms of a new store's and are laid out
-- as a pack does it, and no reference is dead
pub record IsMovedIn (last : Option ℕ) (greatest : ℕ) (room : ℕ → Room)
    (wanted : Rooms) (old : State) (new : Book) : Type 0 where
  pub state : new.state ≡ in_rooms wanted old
  pub place_counter : new.places.chains.counter ≡ second_generation last
  pub stop_counter : new.stops.counter ≡ second_generation last
  pub mark_counter : new.marks.counter ≡ second_generation last
  pub place_generations : HaveGeneration (second_generation last) (entry_in new.places)
  pub stop_generations : HaveGeneration (second_generation last) (values_in new.stops)
  pub mark_generations : HaveGeneration (second_generation last) (entry_at new.marks)
  pub rooms : HasRooms greatest room wanted new
  pub order : order_in new.places ≡ range_with_len 1 (length new.state.places)
  pub stop_runs : IsLaidOut (ends_in new.stops) (live_count new.stops)
  pub mark_run : AreFirst (entry_at new.marks) (live_count new.marks)
  pub place_free : new.places.chains.free ≡ []
  pub stop_free : new.stops.free ≡ []
  pub mark_free : new.marks.free ≡ []
  pub stops : (i g : ℕ) (v : StopView) → values_in new.stops i ≡ Some (g, v)
      → IsLive (entry_in new.places) v.place
  pub marks : (i g : ℕ) (m : MarkView) → entry_at new.marks i ≡ Some (g, m)
      → IsLive (entry_in new.places) m.place × IsLive (values_in new.stops) m.stop
