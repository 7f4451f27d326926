-- What a contract sees of a `DirectArena`.
use Rattle.std.specs.Prelude.{◌≡◌, ℕ, ◌-◌, ◌<◌, ◌≤◌, Bool, List, [], ◌++◌, map, length, replicate}
use Rattle.std.specs.Prelude.{Option, Some, None, slice_set, refl}
use Rattle.std.specs.Coded.{Coded, code_by, coded×, coded_ℕ, coded_list, coded_option}
use Rattle.std.specs.List.{zip}
use Rattle.triple_arena_ptr.specs.Generation.{next_generation}
use Rattle.triple_arena_stack.specs.Room.{Room, capacity}
use Rattle.triple_arena.specs.ArenaRoom.{room_with}
use Rattle.triple_arena.specs.Entries.{value_if}
use Rattle.triple_arena.specs.Content.{Content, entry_at as entry_of, live_count as live_count_of}
use Rattle.triple_arena.specs.Content.{with_value as with_value_of}
use Rattle.triple_arena.specs.Content.{with_exchange as with_exchange_of}
use Rattle.triple_arena.specs.Content.{with_generation as with_generation_of}
use Rattle.triple_arena.specs.Content.{last_index as last_index_of}
use Rattle.triple_arena.specs.Content.{without_free_end as without_free_end_of}
use Rattle.triple_arena.specs.Content.{with_limit as with_limit_of}
use Rattle.triple_arena.specs.LiveEntries.{live_entries as live_entries_of}
use Rattle.triple_arena.specs.Compression.{renewed, generation_of}
use Rattle.triple_arena.specs.Transfer.{filled as filled_of}

-- the generation and the value at each index, from index 1 on, or nothing where it is free; and the
-- room: the reserved slots, and the greatest capacity, if there is one
pub record DirectContent (T : Type 0) : Type 0 where
  pub slots : List (Option (ℕ × T))
  pub room : Room

-- it is stored as the tuple of its fields
abbrev pub direct_code : {T : Type 0} → Coded T → Coded (DirectContent T)
direct_code {T} code =
    code_by
    (List (Option (ℕ × T)) × (ℕ × Option ℕ))
    (coded× (coded_list (coded_option (coded× coded_ℕ code)))
    (coded× coded_ℕ (coded_option coded_ℕ)))
    (λ d. (d.slots, (d.room.reserved, d.room.limit)))
    (λ p. record { slots = p.0; room = record { reserved = p.1.0; limit = p.1.1 } })
    (λ _. refl)

module _ {T : Type 0} where
  -- the slots and the room as an `Arena` would have them, which the words on its content ask for
  abbrev pub as_content : DirectContent T → Content T
  as_content d = record { slots = d.slots; counter = 0; free = []; room = d.room }

  -- the slots and the room of a content
  abbrev pub of_content : Content T → DirectContent T
  of_content c = record { slots = c.slots; room = c.room }

  -- no slot, in this room
  abbrev pub empty : Room → DirectContent T
  empty room = record { slots = []; room = room }

  -- the generation and the value at an index; index 0 has none
  abbrev pub entry_at : DirectContent T → ℕ → Option (ℕ × T)
  entry_at d index = entry_of (as_content d) index

  -- the value at an index, where its entry has this generation
  abbrev pub get : DirectContent T → ℕ → ℕ → Option T
  get d index g = value_if g (entry_at d index)

  -- how many indexes are live
  abbrev pub live_count : DirectContent T → ℕ
  live_count d = live_count_of (as_content d)

  -- the index, generation and value of each live entry, in the order of the indexes
  abbrev pub live_entries : DirectContent T → List (ℕ × (ℕ × T))
  live_entries d = live_entries_of (as_content d)

  -- there is no counter
  abbrev pub no_counter : DirectContent T → Option ℕ
  no_counter d = None

  -- the greatest index that fits with no growth
  abbrev pub arena_capacity : DirectContent T → ℕ
  arena_capacity d = capacity d.room

  -- free slots at the end, so that there are this many at least
  abbrev pub reaching : ℕ → List (Option (ℕ × T)) → List (Option (ℕ × T))
  reaching n slots = slots ++ replicate (n - length slots) None

  -- an entry may be stored at this index: it is one of those that fit, and it is free
  pub record IsPlace (d : DirectContent T) (index : ℕ) : Type 0 where
    pub positive : 0 < index
    pub fits : index ≤ arena_capacity d
    pub vacant : entry_at d index ≡ None

  -- the content with one more entry, at this index, which is free
  abbrev pub inserted : DirectContent T → ℕ → ℕ → T → DirectContent T
  inserted d index g t = record d
      { slots = slice_set (reaching index d.slots) (index - 1) (Some (g, t)) }

  -- the content with no entry at this index, which is live: its slot stays, and is free
  abbrev pub removed : DirectContent T → ℕ → DirectContent T
  removed d index = record d { slots = slice_set d.slots (index - 1) None }

  -- the content with another value at this index, if it is live
  abbrev pub with_value : DirectContent T → ℕ → T → DirectContent T
  with_value d index t = of_content (with_value_of (as_content d) index t)

  -- the content with the values at two indexes exchanged, if both are live
  abbrev pub with_exchange : DirectContent T → ℕ → ℕ → DirectContent T
  with_exchange d i j = of_content (with_exchange_of (as_content d) i j)

  -- the content with another generation at this index, if it is live
  abbrev pub with_generation : DirectContent T → ℕ → ℕ → DirectContent T
  with_generation d index g = of_content (with_generation_of (as_content d) index g)

  -- the content with the generation after that of this entry, if there is one, at an index, if it
  -- is live
  abbrev pub with_next_generation : Option ℕ → DirectContent T → ℕ → Option (ℕ × T)
      → DirectContent T
  with_next_generation last d index None = d
  with_next_generation last d index (Some entry)
      = with_generation d index (next_generation last entry.0)

  -- the content after the pointer to the entry at this index ended: the entry has the generation
  -- after its own
  abbrev pub invalidated : Option ℕ → DirectContent T → ℕ → DirectContent T
  invalidated last d index = with_next_generation last d index (entry_at d index)

  -- the content with no entry and no slot
  abbrev pub cleared : DirectContent T → DirectContent T
  cleared d = record d { slots = [] }

  -- the content with these values alone, at the indexes from 1 on, each with its own generation
  -- renewed
  abbrev pub compressed : Option ℕ → DirectContent T → Bool → List T → DirectContent T
  compressed last d reset values =
      record d {
        slots = map Some
            (zip (map (renewed last reset) (map generation_of (live_entries d))) values);
      }

  -- the greatest live index, or 0 where no index is live
  abbrev pub last_index : DirectContent T → ℕ
  last_index d = last_index_of (as_content d)

  -- the content with no free slot after the last live one
  abbrev pub without_free_end : DirectContent T → DirectContent T
  without_free_end d = of_content (without_free_end_of (as_content d))

  -- the content with this greatest capacity, or that of the greatest index where it is less: where
  -- slots are past it, the free slots at the end go
  abbrev pub with_limit : ℕ → DirectContent T → ℕ → DirectContent T
  with_limit greatest d max = of_content (with_limit_of greatest (as_content d) max)

  -- the content in another room
  abbrev pub in_room : DirectContent T → Room → DirectContent T
  in_room d room = record d { room = room }

  -- the content with at least this capacity
  abbrev pub reallocated : DirectContent T → ℕ → DirectContent T
  reallocated d least = in_room d (room_with least d.room)

  -- the content with these values alone, so many, at the indexes from 1 on, each with this
  -- generation, in a room for them
  abbrev pub filled : DirectContent T → ℕ → ℕ → List T → DirectContent T
  filled d n g values = of_content (filled_of (as_content d) n g values)

  -- the slots are within the capacity
  abbrev pub IsWellFormed : DirectContent T → Type 0
  IsWellFormed d = length d.slots ≤ arena_capacity d
