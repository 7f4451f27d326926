-- What a contract sees of an `Arena`.
use Rattle.std.specs.Prelude.{◌≡◌, ℕ, zero, suc, ◌+◌, ◌-◌, ◌<◌, ◌≤◌, ◌==◌, List, [], ◌∷◌, ◌++◌}
use Rattle.std.specs.Prelude.{length, take, Option, Some, None, is_some, count_by, filter}
use Rattle.std.specs.Prelude.{slice_index_or, slice_set, nat_lt, nat_le, min, if◌then◌else◌, refl}
use Rattle.std.specs.List.{suffix_len}
use Rattle.std.specs.Option.{is_none}
use Rattle.std.specs.Coded.{Coded, code_by, coded×, coded_ℕ, coded_list, coded_option}
use Rattle.linked_lists.specs.LinkedLists.{Off}
use Rattle.triple_arena_ptr.specs.Generation.{next_generation}
use Rattle.triple_arena_ptr.specs.Index.{max_index_of}
use Rattle.triple_arena_stack.specs.Room.{Room, capacity, room_after, limited}
use Rattle.triple_arena.specs.Entries.{value_if}
use Rattle.triple_arena.specs.ArenaRoom.{room_with}

-- the generation and the value at each index, from index 1 on, or nothing where it is free; the
-- generation of the next entry; the free indexes, the next one to be taken first; and the room: the
-- reserved slots, and the greatest capacity, if there is one
pub record Content (T : Type 0) : Type 0 where
  pub slots : List (Option (ℕ × T))
  pub counter : ℕ
  pub free : List ℕ
  pub room : Room

-- a content is stored as the tuple of its fields
abbrev pub content_code : {T : Type 0} → Coded T → Coded (Content T)
content_code {T} code =
    code_by
    (List (Option (ℕ × T)) × (ℕ × (List ℕ × (ℕ × Option ℕ))))
    (coded× (coded_list (coded_option (coded× coded_ℕ code)))
    (coded× coded_ℕ (coded× (coded_list coded_ℕ) (coded× coded_ℕ (coded_option coded_ℕ)))))
    (λ c. (c.slots, (c.counter, (c.free, (c.room.reserved, c.room.limit)))))
    (λ p. record {
      slots = p.0;
      counter = p.1.0;
      free = p.1.1.0;
      room = record { reserved = p.1.1.1.0; limit = p.1.1.1.1 };
    })
    (λ _. refl)

module _ {T : Type 0} where
  -- no entry and no slot, with this counter and in this room
  abbrev pub empty : ℕ → Room → Content T
  empty counter room = record { slots = []; counter = counter; free = []; room = room }

  -- the generation and the value at an index; index 0 has none
  abbrev pub entry_at : Content T → ℕ → Option (ℕ × T)
  entry_at c zero = None
  entry_at c (suc k) = slice_index_or c.slots k None

  -- the value at an index, where its entry has this generation
  abbrev pub get : Content T → ℕ → ℕ → Option T
  get c index g = value_if g (entry_at c index)

  -- how many indexes are live
  abbrev pub live_count : Content T → ℕ
  live_count c = count_by is_some c.slots

  -- the counter, which each content has
  abbrev pub some_counter : Content T → Option ℕ
  some_counter c = Some c.counter

  -- how many entries fit with no growth
  abbrev pub arena_capacity : Content T → ℕ
  arena_capacity c = capacity c.room

  -- the index of the next entry: the first free one, or one past the slots
  abbrev pub next_index : Content T → ℕ
  next_index c = first_or (length c.slots + 1) c.free
    where
      first_or : ℕ → List ℕ → ℕ
      first_or past [] = past
      first_or past (index ∷ _) = index

  -- the content with one more entry, which has the counter as its generation
  abbrev pub inserted : Content T → T → Content T
  inserted c t = at_first c.free
    where
      at_first : List ℕ → Content T
      at_first [] = record c { slots = c.slots ++ Some (c.counter, t) ∷ [] }
      at_first (index ∷ rest)
          = record c { slots = slice_set c.slots (index - 1) (Some (c.counter, t)); free = rest }

  -- the content with no entry at this index, which is live: the last slot goes, another is the next
  -- one to be taken
  abbrev pub vacated : Content T → ℕ → Content T
  vacated c index =
      if index == length c.slots
      then record c { slots = take (index - 1) c.slots }
      else record c { slots = slice_set c.slots (index - 1) None; free = index ∷ c.free }

  -- the content with this counter
  abbrev pub with_counter : Content T → ℕ → Content T
  with_counter c g = record c { counter = g }

  -- the content with the next counter, where this is the last generation
  abbrev pub stepped : Option ℕ → Content T → Content T
  stepped last c = record c { counter = next_generation last c.counter }

  -- the content after the removal of the entry at this index, which is live
  abbrev pub removed : Option ℕ → Content T → ℕ → Content T
  removed last c index = stepped last (vacated c index)

  -- the content with another value at this index, if it is live
  abbrev pub with_value : Content T → ℕ → T → Content T
  with_value c index t = at_entry (entry_at c index)
    where
      at_entry : Option (ℕ × T) → Content T
      at_entry None = c
      at_entry (Some entry) = record c { slots = slice_set c.slots (index - 1) (Some (entry.0, t)) }

  -- the content with the value of this entry, if there is one, at an index, if it is live
  abbrev pub with_value_from : Content T → ℕ → Option (ℕ × T) → Content T
  with_value_from c index None = c
  with_value_from c index (Some entry) = with_value c index entry.1

  -- the content with the values at two indexes exchanged, if both are live
  abbrev pub with_exchange : Content T → ℕ → ℕ → Content T
  with_exchange c i j = with_value_from (with_value_from c i (entry_at c j)) j (entry_at c i)

  -- the content with another generation at this index, if it is live
  abbrev pub with_generation : Content T → ℕ → ℕ → Content T
  with_generation c index g = at_entry (entry_at c index)
    where
      at_entry : Option (ℕ × T) → Content T
      at_entry None = c
      at_entry (Some entry) = record c { slots = slice_set c.slots (index - 1) (Some (g, entry.1)) }

  -- the content after the pointer to the entry at this index ended, and another took its place
  abbrev pub invalidated : Option ℕ → Content T → ℕ → Content T
  invalidated last c index = stepped last (with_generation c index (next_generation last c.counter))

  -- the content with no entry and no slot
  abbrev pub emptied : Content T → Content T
  emptied c = record c { slots = []; free = [] }

  -- the content after all entries were removed at once
  abbrev pub cleared : Option ℕ → Content T → Content T
  cleared last c = stepped last (emptied c)

  -- the content in another room
  abbrev pub in_room : Content T → Room → Content T
  in_room c room = record c { room = room }

  -- the content with at least this capacity
  abbrev pub reallocated : Content T → ℕ → Content T
  reallocated c least = in_room c (room_with least c.room)

  -- the content with room for an entry more: as it is, or with a greater room where it is full
  abbrev pub grown_if_full : Content T → Content T
  grown_if_full c = in_room c (room_after (live_count c) c.room)

  -- the greatest live index, or 0 where no index is live
  abbrev pub last_index : Content T → ℕ
  last_index c = length c.slots - suffix_len is_none c.slots

  -- the content with no free slot after the last live one: the free indexes past that go, the
  -- others keep their order
  abbrev pub without_free_end : Content T → Content T
  without_free_end c =
      record c {
        slots = take (last_index c) c.slots;
        free = filter (λ index. nat_le index (last_index c)) c.free;
      }

  -- the content with no slot past this number, where no live one is past it: the free slots at the
  -- end go
  abbrev pub fitted : Content T → ℕ → Content T
  fitted c max = if nat_lt max (length c.slots) then without_free_end c else c

  -- the content with this greatest capacity, or that of the greatest index where it is less
  abbrev pub with_limit : ℕ → Content T → ℕ → Content T
  with_limit greatest c max
      = in_room (fitted c max) (limited c.room (min max (max_index_of greatest)))

  -- the indexes of the free ones among slots that have the indexes from this one on, rising
  abbrev pub vacant_from : ℕ → List (Option (ℕ × T)) → List ℕ
  vacant_from first [] = []
  vacant_from first (None ∷ slots) = first ∷ vacant_from (first + 1) slots
  vacant_from first (Some entry ∷ slots) = vacant_from (first + 1) slots

  -- the content whose free indexes rise, so that the smallest is the next one to be taken
  abbrev pub canonicalized : Content T → Content T
  canonicalized c = record c { free = vacant_from 1 c.slots }

  -- a free index: one of the slots, with no entry
  pub record IsVacant (c : Content T) (index : ℕ) : Type 0 where
    pub positive : 0 < index
    pub within : index ≤ length c.slots
    pub vacant : entry_at c index ≡ None

  -- each of these is a free index, and none comes twice
  abbrev pub AllVacant : Content T → List ℕ → Type 0
  AllVacant c [] = Unit {0}
  AllVacant c (index ∷ rest) = IsVacant c index × (Off rest index × AllVacant c rest)

  -- the free indexes are those of the slots that are not live, each once, and the slots are within
  -- the capacity
  pub record IsWellFormed (c : Content T) : Type 0 where
    pub free : AllVacant c c.free
    pub counted : live_count c + length c.free ≡ length c.slots
    pub fits : length c.slots ≤ arena_capacity c
