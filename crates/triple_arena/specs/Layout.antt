-- How an `Arena` lays out its slots. No public clause cites this module.
use Rattle.std.specs.Prelude.{◌≡◌, ℕ, zero, suc, ◌+◌, ◌-◌, ◌≤◌, List, [], ◌∷◌, map, length, Option}
use Rattle.std.specs.Prelude.{Some, None, is_some, count_by, slice_index_or, take, filter, nat_lt}
use Rattle.triple_arena_stack.specs.Room.{Room, capacity}
use Rattle.linked_lists.specs.LinkedLists.{Ends, first_or, IsLinear}
use Rattle.triple_arena.specs.Slot.{Slot, free, entry_of, links_of, next_of}
use Rattle.triple_arena.specs.Content.{Content}

-- the head of a list after what has these links has left it
abbrev pub head_after : Option ℕ → Option ℕ → Option ℕ → Option ℕ
head_after head None next = next
head_after head (Some i) next = head

module _ {T : Type 0} where
  -- the free indexes from this one on, at most so many
  abbrev pub links : List (Slot T) → ℕ → Option ℕ → List ℕ
  links es zero head = []
  links es (suc n) None = []
  links es (suc n) (Some index) = index
      ∷ links es n (next_of (slice_index_or es (index - 1) (free None None)))

  abbrev pub content_of : List (Slot T) → Room → ℕ → Option ℕ → Content T
  content_of es room counter head =
      record {
        slots = map entry_of es;
        counter = counter;
        free = links es (length es) head;
        room = room;
      }

  -- the links of the slot at an index, if it is free
  abbrev pub links_at : List (Slot T) → ℕ → Option Ends
  links_at es zero = None
  links_at es (suc k) = slice_index_or (map links_of es) k None

  -- the free slots with these indexes are linked both ways in this order, from the head on
  pub record IsFreeList (es : List (Slot T)) (head : Option ℕ) (l : List ℕ) : Type 0 where
    pub first : head ≡ first_or l None
    pub stands : IsLinear (links_at es) l

  -- the content without its last slot, which is free
  abbrev pub without_last : Content T → Content T
  without_last c = record c {
    slots = take (length c.slots - 1) c.slots;
    free = filter (λ index. nat_lt index (length c.slots)) c.free;
  }

  -- `len` counts the live slots, the list from `head` holds every other index, each once, and the
  -- slots are within the capacity
  pub record IsSound (es : List (Slot T)) (len : ℕ) (head : Option ℕ) (room : Room) : Type 0 where
    pub counted : len ≡ count_by is_some (map entry_of es)
    pub total : len + length (links es (length es) head) ≡ length es
    pub listed : IsFreeList es head (links es (length es) head)
    pub fits : length es ≤ capacity room
