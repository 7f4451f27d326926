-- What a contract sees of a slot.
use Rattle.std.specs.Prelude.{ℕ, Option, Some, None, nat_le, if◌then◌else◌}
use Rattle.std.specs.Option.{option_map}
use Rattle.linked_lists.specs.LinkedLists.{Ends}

-- a free slot, with the free index before it in the order in which free slots are taken, and the
-- one after it, or an allocated slot with its generation and value
pub data Slot (T : Type 0) : Type 0 where
  free : Option ℕ → Option ℕ → Slot T
  used : ℕ → T → Slot T

-- this index, if it is at most the greatest one of an index type
abbrev pub index_up_to : ℕ → Option ℕ → Option ℕ
index_up_to greatest None = None
index_up_to greatest (Some i) = if nat_le i greatest then Some i else None

module _ {T : Type 0} where
  -- the generation and the value, if it is allocated
  abbrev pub entry_of : Slot T → Option (ℕ × T)
  entry_of (free _ _) = None
  entry_of (used g t) = Some (g, t)

  -- the value, if it is allocated
  abbrev pub value_of : Slot T → Option T
  value_of (free _ _) = None
  value_of (used g t) = Some t

  -- the links of a free slot
  abbrev pub links_of : Slot T → Option Ends
  links_of (free prev next) = Some (prev, next)
  links_of (used _ _) = None

  -- the links of a free slot as indexes of a type with this greatest one
  abbrev pub free_links : ℕ → Slot T → Option Ends
  free_links greatest slot
      = option_map (λ (l : Ends). (index_up_to greatest l.0, index_up_to greatest l.1))
      (links_of slot)

  -- the link to the next one of a free slot
  abbrev pub next_of : Slot T → Option ℕ
  next_of (free _ next) = next
  next_of (used _ _) = None

  -- a free slot with other links
  abbrev pub with_links : Slot T → Option ℕ → Option ℕ → Slot T
  with_links (free _ _) prev next = free prev next
  with_links (used g t) _ _ = used g t

  -- a free slot with another link to the one before
  abbrev pub with_prev : Slot T → Option ℕ → Slot T
  with_prev (free _ next) prev = free prev next
  with_prev (used g t) _ = used g t

  -- a free slot with another link to the one after
  abbrev pub with_next : Slot T → Option ℕ → Slot T
  with_next (free prev _) next = free prev next
  with_next (used g t) _ = used g t

  -- an allocated slot with another value
  abbrev pub with_slot_value : Slot T → T → Slot T
  with_slot_value (free prev next) _ = free prev next
  with_slot_value (used g _) t = used g t

  -- an allocated slot with another generation
  abbrev pub with_slot_generation : Slot T → ℕ → Slot T
  with_slot_generation (free prev next) _ = free prev next
  with_slot_generation (used _ t) g = used g t
