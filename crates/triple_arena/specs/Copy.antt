-- What a copy of an arena is: the same pointers, with the values that a map gives. A source is seen
-- as the list of its live entries, each an index, a generation and a value, in the order of the
-- indexes.
use Rattle.std.specs.Prelude.{◌≡◌, ℕ, ◌+◌, ◌-◌, ◌<◌, Bool, IsTrue, ◌⊎◌, List, [], ◌∷◌, ◌++◌, map}
use Rattle.std.specs.Prelude.{replicate, slice_get, Option, Some, None, unwrap_or, Result, Ok, Err}
use Rattle.std.specs.Borrow.{Bor}
use Rattle.std.specs.List.{FoldsTo, last_or}
use Rattle.std.specs.Option.{option_map}
use Rattle.triple_arena_ptr.specs.Generation.{next_generation}
use Rattle.triple_arena_stack.specs.Room.{Room, capacity}
use Rattle.triple_arena.specs.ArenaRoom.{room_with}
use Rattle.triple_arena.specs.Entries.{generation_at}
use Rattle.triple_arena.specs.Changes.{IsNew}
use Rattle.triple_arena.specs.Compression.{index_of, value_of, listed_under}
use Rattle.triple_arena.specs.Content.{Content, vacant_from, entry_at, live_count, some_counter}
use Rattle.triple_arena.specs.Content.{cleared, reallocated}
use Rattle.triple_arena.specs.DirectContent.{DirectContent, no_counter}
use Rattle.triple_arena.specs.DirectContent.{entry_at as direct_entry_at}
use Rattle.triple_arena.specs.DirectContent.{live_count as direct_live_count}
use Rattle.triple_arena.specs.DirectContent.{live_entries as direct_live_entries}
use Rattle.triple_arena.specs.DirectContent.{cleared as directly_cleared}
use Rattle.triple_arena.specs.DirectContent.{reallocated as directly_reallocated}
use Rattle.triple_arena.specs.LiveEntries.{live_entries}

module _ {T : Type 0} where
  -- the index of the last of these entries, or 0 where there is none
  abbrev pub last_listed : List (ℕ × (ℕ × T)) → ℕ
  last_listed entries = unwrap_or (last_or None (map index_of entries)) 0

  -- the slots from index n on that hold these entries: up to the last of them, and free between
  -- them
  abbrev pub spread : ℕ → List (ℕ × (ℕ × T)) → List (Option (ℕ × T))
  spread n [] = []
  spread n (entry ∷ entries) = replicate (entry.0 - n) None ++ Some entry.1
      ∷ spread (entry.0 + 1) entries

  -- the content with these entries alone, with this counter if there is one, where the free indexes
  -- rise; it has room for the last of them
  abbrev pub copied : Content T → Option ℕ → List (ℕ × (ℕ × T)) → Content T
  copied c counter entries =
      record {
        slots = spread 1 entries;
        counter = unwrap_or counter c.counter;
        free = vacant_from 1 (spread 1 entries);
        room = room_with (last_listed entries) c.room;
      }

  -- the same of an arena without a counter and without a list of free indexes
  abbrev pub directly_copied : DirectContent T → List (ℕ × (ℕ × T)) → DirectContent T
  directly_copied d entries
      = record { slots = spread 1 entries; room = room_with (last_listed entries) d.room }

  -- not each of these values is cloned without fail
  abbrev pub MayRefuse : (T → Type 0) → List (ℕ × (ℕ × T)) → Type 0
  MayRefuse infallible entries = ((k : ℕ) (entry : ℕ × (ℕ × T)) → slice_get entries k ≡ Some entry
      → infallible (value_of entry)) → ⊥

-- a call of a map: the pointer, the value that was lent to it, and what it gave
pub record Call (P U T : Type 0) : Type 0 where
  pub pointer : P
  pub lent : Bor U
  pub given : T

module _ {P U T E F : Type 0} (step : F → P → Bor U → Result T E → F → Type 0) where
  -- these calls were made one after another, and none refused
  abbrev pub Calls : F → List (Call P U T) → F → Type 0
  Calls f calls last = FoldsTo (λ g call h. step g call.pointer call.lent (Ok call.given) h)
      f calls last

  -- no call refuses
  abbrev pub NeverRefuses : Type 0
  NeverRefuses = (f : F) (p : P) (u : Bor U) (e : E) (g : F) → step f p u (Err e) g → ⊥

module _ {P U T E F : Type 0} (index generation : P → ℕ) (step : F → P → Bor U → Result T E → F
    → Type 0) where
  -- a map was called once at each entry of `old`, in their order, and made the entries of `new`,
  -- with the same pointers
  pub record IsMappedCopy (f : F) (old : List (ℕ × (ℕ × U))) (new : List (ℕ × (ℕ × T)))
      : Type 0 where
    pub calls : List (Call P U T)
    pub last : F
    pub made : Calls step f calls last
    pub before : map (λ call. listed_under index generation call.pointer call.lent.now) calls ≡ old
    pub after : map (λ call. listed_under index generation call.pointer call.given) calls ≡ new

  -- a map was called once at each of the first entries of `old`, in their order, up to one that it
  -- refused
  pub record IsRefusedCopy (f : F) (old : List (ℕ × (ℕ × U))) : Type 0 where
    pub calls : List (Call P U T)
    pub refusing : F
    pub last : F
    pub pointer : P
    pub lent : Bor U
    pub error : E
    pub rest : List (ℕ × (ℕ × U))
    pub made : Calls step f calls refusing
    pub refused : step refusing pointer lent (Err error) last
    pub before : map (λ call. listed_under index generation call.pointer call.lent.now) calls
        ++ listed_under index generation pointer lent.now ∷ rest ≡ old

module _ {S T U : Type 0} (entry_of : S → ℕ → Option (ℕ × T)) (live_of : S → ℕ)
    (counter_of : S → Option ℕ) (room_of : S → Room) where
  -- as many entries as the source has, with its pointers and its counter, where both have one, and
  -- with room for its last index
  pub record IsCopy (source : ℕ → Option (ℕ × U)) (source_live last : ℕ) (source_counter : Option ℕ)
      (old new : S) : Type 0 where
    pub pointers : (j : ℕ) → generation_at (entry_of new) j ≡ generation_at source j
    pub live : live_of new ≡ source_live
    pub counter : counter_of new ≡ option_map (λ own. unwrap_or source_counter own) (counter_of old)
    pub room : room_of new ≡ room_with last (room_of old)

module _ {S R T U : Type 0} (entry_of : S → ℕ → Option (ℕ × T)) (live_of : S → ℕ)
    (counter_of : S → Option ℕ) (room_of : S → Room) (source_entry_of : R → ℕ → Option (ℕ × U))
    (source_live_of : R → ℕ) (source_counter_of : R → Option ℕ)
    (source_listed : R → List (ℕ × (ℕ × U))) where
  -- a copy of this source
  abbrev pub IsCopyOf : R → S → S → Type 0
  IsCopyOf source old new = IsCopy entry_of live_of counter_of room_of (source_entry_of source)
      (source_live_of source) (last_listed (source_listed source)) (source_counter_of source)
      old new

-- so many slots are more than there are, and the memory for them may be refused
abbrev pub NeedsMemory : Bool → Room → ℕ → Type 0
NeedsMemory takes_memory room n = IsTrue takes_memory × (capacity room < n)

module _ {S T : Type 0} (entry_of : S → ℕ → Option (ℕ × T)) (live_of : S → ℕ)
    (counter_of : S → Option ℕ) (room_of : S → Room) where
  -- why no copy was made where no capacity forbids one: the growth to the last index was refused,
  -- and all stays; or the map refused, and the arena was grown and then cleared
  abbrev pub IsUnmadeCopy : Bool → Option ℕ → ℕ → (S → S) → Type 0 → S → S → Type 0
  IsUnmadeCopy takes_memory last_generation last emptied refused old new =
      (IsTrue takes_memory × (capacity (room_of old) < last) × (new ≡ old))
      ⊎ (refused × IsNew entry_of live_of counter_of room_of
      (option_map (next_generation last_generation) (counter_of old))
      (room_with last (room_of old)) new × (new ≡ emptied old))

module _ {T : Type 0} where
  -- the last live index, or 0 if nothing is live
  abbrev pub last_inx : Content T → ℕ
  last_inx c = last_listed (live_entries c)

  -- the same of an arena without a counter
  abbrev pub direct_last_inx : DirectContent T → ℕ
  direct_last_inx d = last_listed (direct_live_entries d)

  -- why a copy to an arena was not made, and what it left: the arena as it was, or one that was
  -- grown to the last index of the source and cleared
  abbrev pub IsUnmade : Bool → Option ℕ → ℕ → Type 0 → Content T → Content T → Type 0
  IsUnmade takes_memory last_generation last refused old new =
      IsUnmadeCopy entry_at live_count some_counter (λ c. c.room) takes_memory last_generation last
      (λ c. cleared last_generation (reallocated c last)) refused old new

  -- the same of an arena without a counter
  abbrev pub IsDirectlyUnmade : Bool → Option ℕ → ℕ → Type 0 → DirectContent T → DirectContent T
      → Type 0
  IsDirectlyUnmade takes_memory last_generation last refused old new =
      IsUnmadeCopy direct_entry_at direct_live_count no_counter (λ d. d.room) takes_memory
      last_generation last (λ d. directly_cleared (directly_reallocated d last)) refused old new
