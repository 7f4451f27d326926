-- Copies of links: what a copy is beside its entries, and that the interlinks are the source's.
use Rattle.std.specs.Prelude.{◌≡◌, ℕ, Bool, List, Option}
use Rattle.std.specs.List.{AllZip}
use Rattle.triple_arena_stack.specs.Room.{Room}
use Rattle.triple_arena.specs.Content.{Content, live_count, some_counter, cleared, reallocated}
use Rattle.triple_arena.specs.Copy.{IsCopy, IsUnmadeCopy}
use Rattle.triple_arena_chain.specs.LinkShape.{IndexLink}
use Rattle.std.specs.Option.{option_map}
use Rattle.triple_arena.specs.Entries.{look_up}
use Rattle.linked_lists.specs.LinkedLists.{Ends}
use Rattle.triple_arena_chain.specs.Links.{prev_next_of, values_in}
use Rattle.triple_arena_chain.specs.Values.{room_in}

module _ {S T U : Type 0} (entry_of : S → ℕ → Option (ℕ × T)) (live_of : S → ℕ)
    (counter_of : S → Option ℕ) (room_of : S → Room)
    (copied_of : S → Option ℕ → List (ℕ × (ℕ × T)) → S) (entries_of : S → List (ℕ × (ℕ × T))) where
  -- a copy, and exactly which
  pub record IsCopyMade (source : ℕ → Option (ℕ × U)) (source_live last : ℕ)
      (source_counter : Option ℕ) (old new : S) : Type 0 where
    pub copy : IsCopy entry_of live_of counter_of room_of source source_live last
        source_counter old new
    pub exact : new ≡ copied_of old source_counter (entries_of new)

module _ {T : Type 0} where
  -- why a copy to a chain arena was not made, and what it left: the arena as it was, or one that
  -- was grown to the last index of the source and cleared
  abbrev pub IsUnmade : Bool → Option ℕ → ℕ → Type 0 → Content (IndexLink T)
      → Content (IndexLink T) → Type 0
  IsUnmade takes_memory last_generation last refused old new =
      IsUnmadeCopy values_in live_count some_counter room_in takes_memory last_generation last
      (λ c. cleared last_generation (reallocated c last)) refused old new

-- at links of any type, of which these are the indexes of the neighbors
module _ {L : Type 0} (neighbors : L → Option ℕ × Option ℕ) where
  -- two listed links with the same index and the same interlinks
  abbrev pub HasEndsOf : {T : Type 0} → ℕ × (ℕ × L) → ℕ × (ℕ × IndexLink T) → Type 0
  HasEndsOf old new = (new.0 ≡ old.0) × (prev_next_of new.1.1 ≡ neighbors old.1.1)

  -- each link has the index and the interlinks of the one that it is a copy of
  abbrev pub IsLinkedCopy : {T : Type 0} → List (ℕ × (ℕ × L))
      → List (ℕ × (ℕ × IndexLink T)) → Type 0
  IsLinkedCopy old new = AllZip HasEndsOf old new

  -- the interlinks at an index, among listed links
  abbrev pub listed_ends : List (ℕ × (ℕ × L)) → ℕ → Option Ends
  listed_ends links i =
      option_map (λ (e : ℕ × L). neighbors e.1) (look_up links i)
