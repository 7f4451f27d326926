-- What an arena holds that took over the entries of another, and one that they were taken out of,
-- by a transfer or by a drain: the entry at each index, how many are live, how far the slots reach,
-- the counter, the free indexes, the room, and well-formedness. And the values that a transfer's
-- map leaves, by what one call gives.
use Rattle.std.proofs.Common.{◌≡◌, ℕ, ◌+◌, ◌≤◌, List, [], ◌∷◌, map, length, slice_get, Option, None}
use Rattle.std.proofs.Common.{refl, sym, ap, ◌∙◌, arith}
use Rattle.std.specs.Fn.{iterate}
use Rattle.std.specs.List.{FoldsTo}
use Rattle.std.specs.Option.{option_map}
use Rattle.std.proofs.lemmas.Bool.{le-leb}
use Rattle.triple_arena_ptr.specs.Generation.{next_generation}
use Rattle.triple_arena_ptr.specs.InvalidationOption.{value_of as value_told}
use Rattle.triple_arena_ptr.specs.declared.invalidation.InvalidationOption.{InvalidationOption}
use Rattle.triple_arena_stack.specs.Room.{Room, capacity}
use Rattle.triple_arena.specs.ArenaRoom.{room_with}
use Rattle.triple_arena.specs.CompactedLaws.{entry-compacted, live-compacted, slots-compacted}
use Rattle.triple_arena.specs.Compression.{value_of}
use Rattle.triple_arena.specs.Content.{Content, entry_at, live_count, arena_capacity, reallocated}
use Rattle.triple_arena.specs.Content.{IsWellFormed}
use Rattle.triple_arena.specs.ContentLaws.{entry-no_slots}
use Rattle.triple_arena.specs.DirectContent.{DirectContent, as_content, entry_at as direct_entry_at}
use Rattle.triple_arena.specs.DirectContent.{live_count as direct_live_count}
use Rattle.triple_arena.specs.DirectContent.{arena_capacity as direct_capacity}
use Rattle.triple_arena.specs.DirectContent.{filled as directly_filled}
use Rattle.triple_arena.specs.DirectContent.{IsWellFormed as IsDirectlyWellFormed}
use Rattle.triple_arena.specs.Drains.{drained}
use Rattle.triple_arena.specs.Transfer.{Transfer, entry_before, entry_after, filled, IsTransferred}

-- a room that holds all takes none more
pub room_kept : (n : ℕ) (r : Room) → n ≤ capacity r → room_with n r ≡ r
room_kept n r fits = rw (le-leb n (capacity r) fits) refl

module _ {T : Type 0} (c : Content T) (n g : ℕ) (values : List T) where
  -- the values stand at the indexes from 1 on, with this generation
  pub entry-filled : (k : ℕ)
      → entry_at (filled c n g values) (k + 1) ≡ option_map (λ t. (g, t)) (slice_get values k)
  entry-filled k = entry-compacted g values (reallocated c n) k

  pub live-filled : live_count (filled c n g values) ≡ length values
  live-filled = live-compacted g values (reallocated c n)

  pub slots-filled : length (filled c n g values).slots ≡ length values
  slots-filled = slots-compacted g values (reallocated c n)

  pub counter-filled : (filled c n g values).counter ≡ g
  counter-filled = refl

  pub free-filled : (filled c n g values).free ≡ []
  free-filled = refl

  pub room-filled : (filled c n g values).room ≡ room_with n c.room
  room-filled = refl

  pub formed-filled : length values ≤ arena_capacity (filled c n g values)
      → IsWellFormed (filled c n g values)
  formed-filled fits =
      let live = live-filled in
      let slots = slots-filled in
      record { free = tt; counted = omega (arith, live, slots); fits = omega (arith, slots, fits) }

module _ {T : Type 0} (d : DirectContent T) (n g : ℕ) (values : List T) where
  pub entry-directly_filled : (k : ℕ)
      → direct_entry_at (directly_filled d n g values) (k + 1)
      ≡ option_map (λ t. (g, t)) (slice_get values k)
  entry-directly_filled k = entry-filled (as_content d) n g values k

  pub live-directly_filled : direct_live_count (directly_filled d n g values) ≡ length values
  live-directly_filled = live-filled (as_content d) n g values

  pub slots-directly_filled : length (directly_filled d n g values).slots ≡ length values
  slots-directly_filled = slots-filled (as_content d) n g values

  pub room-directly_filled : (directly_filled d n g values).room ≡ room_with n d.room
  room-directly_filled = refl

  pub formed-directly_filled : length values ≤ direct_capacity (directly_filled d n g values)
      → IsDirectlyWellFormed (directly_filled d n g values)
  formed-directly_filled fits = let slots = slots-directly_filled in omega (arith, slots, fits)

module _ {T : Type 0} (last : Option ℕ) (c : Content T) where
  -- no entry is left
  pub entry-drained : (j : ℕ) → entry_at (drained last c) j ≡ None
  entry-drained j = entry-no_slots (drained last c) refl j

  pub live-drained : live_count (drained last c) ≡ 0
  live-drained = refl

  pub slots-drained : length (drained last c).slots ≡ 0
  slots-drained = refl

  pub counter-drained : (drained last c).counter
      ≡ iterate (next_generation last) (live_count c) c.counter
  counter-drained = refl

  pub free-drained : (drained last c).free ≡ []
  free-drained = refl

  pub room-drained : (drained last c).room ≡ c.room
  room-drained = refl

  pub formed-drained : IsWellFormed (drained last c)
  formed-drained = record { free = tt; counted = refl; fits = omega arith }

module _ {Q U P T F : Type 0} (old_index old_generation : Q → ℕ) (index generation : P → ℕ)
    (step : F → Q → InvalidationOption U → P → T → F → Type 0) where
  -- the values are those that a function gives of the old pointers and the values
  pub transferred_by : {f : F} {last counter : Option ℕ} {old : List (ℕ × (ℕ × U))}
      {new : List (ℕ × (ℕ × T))} (given : ℕ → ℕ → U → T)
      → ((h : F) (p : Q) (item : InvalidationOption U) (q : P) (t : T) (k : F) → step h p item q t k
      → t ≡ given (old_index p) (old_generation p) (value_told item))
      → IsTransferred old_index old_generation index generation step f last counter old new
      → map value_of new ≡ map (λ e. given e.0 e.1.0 e.1.1) old
  transferred_by {f} given one m =
      ap (map value_of) (sym m.after)
      ∙ by_moves m.moves f m.calls
      ∙ ap (map (λ (e : ℕ × (ℕ × U)). given e.0 e.1.0 e.1.1)) m.before
    where
      by_moves : (moves : List (Transfer Q U P T)) (h : F)
          → FoldsTo (λ g move k. step g move.from move.item move.to move.given k) h moves m.last
          → map value_of (map (entry_after old_index old_generation index generation) moves)
          ≡ map (λ (e : ℕ × (ℕ × U)). given e.0 e.1.0 e.1.1)
          (map (entry_before old_index old_generation index generation) moves)
      by_moves [] h calls = refl
      by_moves (x ∷ moves) h calls =
          let same = one h x.from x.item x.to x.given calls.0 calls.1 in
          let rest = by_moves moves calls.0 calls.2 in
          ap (λ t. t ∷ map value_of
          (map (entry_after old_index old_generation index generation) moves)) same
          ∙ ap (λ l. given (old_index x.from) (old_generation x.from) (value_told x.item) ∷ l) rest

-- what an arena holds that took over the entries of another
pub ruleset fillings = (
  formed-filled,
  entry-filled,
  live-filled,
  slots-filled,
  counter-filled,
  free-filled,
  room-filled,
)

-- and a direct arena
pub ruleset direct_fillings = (
  formed-directly_filled,
  entry-directly_filled,
  live-directly_filled,
  slots-directly_filled,
  room-directly_filled,
)

-- what is left where every entry was taken out
pub ruleset drains = (
  formed-drained,
  entry-drained,
  live-drained,
  slots-drained,
  counter-drained,
  free-drained,
  room-drained,
)
