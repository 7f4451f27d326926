-- What the compression of all three arenas leaves.
use Rattle.std.specs.Prelude.{◌≡◌, ℕ, ◌≤◌, true, [], Option, map, IsSome}
use Rattle.triple_arena.specs.Changes.{IsCompressed}
use Rattle.triple_arena.specs.Compression.{value_of}
use Rattle.triple_arena.specs.Content.{Content, entry_at, live_count, some_counter, arena_capacity}
use Rattle.triple_arena.specs.LiveEntries.{live_entries}
use Rattle.triple_arena_chain.specs.LinkShape.{IndexLink}
use Rattle.triple_arena_chain.specs.CanonicalLayout.{IsCanonical}
use Rattle.triple_arena_chain.specs.Links.{values_in, IsChained}
use Rattle.triple_arena_ord.specs.CanonicalLayout.{IsLaidInOrder}
use Rattle.triple_arena_ord.specs.Ordered.{Ordered, IsOrdered, entry_in}
use Rattle.route_lines.specs.State.{Place}
use Rattle.route_book.specs.Item.{StopView, MarkView}

-- places and stops are laid out in the order of their lists, marks in the order of their indexes,
-- no index is free, and each index that was live or is live is within the room
pub record IsAllCompressed (last : Option ℕ)
    (places places' : Ordered Place) (stops stops' : Content (IndexLink StopView))
    (marks marks' : Content MarkView) : Type 0 where
  pub was_ordered : IsOrdered places
  pub was_chained : IsChained stops
  pub ordered : IsOrdered places'
  pub laid : IsLaidInOrder last true places places'
  pub canonical : IsCanonical last true stops stops'
  pub values : map value_of (live_entries marks') ≡ map value_of (live_entries marks)
  pub mark_free : marks'.free ≡ []
  pub compressed : IsCompressed entry_at live_count some_counter
      (λ (c : Content MarkView). c.room) last live_entries true marks marks'
  pub place_indexes : (i : ℕ) → IsSome (entry_in places i) → i ≤ arena_capacity places.chains
  pub stop_indexes : (i : ℕ) → IsSome (values_in stops i) → i ≤ arena_capacity stops
  pub mark_indexes : (i : ℕ) → IsSome (entry_at marks i) → i ≤ arena_capacity marks
  pub place_bound : (i : ℕ) → IsSome (entry_in places' i) → i ≤ arena_capacity places'.chains
  pub stop_bound : (i : ℕ) → IsSome (values_in stops' i) → i ≤ arena_capacity stops'
  pub mark_bound : (i : ℕ) → IsSome (entry_at marks' i) → i ≤ arena_capacity marks'
