-- The values of the links of a chain arena, as one list in the order of the indexes.
use Rattle.std.specs.Prelude.{ℕ, List, map}
use Rattle.triple_arena.specs.Content.{Content}
use Rattle.triple_arena.specs.LiveEntries.{live_entries}
use Rattle.triple_arena_chain.specs.LinkShape.{IndexLink}
use Rattle.triple_arena_chain.specs.Links.{valued}

module _ {T : Type 0} where
  -- a listed link with its value alone
  abbrev pub listed_value : ℕ × (ℕ × IndexLink T) → ℕ × (ℕ × T)
  listed_value listed = (listed.0, valued listed.1)

  -- the index, the generation and the value of each link, in the order of the indexes
  abbrev pub listed_values : Content (IndexLink T) → List (ℕ × (ℕ × T))
  listed_values c = map listed_value (live_entries c)
