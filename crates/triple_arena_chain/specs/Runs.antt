-- A list whose links stand at successive indexes.
use Rattle.std.specs.Prelude.{◌≡◌, ℕ, List, Option, map, length}
use Rattle.std.specs.List.{range_with_len}
use Rattle.std.specs.Option.{option_map}
use Rattle.triple_arena.specs.Content.{Content}
use Rattle.triple_arena_chain.specs.LinkShape.{IndexLink}
use Rattle.linked_lists.specs.LinkedLists.{IsLinear}
use Rattle.triple_arena_chain.specs.Links.{ends_in, values_in}

module _ {T : Type 0} where
  -- the value at an index, without its generation
  abbrev pub value_at : Content (IndexLink T) → ℕ → Option T
  value_at c i = option_map (λ e. e.1) (values_in c i)

module _ {T : Type 0} where
  -- what was this list stands at the successive indexes from this one on, in its order, with its
  -- values
  pub record IsRunFrom (first : ℕ) (list : List ℕ) (old new : Content (IndexLink T))
      : Type 0 where
    pub linear : IsLinear (ends_in new) (range_with_len first (length list))
    pub values : map (value_at new) (range_with_len first (length list)) ≡ map (value_at old) list
