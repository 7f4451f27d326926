-- A link that leaves its place and stands at another one, under its pointer.
use Rattle.std.specs.Prelude.{ℕ, Some}
use Rattle.triple_arena.specs.Content.{Content}
use Rattle.triple_arena_chain.specs.LinkShape.{IndexLink}
use Rattle.linked_lists.specs.LinkedLists.{Ends, next_at, prev_at, taken_out, put_between}
use Rattle.triple_arena_chain.specs.Links.{ends_in, IsRelinked}
use Rattle.linked_lists.specs.Chains.{IsTaken, IsPutIn}

module _ {T : Type 0} where
  -- directly after the link at `j`, once the one at `i` is taken out from between its neighbors
  abbrev pub gap_after : Content (IndexLink T) → ℕ → ℕ → Ends
  gap_after c i j = (Some j, next_at (taken_out (ends_in c) i) j)

  -- directly before it
  abbrev pub gap_before : Content (IndexLink T) → ℕ → ℕ → Ends
  gap_before c i j = (prev_at (taken_out (ends_in c) i) j, Some j)

  -- the link at `i` was taken out of its list, and then put into this gap; each link keeps its
  -- pointer and its value
  pub record IsMoved (i : ℕ) (gap : Ends) (old new : Content (IndexLink T)) : Type 0 where
    pub taken : IsTaken i (ends_in old) (taken_out (ends_in old) i)
    pub put : IsPutIn gap i (taken_out (ends_in old) i) (ends_in new)
    pub relinked : IsRelinked (put_between (taken_out (ends_in old) i) i gap) old new
