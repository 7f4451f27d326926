-- What exactly an ordered arena is after the calls that leave its list as it is, and after those
-- that leave no entry.
use Rattle.std.specs.Prelude.{ℕ, Option, None}
use Rattle.triple_arena.specs.Content.{cleared, empty, invalidated, reallocated, stepped}
use Rattle.triple_arena.specs.Content.{with_counter}
use Rattle.triple_arena.specs.Drains.{drained}
use Rattle.triple_arena_chain.specs.Links.{with_link}
use Rattle.triple_arena_stack.specs.Room.{Room}
use Rattle.triple_arena_ord.specs.Ordered.{Ordered}

module _ {T : Type 0} where
  -- with no entry and no slot, with this counter and in this room
  abbrev pub empty_in : ℕ → Room → Ordered T
  empty_in counter room = record { chains = empty counter room; root = None }

  -- with at least this capacity
  abbrev pub reallocated_in : Ordered T → ℕ → Ordered T
  reallocated_in o least = record o { chains = reallocated o.chains least }

  -- with another item at an index, if there is one
  abbrev pub with_item : Ordered T → ℕ → T → Ordered T
  with_item o i t = record o
      { chains = with_link o.chains i (λ link. record link { t = record link.t { t = t } }) }

  -- with the next counter, and the entry at an index under it, whose pointer ended
  abbrev pub invalidated_in : Option ℕ → Ordered T → ℕ → Ordered T
  invalidated_in last o i = record o { chains = invalidated last o.chains i }

  -- with this counter
  abbrev pub with_counter_in : Ordered T → ℕ → Ordered T
  with_counter_in o g = record o { chains = with_counter o.chains g }

  -- with the next counter
  abbrev pub stepped_in : Option ℕ → Ordered T → Ordered T
  stepped_in last o = record o { chains = stepped last o.chains }

  -- with no entry and no slot, and the next counter
  abbrev pub cleared_in : Option ℕ → Ordered T → Ordered T
  cleared_in last o = record { chains = cleared last o.chains; root = None }

  -- with no entry and no slot, and the counter stepped once for each that was there
  abbrev pub drained_in : Option ℕ → Ordered T → Ordered T
  drained_in last o = record { chains = drained last o.chains; root = None }
