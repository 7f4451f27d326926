use Rattle.std.specs.Prelude.{◌≡◌, ℕ, ◌+◌, ◌-◌, ◌<◌, ◌≤◌, false, IsSome}
use Rattle.std.specs.Option.{option_map}
use Rattle.triple_arena_ord.specs.Ordered.{IsOrdered, entry_in, order_in}
use Rattle.ticket_book.specs.Mirrors.{numbers, renewed_entry}
use Rattle.ticket_book.proofs.renewal.renew_entries.Given as goal

-- the entries at the indexes that are passed are renewed, and the others are as they were
abbrev pub invariant-loop-p : goal.invariant-loop-p
invariant-loop-p g l =
    record {
      rises : l.walk.falls ≡ false;
      reaches : (j : ℕ) → IsSome (entry_in l.arena j) → j ≤ l.walk.high;
      passed : (j : ℕ) → j < l.walk.low
          → entry_in l.arena j
          ≡ option_map (λ e. (
            e.0,
            renewed_entry (numbers g.P.PtrCore.index g.P.PtrCore.generation
                (g.M.ArenaTrait.entry_at l.places))
                (numbers g.P.PtrCore.index g.P.PtrCore.generation (g.N.ArenaTrait.entry_at l.stops))
                (numbers g.P.PtrCore.index g.P.PtrCore.generation
                (g.O.ArenaTrait.entry_at l.marks)) e.1,
          )) (entry_in l.fn.arena j);
      ahead : (j : ℕ) → l.walk.low ≤ j → entry_in l.arena j ≡ entry_in l.fn.arena j;
      order : order_in l.arena
          ≡ order_in l.fn.arena;
      room : l.arena.chains.room ≡ l.fn.arena.chains.room;
      ordered : IsOrdered l.arena;
    }

abbrev pub decreases-loop-p : goal.decreases-loop-p
decreases-loop-p g l = l.walk.high + 1 - l.walk.low
