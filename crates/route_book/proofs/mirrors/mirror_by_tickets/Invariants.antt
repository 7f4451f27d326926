use Rattle.std.specs.Prelude.{◌≡◌, ℕ, ◌+◌, ◌-◌, ◌≤◌, false, IsSome}
use Rattle.triple_arena.specs.DirectContent.{entry_at}
use Rattle.route_book.specs.Packing.{IsMirrored}
use Rattle.ticket_book.specs.Mirrors.{numbers}
use Rattle.route_book.proofs.mirrors.mirror_by_tickets.Given as goal

-- the items at the indexes that are passed are noted
abbrev pub invariant-loop-p : goal.invariant-loop-p
invariant-loop-p g l =
    record {
      rises : (g.A.ArenaTrait.walk l.walk).falls ≡ false;
      reaches : (j : ℕ) → IsSome (g.A.ArenaTrait.entry_at l.arena j)
          → j ≤ (g.A.ArenaTrait.walk l.walk).high;
      mirrored : IsMirrored g.T.Ticketed.ticket_of l.book.entries (g.A.ArenaTrait.entry_at l.arena)
          (g.A.ArenaTrait.walk l.walk).low
          (numbers g.P.PtrCore.index g.P.PtrCore.generation (entry_at l.mirror));
      room : l.mirror.room ≡ l.fn.mirror.room;
    }

abbrev pub decreases-loop-p : goal.decreases-loop-p
decreases-loop-p g l = (g.A.ArenaTrait.walk l.walk).high + 1 - (g.A.ArenaTrait.walk l.walk).low
