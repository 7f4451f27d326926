use Rattle.std.specs.Prelude.{◌≡◌, ℕ, ◌-◌, ◌<◌, ◌≤◌, None, min, length}
use Rattle.triple_arena.specs.Content.{entry_at}
use Rattle.triple_arena.proofs.advancer.LivePointers.last_live.Given as goal

-- no entry is live after what is left
abbrev pub invariant-loop-last : goal.invariant-loop-last
invariant-loop-last g l =
    record {
      within : l.last ≤ min l.end (length (g.Self.LivePointers.content l.self).slots);
      none : (j : ℕ) → l.last < j → j ≤ l.end
          → entry_at (g.Self.LivePointers.content l.self) j ≡ None;
    }

abbrev pub decreases-loop-last : goal.decreases-loop-last
decreases-loop-last g l = l.last - l.start
