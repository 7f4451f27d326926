use Rattle.std.specs.Prelude.{◌≡◌, ℕ, ◌<◌, ◌≤◌, None}
use Rattle.triple_arena.specs.Content.{entry_at}
use Rattle.triple_arena.proofs.advancer.LivePointers.first_live.Given as goal

-- no entry is live before what is left
abbrev pub invariant-loop-before : goal.invariant-loop-before
invariant-loop-before g l = (j : ℕ) → l.start < j → j ≤ l.before
    → entry_at (g.Self.LivePointers.content l.self) j ≡ None
