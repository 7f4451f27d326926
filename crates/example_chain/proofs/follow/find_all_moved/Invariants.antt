use Rattle.std.specs.Prelude.{◌≡◌, ℕ, ◌<◌, ◌≤◌, None, slice_index_or}
use Rattle.example_chain.specs.Follow.{IsNamedBy}
use Rattle.example_chain.proofs.follow.find_all_moved.Given as goal

-- the pointers that are passed are replaced, and the others are as they were
abbrev pub invariant-loop-at : goal.invariant-loop-at
invariant-loop-at g l =
    record {
      passed : (k : ℕ) → k < l.at
          → IsNamedBy (λ m. m.was) g.P.PtrCore.index g.P.PtrCore.generation
          (g.A.ArenaTrait.entry_at l.arena) (slice_index_or l.fn.table k None)
          (slice_index_or l.table k None);
      ahead : (k : ℕ) → l.at ≤ k → slice_index_or l.table k None ≡ slice_index_or l.fn.table k None;
    }
