use Rattle.std.specs.Prelude.{◌-◌, ◌≤◌, length}
use Rattle.triple_arena_chain.specs.Notes.{HavePlaces}
use Rattle.triple_arena_chain.proofs.chain_arena.canonical_layout.gather_chains.Given as goal

-- the chains up to so many indexes are whole
abbrev pub invariant-chain : goal.invariant-chain
invariant-chain g l =
    record {
      places : HavePlaces l.placed l.fn.arena l.arena;
      within : l.placed ≤ length l.fn.arena.slots;
    }

abbrev pub decreases-chain : goal.decreases-chain
decreases-chain g l = length l.fn.arena.slots - l.placed
