use Rattle.std.specs.Prelude.{ℕ, ◌+◌, ◌-◌}
use Rattle.triple_arena_chain.specs.Links.{ends_in}
use Rattle.triple_arena_chain.specs.Notes.{IsLed, IsLedOn}
use Rattle.triple_arena_chain.proofs.chain_arena.canonical_layout.led_to.Given as goal

-- the notes lead on to where they led
abbrev pub invariant-note : goal.invariant-note
invariant-note g l =
    record {
      on : IsLedOn (ends_in l.arena) l.placed
          (g.P.Inx.PtrInxCore.number l.at);
      same : (k : ℕ) → IsLed (ends_in l.arena) l.placed
          (g.P.Inx.PtrInxCore.number l.fn.i) k
          → IsLed (ends_in l.arena) l.placed
          (g.P.Inx.PtrInxCore.number l.at) k;
    }

abbrev pub decreases-note : goal.decreases-note
decreases-note g l = l.placed + 1 - g.P.Inx.PtrInxCore.number l.at
