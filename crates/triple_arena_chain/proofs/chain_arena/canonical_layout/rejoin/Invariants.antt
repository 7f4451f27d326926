use Rattle.std.specs.Prelude.{◌-◌, ◌≤◌}
use Rattle.std.specs.Option.{option_map}
use Rattle.triple_arena_chain.proofs.RejoinLemmas.{IsRejoined}
use Rattle.triple_arena_chain.proofs.chain_arena.canonical_layout.rejoin.Given as goal

-- the links that are passed have their previous indexes from among themselves
abbrev pub invariant-link : goal.invariant-link
invariant-link g l =
    record {
      rejoined : IsRejoined l.count
          (option_map g.P.Inx.PtrInxCore.number l.before) l.fn.arena l.arena;
      within : l.count ≤ l.len;
    }

abbrev pub decreases-link : goal.decreases-link
decreases-link g l = l.len - l.count
