use Rattle.std.specs.Option.{option_map}
use Rattle.triple_arena.specs.Content.{live_count}
use Rattle.triple_arena_chain.specs.Drains.{IsRestDrained}
use Rattle.triple_arena_chain.proofs.chain_arena.ChainArena.take_rest.Given as goal

-- what ends the walk that is left ends the whole one
abbrev pub invariant-loop-at : goal.invariant-loop-at
invariant-loop-at g l =
    (left : _) → IsRestDrained g.P.Gen.PtrGenCore.last
    (option_map g.P.Inx.PtrInxCore.number l.at) l.self left
    → IsRestDrained g.P.Gen.PtrGenCore.last
    (option_map g.P.Inx.PtrInxCore.number l.fn.at) l.fn.self left

abbrev pub decreases-loop-at : goal.decreases-loop-at
decreases-loop-at g l = live_count l.self
