use Rattle.std.proofs.Common.{rules, ◌≢◌, IsSome, option_map, sym, ◌∙◌}
use Rattle.triple_arena.specs.Content.{entry_at}
use Rattle.triple_arena_chain.specs.Moves.{gap_before}
use Rattle.triple_arena_chain.proofs.MoveLemmas.{opened, before_live, moved_before, Moved, Opened}
use Rattle.triple_arena_chain.proofs.chain_arena.ChainArena.move_prev_to.Goals.{After-bridge_over}
use Rattle.triple_arena_chain.proofs.chain_arena.ChainArena.move_prev_to.Goals.{After-put_back}
use Rattle.triple_arena_chain.proofs.chain_arena.ChainArena.move_prev_to.Goals as goal

-- the link at `p` was taken out from between its neighbors
out : (g : _) (c : After-bridge_over g)
    → Opened c.args.self.now c.bridge_over.new.arena (g.P.Inx.PtrInxCore.number c.inx-i.result)
    (g.P.Inx.PtrInxCore.number c.inx-j.result)
out g c =
    let number = g.P.Inx.PtrInxCore.number in
    let live_i : IsSome (entry_at c.args.self.now (number c.inx-i.result)) = search rules in
    let live_j : IsSome (entry_at c.args.self.now (number c.inx-j.result)) = search rules in
    opened c.self.inside.arena c.args.self.now c.bridge_over.new.arena _ _ c.self.view_is
    live_i live_j c.bridge_over.ensures

differ : (g : _) (c : After-bridge_over g)
    → g.P.PtrCore.index c.args.p ≢ g.P.PtrCore.index c.args.q
differ g c = (c.can_move.ensures.says.0 (search rules)).2

-- it stands in the gap
done : (g : _) (c : After-put_back g)
    → Moved (g.P.PtrCore.index c.args.p)
    (gap_before c.args.self.now (g.P.PtrCore.index c.args.p) (g.P.PtrCore.index c.args.q))
    c.args.self.now c.put_back.new.arena
done g c =
    let number = g.P.Inx.PtrInxCore.number in
    let opening = (goal.at.After-put_back g c).After-bridge_over in
    let o = out g opening in
    moved_before c.args.self.now c.bridge_over.new.arena c.put_back.new.arena
    (number c.inx-i.result) (number c.inx-j.result)
    (g.P.PtrCore.index c.args.p) (g.P.PtrCore.index c.args.q)
    (option_map number c.read_prev-prev.result) o.entry
    c.can_move.ensures.formed c.inx-i.ensures c.inx-j.ensures (differ g opening) o.at o.over o.live
    c.read_prev-prev.ensures c.put_back.ensures

pub read_prev-prev-requires-clause-live : goal.read_prev-prev-requires-clause-live
read_prev-prev-requires-clause-live g c =
    (out g (goal.at.read_prev-prev-requires-clause-live g c).After-bridge_over).live

pub put_back-requires-clause-own : goal.put_back-requires-clause-own
put_back-requires-clause-own g c =
    (out g (goal.at.put_back-requires-clause-own g c).After-bridge_over).own

pub put_back-requires-clause-after : goal.put_back-requires-clause-after
put_back-requires-clause-after g c =
    (out g (goal.at.put_back-requires-clause-after g c).After-bridge_over).live

pub put_back-requires-clause-before : goal.put_back-requires-clause-before
put_back-requires-clause-before g c =
    let opening = (goal.at.put_back-requires-clause-before g c).After-bridge_over in
    let o = out g opening in
    before_live c.args.self.now c.bridge_over.new.arena _ o.entry.0 o.entry.1
    c.can_move.ensures.formed o.at o.over (g.P.Inx.PtrInxCore.number c.inx-j.result)
    (option_map g.P.Inx.PtrInxCore.number c.read_prev-prev.result)
    (λ same. differ g opening (sym c.inx-i.ensures ∙ sym same ∙ c.inx-j.ensures)) o.live
    c.read_prev-prev.ensures

pub invariant_of-self : goal.invariant_of-self
invariant_of-self g c = (done g (goal.at.invariant_of-self g c).After-put_back).chained

pub returns-clause-moved : goal.returns-clause-moved
returns-clause-moved g c = (done g (goal.at.returns-clause-moved g c).After-put_back).moved

pub returns-clause-formed : goal.returns-clause-formed
returns-clause-formed g c = (done g (goal.at.returns-clause-formed g c).After-put_back).chained
