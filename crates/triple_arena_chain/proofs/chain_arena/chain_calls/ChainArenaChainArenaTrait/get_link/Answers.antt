use Rattle.std.proofs.Common.{rules, ◌≡◌, Some, subst, ap, ◌∙◌}
use Rattle.triple_arena.specs.Content.{get}
use Rattle.triple_arena_chain.specs.Links.{IsChained}
use Rattle.triple_arena_chain.specs.Values.{ptr_to}
use Rattle.triple_arena_chain.proofs.NeighborLemmas.{interlinks_found}
use Rattle.triple_arena_chain.proofs.chain_arena.chain_calls.ChainArenaChainArenaTrait.get_link.Goals as goal

pub returns-in-Some-clause-interlinks : goal.returns-in-Some-clause-interlinks
returns-in-Some-clause-interlinks g c =
    let is : get c.args.self.now (g.P.PtrCore.index c.args.p) (g.P.PtrCore.generation c.args.p)
    ≡ Some c.in-Some.link.now = search rules in
    interlinks_found g.P.PtrCore.index g.P.PtrCore.generation
    c.args.self.now (g.P.PtrCore.index c.args.p) (g.P.PtrCore.generation c.args.p)
    c.in-Some.link.now c.ptr_at.result c.ptr_at-in-Some.result c.new.result.prev c.new.result.next
    (subst IsChained c.self.view_is c.self.invariant) is
    (c.ptr_at.ensures ∙ ap (ptr_to c.args.self.now) c.prev.ensures)
    (c.ptr_at-in-Some.ensures
    ∙ ap (ptr_to c.args.self.now) c.next.ensures) c.new.ensures.prev
    c.new.ensures.next
