use Rattle.std.proofs.Common.{◌≡◌, ◌∙◌, ap, sym, subst, option_map, IsSome, Some}
use Rattle.linked_lists.specs.LinkedLists.{next_in, next_at}
use Rattle.triple_arena_chain.specs.Links.{ends_in}
use Rattle.triple_arena_ord.specs.Node.{nodes_in}
use Rattle.triple_arena_ord.specs.Ordered.{Ordered}
use Rattle.triple_arena_ord.proofs.BoundLemmas.{next_lives, node_lives}
use Rattle.triple_arena_ord.proofs.ord_arena.SimpleOrdArena.ptr_behind.Goals.{After-neighbors}
use Rattle.triple_arena_ord.proofs.ord_arena.SimpleOrdArena.ptr_behind.Goals as goal

-- what is read is the next index
next : (g : _) (c : After-neighbors g)
    → next_at (ends_in c.args.self.now.chains)
    (g.P.Inx.PtrInxCore.number c.args.i)
    ≡ option_map g.P.Inx.PtrInxCore.number c.neighbors.result.1
next g c =
    let number = g.P.Inx.PtrInxCore.number in
    subst (λ (z : Ordered g.row.T.Denot).
    next_at (ends_in z.chains) (number c.args.i)
    ≡ option_map number c.neighbors.result.1) c.self.view_is (ap next_in c.neighbors.ensures)

pub neighbors-requires : goal.neighbors-requires
neighbors-requires g c =
    let number = g.P.Inx.PtrInxCore.number in
    subst (λ (z : Ordered g.row.T.Denot).
    IsSome (nodes_in z.chains (number c.args.i))) (sym c.self.view_is)
    (node_lives c.args.self.now (number c.args.i) c.requires)

pub ptr_to-requires-clause-live : goal.ptr_to-requires-clause-live
ptr_to-requires-clause-live g c =
    let number = g.P.Inx.PtrInxCore.number in
    let at = (goal.at.ptr_to-requires-clause-live g c).After-neighbors in
    next_lives c.args.self.now c.len.ensures.formed.ordered (number c.args.i) c.requires
    (number c.in-Some.next)
    (next g at ∙ ap (option_map number) c.in-Some.is)

pub returns-in-Some-clause-at : goal.returns-in-Some-clause-at
returns-in-Some-clause-at g c =
    let number = g.P.Inx.PtrInxCore.number in
    let at = (goal.at.returns-in-Some-clause-at g c).After-neighbors in
    ap Some c.ptr_to.ensures.index
    ∙ sym (next g at ∙ ap (option_map number) c.in-Some.is)

pub returns-in-None-clause-at : goal.returns-in-None-clause-at
returns-in-None-clause-at g c =
    let number = g.P.Inx.PtrInxCore.number in
    let at = (goal.at.returns-in-None-clause-at g c).After-neighbors in
    sym (next g at ∙ ap (option_map number) c.in-None.is)
