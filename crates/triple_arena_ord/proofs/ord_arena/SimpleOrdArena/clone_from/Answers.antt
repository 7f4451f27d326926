use Rattle.std.proofs.Common.{rules, sym, ap, ◌∙◌, None}
use Rattle.linked_lists.specs.LinkedLists.{first_or, last_or}
use Rattle.triple_arena_ord.specs.Indexed.{listed_item}
use Rattle.triple_arena_ord.specs.Ordered.{Ordered, ordered_by}
use Rattle.triple_arena_ord.proofs.CloneLemmas.{Cloned, cloned, listed_as_item, unmade_none}
use Rattle.triple_arena_ord.proofs.ord_arena.SimpleOrdArena.clone_from.Goals as goal
use Rattle.triple_arena_ord.proofs.ord_arena.SimpleOrdArena.clone_from.Goals.{In-Ok}

abbrev given : (g : _) (c : In-Ok g) → Ordered g.row.T.Denot
given g c = ordered_by g.P.Inx.PtrInxCore.number c.source.inside.chains c.source.inside.root

made : (g : _) (c : In-Ok g)
    → Cloned c.self.inside.chains (given g c)
    (record { chains = c.clone_from.new.self; root = (given g c).root })
made g c = cloned c.self.inside.chains c.clone_from.new.self (given g c)
    (c.in-Ok.ensures).exact c.source.invariant.0

pub invariant_of-self : goal.invariant_of-self
invariant_of-self g c =
    let clone = made g (goal.at.invariant_of-self g c).In-Ok in
    let order = clone.clone.order in (
      clone.ordered,
      c.source.invariant.1 ∙ ap (λ l. first_or l None) (sym order),
      c.source.invariant.2 ∙ ap (last_or None) (sym order),
    )

pub returns-in-Ok-clause-cloned : goal.returns-in-Ok-clause-cloned
returns-in-Ok-clause-cloned g c =
    rw (← c.self.view_is, ← c.source.view_is)
    (made g (goal.at.returns-in-Ok-clause-cloned g c).In-Ok).clone

pub returns-in-Ok-clause-ordered : goal.returns-in-Ok-clause-ordered
returns-in-Ok-clause-ordered g c = (made g (goal.at.returns-in-Ok-clause-ordered g c).In-Ok).ordered

pub returns-then-is_empty-clause-unmade : goal.returns-then-is_empty-clause-unmade
returns-then-is_empty-clause-unmade g c =
    let number = g.P.Inx.PtrInxCore.number in
    let o : Ordered g.row.T.Denot =
    ordered_by number c.self.inside.chains c.self.inside.root in
    rw (← c.self.view_is, ← c.source.view_is)
    (λ failed. unmade_none o c.clone_from.new.self c.self.invariant.0 _ _ _ _ _
    (λ refuses never. refuses (λ k e at.
    let sure : g.T.Clone.is_infallible e.1.1.t =
    never k (listed_item e) (listed_as_item _ k e at) in
    search (rules, g.met.P.Inx.PtrInxCore.always_clones)))
    ((c.in-Err.ensures).unmade failed) ((c.is_empty.ensures).0 c.if-is_empty.true))
