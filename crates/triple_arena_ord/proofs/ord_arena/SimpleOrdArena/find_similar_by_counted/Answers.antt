use Rattle.std.proofs.Common.{◌≡◌, ◌≤◌, ◌+◌, subst}
use Rattle.rank_tree.specs.Tree.{rank_of}
use Rattle.triple_arena_ord.specs.Asked.{IsAsked}
use Rattle.triple_arena_ord.specs.Ordered.{IsOrdered, tree_in, order_in, entry_in}
use Rattle.triple_arena_ord.proofs.SeekLemmas.{few}
use Rattle.triple_arena_ord.proofs.FoundLemmas.{similar_asked}
use Rattle.triple_arena_ord.proofs.ord_arena.SimpleOrdArena.find_similar_by_counted.Goals as goal

pub returns-clause-asked : goal.returns-clause-asked
returns-clause-asked g c =
    subst (λ z. (asked : IsAsked g.P.PtrCore.index g.P.PtrCore.generation (goal.F-step g)
    (entry_in z) (order_in z) c.args.f.now c.ask_down.result c.args.probes.now
    c.ask_down.new.probes)
    × (asked.last ≡ c.ask_down.new.f)) c.self.view_is c.ask_down.ensures.asked

pub returns-clause-similar : goal.returns-clause-similar
returns-clause-similar g c = λ side by.
    similar_asked g.P.PtrCore.index g.P.PtrCore.generation (goal.F-step g) c.args.self.now
    (subst IsOrdered c.self.view_is c.self.invariant.0)
    c.args.f.now c.ask_down.result c.args.probes.now c.ask_down.new.probes
    (subst (λ z. IsAsked g.P.PtrCore.index g.P.PtrCore.generation (goal.F-step g) (entry_in z)
    (order_in z) c.args.f.now c.ask_down.result c.args.probes.now c.ask_down.new.probes)
    c.self.view_is c.ask_down.ensures.asked.0)
    side by

pub returns-clause-rank : goal.returns-clause-rank
returns-clause-rank g c =
    subst (λ z. c.ask_down.new.probes
    ≤ c.args.probes.now + rank_of (tree_in z)) c.self.view_is
    c.ask_down.ensures.bound

pub returns-clause-bound : goal.returns-clause-bound
returns-clause-bound g c =
    few c.args.self.now c.args.probes.now c.ask_down.new.probes
    (subst IsOrdered c.self.view_is c.self.invariant.0)
    (subst (λ z. c.ask_down.new.probes ≤ c.args.probes.now + rank_of (tree_in z))
    c.self.view_is c.ask_down.ensures.bound)
