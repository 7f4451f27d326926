use Rattle.std.proofs.Common.{◌≡◌, ℕ, ◌+◌, List}
use Rattle.linked_lists.specs.LinkedLists.{IsLinear, On}
use Rattle.triple_arena_chain.specs.Links.{ends_in}
use Rattle.triple_arena_ord.specs.Near.{asked_in, path_from}
use Rattle.triple_arena_ord.proofs.NearLemmas.{Walking}
use Rattle.triple_arena_ord.proofs.list_searches.walk_from.Given as goal

abbrev pub invariant-along : goal.invariant-along
invariant-along g l =
    let number = g.P.Inx.PtrInxCore.number in
    let ask = asked_in g.T.Key.Ord.cmp g.T.SimpleOrdItem.key_of l.k (g.A.Links.links l.arena) in
    (l.probes ≡ l.fn.probes + l._made)
    × ((w : List ℕ) → IsLinear (ends_in (g.A.Links.links l.arena)) w
    → (on : On w (number l.fn.start))
    → Walking ask w (number l.fn.start) (path_from ask on) l.way (number l.i) l._made)
