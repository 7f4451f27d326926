use Rattle.std.proofs.Common.{◌≡◌, ℕ, ◌≤◌, List, Some, None, length}
use Rattle.linked_lists.specs.LinkedLists.{IsLinear, first_or}
use Rattle.triple_arena_chain.specs.Links.{ends_in}
use Rattle.triple_arena_ord.proofs.AlongLemmas.{Checking}
use Rattle.triple_arena_ord.proofs.ascends.ascends.Given as goal

abbrev pub invariant-along : goal.invariant-along
invariant-along g l =
    let number = g.P.Inx.PtrInxCore.number in
    (w : List ℕ) → IsLinear (ends_in (g.A.Links.links l.arena)) w
    → first_or w None ≡ Some (number l.fn.first) → length w ≤ l.fn.most
    → Checking g.T.Key.Ord.cmp g.T.SimpleOrdItem.key_of g.met.T.Key.Ord.total
    (g.A.Links.links l.arena) w l.link l._done
