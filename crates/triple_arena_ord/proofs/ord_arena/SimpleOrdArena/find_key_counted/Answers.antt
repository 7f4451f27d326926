use Rattle.std.proofs.Common.{◌≡◌, Some, IfSome, subst}
use Rattle.triple_arena.specs.Entries.{generation_at}
use Rattle.triple_arena_ord.specs.Ordered.{IsAscending, entry_in, asked_at}
use Rattle.triple_arena_ord.proofs.SeekLemmas.{few, parts_at}
use Rattle.triple_arena_ord.proofs.FoundLemmas.{found_from}
use Rattle.triple_arena_ord.proofs.ord_arena.SimpleOrdArena.find_key_counted.Goals as goal

pub returns-clause-found : goal.returns-clause-found
returns-clause-found g c =
    let cmp = g.T.Key.Ord.cmp in
    let key = g.T.SimpleOrdItem.key_of in
    let k = c.args.k.now in
    let o = c.args.self.now in
    found_from g.P.PtrCore.index g.P.PtrCore.generation (asked_at cmp key k o)
    (IsAscending cmp key o) o c.seek-place.ensures.ordered
    (parts_at cmp key k g.met.T.Key.Ord.total o c.seek-place.ensures.ordered) _
    c.seek-place.ensures.answer c.found_at.result c.found_at.ensures.some
    c.found_at.ensures.none
    (subst (λ z. IfSome c.found_at.result
    (λ p. generation_at (entry_in z) (g.P.PtrCore.index p) ≡ Some (g.P.PtrCore.generation p)))
    c.self.view_is c.found_at.ensures.live)

pub returns-clause-bound : goal.returns-clause-bound
returns-clause-bound g c = few _ _ _ c.seek-place.ensures.ordered c.seek-place.ensures.bound
