use Rattle.std.proofs.Common.{◌≡◌, Some, IfSome, subst}
use Rattle.triple_arena.specs.Entries.{generation_at}
use Rattle.triple_arena_ord.specs.Ordered.{IsAscending, entry_in, asked_at}
use Rattle.triple_arena_ord.proofs.SeekLemmas.{few, parts_at}
use Rattle.triple_arena_ord.proofs.FoundLemmas.{similar_from}
use Rattle.triple_arena_ord.proofs.ord_arena.SimpleOrdArena.find_similar_key_counted.Goals as goal

pub returns-clause-similar : goal.returns-clause-similar
returns-clause-similar g c =
    let cmp = g.T.Key.Ord.cmp in
    let key = g.T.SimpleOrdItem.key_of in
    let k = c.args.k.now in
    let o = c.args.self.now in
    similar_from g.P.PtrCore.index g.P.PtrCore.generation (asked_at cmp key k o)
    (IsAscending cmp key o) o c.seek-place.ensures.ordered
    (parts_at cmp key k g.met.T.Key.Ord.total o c.seek-place.ensures.ordered) _
    c.seek-place.ensures.answer c.similar_at.result c.similar_at.ensures.same
    (subst (λ z. IfSome c.similar_at.result
    (λ x. generation_at (entry_in z) (g.P.PtrCore.index x.0)
    ≡ Some (g.P.PtrCore.generation x.0))) c.self.view_is c.similar_at.ensures.live)

pub returns-clause-bound : goal.returns-clause-bound
returns-clause-bound g c = few _ _ _ c.seek-place.ensures.ordered c.seek-place.ensures.bound
