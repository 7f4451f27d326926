use Rattle.std.proofs.Common.{◌≡◌, Some, IfSome, subst, ◌∙◌}
use Rattle.triple_arena.specs.Entries.{generation_at}
use Rattle.triple_arena_ord.specs.Ordered.{IsAscending, entry_in, asked_at}
use Rattle.triple_arena_ord.proofs.SeekLemmas.{parts_at}
use Rattle.triple_arena_ord.proofs.FoundLemmas.{similar_from}
use Rattle.triple_arena_ord.proofs.LinearLemmas.{places_live, few_more}
use Rattle.triple_arena_ord.proofs.ord_arena.SimpleOrdArena.find_similar_key_linear_counted.Goals as goal

pub returns-clause-similar : goal.returns-clause-similar
returns-clause-similar g c =
    let cmp = g.T.Key.Ord.cmp in
    let key = g.T.SimpleOrdItem.key_of in
    let k = c.args.k.now in
    let o = c.args.self.now in
    similar_from g.P.PtrCore.index g.P.PtrCore.generation (asked_at cmp key k o)
    (IsAscending cmp key o) o c.seek_linear-place.ensures.ordered
    (parts_at cmp key k g.met.T.Key.Ord.total o c.seek_linear-place.ensures.ordered) _
    c.seek_linear-place.ensures.answer c.similar_at.result c.similar_at.ensures.same
    (subst (λ z. IfSome c.similar_at.result
    (λ x. generation_at (entry_in z) (g.P.PtrCore.index x.0)
    ≡ Some (g.P.PtrCore.generation x.0))) c.self.view_is c.similar_at.ensures.live)

pub similar_at-requires-clause-live : goal.similar_at-requires-clause-live
similar_at-requires-clause-live g c =
    places_live g.P.Inx.PtrInxCore.number c.args.self.now _ c.self.view_is
    c.seek_linear-place.ensures.ordered c.seek_linear-place.result
    c.seek_linear-place.ensures.answer

pub returns-clause-bound : goal.returns-clause-bound
returns-clause-bound g c =
    few_more _ _ _ _ c.seek_linear-place.ensures.ordered c.seek_linear-place.ensures.ticks

pub returns-clause-near : goal.returns-clause-near
returns-clause-near g c = λ ascending lives near.
    let cmp = g.T.Key.Ord.cmp in
    let key = g.T.SimpleOrdItem.key_of in
    let k = c.args.k.now in
    let o = c.args.self.now in
    c.seek_linear-place.ensures.near lives (
      parts_at cmp key k g.met.T.Key.Ord.total o c.seek_linear-place.ensures.ordered ascending,
      near,
    )

pub returns-clause-ends : goal.returns-clause-ends
returns-clause-ends g c = λ i d ends.
    c.similar_at.ensures.same ∙ c.seek_linear-place.ensures.ends i d ends
