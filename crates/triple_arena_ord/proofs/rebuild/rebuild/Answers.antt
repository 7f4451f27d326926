use Rattle.std.proofs.Common.{◌≡◌, length, sym, subst, ◌∙◌}
use Rattle.std.specs.Option.{option_map}
use Rattle.triple_arena_chain.specs.Links.{ends_in}
use Rattle.rank_tree.specs.Halving.{IsTopRank}
use Rattle.triple_arena_ord.proofs.RebuildLemmas.{whole_ahead, rebuilt_by}
use Rattle.triple_arena_ord.proofs.rebuild.rebuild.Goals as goal

pub build-requires : goal.build-requires
build-requires g c = (
  c.requires.0,
  whole_ahead _ _ _ c.requires.0 c.requires.1.0
      (c.requires.1.1 ∙ sym c.len-count.ensures.value) c.requires.1.2,
)

pub returns-clause-rebuilt : goal.returns-clause-rebuilt
returns-clause-rebuilt g c = λ w whole.
    let number = g.P.Inx.PtrInxCore.number in
    let count : c.len-count.result ≡ length w = c.len-count.ensures.value ∙ sym whole.1 in
    let a = whole_ahead (ends_in c.args.chains.now) (option_map number c.args.first)
    c.len-count.result w whole.0 (sym count) whole.2 in
    rebuilt_by w _ _ _ c.top_rank.result
    (subst (λ n. IsTopRank n c.top_rank.result) count c.top_rank.ensures.top)
    (c.build.ensures.built w a)
