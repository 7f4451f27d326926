use Rattle.triple_arena_chain.specs.LinkLaws.{ends-with_value_in}
use Rattle.triple_arena_chain.specs.SameLinksLaws.{ends-invalidated, ends-with_limit}
use Rattle.triple_arena_chain.specs.SameLinksLaws.{ends-content_recasted}
use Rattle.triple_arena_chain.proofs.laws.values_keep_the_interlinks.Goals as goal

pub returns-clause-written : goal.returns-clause-written
returns-clause-written g c =
    λ content i t k. ends-with_value_in content i t k

pub returns-clause-recast : goal.returns-clause-recast
returns-clause-recast g c =
    λ f content k. ends-content_recasted g.T.Recast.items f
    (g.T.Recast.recasted f) content k

pub returns-clause-invalidated : goal.returns-clause-invalidated
returns-clause-invalidated g c =
    λ content i k. ends-invalidated g.P.Gen.PtrGenCore.last content i k

pub returns-clause-limited : goal.returns-clause-limited
returns-clause-limited g c =
    λ content max k. ends-with_limit g.P.Inx.PtrInxCore.greatest content
    max k
