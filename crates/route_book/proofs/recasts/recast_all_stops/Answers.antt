use Rattle.triple_arena_chain.specs.Links.{ends_in}
use Rattle.triple_arena_chain.specs.LinkLaws.{ends-with_value_in, kept-with_value_in}
use Rattle.route_book.proofs.recasts.recast_all_stops.Goals as goal

pub returns-clause-ends : goal.returns-clause-ends
returns-clause-ends g c =
    λ j. c.recast_stops.ensures.kept (λ s. ends_in s j)
    (λ s i t. ends-with_value_in s i t j)

pub returns-clause-free : goal.returns-clause-free
returns-clause-free g c =
    c.recast_stops.ensures.kept_list (λ s. s.free) (λ s i t. (kept-with_value_in s i t).free)
