use Rattle.triple_arena_chain.specs.DrainLaws.{one_walk, walk_of}
use Rattle.triple_arena_chain.specs.Links.{ends_in}
use Rattle.triple_arena_chain.proofs.LawLemmas.{in_one_chain}
use Rattle.triple_arena_chain.proofs.laws.links_begin_one_walk.Goals as goal

pub returns : goal.returns
returns g c content i chained live =
    let ends = ends_in content in
    let walk = walk_of ends i (in_one_chain content i chained live).stands
    in
    (walk.0, walk.1, λ other from. one_walk ends i other walk.0 from walk.1)
