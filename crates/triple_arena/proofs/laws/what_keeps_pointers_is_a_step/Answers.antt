use Rattle.std.proofs.Common.{ap, refl}
use Rattle.std.specs.Option.{option_map}
use Rattle.triple_arena.specs.FreeListLaws.{entry-without_free_end}
use Rattle.triple_arena.specs.IterMutLaws.{rewritten}
use Rattle.triple_arena.specs.LimitLaws.{entry-with_limit, counter-with_limit}
use Rattle.triple_arena.specs.RecastingLaws.{generation-recasted}
use Rattle.std.proofs.Common.{Some}
use Rattle.triple_arena.proofs.laws.what_keeps_pointers_is_a_step.Goals as goal

pub returns-clause-recast : goal.returns-clause-recast
returns-clause-recast g c items image recasted arena =
    (generation-recasted items image recasted arena, refl)

pub returns-clause-values : goal.returns-clause-values
returns-clause-values g c arena values = ((rewritten arena values).generations, refl)

pub returns-clause-free_end : goal.returns-clause-free_end
returns-clause-free_end g c arena =
    (λ j. ap (option_map (λ entry. entry.0)) (entry-without_free_end arena j), refl)

pub returns-clause-limit : goal.returns-clause-limit
returns-clause-limit g c arena max =
    let greatest = g.P.Inx.PtrInxCore.greatest in (
      λ j. ap (option_map (λ entry. entry.0)) (entry-with_limit greatest arena max j),
      ap Some (counter-with_limit greatest arena max),
    )
