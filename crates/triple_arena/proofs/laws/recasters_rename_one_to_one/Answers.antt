use Rattle.triple_arena.specs.RecasterLaws.{recaster-is_renaming}
use Rattle.triple_arena.proofs.laws.recasters_rename_one_to_one.Goals as goal

pub returns : goal.returns
returns g c before after renaming left =
    recaster-is_renaming before after renaming left.0 left.1 left.2
