use Rattle.rank_tree.specs.EdgeLaws.{free_side_lives, attach_works, attach_slot, attach_kept}
use Rattle.rank_tree.proofs.edges.attach.Goals as goal

pub set_child-requires : goal.set_child-requires
set_child-requires g c = free_side_lives _ _ _ _ _ c.requires.free

pub returns-clause-does : goal.returns-clause-does
returns-clause-does g c =
    λ free. attach_works _ _ _ _ _ _ c.set_child.ensures.does free c.requires.slot

pub returns-clause-elsewhere : goal.returns-clause-elsewhere
returns-clause-elsewhere g c = λ free. attach_kept _ _ _ _ _ _ c.set_child.ensures.does free

pub returns-clause-slot : goal.returns-clause-slot
returns-clause-slot g c =
    attach_slot _ _ _ _ _ _ c.set_child.ensures.does c.requires.free c.requires.slot
