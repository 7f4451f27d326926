use Rattle.rank_tree.specs.Repair.{walk_without}
use Rattle.rank_tree.proofs.removal_repair.bring_out.Goals as goal

pub repair_removed-requires-clause-pending : goal.repair_removed-requires-clause-pending
repair_removed-requires-clause-pending g c = (
  walk_without c.requires.loose,
  c.detach-pending.ensures.does c.requires.loose,
)
