use Rattle.std.proofs.Common.{◌≡◌, ◌+◌, ◌-◌, ◌/◌, Some, arith}
use Rattle.std.specs.Option.{option_map}
use Rattle.triple_arena_ord.specs.Node.{nodes_in}
use Rattle.triple_arena_ord.specs.RebuiltRun.{IsRunBuilt}
use Rattle.triple_arena_ord.proofs.RebuildRunLemmas.{run_built_none, run_built_over}
use Rattle.triple_arena_ord.proofs.rebuild_run.+build_run.Goals.{After-saturating_sub-below}
use Rattle.triple_arena_ord.proofs.rebuild_run.+build_run.Goals.{then-half-gt0, else-half-gt0}
use Rattle.triple_arena_ord.proofs.rebuild_run.+build_run.Goals as goal

-- the tree over those of both parts
whole : (g : _) (t : _) (c : After-saturating_sub-below g t) (left right : _)
    → IsRunBuilt c.saturating_sub-below.result
    (Some (g.P.Inx.PtrInxCore.number c.index_of-root.result)) c.args.before (c.args.count / 2)
    (nodes_in c.write.new.self) left
    → IsRunBuilt c.saturating_sub-below.result
    (Some (g.P.Inx.PtrInxCore.number c.index_of-root.result))
    (c.args.before + c.args.count / 2 + 1) (c.args.count - c.args.count / 2 - 1) left right
    → IsRunBuilt c.args.top (option_map g.P.Inx.PtrInxCore.number c.args.parent) c.args.before
    c.args.count (nodes_in c.args.chains.now) right
whole g t c left right first second =
    let number = g.P.Inx.PtrInxCore.number in
    let under : c.saturating_sub-below.result ≡ c.args.top - 1 = c.saturating_sub-below.ensures in
    run_built_over c.args.top (option_map number c.args.parent) c.args.before c.args.count
    (number c.index_of-root.result) c.rank_of_part.result
    (option_map number c.root_of.result) (option_map number c.root_of-2.result)
    (nodes_in c.args.chains.now) (nodes_in c.write.new.self) left right
    c.requires.some c.index_of-root.ensures c.rank_of_part.ensures c.root_of.ensures
    c.root_of-2.ensures c.write.ensures.written (rw (← under) first) (rw (← under) second)

pub returns-then-more-gt0-clause-built : goal.returns-then-more-gt0-clause-built
returns-then-more-gt0-clause-built g t c =
    whole g t (goal.at.returns-then-more-gt0-clause-built g t c).After-saturating_sub-below _ _
    (elim c.if-half-gt0.branch [
      | then-half-gt0 w ↦ rw w.chains-is w.build_run.ensures.built
      | else-half-gt0 w ↦ rw w.chains-is (run_built_none _ _ _ _ _ (omega arith))
    ]) c.build_run-then-more-gt0.ensures.built

pub returns-else-more-gt0-clause-built : goal.returns-else-more-gt0-clause-built
returns-else-more-gt0-clause-built g t c =
    whole g t (goal.at.returns-else-more-gt0-clause-built g t c).After-saturating_sub-below _ _
    (elim c.if-half-gt0.branch [
      | then-half-gt0 w ↦ rw w.chains-is w.build_run.ensures.built
      | else-half-gt0 w ↦ rw w.chains-is (run_built_none _ _ _ _ _ (omega arith))
    ]) (run_built_none _ _ _ _ _ (omega arith))
