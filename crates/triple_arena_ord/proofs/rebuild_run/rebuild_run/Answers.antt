use Rattle.std.proofs.Common.{arith}
use Rattle.std.specs.Option.{option_map}
use Rattle.triple_arena_ord.specs.Node.{nodes_in}
use Rattle.triple_arena_ord.proofs.RebuildRunLemmas.{run_lives, run_rebuilt, none_rebuilt}
use Rattle.triple_arena_ord.proofs.rebuild_run.rebuild_run.Goals.{then-count-gt0, else-count-gt0}
use Rattle.triple_arena_ord.proofs.rebuild_run.rebuild_run.Goals as goal

pub build_run-requires-clause-live : goal.build_run-requires-clause-live
build_run-requires-clause-live g c =
    rw c.len-count.ensures.value
    (run_lives c.args.chains.now _ c.requires.linear)

pub returns-clause-rebuilt : goal.returns-clause-rebuilt
returns-clause-rebuilt g c =
    let number = g.P.Inx.PtrInxCore.number in
    let nodes = nodes_in c.if-count-gt0.chains in
    rw (← c.len-count.ensures.value) (elim c.if-count-gt0.branch [
      | then-count-gt0 w ↦
          rw w.chains-is
          (run_rebuilt c.len-count.result w.top_rank.result (option_map number c.root_of.result)
          (nodes_in c.args.chains.now)
          (nodes_in w.build_run.new.chains) w.top_rank.ensures.top c.root_of.ensures
          w.build_run.ensures.built)
      | else-count-gt0 w ↦ none_rebuilt c.len-count.result (option_map number c.root_of.result)
          nodes (omega arith) c.root_of.ensures
    ])
