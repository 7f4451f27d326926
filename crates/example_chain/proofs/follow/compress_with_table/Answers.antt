use Rattle.example_chain.proofs.FollowLemmas.{pointer_followed}
use Rattle.example_chain.proofs.follow.compress_with_table.Goals as goal

pub returns-clause-table : goal.returns-clause-table
returns-clause-table g c k =
    let old = c.args.arena.now in
    let new = c.remember.new.arena in
    let entries = g.A.ArenaTrait.entry_at in
    let live = g.A.ArenaTrait.live_entries in
    let laws = g.met.A.ArenaTrait in
    pointer_followed g.P.PtrCore.index g.P.PtrCore.generation (λ m. m.was) (λ m. m.value)
    g.met.P.PtrCore.determined (entries old) (entries new) (live old) (live new)
    record {
      kept = c.remember.ensures.kept;
      old_listed = laws.entry_listed old;
      new_listed = laws.entry_listed new;
      old_rises = laws.live_entries_increase old;
      new_rises = laws.live_entries_increase new;
      compact = c.remember.ensures.compressed.compact;
    }
    _ _ (c.find_all_moved.ensures k)
