use Rattle.example_chain.proofs.FollowLemmas.{followed}
use Rattle.example_chain.proofs.follow.compress_and_follow.Goals as goal

pub returns : goal.returns
returns g c =
    let old = c.args.arena.now in
    let new = c.remember.new.arena in
    let entries = g.A.ArenaTrait.entry_at in
    let live = g.A.ArenaTrait.live_entries in
    let laws = g.met.A.ArenaTrait in
    let told =
    followed g.P.PtrCore.index g.P.PtrCore.generation (λ m. m.was) (λ m. m.value)
    g.met.P.PtrCore.determined (entries old) (entries new) (live old) (live new)
    record {
      kept = c.remember.ensures.kept;
      old_listed = laws.entry_listed old;
      new_listed = laws.entry_listed new;
      old_rises = laws.live_entries_increase old;
      new_rises = laws.live_entries_increase new;
      compact = c.remember.ensures.compressed.compact;
    }
    c.args.p c.find_moved.result c.find_moved.ensures in
    record {
      variant = told.variant;
      follows = told.follows;
      place = told.place;
      values = c.remember.ensures.values;
      compressed = c.remember.ensures.compressed;
    }
