use Rattle.std.specs.Prelude.{◌≡◌, ◌-◌, ◌+◌, ◌++◌, length, take, drop, map}
use Rattle.triple_arena.specs.Compression.{pointer_of}
use Rattle.triple_arena.specs.Content.{live_count}
use Rattle.triple_arena.specs.LiveEntries.{live_entries}
use Rattle.slot_map_c.specs.State.{entries_after, pair_of, GoesPast}
use Rattle.slot_map_c.proofs.slot_map.SlotMap.list.Given as goal

-- what is written, and then what comes past the last one, is all
abbrev pub invariant-list : goal.invariant-list
invariant-list l =
    record {
      goes : GoesPast l.self.arena l.walk l.at;
      handles : map pair_of (take l.count l.handles)
          ++ map pointer_of (entries_after l.self.arena l.at)
          ≡ map pointer_of (live_entries l.self.arena);
      counted : l.count + length (entries_after l.self.arena l.at) ≡ live_count l.self.arena;
      fits : length l.handles ≡ length l.fn.handles;
      rest : drop l.count l.handles ≡ drop l.count l.fn.handles;
    }

abbrev pub decreases-list : goal.decreases-list
decreases-list l = live_count l.self.arena - l.count
