use Rattle.std.specs.Prelude.{◌≡◌, ◌-◌, ◌≤◌, ◌++◌, length, take, drop, map}
use Rattle.triple_arena.specs.Compression.{pointer_of, value_of}
use Rattle.slot_map_c.specs.State.{entries_after, pair_of, GoesPast}
use Rattle.slot_map_c.proofs.slot_map.SlotMap.read.Given as goal

-- what is written, and then what comes past the last one, is what came past the index given
abbrev pub invariant-read : goal.invariant-read
invariant-read l =
    record {
      goes : GoesPast l.self.arena l.walk l.at;
      handles : map pair_of (take l.count l.handles)
          ++ map pointer_of (entries_after l.self.arena l.at)
          ≡ map pointer_of (entries_after l.self.arena l.last);
      values : take l.count l.values ++ map value_of (entries_after l.self.arena l.at)
          ≡ map value_of (entries_after l.self.arena l.last);
      within : l.count ≤ l.most;
      fits : length l.handles ≡ length l.fn.handles;
      fits_values : length l.values ≡ length l.fn.values;
      rest : drop l.count l.handles ≡ drop l.count l.fn.handles;
      rest_of_values : drop l.count l.values ≡ drop l.count l.fn.values;
    }

abbrev pub decreases-read : goal.decreases-read
decreases-read l = l.most - l.count
