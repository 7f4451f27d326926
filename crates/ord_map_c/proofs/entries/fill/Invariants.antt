use Rattle.std.specs.Prelude.{◌≡◌, ◌-◌, ◌≤◌, ◌++◌, length, take, drop, map}
use Rattle.std.specs.Int.NonZero.{non_zero_u32_get}
use Rattle.triple_arena_ord.specs.OrderedWalks.{entries_left}
use Rattle.ord_map_c.specs.Entries.{pointer_of, key_of, value_of}
use Rattle.ord_map_c.specs.State.{pair_of}
use Rattle.ord_map_c.proofs.entries.fill.Given as goal

-- what is written, and then what is left to the walk, is what was left to it
abbrev pub invariant-fill : goal.invariant-fill
invariant-fill l =
    record {
      handles : map pair_of (take l.count l.handles)
          ++ map pointer_of (entries_left l.entries l.walk)
          ≡ map pointer_of (entries_left l.entries l.fn.walk);
      keys : take l.count l.keys ++ map key_of (entries_left l.entries l.walk)
          ≡ map key_of (entries_left l.entries l.fn.walk);
      values : take l.count l.values
          ++ map value_of (entries_left l.entries l.walk)
          ≡ map value_of (entries_left l.entries l.fn.walk);
      within : l.count ≤ l.most;
      fits : length l.handles ≡ length l.fn.handles;
      fits_keys : length l.keys ≡ length l.fn.keys;
      fits_values : length l.values ≡ length l.fn.values;
      rest : drop l.count l.handles ≡ drop l.count l.fn.handles;
      rest_of_keys : drop l.count l.keys ≡ drop l.count l.fn.keys;
      rest_of_values : drop l.count l.values ≡ drop l.count l.fn.values;
    }

abbrev pub decreases-fill : goal.decreases-fill
decreases-fill l = l.most - l.count
