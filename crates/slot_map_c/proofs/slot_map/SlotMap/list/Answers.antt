use Rattle.std.proofs.Common.{refl, ap, subst, length, arith}
use Rattle.std.specs.Prelude.{map}
use Rattle.triple_arena.specs.Compression.{pointer_of}
use Rattle.triple_arena.specs.LiveEntries.{live_entries-length}
use Rattle.slot_map_c.specs.State.{State, GoesPast}
use Rattle.slot_map_c.proofs.EntriesLemmas.{all_after}
use Rattle.slot_map_c.proofs.slot_map.SlotMap.list.Goals as goal

pub list-init : goal.list-init
list-init c =
    let all = all_after c.args.self.now.arena in
    let goes : GoesPast c.self.inside.arena c.advancer-walk.result 0 = record {
      rises = c.advancer-walk.ensures.rises;
      low = c.advancer-walk.ensures.low;
      reaches = c.advancer-walk.ensures.high;
    } in
    record {
      goes = subst (λ (s : State). GoesPast s.arena c.advancer-walk.result 0) c.self.view_is goes;
      handles = ap (map pointer_of) all;
      counted = omega (arith, ap (λ l. length l) all, live_entries-length c.args.self.now.arena);
      fits = refl;
      rest = refl;
    }
