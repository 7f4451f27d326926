use Rattle.std.proofs.Common.{rules, sym, subst, arith}
use Rattle.route_lines.specs.Sound.{IsSound}
use Rattle.route_lines.specs.declared.change.Change.TheVariants.{Start}
use Rattle.route_book.proofs.ExtendLemmas.{next_above}
use Rattle.route_book.proofs.NewItemLemmas.{start_leaves, start_keeps}
use Rattle.route_book.proofs.RelinkLemmas.{roomy}
use Rattle.route_book.proofs.book.RouteBook.start_counted.Goals as goal

pub add-requires-clause-above : goal.add-requires-clause-above
add-requires-clause-above g c = next_above _ _ _ _ _ _ _ c.self.invariant.book

pub invariant_of-self : goal.invariant_of-self
invariant_of-self g c =
    let s = c.self.inside.held.state in
    let pt = c.args.place in
    let law = c.starts_lead_nowhere.ensures in
    let sound = c.self.invariant.sound in
    let room = c.self.invariant.room in
    let same = c.add.ensures.capacity in
    record {
      book = start_leaves _ _ s _ _ _ _ c.self.invariant.book _ c.self.view_is pt _ _
          c.in_ok-at.ensures.found c.if-is_full_of_stops.ensures.is
          c.is_full_of_stops.ensures.chained
          _ _ _ c.new-stop.ensures.ticket c.new-stop.ensures.place _
          c.in-Ok.ensures.inserts.inserted
          c.in-Ok.ensures.inserts.room _ _ c.changed-self-inside.ensures c.add.ensures.entries
          (λ m ok. law.next s pt m sound ok) (λ m x ok apart. law.others s pt m x sound ok apart);
      sound = subst IsSound (sym c.changed-self-inside.ensures)
          (c.changes_keep_states_sound.ensures.sound s (Start pt) tt sound);
      counts = c.self.invariant.counts;
      room = omega (arith, room, same);
      place_mirror = c.self.invariant.place_mirror;
      stop_mirror = roomy c.self.inside.stops c.insert_within_capacity.new.self _
          c.in-Ok.ensures.inserts.room c.self.invariant.stop_mirror;
      mark_mirror = c.self.invariant.mark_mirror;
    }

pub returns-clause-changes : goal.returns-clause-changes
returns-clause-changes g c =
    record {
      gives = search rules;
      leaves = search rules;
      kept =
          start_keeps _ _ _ _ _ _ _ c.self.invariant.book _ c.self.view_is c.args.place _ _
          c.in_ok-at.ensures.found c.if-is_full_of_stops.ensures.is
          c.is_full_of_stops.ensures.chained
          _ _ _ c.new-stop.ensures.ticket c.new-stop.ensures.place _
          c.in-Ok.ensures.inserts.inserted
          c.in-Ok.ensures.inserts.room _;
      refused = tt;
    }
