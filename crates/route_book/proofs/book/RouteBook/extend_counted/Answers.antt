use Rattle.std.proofs.Common.{rules, sym, subst, arith}
use Rattle.route_lines.specs.Sound.{IsSound}
use Rattle.route_lines.specs.declared.change.Change.TheVariants.{Extend}
use Rattle.route_book.proofs.ExtendLemmas.{extend_leaves, extend_keeps_in, next_above}
use Rattle.route_book.proofs.RelinkLemmas.{roomy}
use Rattle.route_book.proofs.book.RouteBook.extend_counted.Goals as goal

pub add-requires-clause-above : goal.add-requires-clause-above
add-requires-clause-above g c = next_above _ _ _ _ _ _ _ c.self.invariant.book

pub invariant_of-self : goal.invariant_of-self
invariant_of-self g c =
    let s = c.self.inside.held.state in
    let t = c.args.stop in
    let pt = c.args.place in
    let law = c.extensions_lead_through.ensures in
    let stay = c.extensions_add_one_stop.ensures in
    let sound = c.self.invariant.sound in
    let room = c.self.invariant.room in
    let same = c.add.ensures.capacity in
    record {
      book = extend_leaves _ _ s _ _ _ _ c.self.invariant.book _ c.self.view_is t _ _
          c.in_ok-behind.ensures.found pt _ _ c.in_ok-at.ensures.found
          c.if-is_full_of_stops.ensures.is
          c.is_full_of_stops.ensures.chained
          _ _ _ c.new-new.ensures.ticket c.new-new.ensures.place _ c.in-Ok.ensures.inserts.inserted
          c.in-Ok.ensures.inserts.room _ _ c.changed-self-inside.ensures c.add.ensures.entries
          (λ m ok. law.next s t pt m sound ok) (λ m ok. law.new s t pt m sound ok)
          (λ m x ok apart off. law.others s t pt m x sound ok apart off)
          (λ m ok. stay.new s t pt m sound ok)
          (λ m x ok apart. stay.others s t pt m x sound ok apart)
          (λ m ok. stay.count s t pt m sound ok);
      sound = subst IsSound (sym c.changed-self-inside.ensures)
          (c.changes_keep_states_sound.ensures.sound s (Extend t pt) tt sound);
      counts = c.self.invariant.counts;
      room = omega (arith, room, same);
      place_mirror = c.self.invariant.place_mirror;
      stop_mirror = roomy c.self.inside.stops c.insert_within_capacity.new.self _
          c.in-Ok.ensures.inserts.room c.self.invariant.stop_mirror;
      mark_mirror = c.self.invariant.mark_mirror;
    }

pub returns-clause-changes : goal.returns-clause-changes
returns-clause-changes g c =
    record {
      gives = search rules;
      leaves = search rules;
      kept =
          extend_keeps_in _ _ _ _ _ _ _ c.self.invariant.book _ c.self.view_is c.args.stop _ _
          c.in_ok-behind.ensures.found c.args.place _ _ c.in_ok-at.ensures.found
          c.if-is_full_of_stops.ensures.is
          c.is_full_of_stops.ensures.chained
          _ _ _ c.new-new.ensures.ticket c.new-new.ensures.place _ c.in-Ok.ensures.inserts.inserted
          c.in-Ok.ensures.inserts.room _;
      refused = tt;
    }
