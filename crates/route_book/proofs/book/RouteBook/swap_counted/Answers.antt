use Rattle.std.proofs.Common.{rules, refl, sym, subst, true≢false}
use Rattle.route_lines.specs.Sound.{IsSound}
use Rattle.route_lines.specs.declared.change.Change.TheVariants.{Swap}
use Rattle.route_book.proofs.RelinkLemmas.{refused_keeps, relinked_keeps, still_mirrored}
use Rattle.route_book.proofs.RelinkLemmas.{swap_leaves, swapped_links, told_swapped, told_unswapped}
use Rattle.route_book.proofs.book.RouteBook.swap_counted.Goals as goal

pub invariant_of-self : goal.invariant_of-self
invariant_of-self g c =
    let s = c.self.inside.held.state in
    let t = c.args.stop in
    let u = c.args.other in
    let law = c.swaps_exchange_next_stops.ensures in
    let stay = c.stops_stay_as_routes_change.ensures in
    let sound = c.self.invariant.sound in
    let some = c.in-Some.ensures.variant.0 refl in
    let re = swapped_links _ _ _ _ _ _ _ c.self.invariant.book _ c.self.view_is
    c.len.ensures.formed.agreed t _ _ c.in_ok-from.ensures.found u _ _ c.in_ok-by.ensures.found
    _ some
    c.in-Some.ensures.relinked in
    record {
      book = swap_leaves _ _ _ _ _ _ _ c.self.invariant.book _ c.self.view_is
          c.len.ensures.formed.agreed t _ _ c.in_ok-from.ensures.found u _ _
          c.in_ok-by.ensures.found _ _
          c.changed-self-inside.ensures
          some c.in-Some.ensures.relinked (λ ok. law.first s t u sound ok)
          (λ ok. law.second s t u sound ok)
          (λ x ok apart off. law.others s t u x sound ok apart off)
          (λ x. stay.swapped s t u x sound) (stay.swapped_count s t u sound);
      sound = subst IsSound (sym c.changed-self-inside.ensures)
          (c.changes_keep_states_sound.ensures.sound s (Swap t u) tt sound);
      counts = c.self.invariant.counts;
      room = c.self.invariant.room;
      place_mirror = c.self.invariant.place_mirror;
      stop_mirror = still_mirrored _ _ _ re.1.1.kept c.self.invariant.stop_mirror;
      mark_mirror = c.self.invariant.mark_mirror;
    }

pub returns-in-Some-clause-changes : goal.returns-in-Some-clause-changes
returns-in-Some-clause-changes g c =
    let re = swapped_links _ _ _ _ _ _ _ c.self.invariant.book _ c.self.view_is
    c.len.ensures.formed.agreed c.args.stop _ _ c.in_ok-from.ensures.found c.args.other _ _
    c.in_ok-by.ensures.found
    _ (c.in-Some.ensures.variant.0 refl) c.in-Some.ensures.relinked in
    record {
      gives =
          told_swapped _ _ _ _ _ _ _ c.self.invariant.book _ c.self.view_is
          c.len.ensures.formed.agreed
          c.args.stop _ _ c.in_ok-from.ensures.found c.args.other _ _ c.in_ok-by.ensures.found
          (c.in-Some.ensures.variant.0 refl);
      leaves = search rules;
      kept =
          relinked_keeps _ _ _ _ _ _ _ c.self.invariant.book _ c.self.view_is _ _ _ re.1.1;
      refused = tt;
    }

pub returns-in-None-clause-changes : goal.returns-in-None-clause-changes
returns-in-None-clause-changes g c =
    let told =
    told_unswapped _ _ _ _ _ _ _ c.self.invariant.book _ c.self.view_is
    c.len.ensures.formed.agreed c.args.stop _ _ c.in_ok-from.ensures.found c.args.other _ _
    c.in_ok-by.ensures.found
    (λ some. true≢false (sym (c.in-None.ensures.variant.1 some))) in
    record {
      gives = told.0;
      leaves = told.1;
      kept =
          refused_keeps _ _ _ _ _ _ _ c.self.invariant.book _ c.self.view_is _
          c.in-None.ensures.none;
      refused = search rules;
    }
