use Rattle.std.proofs.Common.{rules, refl, sym, subst, true≢false}
use Rattle.route_lines.specs.Sound.{IsSound}
use Rattle.route_lines.specs.declared.change.Change.TheVariants.{Join}
use Rattle.route_book.proofs.RelinkLemmas.{join_leaves, refused_keeps, relinked_keeps}
use Rattle.route_book.proofs.RelinkLemmas.{still_mirrored, told_apart, told_joined}
use Rattle.route_book.proofs.book.RouteBook.join_counted.Goals as goal

pub invariant_of-self : goal.invariant_of-self
invariant_of-self g c =
    let s = c.self.inside.held.state in
    let t = c.args.stop in
    let u = c.args.next in
    let law = c.joins_lead_on.ensures in
    let stay = c.stops_stay_as_routes_change.ensures in
    let sound = c.self.invariant.sound in
    record {
      book = join_leaves _ _ _ _ _ _ _ c.self.invariant.book _ c.self.view_is
          c.len.ensures.formed.agreed t _ _ c.in_ok-from.ensures.found u _ _
          c.in_ok-to.ensures.found
          (λ x y. c.stops_follow_their_previous_ones.ensures c.self.inside.held.state x y
          c.self.invariant.sound) _ _ c.changed-self-inside.ensures
          (c.in-Some.ensures.variant.0 refl) c.in-Some.ensures.relinked
          (λ ok. law.next s t u sound ok) (λ x ok apart. law.others s t u x sound ok apart)
          (λ x. stay.joined s t u x sound)
          (stay.joined_count s t u sound);
      sound = subst IsSound (sym c.changed-self-inside.ensures)
          (c.changes_keep_states_sound.ensures.sound s (Join t u) tt sound);
      counts = c.self.invariant.counts;
      room = c.self.invariant.room;
      place_mirror = c.self.invariant.place_mirror;
      stop_mirror = still_mirrored _ _ _ c.in-Some.ensures.relinked.kept
          c.self.invariant.stop_mirror;
      mark_mirror = c.self.invariant.mark_mirror;
    }

pub returns-in-Some-clause-changes : goal.returns-in-Some-clause-changes
returns-in-Some-clause-changes g c =
    record {
      gives =
          told_joined _ _ _ _ _ _ _ c.self.invariant.book _ c.self.view_is
          c.len.ensures.formed.agreed
          c.args.stop _ _ c.in_ok-from.ensures.found c.args.next _ _ c.in_ok-to.ensures.found
          (λ x y. c.stops_follow_their_previous_ones.ensures c.self.inside.held.state x y
          c.self.invariant.sound) (c.in-Some.ensures.variant.0 refl);
      leaves = search rules;
      kept =
          relinked_keeps _ _ _ _ _ _ _ c.self.invariant.book _ c.self.view_is _ _ _
          c.in-Some.ensures.relinked;
      refused = tt;
    }

pub returns-in-None-clause-changes : goal.returns-in-None-clause-changes
returns-in-None-clause-changes g c =
    let told =
    told_apart _ _ _ _ _ _ _ c.self.invariant.book _ c.self.view_is c.len.ensures.formed.agreed
    c.args.stop _ _ c.in_ok-from.ensures.found c.args.next _ _ c.in_ok-to.ensures.found
    (λ x y. c.stops_follow_their_previous_ones.ensures c.self.inside.held.state x y
    c.self.invariant.sound) (λ some. true≢false (sym (c.in-None.ensures.variant.1 some))) in
    record {
      gives = told.0;
      leaves = told.1;
      kept =
          refused_keeps _ _ _ _ _ _ _ c.self.invariant.book _ c.self.view_is _
          c.in-None.ensures.none;
      refused = search rules;
    }
