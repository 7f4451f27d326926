use Rattle.std.proofs.Common.{rules, ◌≡◌, sym, subst, arith}
use Rattle.triple_arena.specs.Content.{inserted}
use Rattle.route_lines.specs.Sound.{IsSound}
use Rattle.route_lines.specs.declared.change.Change.TheVariants.{Mark}
use Rattle.route_book.specs.Book.{Book}
use Rattle.route_book.specs.Item.{MarkView}
use Rattle.route_book.proofs.ExtendLemmas.{next_above}
use Rattle.route_book.proofs.NewItemLemmas.{mark_leaves, mark_keeps}
use Rattle.route_book.proofs.OptionLemmas.{some_same}
use Rattle.route_book.proofs.RelinkLemmas.{roomy}
use Rattle.route_book.proofs.book.RouteBook.mark_counted.Goals as goal

pub add-requires-clause-above : goal.add-requires-clause-above
add-requires-clause-above g c = next_above _ _ _ _ _ _ _ c.self.invariant.book

pub invariant_of-self : goal.invariant_of-self
invariant_of-self g c =
    let s = c.self.inside.held.state in
    let pt = c.args.place in
    let st = c.args.stop in
    let put = c.in-Ok.ensures.inserted in
    let sound = c.self.invariant.sound in
    let room = c.self.invariant.room in
    let same = c.add.ensures.capacity in
    record {
      book = mark_leaves _ _ s _ _ _ _ c.self.invariant.book _ c.self.view_is pt _ _
          c.in_ok-at.ensures.found st _ _ c.in_ok-by.ensures.found c.if-is_full_of_marks.ensures
          _ _ _ c.new-mark.ensures.ticket c.new-mark.ensures.place c.new-mark.ensures.stop _
          put.vacant put.entries _ _ c.changed-self-inside.ensures c.add.ensures.entries
          put.live
          c.in-Ok.ensures.room;
      sound = subst IsSound (sym c.changed-self-inside.ensures)
          (c.changes_keep_states_sound.ensures.sound s (Mark pt st) tt sound);
      counts = c.self.invariant.counts;
      room = omega (arith, room, same);
      place_mirror = c.self.invariant.place_mirror;
      stop_mirror = c.self.invariant.stop_mirror;
      mark_mirror = roomy c.self.inside.marks c.insert_within_capacity.new.self _
          c.in-Ok.ensures.room c.self.invariant.mark_mirror;
    }

pub returns-clause-arena : goal.returns-clause-arena
returns-clause-arena g c =
    subst (λ (b : Book). (m : MarkView)
    × (c.insert_within_capacity.new.self ≡ inserted b.marks m))
    c.self.view_is (c.new-mark.result, c.in-Ok.ensures.exact)

pub returns-clause-changes : goal.returns-clause-changes
returns-clause-changes g c =
    let put = c.in-Ok.ensures.inserted in
    record {
      gives = search rules;
      leaves = search rules;
      kept =
          mark_keeps _ _ _ _ _ _ _ c.self.invariant.book _ c.self.view_is c.args.place _ _
          c.in_ok-at.ensures.found c.args.stop _ _ c.in_ok-by.ensures.found
          c.if-is_full_of_marks.ensures
          _ _ _ c.new-mark.ensures.ticket c.new-mark.ensures.place
          c.new-mark.ensures.stop _ put.vacant
          put.entries _
          (some_same put.generation) (some_same put.counter) c.in-Ok.ensures.room;
      refused = tt;
    }
