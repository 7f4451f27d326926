use Rattle.std.proofs.Common.{◌∙◌, ap, sym}
use Rattle.triple_arena.specs.Content.{Content}
use Rattle.triple_arena_chain.specs.LinkShape.{IndexLink}
use Rattle.triple_arena_ord.specs.Ordered.{Ordered}
use Rattle.ticket_book.specs.Tickets.{entry_at}
use Rattle.route_lines.specs.Calls.{after_removed}
use Rattle.route_lines.specs.State.{Place}
use Rattle.route_lines.specs.declared.change.Change.TheVariants.{Remove}
use Rattle.route_book.specs.Book.{as_book}
use Rattle.route_book.specs.Item.{StopView, MarkView}
use Rattle.route_book.proofs.RemovalLemmas.{Begun, IsOut, place_is, place_out, stop_is, stop_out}
use Rattle.route_book.proofs.RemovalLemmas.{mark_is, mark_out}
use Rattle.route_book.proofs.book.removing.end_at.Given.{Over}
use Rattle.route_book.proofs.book.removing.end_at.Goals.{After-changed, After-remove}
use Rattle.route_book.proofs.book.removing.end_at.Goals.{After-remove_link_no_gen}
use Rattle.route_book.proofs.book.removing.end_at.Goals.{After-remove-in-Mark}
use Rattle.route_book.proofs.book.removing.end_at.Goals as goal

module _ (g : Over) (c : After-changed g) where
  -- the entry is taken, and its item goes
  begun : Begun c.args.held.now.state.rooms c.args.held.now.state.last c.args.held.now.state
      c.changed.result.state c.args.places.now c.args.stops.now c.args.marks.now
      c.args.tickets.now.entries c.take-entry.new.self.entries c.take-entry.result
      (g.P.PtrCore.index c.at-item.result) (g.P.PtrCore.generation c.at-item.result)
      g.P.Gen.PtrGenCore.last (entry_at c.args.tickets.now (g.P.Inx.PtrInxCore.number c.args.at))
  begun =
      let s = c.args.held.now.state in
      record {
        tied = c.requires.book;
        found = c.take-entry.ensures.found;
        index = c.at-item.ensures.index;
        generation = c.at-item.ensures.generation;
        counts = c.requires.counts;
        stood = c.take-entry.ensures.entry;
        calm = c.requires.stands;
        left = c.changed.ensures ∙ ap (after_removed s) c.ticket.ensures;
        sound = c.changes_keep_states_sound.ensures.sound s (Remove c.take-entry.result.ticket) tt
            c.requires.sound;
        out = c.take-entry.ensures.out;
      }

  -- the item is gone, in these arenas
  abbrev Gone : Ordered Place → Content (IndexLink StopView) → Content MarkView → Type 0
  Gone places stops marks =
      IsOut c.args.held.now.state.rooms c.args.held.now.state.last g.P.Gen.PtrGenCore.last
      (entry_at c.args.tickets.now (g.P.Inx.PtrInxCore.number c.args.at))
      (as_book c.args.held.now.state c.args.places.now c.args.stops.now c.args.marks.now)
      (as_book c.changed.result.state places stops marks) c.take-entry.new.self.entries

place : (g : Over) (c : After-remove g)
    → Gone g (goal.at.returns-in-Place-clause-book g c).After-changed
    c.remove.new.self c.args.stops.now c.args.marks.now
place g c =
    let at = (goal.at.returns-in-Place-clause-book g c).After-changed in
    let s = c.args.held.now.state in
    let t = c.take-entry.result.ticket in
    let sound = c.requires.sound in
    let law = c.removed_places_leave_no_reference.ensures in
    place_out _ _ _ _ _ _ _ _ _ _ _ _ _ _ (begun g at) (sym c.kind-kind.ensures ∙ c.in-Place.is)
    _ _ _ c.remove.ensures.value c.len.ensures.formed.ordered _ c.remove.ensures.exact
    (λ p own. record {
      is = place_is s t p own;
      places = λ u. law.places s t u p sound own;
      stops = λ u. law.stops s t u p sound own;
      marks = λ u. law.marks s t u p sound own;
      next = λ u. law.next s t u p sound own;
      place_count = law.place_count s t p sound own;
      stop_count = law.stop_count s t p sound own;
      mark_count = law.mark_count s t p sound own;
    })

stop : (g : Over) (c : After-remove_link_no_gen g)
    → Gone g (goal.at.returns-in-Stop-clause-book g c).After-changed
    c.args.places.now c.remove_link_no_gen.new.self c.args.marks.now
stop g c =
    let at = (goal.at.returns-in-Stop-clause-book g c).After-changed in
    let s = c.args.held.now.state in
    let t = c.take-entry.result.ticket in
    let sound = c.requires.sound in
    let law = c.removed_stops_join_their_neighbors.ensures in
    stop_out _ _ _ _ _ _ _ _ _ _ _ _ _ _ (begun g at) (sym c.kind-kind.ensures ∙ c.in-Stop.is)
    _ _ _ c.remove_link_no_gen.ensures.value c.len-in-Stop.ensures.formed _
    c.remove_link_no_gen.ensures.taken
    (λ u own. record {
      is = stop_is s t u own;
      stops = λ x. law.stops s t x u sound own;
      marks = λ x. law.marks s t x u sound own;
      next = λ x. law.next s t x u sound own;
      stop_count = law.stop_count s t u sound own;
      mark_count = law.mark_count s t u sound own;
    })

mark : (g : Over) (c : After-remove-in-Mark g)
    → Gone g (goal.at.returns-in-Mark-clause-book g c).After-changed
    c.args.places.now c.args.stops.now c.remove-in-Mark.new.self
mark g c =
    let at = (goal.at.returns-in-Mark-clause-book g c).After-changed in
    let s = c.args.held.now.state in
    let t = c.take-entry.result.ticket in
    let sound = c.requires.sound in
    let law = c.removed_marks_leave_all_else.ensures in
    mark_out _ _ _ _ _ _ _ _ _ _ _ _ _ _ (begun g at) (sym c.kind-kind.ensures ∙ c.in-Mark.is)
    _ _ _ c.remove-in-Mark.ensures.value _ c.remove-in-Mark.ensures.removed
    c.remove-in-Mark.ensures.exact
    (λ m own. record {
      is = mark_is s t m own;
      marks = λ x. law.marks s t x m sound own;
      mark_count = law.mark_count s t m sound own;
    })

pub returns-in-Place-clause-book : goal.returns-in-Place-clause-book
returns-in-Place-clause-book g c = (place g c).book

pub returns-in-Place-clause-sound : goal.returns-in-Place-clause-sound
returns-in-Place-clause-sound g c = (place g c).sound

pub returns-in-Place-clause-ends : goal.returns-in-Place-clause-ends
returns-in-Place-clause-ends g c = (place g c).ends

pub returns-in-Place-clause-rooms : goal.returns-in-Place-clause-rooms
returns-in-Place-clause-rooms g c = (place g c).rooms

pub returns-in-Stop-clause-book : goal.returns-in-Stop-clause-book
returns-in-Stop-clause-book g c = (stop g c).book

pub returns-in-Stop-clause-sound : goal.returns-in-Stop-clause-sound
returns-in-Stop-clause-sound g c = (stop g c).sound

pub returns-in-Stop-clause-ends : goal.returns-in-Stop-clause-ends
returns-in-Stop-clause-ends g c = (stop g c).ends

pub returns-in-Stop-clause-rooms : goal.returns-in-Stop-clause-rooms
returns-in-Stop-clause-rooms g c = (stop g c).rooms

pub returns-in-Mark-clause-book : goal.returns-in-Mark-clause-book
returns-in-Mark-clause-book g c = (mark g c).book

pub returns-in-Mark-clause-sound : goal.returns-in-Mark-clause-sound
returns-in-Mark-clause-sound g c = (mark g c).sound

pub returns-in-Mark-clause-ends : goal.returns-in-Mark-clause-ends
returns-in-Mark-clause-ends g c = (mark g c).ends

pub returns-in-Mark-clause-rooms : goal.returns-in-Mark-clause-rooms
returns-in-Mark-clause-rooms g c = (mark g c).rooms
