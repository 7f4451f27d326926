use Rattle.std.proofs.Common.{rules, ◌≡◌, sym, subst}
use Rattle.triple_arena.specs.DirectContent.{arena_capacity as mirror_capacity}
use Rattle.triple_arena_stack.specs.Room.{capacity}
use Rattle.triple_arena_ord.specs.Inserted.{IsReplaced}
use Rattle.route_lines.specs.Changes.{borrowed}
use Rattle.route_lines.specs.Sound.{IsSound}
use Rattle.route_lines.specs.declared.change.Change.TheVariants.{Word as WordChange}
use Rattle.route_book.specs.Book.{Book, FindsPlace, as_book}
use Rattle.route_book.proofs.PlaceLemmas.{kept_reworded, reword_kept}
use Rattle.route_book.proofs.book.RouteBook.replace_word.Given.{Over}
use Rattle.route_book.proofs.book.RouteBook.replace_word.Goals.{After-reword}
use Rattle.route_book.proofs.book.RouteBook.replace_word.Goals as goal

module _ (g : Over) (c : After-reword g) where
  -- the place that has the ticket, and its new word
  found : FindsPlace (as_book c.self.inside.held.state c.self.inside.places c.self.inside.stops
      c.self.inside.marks) c.args.ticket (g.P.PtrCore.index c.args.at)
      (g.P.PtrCore.generation c.args.at)
  found = subst (λ (b : Book). FindsPlace b c.args.ticket (g.P.PtrCore.index c.args.at)
      (g.P.PtrCore.generation c.args.at)) (sym c.self.view_is) c.requires.found

  replaced : IsReplaced (g.P.PtrCore.index c.args.at) (g.P.PtrCore.generation c.args.at)
      (record found.0 { word = c.args.word }) found.0 c.self.inside.places c.reword.new.arena
  replaced = c.reword.ensures.replaced found.0 found.1

pub invariant_of-self : goal.invariant_of-self
invariant_of-self g c =
    let place = found g c in
    let reworded = replaced g c in
    let sound = c.changes_keep_states_sound.ensures.sound c.self.inside.held.state
    (WordChange c.args.ticket (borrowed c.args.word)) c.as_bytes.ensures.word
    c.self.invariant.sound in
    record {
      book = reword_kept _ _ _ _ _ _ _ _ c.self.invariant.book place.0 c.args.ticket c.args.word
          place.2 sound _ _ reworded _ c.changed-self-inside.ensures;
      sound = subst IsSound (sym c.changed-self-inside.ensures) sound;
      counts = c.self.invariant.counts;
      room = c.self.invariant.room;
      place_mirror = subst (λ r. capacity r ≡ mirror_capacity c.self.inside.mirrors.places)
          (sym reworded.kept.room) c.self.invariant.place_mirror;
      stop_mirror = c.self.invariant.stop_mirror;
      mark_mirror = c.self.invariant.mark_mirror;
    }

pub returns-clause-changes : goal.returns-clause-changes
returns-clause-changes g c =
    record {
      gives = search rules;
      leaves = search rules;
      kept = kept_reworded _ _ _ _ _ _ _ c.self.view_is _ _ _ _ (replaced g c);
      refused = tt;
    }
