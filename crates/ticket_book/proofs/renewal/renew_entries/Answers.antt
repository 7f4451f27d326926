use Rattle.std.proofs.Common.{◌∙◌, ap, is_some}
use Rattle.triple_arena_ord.specs.Ordered.{entry_in}
use Rattle.ticket_book.specs.Mirrors.{numbers, renewed_entry}
use Rattle.ticket_book.specs.Tickets.{Entry}
use Rattle.ticket_book.specs.WalkLaws.{IsCasting, cast_end, cast_on, entry_written, stands_at}
use Rattle.ticket_book.proofs.renewal.renew_entries.Given.{Over}
use Rattle.ticket_book.proofs.renewal.renew_entries.Goals.{After-advance}
use Rattle.ticket_book.proofs.renewal.renew_entries.Goals as goal

module _ (g : Over) (c : After-advance g) where
  abbrev cast : Entry → Entry
  cast = renewed_entry
      (numbers g.P.PtrCore.index g.P.PtrCore.generation
      (g.M.ArenaTrait.entry_at c.args.places.now))
      (numbers g.P.PtrCore.index g.P.PtrCore.generation (g.N.ArenaTrait.entry_at c.args.stops.now))
      (numbers g.P.PtrCore.index g.P.PtrCore.generation (g.O.ArenaTrait.entry_at c.args.marks.now))

  casting : IsCasting cast (entry_in c.args.arena.now) (entry_in c.loop-p.arena) c.loop-p.walk
  casting =
      let inv = c.loop-p.invariant in
      record {
        rises = inv.rises;
        reaches = inv.reaches;
        passed = inv.passed;
        ahead = inv.ahead;
      }

pub loop-p-preserved-in-Some-get_mut : goal.loop-p-preserved-in-Some-get_mut
loop-p-preserved-in-Some-get_mut g c =
    let before = (goal.at.loop-p-preserved-in-Some-get_mut g c).After-advance in
    let inv = c.loop-p.invariant in
    let i = g.P.PtrCore.index c.in-Some.p in
    let h = g.P.PtrCore.generation c.in-Some.p in
    let stands = stands_at (entry_in c.loop-p.arena) i h _ c.in-Some-get_mut.ensures.value in
    let replaced = c.writes_keep_the_list.ensures.replaced c.loop-p.arena i h c.renew.new.self _
    inv.ordered stands in
    let on = cast_on (cast g before) _ _ _ c.advance.new.self (casting g before) _ i h _ _
    c.in-Some.ensures.given
    stands c.renew.ensures (entry_written _ _ i h c.renew.new.self replaced.entries) in
    record {
      rises = on.casting.rises;
      reaches = on.casting.reaches;
      passed = on.casting.passed;
      ahead = on.casting.ahead;
      order = replaced.order ∙ inv.order;
      room = replaced.kept.room ∙ inv.room;
      ordered = c.writes_keep_the_list.ensures.ordered c.loop-p.arena i c.renew.new.self inv.ordered
          (ap is_some stands);
    }

pub returns-clause-entries : goal.returns-clause-entries
returns-clause-entries g c =
    let last = (goal.at.returns-clause-entries g c).After-advance in
    cast_end (cast g last) _ _ _ c.advance.new.self (casting g last) c.in_default.ensures.given
