use Rattle.std.proofs.Common.{◌≡◌, ◌∙◌, ◌<◌, ◌≤◌, sym, ap, subst, refl, Some}
use Rattle.triple_arena.specs.DirectContent.{entry_at, arena_capacity}
use Rattle.ticket_book.specs.Tickets.{lookup}
use Rattle.route_book.proofs.NoteLemmas.{note_known, note_fits, note_vacant, note_done}
use Rattle.route_book.proofs.mirrors.note.Goals as goal

pub unreached-unreachable-requires-in_default-find_counted :
    goal.unreached-unreachable-requires-in_default-find_counted
unreached-unreachable-requires-in_default-find_counted g c =
    note_known g.P.PtrCore.index g.P.PtrCore.generation g.T.Ticketed.ticket_of
    c.args.book.now.entries (g.A.ArenaTrait.entry_at c.args.arena.now) c.args.p
    c.in-Some.item.now
    c.in-Some.ensures c.own_ticket.result c.own_ticket.ensures (arena_capacity c.args.mirror.now)
    c.requires.booked
    (sym c.in_default-find_counted.ensures.found)

pub put-requires-clause-vacant : goal.put-requires-clause-vacant
put-requires-clause-vacant g c =
    let found : lookup c.args.book.now.entries c.own_ticket.result ≡ Some _ =
    sym c.in-Some-find_counted.ensures.found in
    let fits = note_fits g.P.PtrCore.index g.P.PtrCore.generation g.T.Ticketed.ticket_of
    c.args.book.now.entries (g.A.ArenaTrait.entry_at c.args.arena.now) c.args.p
    c.in-Some.item.now
    c.in-Some.ensures c.own_ticket.result c.own_ticket.ensures (arena_capacity c.args.mirror.now)
    c.requires.booked _ found (entry_at c.args.mirror.now) c.requires.mirrored in
    let vacant = note_vacant g.P.PtrCore.index g.P.PtrCore.generation g.T.Ticketed.ticket_of
    c.args.book.now.entries (g.A.ArenaTrait.entry_at c.args.arena.now) c.args.p
    c.in-Some.item.now
    c.in-Some.ensures c.own_ticket.result c.own_ticket.ensures (arena_capacity c.args.mirror.now)
    c.requires.booked _ found (entry_at c.args.mirror.now) c.requires.mirrored in
    record {
      positive = subst (λ k. 0 < k) (sym c.at.ensures.index) fits.0;
      fits = subst (λ k. k ≤ arena_capacity c.args.mirror.now) (sym c.at.ensures.index) fits.1;
      vacant = ap (entry_at c.args.mirror.now) c.at.ensures.index ∙ vacant;
    }

pub returns-clause-mirrored : goal.returns-clause-mirrored
returns-clause-mirrored g c =
    let found : lookup c.args.book.now.entries c.own_ticket.result ≡ Some _ =
    sym c.in-Some-find_counted.ensures.found in
    note_done g.P.PtrCore.index g.P.PtrCore.generation g.T.Ticketed.ticket_of
    c.args.book.now.entries (g.A.ArenaTrait.entry_at c.args.arena.now) c.args.p
    c.in-Some.item.now
    c.in-Some.ensures c.own_ticket.result c.own_ticket.ensures (arena_capacity c.args.mirror.now)
    c.requires.booked _ found (entry_at c.args.mirror.now) c.requires.mirrored
    _ _ _ _ (λ j. refl) c.at.ensures.index c.at.ensures.generation c.put.ensures.entries
