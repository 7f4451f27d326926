use Rattle.std.proofs.Common.{rules, ◌≡◌, ◌∙◌, ap, sym, subst, refl, arith, true≢false, length}
use Rattle.std.proofs.Common.{map, ℕ, ◌≤◌}
use Rattle.std.proofs.lemmas.List.{length-map}
use Rattle.triple_arena_ptr.specs.Generation.{second_generation}
use Rattle.triple_arena_ptr.specs.Index.{max_index_of}
use Rattle.triple_arena_stack.specs.Room.{capacity}
use Rattle.triple_arena.specs.TransferLaws.{room_kept, transferred_by}
use Rattle.triple_arena_ord.specs.Ordered.{ordered_entries, room_in, size_in}
use Rattle.ticket_book.specs.Moving.{entry_over}
use Rattle.ticket_book.specs.InArena.{entries_of}
use Rattle.ticket_book.specs.Tickets.{Entry, Tickets, TicketsRise}
use Rattle.ticket_book.proofs.LookLemmas.{numbered_from_zero}
use Rattle.ticket_book.proofs.TakeOverLemmas.{rise_over, taken_over}
use Rattle.ticket_book.proofs.book.TicketBook.take_over.Given.{Over}
use Rattle.ticket_book.proofs.book.TicketBook.take_over.Goals.{After-len, In-Ok}
use Rattle.ticket_book.proofs.book.TicketBook.take_over.Goals as goal

abbrev f : Over → Entry → Entry
f g = entry_over (max_index_of g.P.Inx.PtrInxCore.greatest)
    (second_generation g.P.Gen.PtrGenCore.last)

-- there is room for all entries
fits : (g : Over) (c : After-len g) (room : ℕ) → room ≡ c.args.self.now.capacity
    → size_in c.source.inside.arena ≤ room
fits g c room is =
    let source = c.source.inside.arena in
    let many = c.the_list_has_as_many_entries_as_are_live.ensures source
    c.len.ensures.formed.ordered in
    let long = length-map (ordered_entries source) (λ x. x.1.1) in
    let entries = ap (λ (b : Tickets). length b.entries) c.source.view_is in
    omega (arith, many, long, entries, is, c.requires.fits)

moved : (g : Over) (c : In-Ok g) → entries_of c.transfer_canonical_reallocating-taken.new.self
    ≡ map (f g) (entries_of c.source.inside.arena)
moved g c =
    let done = c.in-Ok.ensures in
    taken_over (f g) c.source.inside.arena c.transfer_canonical_reallocating-taken.new.self
    (c.canonical_transfers_list_by_index.ensures _ _ _ _ _ done.filled done.moved.order)
    (transferred_by _ _ _ _ _ (λ i h e. f g e) (λ h p item q t k is. search rules)
    done.moved.moved)

pub invariant_of-self : goal.invariant_of-self
invariant_of-self g c = (
  subst TicketsRise (sym (moved g (goal.at.invariant_of-self g c).In-Ok))
      (rise_over (f g) (λ e. refl) _ c.source.invariant.0),
  numbered_from_zero _,
)

pub unreached-unreachable-requires : goal.unreached-unreachable-requires
unreached-unreachable-requires g c =
    true≢false (sym (c.in-Err.ensures.succeeds
    (fits g (goal.at.unreached-unreachable-requires g c).After-len _
    (ap (λ (b : Tickets). b.capacity) c.self.view_is))))

pub returns-clause-entries : goal.returns-clause-entries
returns-clause-entries g c =
    moved g (goal.at.returns-clause-entries g c).In-Ok
    ∙ ap (λ (b : Tickets). map (f g) b.entries) c.source.view_is

pub returns-clause-capacity : goal.returns-clause-capacity
returns-clause-capacity g c =
    let room = ap (λ (b : Tickets). b.capacity) c.self.view_is in
    ap capacity (c.in-Ok.ensures.filled.room
    ∙ room_kept (size_in c.source.inside.arena) (room_in c.self.inside.arena)
    (fits g (goal.at.returns-clause-capacity g c).After-len _ room))
    ∙ room
