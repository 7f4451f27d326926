use Rattle.std.proofs.Common.{rules, subst, map, replicate, refl, arith, ◌≡◌}
use Rattle.triple_arena_ptr.specs.Generation.{second_generation}
use Rattle.triple_arena_ptr.specs.Index.{max_index_of}
use Rattle.triple_arena.specs.Compression.{generation_of}
use Rattle.triple_arena.specs.Content.{live_count}
use Rattle.triple_arena.specs.TransferLaws.{transferred_by}
use Rattle.triple_arena_chain.specs.Links.{ends_in, values_in}
use Rattle.triple_arena_chain.specs.Listed.{listed_values}
use Rattle.linked_lists.specs.ChainLaws.{live_prev_in}
use Rattle.route_book.specs.Moving.{stop_over}
use Rattle.route_book.proofs.LinkLemmas.{live_values}
use Rattle.route_book.proofs.TransferLemmas.{moved_as}
use Rattle.route_book.proofs.PackedRunLemmas.{next_same, runs_stay, stop_bound, stops_along}
use Rattle.route_book.proofs.transfers.transfer_stops.Goals as goal

pub returns-clause-entries : goal.returns-clause-entries
returns-clause-entries g c laid =
    let two = second_generation g.Q.Gen.PtrGenCore.last in
    let f = stop_over (max_index_of g.Q.Inx.PtrInxCore.greatest) two in
    let done = c.in-Ok.ensures in
    let new = c.transfer_canonical_reallocating-moved.new.self in
    let values = transferred_by _ _ _ _ _ (λ i h e. f e)
    (λ h p item q t k is. search rules) done.moved.moved in
    let gens = subst (λ x. map generation_of (listed_values new)
    ≡ replicate (live_count c.args.from) x) c.two.ensures done.filled.generations in
    moved_as f two (live_count c.args.from) (values_in c.args.from) (values_in new) done.moved.order
    (listed_values new) values gens done.filled.entries
    (stops_along done.moved.order c.args.from
    new done.moved.laid laid) refl refl

pub returns-clause-within : goal.returns-clause-within
returns-clause-within g c laid k some =
    let done = c.in-Ok.ensures in
    let bound = stop_bound done.moved.order
    c.args.from c.transfer_canonical_reallocating-moved.new.self done.moved.laid laid k some in
    let fits = c.requires.fits in
    let value = c.capacity.ensures.value in
    let top = c.capacity.ensures.bounded in
    omega (arith, bound, fits, value, top)

pub returns-clause-on : goal.returns-clause-on
returns-clause-on g c i k is =
    live_values c.args.from k
    (live_prev_in (ends_in c.args.from k) i
    (c.len.ensures.formed.agreed.forward i k is))

pub returns-clause-next : goal.returns-clause-next
returns-clause-next g c laid k some =
    let done = c.in-Ok.ensures in
    next_same done.moved.order c.args.from
    c.transfer_canonical_reallocating-moved.new.self done.moved.laid laid
    c.len.ensures.formed.agreed k some

pub returns-clause-laid : goal.returns-clause-laid
returns-clause-laid g c laid =
    let done = c.in-Ok.ensures in
    runs_stay done.moved.order c.args.from
    c.transfer_canonical_reallocating-moved.new.self done.moved.laid laid
    c.len.ensures.formed.agreed

pub returns-clause-free : goal.returns-clause-free
returns-clause-free g c = c.in-Ok.ensures.moved.laid.free
