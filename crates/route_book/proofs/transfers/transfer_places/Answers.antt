use Rattle.std.proofs.Common.{rules, ◌∙◌, subst, map, replicate, refl, arith, ap, ◌≡◌}
use Rattle.triple_arena_ptr.specs.Generation.{second_generation}
use Rattle.triple_arena.specs.Compression.{generation_of}
use Rattle.triple_arena.specs.TransferLaws.{transferred_by}
use Rattle.triple_arena_ord.specs.Indexed.{indexed}
use Rattle.triple_arena_ord.specs.Ordered.{entry_in, ordered_entries, size_in}
use Rattle.route_lines.specs.State.{Place}
use Rattle.route_book.proofs.TransferLemmas.{moved_as}
use Rattle.route_book.proofs.PackedRunLemmas.{place_bound, places_along}
use Rattle.route_book.proofs.transfers.transfer_places.Goals as goal

pub returns-clause-entries : goal.returns-clause-entries
returns-clause-entries g c run =
    let two = second_generation g.Q.Gen.PtrGenCore.last in
    let done = c.in-Ok.ensures in
    let new = c.transfer_canonical_reallocating-moved.new.self in
    let ordered = c.len.ensures.formed.ordered in
    let values = transferred_by _ _ _ _ _ (λ i h e. e)
    (λ h p item q t k is. search rules) done.moved.moved in
    let gens = subst (λ x. map generation_of (indexed new)
    ≡ replicate (size_in c.args.from) x) c.two.ensures done.filled.generations in
    moved_as (λ (p : Place). p) two (size_in c.args.from) (entry_in c.args.from) (entry_in new)
    (ordered_entries c.args.from) (indexed new) values gens
    done.filled.entries
    (places_along c.args.from ordered
    (λ i some. c.entries_stand_in_the_list.ensures c.args.from i ordered some) run) refl refl

pub returns-clause-within : goal.returns-clause-within
returns-clause-within g c run k some =
    let ordered = c.len.ensures.formed.ordered in
    let bound = place_bound c.args.from ordered
    (λ i some. c.entries_stand_in_the_list.ensures c.args.from i ordered some) run k some in
    let fits = c.requires.fits in
    let value = c.capacity.ensures.value in
    let top = c.capacity.ensures.bounded in
    omega (arith, bound, fits, value, top)

pub returns-clause-order : goal.returns-clause-order
returns-clause-order g c =
    let done = c.in-Ok.ensures in
    let values = transferred_by _ _ _ _ _ (λ i h e. e)
    (λ h p item q t k is. search rules) done.moved.moved in
    ap (map (λ x. x.1.1)) (c.canonical_transfers_list_by_index.ensures _ _ _ _ _ done.filled
    done.moved.order) ∙ values

pub returns-clause-run : goal.returns-clause-run
returns-clause-run g c = c.in-Ok.ensures.moved.order

pub returns-clause-free : goal.returns-clause-free
returns-clause-free g c = c.in-Ok.ensures.moved.free
