use Rattle.std.proofs.Common.{rules, ap, subst, map, replicate, refl, arith, ◌≡◌}
use Rattle.triple_arena_ptr.specs.Generation.{second_generation}
use Rattle.triple_arena_ptr.specs.Index.{max_index_of}
use Rattle.triple_arena.specs.Compression.{generation_of}
use Rattle.triple_arena.specs.Content.{entry_at, live_count}
use Rattle.triple_arena.specs.LiveEntries.{live_entries}
use Rattle.triple_arena.specs.TransferLaws.{transferred_by}
use Rattle.route_book.specs.Moving.{mark_over}
use Rattle.route_book.proofs.TransferLemmas.{moved_as}
use Rattle.route_book.proofs.PackedRunLemmas.{marks_along}
use Rattle.route_book.proofs.transfers.transfer_marks.Goals as goal

pub returns-clause-entries : goal.returns-clause-entries
returns-clause-entries g c run =
    let two = second_generation g.Q.Gen.PtrGenCore.last in
    let f = mark_over (max_index_of g.Q.Inx.PtrInxCore.greatest) two in
    let done = c.in-Ok.ensures in
    let new = c.transfer_reallocating-moved.new.self in
    let values = transferred_by _ _ _ _ _ (λ i h e. f e)
    (λ h p item q t k is. search rules) done.mapped in
    let gens = subst (λ x. map generation_of (live_entries new)
    ≡ replicate (live_count c.args.from) x) c.two.ensures done.filled.generations in
    moved_as f two (live_count c.args.from) (entry_at c.args.from) (entry_at new)
    (live_entries c.args.from) (live_entries new) values gens done.filled.entries
    (marks_along c.args.from run) refl refl

pub returns-clause-within : goal.returns-clause-within
returns-clause-within g c run k some =
    let bound = ((run k).0 some).1 in
    let fits = c.requires.fits in
    let value = c.capacity.ensures.value in
    let top = c.capacity.ensures.bounded in
    omega (arith, bound, fits, value, top)

pub returns-clause-free : goal.returns-clause-free
returns-clause-free g c = ap (λ m. m.free) c.in-Ok.ensures.exact
