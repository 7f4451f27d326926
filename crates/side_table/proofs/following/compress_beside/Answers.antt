use Rattle.std.proofs.Common.{IsSome}
use Rattle.triple_arena.specs.Content.{get}
use Rattle.triple_arena.specs.DirectContent.{entry_at, live_entries as entries_of}
use Rattle.triple_arena.specs.DirectContent.{get as get_of}
use Rattle.triple_arena.specs.LiveEntries.{live_entries}
use Rattle.side_table.specs.CompressionLaws.{of_compression, rises, never_goes_up, follows}
use Rattle.side_table.specs.CompressionLaws.{new_valid}
use Rattle.side_table.proofs.SideTableLemmas.{beside_kept, beside_valid}
use Rattle.side_table.proofs.following.compress_beside.Goals as goal

pub follow_compression-requires : goal.follow_compression-requires
follow_compression-requires g c =
    let e = c.in_ok-compress_recaster_into.ensures in
    let old = c.args.arena.now in
    let new = c.compress_recaster_into.new.arena in
    record {
      rises = rises old new c.compress_recaster_into.new.map e.recaster e.compressed.compact;
      down = never_goes_up old new c.compress_recaster_into.new.map e.recaster e.compressed.compact;
    }

pub returns-clause-beside : goal.returns-clause-beside
returns-clause-beside g c =
    let old = c.args.arena.now in
    let new = c.compress_recaster_into.new.arena in
    let map = c.compress_recaster_into.new.map in
    let index = g.P.PtrCore.index in
    let generation = g.P.PtrCore.generation in
    let r = c.in_ok-compress_recaster_into.ensures.recaster in
    let told = of_compression old new map r
    c.in_ok-compress_recaster_into.ensures.compressed.compact in
    let before = c.args.table.now in
    let after = c.follow_compression.new.table in
    beside_kept index generation (entries_of map) (live_entries old) (live_entries new)
    (get_of before) (get_of after) r.from r.to
    (λ k i h q at. follows index generation (entry_at map) (entry_at before) (entry_at after)
    (rises old new map r c.in_ok-compress_recaster_into.ensures.compressed.compact)
    c.follow_compression.ensures.carried i h q (told.found k i h q at))

pub returns-clause-only : goal.returns-clause-only
returns-clause-only g c =
    let old = c.args.arena.now in
    let new = c.compress_recaster_into.new.arena in
    let map = c.compress_recaster_into.new.map in
    beside_valid g.P.PtrCore.index g.P.PtrCore.generation (entry_at map)
    (entry_at c.args.table.now) (entry_at c.follow_compression.new.table)
    (λ j h. IsSome (get new j h)) (λ j h t is. (c.follow_compression.ensures.carried j h t).0 is)
    (new_valid old new map c.in_ok-compress_recaster_into.ensures.recaster
    c.in_ok-compress_recaster_into.ensures.values)
