use Rattle.std.proofs.Common.{◌≡◌, sym, subst, Some, IsSome}
use Rattle.triple_arena_ord.specs.Found.{IsSimilar}
use Rattle.triple_arena_ord.specs.Inserted.{StandsAt}
use Rattle.triple_arena_ord.specs.Ordered.{IsAscending, asked_at, entry_in, order_in}
use Rattle.route_book.specs.Keys.{key_cmp, key_of}
use Rattle.route_book.proofs.KeyLemmas.{answers_entry, ascending, newest_past, not_equal}
use Rattle.route_book.proofs.KeyLemmas.{put_beside}
use Rattle.route_book.proofs.place_arena.put_place.Goals as goal

pub insert_inx_manual_within_capacity-requires-clause-live
    : goal.insert_inx_manual_within_capacity-requires-clause-live
insert_inx_manual_within_capacity-requires-clause-live g c =
    let is : c.args.found ≡ Some (c.in-Some.end.0, c.in-Some.end.1) = c.in-Some.is in
    subst (λ k. IsSome (entry_in c.args.arena.now k)) (sym c.inx.ensures)
    (answers_entry c.args.arena.now c.args.place.key
    (asked_at key_cmp key_of (key_of c.args.place) c.args.arena.now)
    (newest_past c.args.arena.now (key_of c.args.place) c.requires.newest) g.P.PtrCore.index
    g.P.PtrCore.generation c.in-Some.end.0 c.in-Some.end.1
    (c.requires.found.some c.in-Some.end.0 c.in-Some.end.1 is))

pub insert_inx_manual_within_capacity-requires-clause-new
    : goal.insert_inx_manual_within_capacity-requires-clause-new
insert_inx_manual_within_capacity-requires-clause-new g c = λ replaces.
    let is : c.args.found ≡ Some (c.in-Some.end.0, c.in-Some.end.1) = c.in-Some.is in
    not_equal c.args.arena.now c.args.place.key
    (asked_at key_cmp key_of (key_of c.args.place) c.args.arena.now)
    (newest_past c.args.arena.now (key_of c.args.place) c.requires.newest) g.P.PtrCore.index
    g.P.PtrCore.generation c.in-Some.end.0 c.in-Some.end.1
    (c.requires.found.some c.in-Some.end.0 c.in-Some.end.1 is) replaces

pub returns-in-Some-clause-order : goal.returns-in-Some-clause-order
returns-in-Some-clause-order g c =
    let is : c.args.found ≡ Some (c.in-Some.end.0, c.in-Some.end.1) = c.in-Some.is in
    let similar = subst (λ r. IsSimilar g.P.PtrCore.index g.P.PtrCore.generation
    (asked_at key_cmp key_of (key_of c.args.place) c.args.arena.now)
    (IsAscending key_cmp key_of c.args.arena.now) r c.args.arena.now) is
    c.requires.found in
    let put = c.insert_inx_manual_within_capacity in
    let old = c.args.arena.now in
    let new = put.new.self in
    let i = g.P.PtrCore.index put.result in
    put_beside old new i (g.P.PtrCore.generation put.result) c.args.place
    c.len.ensures.formed.ordered c.requires.rise put.ensures.added
    g.P.PtrCore.index g.P.PtrCore.generation
    (asked_at key_cmp key_of (key_of c.args.place) c.args.arena.now)
    (newest_past c.args.arena.now (key_of c.args.place) c.requires.newest)
    (IsAscending key_cmp key_of c.args.arena.now) c.in-Some.end.0
    c.in-Some.end.1 (ascending _ c.requires.rise) similar
    (subst (λ k. StandsAt (Some (k, c.in-Some.end.1)) (order_in old) (order_in new) i)
    c.inx.ensures put.ensures.stands)
