use Rattle.std.proofs.Common.{refl, arith}
use Rattle.route_book.specs.Book.{as_book}
use Rattle.route_book.proofs.WholeLemmas.{IsWhole, ready_marks, ready_places, ready_stops}
use Rattle.route_book.proofs.WholeLemmas.{stand_renewed, whole_pack}
use Rattle.route_book.proofs.book.packing.pack_if.Given.{Over}
use Rattle.route_book.proofs.book.packing.pack_if.Goals.{After-renew}
use Rattle.route_book.proofs.book.packing.pack_if.Goals as goal

pub mirror_places-requires-clause-booked : goal.mirror_places-requires-clause-booked
mirror_places-requires-clause-booked g c =
    ready_places g.P.Gen.PtrGenCore.last _ _ _ _ _ _ _ _ _ _
    c.requires.book c.compress_all.ensures c.entries_stand_in_the_list.ensures _ refl _
    (omega (arith, c.requires.place_mirror))

pub mirror_stops-requires-clause-booked : goal.mirror_stops-requires-clause-booked
mirror_stops-requires-clause-booked g c =
    ready_stops g.P.Gen.PtrGenCore.last _ _ _ _ _ _ _ _ _ _
    c.requires.book c.compress_all.ensures c.entries_stand_in_the_list.ensures _ refl _
    (omega (arith, c.requires.stop_mirror))

pub mirror_marks-requires-clause-booked : goal.mirror_marks-requires-clause-booked
mirror_marks-requires-clause-booked g c =
    ready_marks g.P.Gen.PtrGenCore.last _ _ _ _ _ _ _ _ _ _
    c.requires.book c.compress_all.ensures c.entries_stand_in_the_list.ensures _ refl _
    (omega (arith, c.requires.mark_mirror))

-- the whole pack
whole : (g : Over) (c : After-renew g)
    → IsWhole g.P.Gen.PtrGenCore.last c.args.held.now.state.rooms c.args.held.now.state.last
    c.args.looks.now c.recast_all_marks.new.looks
    (as_book c.args.held.now.state c.args.places.now c.args.stops.now c.args.marks.now)
    (as_book c.args.held.now.state c.compress_all.new.places c.recast_all_stops.new.stops
    c.recast_all_marks.new.marks) c.renew.new.self.entries
whole g c =
    let stops = c.recast_all_stops.ensures in
    let marks = c.recast_all_marks.ensures in
    rw c.renew.ensures.entries
    (whole_pack g.P.Gen.PtrGenCore.last _ _ _ _ _ _ _ _ _ _ c.requires.book c.compress_all.ensures
    c.entries_stand_in_the_list.ensures c.recast_all_stops.new.stops c.recast_all_marks.new.marks
    _ _ _ _ _ _ refl refl refl c.mirror_places.ensures.mirrored c.mirror_stops.ensures.mirrored
    c.mirror_marks.ensures.mirrored stops.entries marks.entries stops.ends stops.counter stops.live
    stops.room stops.free marks.counter marks.live marks.room marks.free _ _ _ stops.looks
    marks.looks)

pub returns-clause-ready : goal.returns-clause-ready
returns-clause-ready g c = rw c.if-not-needed.false (whole g c).packed

pub returns-clause-book : goal.returns-clause-book
returns-clause-book g c = (whole g c).book

pub returns-clause-stand : goal.returns-clause-stand
returns-clause-stand g c = stand_renewed _ _ _ _ _ c.renew.ensures.stands

pub returns-clause-rooms : goal.returns-clause-rooms
returns-clause-rooms g c = (whole g c).packed.rooms
