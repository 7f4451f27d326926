use Rattle.std.proofs.Common.{arith, ap, ◌∙◌, sym}
use Rattle.std.specs.Option.{option_map}
use Rattle.triple_arena_ord.specs.Near.{asked_in}
use Rattle.triple_arena_ord.proofs.NearLemmas.{walking_begins}
use Rattle.triple_arena_ord.proofs.WalkLemmas.{link_seen, none_seen, walk_lives, walk_step}
use Rattle.triple_arena_ord.proofs.WalkLemmas.{walk_stops, walk_ended, walk_on, walk_passes}
use Rattle.triple_arena_ord.proofs.list_searches.walk_from.Goals as goal

pub along-init : goal.along-init
along-init g c = (
  omega arith,
  λ w linear on.
      walking_begins (asked_in g.T.Key.Ord.cmp g.T.SimpleOrdItem.key_of c.args.k.now
      (g.A.Links.links c.args.arena.now)) w
      (g.P.Inx.PtrInxCore.number c.args.start) on,
)

pub unreached-unreachable-requires : goal.unreached-unreachable-requires
unreached-unreachable-requires g c =
    let number = g.P.Inx.PtrInxCore.number in
    let links = g.A.Links.links c.args.arena.now in
    walk_lives g.T.Key.Ord.cmp g.T.SimpleOrdItem.key_of c.args.k.now links c.requires.place.0
    (number c.args.start) _ c.requires.place.1 c.along.way (number c.along.i) c.along._made
    (c.along.invariant.1 c.requires.place.0 c.requires.place.1 c.requires.place.2)
    (none_seen g.P.Gen.PtrGenCore.number (λ b. b.now) links (number c.along.i) _ c.in-None.is
    c.link_entry.ensures)

pub returns-in-None-onward-clause-stops : goal.returns-in-None-onward-clause-stops
returns-in-None-onward-clause-stops g c = λ w linear on.
    let number = g.P.Inx.PtrInxCore.number in
    let links = g.A.Links.links c.args.arena.now in
    walk_stops g.T.Key.Ord.cmp g.T.SimpleOrdItem.key_of c.args.k.now links w
    (number c.args.start) _ linear c.along.way (number c.along.i) c.along._made
    (c.along.invariant.1 w linear on) _ c.in-Some.link.now
    (link_seen g.P.Gen.PtrGenCore.number (λ b. b.now) links (number c.along.i) _ _ c.in-Some.link
    c.in-Some.is c.link_entry.ensures)
    c.cmp-answer.result (c.cmp-answer.ensures ∙ ap (g.T.Key.Ord.cmp c.args.k.now) c.key.ensures)
    (sym c.onward.ensures ∙ ap (option_map number) c.in-None-onward.is)

pub returns-in-None-onward-clause-walked : goal.returns-in-None-onward-clause-walked
returns-in-None-onward-clause-walked g c = λ w linear on.
    let number = g.P.Inx.PtrInxCore.number in
    let links = g.A.Links.links c.args.arena.now in
    let there = walk_ended g.T.Key.Ord.cmp g.T.SimpleOrdItem.key_of c.args.k.now links w
    (number c.args.start) _ linear c.along.way (number c.along.i) c.along._made
    (c.along.invariant.1 w linear on) _ c.in-Some.link.now
    (link_seen g.P.Gen.PtrGenCore.number (λ b. b.now) links (number c.along.i) _ _ c.in-Some.link
    c.in-Some.is c.link_entry.ensures)
    c.cmp-answer.result (c.cmp-answer.ensures ∙ ap (g.T.Key.Ord.cmp c.args.k.now) c.key.ensures)
    (sym c.onward.ensures ∙ ap (option_map number) c.in-None-onward.is) in
    let many = there.1 in
    let ticks = c.along.invariant.0 in
    (there.0, omega (arith, many), omega (arith, many, ticks))

pub along-preserved : goal.along-preserved
along-preserved g c =
    let number = g.P.Inx.PtrInxCore.number in
    let links = g.A.Links.links c.args.arena.now in
    let ticks = c.along.invariant.0 in
    let ticked = c.tick.ensures in (
      omega (arith, ticks, ticked),
      λ w linear on.
          walk_step g.T.Key.Ord.cmp g.T.SimpleOrdItem.key_of c.args.k.now links w
          (number c.args.start) _ linear c.along.way (number c.along.i) c.along._made
          (c.along.invariant.1 w linear on) _ c.in-Some.link.now
          (link_seen g.P.Gen.PtrGenCore.number (λ b. b.now) links (number c.along.i) _ _
          c.in-Some.link c.in-Some.is c.link_entry.ensures)
          c.cmp-answer.result (c.cmp-answer.ensures
          ∙ ap (g.T.Key.Ord.cmp c.args.k.now) c.key.ensures)
          (number c.in-Some-onward.next)
          (sym c.onward.ensures ∙ ap (option_map number) c.in-Some-onward.is),
    )

pub returns-clause-near : goal.returns-clause-near
returns-clause-near g c = λ w linear on near none.
    let number = g.P.Inx.PtrInxCore.number in
    let links = g.A.Links.links c.args.arena.now in
    walk_passes g.T.Key.Ord.cmp g.T.SimpleOrdItem.key_of c.args.k.now links w
    (number c.args.start) _ linear on c.along.way (number c.along.i) c.along._made c.args.num
    (omega arith)
    (c.along.invariant.1 w linear on) near.0 near.1

pub returns-clause-walked : goal.returns-clause-walked
returns-clause-walked g c = λ w linear on.
    let number = g.P.Inx.PtrInxCore.number in
    let links = g.A.Links.links c.args.arena.now in
    let more = walk_on g.T.Key.Ord.cmp g.T.SimpleOrdItem.key_of c.args.k.now links w
    (number c.args.start) _ linear c.along.way (number c.along.i) c.along._made
    (c.along.invariant.1 w linear on) in
    let ticks = c.along.invariant.0 in
    (omega (arith, more), omega (arith, ticks))
