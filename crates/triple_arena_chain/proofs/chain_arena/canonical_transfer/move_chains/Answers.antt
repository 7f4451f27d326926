use Rattle.std.proofs.Common.{◌≡◌, ℕ, ◌+◌, ◌≤◌, None, option_map, refl, sym, ap, subst, ◌∙◌, arith}
use Rattle.std.proofs.Common.{of_calls}
use Rattle.triple_arena_stack.specs.Room.{capacity}
use Rattle.triple_arena.specs.Content.{entry_at, inserted}
use Rattle.triple_arena.specs.Walk.{past}
use Rattle.triple_arena.specs.WalkLaws.{passed_by}
use Rattle.triple_arena_chain.proofs.MovingLemmas.{AreChainsMoved, IsLinkMoved, left_chained}
use Rattle.triple_arena_chain.proofs.MovingLemmas.{chains_none, way_taken, none_at_all, still_live}
use Rattle.triple_arena_chain.proofs.MovingLemmas.{at_live, way_fits, link_moved}
use Rattle.triple_arena_chain.proofs.MovedInOrderLemmas.{moved_in_order, moved_filled}
use Rattle.triple_arena_chain.proofs.MovedInOrderLemmas.{moved_chained, nothing_left}
use Rattle.triple_arena_chain.proofs.MovedInOrderLemmas.{stepped_for_each, room_left}
use Rattle.triple_arena_chain.proofs.chain_arena.canonical_transfer.move_chains.Given.{Over}
use Rattle.triple_arena_chain.proofs.chain_arena.canonical_transfer.move_chains.Goals.{After-append_link}
use Rattle.triple_arena_chain.proofs.chain_arena.canonical_transfer.move_chains.Goals as goal

pub chain-init : goal.chain-init
chain-init g c =
    record {
      callable = search of_calls;
      rises = c.advancer-advancer.ensures.rises;
      reaches = c.advancer-advancer.ensures.high;
      moved =
          chains_none g.Q.PtrCore.index g.Q.PtrCore.generation g.P.PtrCore.index
          g.P.PtrCore.generation (goal.F-step g) c.args.map
          g.Q.Gen.PtrGenCore.last c.args.source.now (g.P.Gen.PtrGenCore.number c.args.generation)
          c.args.target.now.room
          c.requires.chained c.advancer-advancer.result.low c.args.target.now
          c.advancer-advancer.ensures.low c.requires.empty c.requires.free c.requires.counter
          refl;
    }

pub chain_start-start-requires-clause-chained : goal.chain_start-start-requires-clause-chained
chain_start-start-requires-clause-chained g c =
    left_chained _ _ _ _ _ _ _ _ _ _ c.requires.chained _ _ _ _ c.chain.invariant.moved

pub link-init : goal.link-init
link-init g c =
    let rises = c.chain.invariant.rises in
    let after : c.advance.new.self ≡ past c.chain.advancer (g.Q.PtrCore.index c.in-Some.p) =
    (c.in-Some.ensures).given.1 in
    let next = passed_by c.chain.advancer c.advance.new.self (g.Q.PtrCore.index c.in-Some.p) rises
    after in
    let way =
    way_taken _ _ _ _ _ _ _ _ _ _ c.requires.chained c.chain.advancer
    (g.Q.PtrCore.index c.in-Some.p) (g.Q.PtrCore.generation c.in-Some.p)
    (g.Q.Inx.PtrInxCore.number c.inx.result)
    (g.Q.Inx.PtrInxCore.number c.chain_start-start.result)
    (g.P.Inx.PtrInxCore.number c.behind-first.result) c.chain.map c.chain.source c.chain.target
    c.chain.invariant.moved (c.in-Some.ensures).given.0 rises c.inx.ensures
    c.chain_start-start.ensures.same c.chain_start-start.ensures.head
    c.chain_start-start.ensures.own (c.behind-first.ensures ∙ ap (λ n. n + 1) c.len.ensures.value)
    in
    record {
      callable = c.chain.invariant.callable;
      rises = next.rises;
      reaches = λ j some. subst (λ h. j ≤ h) (sym next.high) (c.chain.invariant.reaches j some);
      live = at_live _ _ _ _ _ _ _ _ _ _ c.requires.chained _ _ _ _ _ _ _ _ way;
      way = (
        g.Q.Inx.PtrInxCore.number c.inx.result,
        next.low ∙ ap (λ n. n + 1) (sym c.inx.ensures),
        way,
      );
    }

-- the link in hand is moved
link_done : (g : Over) (c : After-append_link g)
    → IsLinkMoved g.Q.PtrCore.index g.Q.PtrCore.generation g.P.PtrCore.index g.P.PtrCore.generation
    (goal.F-step g) c.args.map
    g.Q.Gen.PtrGenCore.last c.args.source.now (g.P.Gen.PtrGenCore.number c.args.generation)
    c.args.target.now.room
    c.link.invariant.way.0 (g.Q.Inx.PtrInxCore.number c.chain_start-start.result)
    (g.P.Inx.PtrInxCore.number c.behind-first.result)
    (g.P.Inx.PtrInxCore.number c.behind-place.result)
    (option_map g.Q.Inx.PtrInxCore.number c.take_link-taken.result.2) c.map-t.new.self
    c.take_link-taken.new.source
    c.append_link.new.target
link_done g c =
    let room = ap capacity c.link.invariant.way.2.moved.placed.own in
    link_moved _ _ _ _ _ _ _ _ _ _ c.requires.chained _ _ _ _ _ _ _ _ c.link.invariant.way.2
    c.map-t.new.self c.take_link-taken.new.source c.append_link.new.target
    c.take_link-taken.result.0 c.take_link-taken.result.1
    (option_map g.Q.Inx.PtrInxCore.number c.take_link-taken.result.2)
    c._from_raw-to.result c.map-t.result (option_map g.P.Inx.PtrInxCore.number c.link.last)
    (option_map g.P.Inx.PtrInxCore.number c.next_place-next.result)
    (g.P.Inx.PtrInxCore.number c.behind-first.result)
    c.len-placed.result
    (g.P.Inx.PtrInxCore.number c.behind-place.result) c.capacity.result
    c.take_link-taken.ensures.removed c.take_link-taken.ensures.formed
    c.take_link-taken.ensures.entry c.take_link-taken.ensures.index
    c.take_link-taken.ensures.overflow c.take_link-taken.ensures.next c.len-placed.ensures.value
    c.behind-place.ensures c._from_raw-to.ensures.has_index c._from_raw-to.ensures.has_generation
    c.map-t.ensures
    (omega (arith, c.requires.fits, room))
    (omega (arith, c.requires.fits, c.capacity.ensures.value))
    (λ fits. c.append_link.ensures.exact fits
    ∙ ap (inserted c.link.target)
    (λ i. record { prev = c.of.ensures i; next = c.of-in-link.ensures i; t = c.map-t.result }))
    refl refl
    c.next_place-next.ensures.end c.next_place-next.ensures.round
    (λ j leads other fits. c.next_place-next.ensures.on j leads other
    (omega (arith, fits, c.capacity.ensures.bounded)))

pub behind-place-requires-clause-fits : goal.behind-place-requires-clause-fits
behind-place-requires-clause-fits g c =
    let fits =
    way_fits _ _ _ _ _ _ _ _ _ _ c.requires.chained _ _ _ _ _ _ _ _ c.link.invariant.way.2 in
    omega (
      arith,
      fits,
      c.len-placed.ensures.value,
      c.requires.fits,
      c.capacity.ensures.value,
      c.capacity.ensures.bounded,
    )

pub link-preserved : goal.link-preserved
link-preserved g c =
    let way =
    (link_done g (goal.at.link-preserved g c).After-append_link).further
    (g.Q.Inx.PtrInxCore.number c.in-Some-go_on.j) c.go_on.new.target
    c.in-Some-go_on.ensures.on in
    record {
      callable = search of_calls;
      rises = c.link.invariant.rises;
      reaches =
          λ j some. c.link.invariant.reaches j
          (still_live g.Q.Gen.PtrGenCore.last (g.Q.Inx.PtrInxCore.number c.link.at)
          c.link.source c.take_link-taken.new.source
          c.take_link-taken.ensures.removed j some);
      live = at_live _ _ _ _ _ _ _ _ _ _ c.requires.chained _ _ _ _ _ _ _ _ way;
      way = (c.link.invariant.way.0, c.link.invariant.way.1, way);
    }

pub chain-preserved : goal.chain-preserved
chain-preserved g c =
    record {
      callable = search of_calls;
      rises = c.link.invariant.rises;
      reaches =
          λ j some. c.link.invariant.reaches j
          (still_live g.Q.Gen.PtrGenCore.last (g.Q.Inx.PtrInxCore.number c.link.at)
          c.link.source c.take_link-taken.new.source
          c.take_link-taken.ensures.removed j some);
      moved =
          subst (λ n. AreChainsMoved g.Q.PtrCore.index g.Q.PtrCore.generation g.P.PtrCore.index
          g.P.PtrCore.generation (goal.F-step g)
          c.args.map g.Q.Gen.PtrGenCore.last c.args.source.now
          (g.P.Gen.PtrGenCore.number c.args.generation) c.args.target.now.room
          n c.map-t.new.self c.take_link-taken.new.source c.go_on.new.target)
          (sym c.link.invariant.way.1)
          ((link_done g (goal.at.chain-preserved g c).After-append_link).over c.go_on.new.target
          (g.P.Inx.PtrInxCore.number c.behind-first.result)
          (g.P.Inx.PtrInxCore.number c.behind-place.result) refl refl
          c.in-None.ensures.over);
    }

nothing : (g : Over) (c : goal.After-drop-map g) (j : ℕ) → entry_at c.chain.source j ≡ None
nothing g c =
    none_at_all _ _ _ _ _ _ _ _ _ _ c.requires.chained c.chain.advancer _ _ _
    c.chain.invariant.moved
    (c.in_default.ensures).given.0 c.chain.invariant.reaches

pub returns-clause-moved : goal.returns-clause-moved
returns-clause-moved g c =
    moved_in_order c.requires.chained c.chain.invariant.moved (nothing g c)

pub returns-clause-formed : goal.returns-clause-formed
returns-clause-formed g c =
    moved_chained c.requires.chained c.chain.invariant.moved (nothing g c)

pub returns-clause-emptied : goal.returns-clause-emptied
returns-clause-emptied g c =
    nothing_left c.requires.chained c.chain.invariant.moved (nothing g c)

pub returns-clause-counter : goal.returns-clause-counter
returns-clause-counter g c =
    stepped_for_each c.requires.chained c.chain.invariant.moved (nothing g c)

pub returns-clause-room : goal.returns-clause-room
returns-clause-room g c =
    room_left c.requires.chained c.chain.invariant.moved (nothing g c)

pub returns-clause-filled : goal.returns-clause-filled
returns-clause-filled g c =
    moved_filled c.requires.chained c.chain.invariant.moved (nothing g c) c.args.target.now

pub returns-clause-source_formed : goal.returns-clause-source_formed
returns-clause-source_formed g c =
    left_chained _ _ _ _ _ _ _ _ _ _ c.requires.chained _ _ _ _ c.chain.invariant.moved
