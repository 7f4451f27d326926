use Rattle.std.proofs.Common.{◌≡◌, length, ap, subst, arith}
use Rattle.triple_arena_chain.specs.Notes.{IsRejoinable}
use Rattle.triple_arena_chain.specs.Links.{ends_in}
use Rattle.triple_arena_chain.proofs.LaidLemmas.{places_none, rejoinable, all_gathered}
use Rattle.triple_arena_chain.proofs.chain_arena.canonical_layout.gather_chains.Goals as goal

pub chain-init : goal.chain-init
chain-init g c =
    record {
      places = places_none c.args.arena.now c.requires.chained
          c.requires.alike c.requires.full;
      within = omega arith;
    }

pub gather_chain-placed-requires-clause-gathering :
    goal.gather_chain-placed-requires-clause-gathering
gather_chain-placed-requires-clause-gathering g c =
    record { old = c.args.arena.now; have = c.chain.invariant.places }

pub gather_chain-placed-requires-clause-more : goal.gather_chain-placed-requires-clause-more
gather_chain-placed-requires-clause-more g c =
    let counted = c.requires.chained.formed.counted in
    let none = ap (λ l. length l) c.requires.full in
    let len = c.len-len.ensures.value in
    let slots = c.chain.invariant.places.are.noted.kept.slots in
    let less = c.chain-test.true in
    omega (arith, counted, none, slots, len, less)

pub chain-smaller : goal.chain-smaller
chain-smaller g c =
    let more = c.gather_chain-placed.ensures.more in
    let within = c.gather_chain-placed.ensures.within in
    let slots = c.chain.invariant.places.are.noted.kept.slots in
    omega (arith, more, within, slots)

pub chain-preserved : goal.chain-preserved
chain-preserved g c =
    let within = c.gather_chain-placed.ensures.within in
    let slots = c.chain.invariant.places.are.noted.kept.slots in
    record {
      places = c.gather_chain-placed.ensures.gathered c.args.arena.now c.chain.invariant.places;
      within = omega (arith, within, slots);
    }

pub rejoin-requires-clause-formed : goal.rejoin-requires-clause-formed
rejoin-requires-clause-formed g c = c.chain.invariant.places.are.noted.formed

pub rejoin-requires-clause-rejoinable : goal.rejoin-requires-clause-rejoinable
rejoin-requires-clause-rejoinable g c =
    let number = g.P.Inx.PtrInxCore.number in
    let counted = c.requires.chained.formed.counted in
    let none = ap (λ l. length l) c.requires.full in
    let len = c.len-len.ensures.value in
    let past = c.chain-test.false in
    let within = c.chain.invariant.within in
    let all : c.chain.placed ≡ length c.args.arena.now.slots =
    omega (arith, counted, none, len, past, within) in
    let same : c.chain.placed ≡ c.len-len.result =
    omega (arith, counted, none, len, past, within) in
    subst (IsRejoinable (ends_in c.chain.arena)) same
    (rejoinable c.chain.placed c.args.arena.now _ c.chain.arena c.chain.invariant.places.are
    all)

pub returns : goal.returns
returns g c =
    let number = g.P.Inx.PtrInxCore.number in
    let counted = c.requires.chained.formed.counted in
    let none = ap (λ l. length l) c.requires.full in
    let len = c.len-len.ensures.value in
    let past = c.chain-test.false in
    let within = c.chain.invariant.within in
    let all : c.chain.placed ≡ length c.args.arena.now.slots =
    omega (arith, counted, none, len, past, within) in
    record {
      gathered =
          all_gathered c.chain.placed c.args.arena.now _ c.chain.arena
          c.chain.invariant.places.are all c.rejoin.new.arena c.rejoin.ensures.nexts
          c.rejoin.ensures.agreed c.rejoin.ensures.values c.rejoin.ensures.kept
          c.rejoin.ensures.formed;
    }
