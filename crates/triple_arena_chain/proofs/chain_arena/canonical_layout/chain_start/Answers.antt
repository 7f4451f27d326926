use Rattle.std.proofs.Common.{true≢false, ◌≡◌, ◌≢◌, Some, None, option_map, refl, sym, ap, ◌∙◌}
use Rattle.std.proofs.Common.{arith}
use Rattle.linked_lists.specs.LinkedLists.{prev_at}
use Rattle.triple_arena_chain.specs.Links.{ends_in}
use Rattle.triple_arena_chain.proofs.PassLemmas.{live_ends}
use Rattle.triple_arena_chain.proofs.ChainStartLemmas.{back_live, back_begun, back_more, back_few}
use Rattle.triple_arena_chain.proofs.ChainStartLemmas.{back_none, ring_head}
use Rattle.triple_arena_chain.proofs.chain_arena.canonical_layout.chain_start.Goals as goal

pub back-init : goal.back-init
back-init g c = back_begun _ _ c.requires.live

pub read_prev-requires-clause-live : goal.read_prev-requires-clause-live
read_prev-requires-clause-live g c =
    let number = g.P.Inx.PtrInxCore.number in
    sym (live_ends c.args.arena.now (number c.back.at))
    ∙ back_live _ c.requires.chained.agreed _ _ _ c.back.invariant

pub back-preserved : goal.back-preserved
back-preserved g c =
    let number = g.P.Inx.PtrInxCore.number in
    let other : number c.in-Some.prev ≢ number c.args.k =
    λ same. true≢false (sym (c.is_one.ensures.1 same) ∙ c.if-is_one.false) in
    let came : prev_at (ends_in c.args.arena.now) (number c.back.at)
    ≡ Some (number c.in-Some.prev) =
    sym c.read_prev.ensures ∙ ap (option_map number) c.in-Some.is in
    back_more _ c.requires.chained.agreed _ _ _ c.back.invariant (number c.in-Some.prev) came other

pub unreachable-requires : goal.unreachable-requires
unreachable-requires g c =
    let number = g.P.Inx.PtrInxCore.number in
    let few = back_few _ _ _ _ _ c.back.invariant refl
    (λ i live. c.capacity-end.ensures.indexes i (sym (live_ends c.args.arena.now i) ∙ live))
    in
    omega (arith, few)

pub returns-then-is_one-clause-head : goal.returns-then-is_one-clause-head
returns-then-is_one-clause-head g c =
    let number = g.P.Inx.PtrInxCore.number in
    let same : number c.in-Some.prev ≡ number c.args.k = c.is_one.ensures.0 c.if-is_one.true in
    let came : prev_at (ends_in c.args.arena.now) (number c.back.at)
    ≡ Some (number c.in-Some.prev) =
    sym c.read_prev.ensures ∙ ap (option_map number) c.in-Some.is in
    ring_head _ c.requires.chained.agreed _ _ _ c.back.invariant (came ∙ ap Some same)

pub returns-in-None-clause-own : goal.returns-in-None-clause-own
returns-in-None-clause-own g c =
    let number = g.P.Inx.PtrInxCore.number in
    let lone : prev_at (ends_in c.args.arena.now) (number c.back.at) ≡ None =
    sym c.read_prev.ensures ∙ ap (option_map number) c.in-None.is in
    back_none _ c.requires.chained.agreed _ _ _ c.back.invariant lone
