use Rattle.std.proofs.Common.{true≢false, ◌≡◌, ◌≢◌, Some, None, option_map, sym, ap, ◌∙◌, arith}
use Rattle.linked_lists.specs.LinkedLists.{prev_at}
use Rattle.triple_arena_chain.specs.Links.{ends_in}
use Rattle.triple_arena_chain.proofs.PassLemmas.{live_ends}
use Rattle.triple_arena_chain.proofs.ChainStartLemmas.{back_begun, back_few}
use Rattle.triple_arena_chain.proofs.HeadLemmas.{laid_zero, walk_live, walk_before, walk_more}
use Rattle.triple_arena_chain.proofs.HeadLemmas.{start_round, start_line}
use Rattle.triple_arena_chain.proofs.chain_arena.canonical_layout.unplaced_start.Goals as goal

pub back-init : goal.back-init
back-init g c = λ old laid a. back_begun laid _ (sym (a.noted.live _) ∙ c.requires.live)

pub read_prev-requires-clause-live : goal.read_prev-requires-clause-live
read_prev-requires-clause-live g c =
    let number = g.P.Inx.PtrInxCore.number in
    let a = c.requires.gathering.have.are in
    let b = c.back.invariant _ _ a in
    sym (live_ends c.args.arena.now (number c.back.at)) ∙ a.noted.live (number c.back.at)
    ∙ walk_live c.args.placed _ _ c.args.arena.now a _ _ _ b c.requires.behind

pub led_to-before-requires-clause-led : goal.led_to-before-requires-clause-led
led_to-before-requires-clause-led g c =
    let number = g.P.Inx.PtrInxCore.number in
    let comes : prev_at (ends_in c.args.arena.now) (number c.back.at)
    ≡ Some (number c.in-Some.prev) =
    sym c.read_prev.ensures ∙ ap (option_map number) c.in-Some.is in
    let a = c.requires.gathering.have.are in
    let b = c.back.invariant _ _ a in
    let w = walk_before c.args.placed _ _ c.args.arena.now a _ _ _ b c.requires.behind
    (number c.in-Some.prev) comes in
    (a.to (number c.in-Some.prev), w.led)

pub back-preserved : goal.back-preserved
back-preserved g c =
    let number = g.P.Inx.PtrInxCore.number in
    let comes : prev_at (ends_in c.args.arena.now) (number c.back.at)
    ≡ Some (number c.in-Some.prev) =
    sym c.read_prev.ensures ∙ ap (option_map number) c.in-Some.is in
    let other : number c.led_to-before.result ≢ number c.args.k =
    λ same. true≢false (sym (c.is_one.ensures.1 same) ∙ c.if-is_one.false) in
    λ old laid a.
    let b = c.back.invariant old laid a in
    let w = walk_before c.args.placed old laid c.args.arena.now a _ _ _ b c.requires.behind
    (number c.in-Some.prev) comes in
    walk_more c.args.placed old laid c.args.arena.now a _ _ _ b c.requires.behind
    (number c.in-Some.prev) (number c.led_to-before.result) comes
    (c.led_to-before.ensures (a.to (number c.in-Some.prev)) w.led) other

pub unreachable-requires : goal.unreachable-requires
unreachable-requires g c =
    let number = g.P.Inx.PtrInxCore.number in
    let a = c.requires.gathering.have.are in
    let b = c.back.invariant _ _ a in
    let few = back_few _ _ _ _ _ b (laid_zero c.args.placed _ _ c.args.arena.now a)
    (λ i live. c.capacity-end.ensures.indexes i
    (sym (live_ends c.args.arena.now i) ∙ a.noted.live i ∙ live)) in
    omega (arith, few)

pub returns-then-is_one : goal.returns-then-is_one
returns-then-is_one g c =
    let number = g.P.Inx.PtrInxCore.number in
    let comes : prev_at (ends_in c.args.arena.now) (number c.back.at)
    ≡ Some (number c.in-Some.prev) =
    sym c.read_prev.ensures ∙ ap (option_map number) c.in-Some.is in
    let same : number c.led_to-before.result ≡ number c.args.k =
    c.is_one.ensures.0 c.if-is_one.true in
    λ old laid a.
    let b = c.back.invariant old laid a in
    let w = walk_before c.args.placed old laid c.args.arena.now a _ _ _ b c.requires.behind
    (number c.in-Some.prev) comes in
    start_round c.args.placed old laid c.args.arena.now a _ _ _ b c.requires.behind
    (number c.in-Some.prev) (number c.led_to-before.result) comes
    (c.led_to-before.ensures (a.to (number c.in-Some.prev)) w.led) same
    (sym (a.noted.live (number c.args.k)) ∙ c.requires.live)

pub returns-in-None : goal.returns-in-None
returns-in-None g c =
    let number = g.P.Inx.PtrInxCore.number in
    let gone : prev_at (ends_in c.args.arena.now) (number c.back.at) ≡ None =
    sym c.read_prev.ensures ∙ ap (option_map number) c.in-None.is in
    λ old laid a. start_line c.args.placed old laid c.args.arena.now a _ _ _
    (c.back.invariant old laid a) c.requires.behind gone
