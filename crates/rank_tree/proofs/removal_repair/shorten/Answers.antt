use Rattle.std.proofs.Common.{◌+◌, ◌-◌, List, ℕ, sym, ◌∙◌, ap, arith}
use Rattle.std.specs.Option.{option_map}
use Rattle.rank_tree.specs.Repair.{Short, Restored}
use Rattle.rank_tree.specs.FrameLaws.{both_kept}
use Rattle.rank_tree.proofs.ShortLemmas.{short_once, short_twice}
use Rattle.rank_tree.specs.TurningLaws.{Turns, TurnsTwice, turns_kept, root-some}
use Rattle.rank_tree.proofs.removal_repair.shorten.Goals.{After-turn, In-Some}
use Rattle.rank_tree.proofs.removal_repair.shorten.Goals as goal

-- the node turns up
once : (g : _) (c : After-turn g) (w : List ℕ)
    (h : Short (g.K.NodeStore.nodes c.args.nodes.now)
    (option_map g.P.Inx.PtrInxCore.number c.args.root.now)
    (g.P.Inx.PtrInxCore.number c.args.low) w)
    → Turns (g.K.NodeStore.nodes c.args.nodes.now)
    (option_map g.P.Inx.PtrInxCore.number c.args.root.now)
    (g.P.Inx.PtrInxCore.number c.args.low) c.look_around-near.result.high_rank
    (c.look_around-near.result.inner_rank + 1) w (λ m r. Restored m r w)
once g c w h =
    let r = c.look_around-near.ensures _ h.spot in
    short_once _ _ _ _ _ w h (omega arith) r.high_rank_is (ap (λ z. z + 1) r.inner_rank_is)

-- the inner child turns up, twice
twice : (g : _) (c : In-Some g) (w : List ℕ)
    → Short (g.K.NodeStore.nodes c.args.nodes.now)
    (option_map g.P.Inx.PtrInxCore.number c.args.root.now)
    (g.P.Inx.PtrInxCore.number c.args.low) w
    → TurnsTwice (g.K.NodeStore.nodes c.args.nodes.now)
    (option_map g.P.Inx.PtrInxCore.number c.args.root.now)
    (g.P.Inx.PtrInxCore.number c.in-Some.middle) c.look_around-near.result.high_rank
    (c.look_around-near.result.high_rank - 2) w
twice g c w h =
    let r = c.look_around-near.ensures _ h.spot in
    short_twice _ _ _ _ _ _ w h
    (sym r.inner_is ∙ ap (option_map g.P.Inx.PtrInxCore.number) c.in-Some.is) (omega arith)
    r.high_rank_is
    (ap (λ z. z - 2) r.high_rank_is)

pub overflow_add-near : goal.overflow_add-near
overflow_add-near g c =
    let h = c.requires.short.1 in
    omega (arith, h, h.fits, c.look_around-near.ensures _ h.spot, c.look_around-near.type_inv)

pub overflow_add-near-then-near : goal.overflow_add-near-then-near
overflow_add-near-then-near g c =
    let h = c.requires.short.1 in
    omega (arith, h, h.fits, c.look_around-near.ensures _ h.spot)

pub unreached-unreachable-requires : goal.unreached-unreachable-requires
unreached-unreachable-requires g c =
    let h = c.requires.short.1 in
    let r = c.look_around-near.ensures _ h.spot in
    root-some h.spot.inner (omega (arith, h, h.fits, r))
    (sym r.inner_is ∙ ap (option_map g.P.Inx.PtrInxCore.number) c.in_default.is)

pub overflow_sub-rank : goal.overflow_sub-rank
overflow_sub-rank g c =
    let h = c.requires.short.1 in
    omega (arith, h, c.look_around-near.ensures _ h.spot)

pub turn-requires-else-near-clause-spot : goal.turn-requires-else-near-clause-spot
turn-requires-else-near-clause-spot g c =
    (twice g (goal.at.turn-requires-else-near-clause-spot g c).In-Some _ c.requires.short.1).spot

pub overflow_sub-rank-else-near : goal.overflow_sub-rank-else-near
overflow_sub-rank-else-near g c =
    let h = c.requires.short.1 in
    omega (arith, h, c.look_around-near.ensures _ h.spot)

pub turn-requires-else-near-2-clause-spot : goal.turn-requires-else-near-2-clause-spot
turn-requires-else-near-2-clause-spot g c =
    let one = twice g (goal.at.turn-requires-else-near-2-clause-spot g c).In-Some _
    c.requires.short.1 in
    (one.after _ _ (c.turn-else-near.ensures.does one.spot).0).spot

pub returns-then-near-clause-does : goal.returns-then-near-clause-does
returns-then-near-clause-does g c = λ w h.
    let one = once g (goal.at.returns-then-near-clause-does g c).After-turn w h in
    let first = c.turn.ensures.does one.spot in
    (one.after _ _ first.0, turns_kept _ _ _ _ _ _ w _ one first.1)

pub returns-in-Some-clause-does : goal.returns-in-Some-clause-does
returns-in-Some-clause-does g c = λ w h.
    let one = twice g (goal.at.returns-in-Some-clause-does g c).In-Some w h in
    let first = c.turn-else-near.ensures.does one.spot in
    let two = one.after _ _ first.0 in
    let second = c.turn-else-near-2.ensures.does two.spot in (
      two.after _ _ second.0,
      both_kept w _ _ _ (turns_kept _ _ _ _ _ _ w _ one first.1)
          (turns_kept _ _ _ _ _ _ w _ two second.1),
    )
