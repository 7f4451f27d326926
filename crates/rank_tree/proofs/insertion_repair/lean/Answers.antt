use Rattle.std.proofs.Common.{◌-◌, ℕ, List, sym, ◌∙◌, ap, arith}
use Rattle.std.specs.Option.{option_map}
use Rattle.rank_tree.proofs.NameLemmas.{not_some, if_live}
use Rattle.rank_tree.specs.Repair.{Leaning, Restored}
use Rattle.rank_tree.specs.FrameLaws.{both_kept}
use Rattle.rank_tree.specs.SpotLaws.{spot_low, spot_parent, spot_high, spot_child}
use Rattle.rank_tree.proofs.LeanLemmas.{LeanReads, lean_spot, lean_reads, lean_once, lean_twice}
use Rattle.rank_tree.specs.TurningLaws.{Turns, TurnsTwice, turns_kept, root-some}
use Rattle.rank_tree.proofs.insertion_repair.lean.Goals.{After-rank_at, After-turn, In-Some-inner}
use Rattle.rank_tree.proofs.insertion_repair.lean.Goals as goal

-- what was read is what stands there
read : (g : _) (c : After-rank_at g) (w : List ℕ)
    (h : Leaning (g.K.NodeStore.nodes c.args.nodes.now)
    (option_map g.P.Inx.PtrInxCore.number c.args.root.now)
    (g.P.Inx.PtrInxCore.number c.args.low) w)
    → LeanReads _ _ _ w h c.read-below.result.rank
    (option_map g.P.Inx.PtrInxCore.number c.child-inner.result) c.rank_at.result
read g c w h =
    lean_reads _ _ _ _ _ _ _ _ _ _ c.read-below.ensures
    (ap (option_map g.P.Inx.PtrInxCore.number) c.in-Some.is) c.read-above.ensures
    c.side_of-side.ensures.left c.side_of-side.ensures.right c.other.ensures c.child-inner.ensures
    c.rank_at.ensures.some c.rank_at.ensures.none w h

-- the node turns up
once : (g : _) (c : After-turn g) (w : List ℕ)
    (h : Leaning (g.K.NodeStore.nodes c.args.nodes.now)
    (option_map g.P.Inx.PtrInxCore.number c.args.root.now)
    (g.P.Inx.PtrInxCore.number c.args.low) w)
    → Turns (g.K.NodeStore.nodes c.args.nodes.now)
    (option_map g.P.Inx.PtrInxCore.number c.args.root.now)
    (g.P.Inx.PtrInxCore.number c.args.low) c.read-below.result.rank (c.read-below.result.rank - 1) w
    (λ m r. Restored m r w)
once g c w h =
    let r = read g (goal.at.After-turn g c).After-rank_at w h in
    lean_once _ _ _ _ _ w h (omega arith) r.rank_is (ap (λ z. z - 1) r.rank_is)

-- the inner child turns up, twice
twice : (g : _) (c : In-Some-inner g) (w : List ℕ)
    (h : Leaning (g.K.NodeStore.nodes c.args.nodes.now)
    (option_map g.P.Inx.PtrInxCore.number c.args.root.now)
    (g.P.Inx.PtrInxCore.number c.args.low) w)
    → TurnsTwice (g.K.NodeStore.nodes c.args.nodes.now)
    (option_map g.P.Inx.PtrInxCore.number c.args.root.now)
    (g.P.Inx.PtrInxCore.number c.in-Some-inner.middle) c.read-below.result.rank
    (c.read-below.result.rank - 1) w
twice g c w h =
    let r = read g (goal.at.In-Some-inner g c).After-rank_at w h in
    lean_twice _ _ _ _ _ _ w h
    (sym r.inner_is ∙ ap (option_map g.P.Inx.PtrInxCore.number) c.in-Some-inner.is)
    (omega arith) r.rank_is
    (ap (λ z. z - 1) r.rank_is)

pub read-below-requires-clause-live : goal.read-below-requires-clause-live
read-below-requires-clause-live g c = spot_low _ _ _ (lean_spot _ _ _ _ c.requires.leaning.1)

pub unreached-unreachable-requires : goal.unreached-unreachable-requires
unreached-unreachable-requires g c =
    not_some g.P.Inx.PtrInxCore.number c.read-below.result.parent _
    (spot_parent _ _ _ _ c.read-below.ensures (lean_spot _ _ _ _ c.requires.leaning.1))
    c.in_default.not-Some

pub read-above-requires-clause-live : goal.read-above-requires-clause-live
read-above-requires-clause-live g c =
    spot_high _ _ _ _ _ c.read-below.ensures
    (ap (option_map g.P.Inx.PtrInxCore.number) c.in-Some.is)
    (lean_spot _ _ _ _ c.requires.leaning.1)

pub rank_at-requires-clause-live : goal.rank_at-requires-clause-live
rank_at-requires-clause-live g c =
    let spot = lean_spot _ _ _ _ c.requires.leaning.1 in
    if_live g.P.Inx.PtrInxCore.number (g.K.NodeStore.nodes c.args.nodes.now) c.child-inner.result
    (λ i e. spot_child _ _ _ _ _ c.read-below.ensures spot i (sym c.child-inner.ensures ∙ e))

pub overflow_add-rank_at : goal.overflow_add-rank_at
overflow_add-rank_at g c =
    let h = c.requires.leaning.1 in
    omega (arith, h, h.fits, read g (goal.at.overflow_add-rank_at g c).After-rank_at _ h)

pub unreached-unreachable-requires-in_default-inner :
    goal.unreached-unreachable-requires-in_default-inner
unreached-unreachable-requires-in_default-inner g c =
    let h = c.requires.leaning.1 in
    let r = read g (goal.at.unreached-unreachable-requires-in_default-inner g c).After-rank_at _ h
    in
    root-some h.inner (omega arith)
    (sym r.inner_is ∙ ap (option_map g.P.Inx.PtrInxCore.number) c.in_default-inner.is)

pub overflow_sub-rank-else-rank_at-rank : goal.overflow_sub-rank-else-rank_at-rank
overflow_sub-rank-else-rank_at-rank g c =
    let h = c.requires.leaning.1 in
    omega (arith, h, read g (goal.at.overflow_sub-rank-else-rank_at-rank g c).After-rank_at _ h)

pub turn-requires-else-rank_at-rank-clause-spot : goal.turn-requires-else-rank_at-rank-clause-spot
turn-requires-else-rank_at-rank-clause-spot g c =
    (twice g (goal.at.turn-requires-else-rank_at-rank-clause-spot g c).In-Some-inner _
    c.requires.leaning.1).spot

pub overflow_sub-rank-else-rank_at-rank-2 : goal.overflow_sub-rank-else-rank_at-rank-2
overflow_sub-rank-else-rank_at-rank-2 g c =
    let h = c.requires.leaning.1 in
    omega (arith, h, read g (goal.at.overflow_sub-rank-else-rank_at-rank-2 g c).After-rank_at _ h)

pub turn-requires-else-rank_at-rank-2-clause-spot :
    goal.turn-requires-else-rank_at-rank-2-clause-spot
turn-requires-else-rank_at-rank-2-clause-spot g c =
    let one = twice g (goal.at.turn-requires-else-rank_at-rank-2-clause-spot g c).In-Some-inner _
    c.requires.leaning.1 in
    (one.after _ _ (c.turn-else-rank_at-rank.ensures.does one.spot).0).spot

pub returns-then-rank_at-rank-clause-does : goal.returns-then-rank_at-rank-clause-does
returns-then-rank_at-rank-clause-does g c = λ w h.
    let one = once g (goal.at.returns-then-rank_at-rank-clause-does g c).After-turn w h in
    let first = c.turn.ensures.does one.spot in
    (one.after _ _ first.0, turns_kept _ _ _ _ _ _ w _ one first.1)

pub returns-in-Some-inner-clause-does : goal.returns-in-Some-inner-clause-does
returns-in-Some-inner-clause-does g c = λ w h.
    let one = twice g (goal.at.returns-in-Some-inner-clause-does g c).In-Some-inner w h in
    let first = c.turn-else-rank_at-rank.ensures.does one.spot in
    let two = one.after _ _ first.0 in
    let second = c.turn-else-rank_at-rank-2.ensures.does two.spot in (
      two.after _ _ second.0,
      both_kept w _ _ _ (turns_kept _ _ _ _ _ _ w _ one first.1)
          (turns_kept _ _ _ _ _ _ w _ two second.1),
    )
