use Rattle.std.proofs.Common.{◌-◌, ◌<◌, ℕ, List, refl, ap, arith}
use Rattle.std.specs.Option.{IsSome, option_map}
use Rattle.rank_tree.proofs.NameLemmas.{if_live, if_named}
use Rattle.rank_tree.specs.Named.{named}
use Rattle.rank_tree.specs.Store.{rank_in}
use Rattle.rank_tree.specs.Repair.{Broken, Short}
use Rattle.rank_tree.specs.SpotLaws.{spot_low, spot_child}
use Rattle.rank_tree.specs.declared.side.Side.TheVariants.{Left, Right}
use Rattle.rank_tree.specs.MendLaws.{MendReads, SiblingReads, Lowered, Higher, Sibling}
use Rattle.rank_tree.specs.MendLaws.{broken_lives, broken_reads, broken_ends, broken_lower}
use Rattle.rank_tree.specs.MendLaws.{broken_unfit, near_lives, near_rank, near_small}
use Rattle.rank_tree.specs.MendLaws.{broken_sibling, mend_reads, mend_higher, higher_some}
use Rattle.rank_tree.specs.MendLaws.{mend_lower, sibling_reads, sibling_short, sets_lives}
use Rattle.rank_tree.proofs.removal_repair.mend.Goals.{After-rank_at-right, After-set_rank}
use Rattle.rank_tree.proofs.removal_repair.mend.Goals.{After-child, In-Some, Then-below-max}
use Rattle.rank_tree.proofs.removal_repair.mend.Goals.{After-rank_at-low_right, After-set_rank-3}
use Rattle.rank_tree.proofs.removal_repair.mend.Goals as goal

-- what was read is what stands there
read : (g : _) (c : After-rank_at-right g) (w : List ℕ)
    (h : Broken (g.K.NodeStore.nodes c.args.nodes.now)
    (option_map g.P.Inx.PtrInxCore.number c.args.root.now)
    (g.P.Inx.PtrInxCore.number c.args.high)
    (option_map g.P.Inx.PtrInxCore.number c.args.near) w)
    → MendReads _ _ _ _ w h (named g.P.Inx.PtrInxCore.number c.read-above.result)
    c.rank_at-left.result c.rank_at-right.result
read g c w h =
    mend_reads _ _ _ _ _ _ c.read-above.ensures c.rank_at-left.ensures.some
    c.rank_at-left.ensures.none
    c.rank_at-right.ensures.some c.rank_at-right.ensures.none _ w h

-- both children are two lower, and the node loses one rank
falls : (g : _) (c : After-set_rank g) (w : List ℕ)
    → Broken (g.K.NodeStore.nodes c.args.nodes.now)
    (option_map g.P.Inx.PtrInxCore.number c.args.root.now)
    (g.P.Inx.PtrInxCore.number c.args.high)
    (option_map g.P.Inx.PtrInxCore.number c.args.near) w
    → Lowered (g.K.NodeStore.nodes c.set_rank.new.self)
    (option_map g.P.Inx.PtrInxCore.number c.args.root.now)
    (g.P.Inx.PtrInxCore.number c.args.high) (g.K.NodeStore.nodes c.args.nodes.now)
    (option_map g.P.Inx.PtrInxCore.number c.read-above.result.parent) w
falls g c w h =
    let m = read g (goal.at.After-set_rank g c).After-rank_at-right w h in
    broken_lower _ _ _ _ _ c.read-above.ensures (c.set_rank.ensures.does _ c.read-above.ensures) _
    w h (omega arith) (omega arith)

-- the higher child is one lower, and the other three
higher : (g : _) (c : After-child g) (w : List ℕ)
    (h : Broken (g.K.NodeStore.nodes c.args.nodes.now)
    (option_map g.P.Inx.PtrInxCore.number c.args.root.now)
    (g.P.Inx.PtrInxCore.number c.args.high)
    (option_map g.P.Inx.PtrInxCore.number c.args.near) w)
    → Higher _ _ _ _ w h c.higher.result (option_map g.P.Inx.PtrInxCore.number c.child.result)
higher g c w h =
    let m = read g (goal.at.After-child g c).After-rank_at-right w h in
    mend_higher _ _ _ _ _ _ _ _ _ w h m c.read-above.ensures
    (broken_unfit _ _ _ _ c.read-above.ensures _ w h _ c.rank_at-near_rank.ensures.some
    c.rank_at-near_rank.ensures.none _ c.is_fit_above.ensures c.if-is_fit_above.false) (omega arith)
    c.higher.ensures.right c.higher.ensures.left c.child.ensures

sibling : (g : _) (c : In-Some g) (w : List ℕ)
    → Broken (g.K.NodeStore.nodes c.args.nodes.now)
    (option_map g.P.Inx.PtrInxCore.number c.args.root.now)
    (g.P.Inx.PtrInxCore.number c.args.high)
    (option_map g.P.Inx.PtrInxCore.number c.args.near) w
    → Sibling (g.K.NodeStore.nodes c.args.nodes.now)
    (option_map g.P.Inx.PtrInxCore.number c.args.root.now)
    (g.P.Inx.PtrInxCore.number c.in-Some.low) w (g.P.Inx.PtrInxCore.number c.args.high)
sibling g c w h =
    broken_sibling _ _ _ _ _ _ _ w h (higher g (goal.at.In-Some g c).After-child w h)
    (ap (option_map g.P.Inx.PtrInxCore.number) c.in-Some.is)

-- what was read of the sibling is what stands there
read_low : (g : _) (c : After-rank_at-low_right g) (w : List ℕ)
    (s : Sibling (g.K.NodeStore.nodes c.args.nodes.now)
    (option_map g.P.Inx.PtrInxCore.number c.args.root.now)
    (g.P.Inx.PtrInxCore.number c.in-Some.low) w (g.P.Inx.PtrInxCore.number c.args.high))
    → SiblingReads _ _ _ _ w s (named g.P.Inx.PtrInxCore.number c.read-below.result)
    c.rank_at-low_left.result c.rank_at-low_right.result
read_low g c w s =
    sibling_reads _ _ _ _ _ _ _ c.read-below.ensures c.rank_at-low_left.ensures.some
    c.rank_at-low_left.ensures.none c.rank_at-low_right.ensures.some
    c.rank_at-low_right.ensures.none w s

-- or both stay, and a turn of the sibling mends the tree
too_high : (g : _) (c : Then-below-max g) (w : List ℕ)
    → Broken (g.K.NodeStore.nodes c.args.nodes.now)
    (option_map g.P.Inx.PtrInxCore.number c.args.root.now)
    (g.P.Inx.PtrInxCore.number c.args.high)
    (option_map g.P.Inx.PtrInxCore.number c.args.near) w
    → Short (g.K.NodeStore.nodes c.args.nodes.now)
    (option_map g.P.Inx.PtrInxCore.number c.args.root.now)
    (g.P.Inx.PtrInxCore.number c.in-Some.low) w
too_high g c w h =
    let at = goal.at.Then-below-max g c in
    let s = sibling g at.In-Some w h in
    let r = read_low g at.After-rank_at-low_right w s in
    sibling_short _ _ _ _ w s (omega (arith, s, s.fits, r))

-- the sibling and the node lose one rank each
both_fall : (g : _) (c : After-set_rank-3 g) (w : List ℕ)
    → Broken (g.K.NodeStore.nodes c.args.nodes.now)
    (option_map g.P.Inx.PtrInxCore.number c.args.root.now)
    (g.P.Inx.PtrInxCore.number c.args.high)
    (option_map g.P.Inx.PtrInxCore.number c.args.near) w
    → Lowered (g.K.NodeStore.nodes c.set_rank-3.new.self)
    (option_map g.P.Inx.PtrInxCore.number c.args.root.now)
    (g.P.Inx.PtrInxCore.number c.args.high) (g.K.NodeStore.nodes c.args.nodes.now)
    (option_map g.P.Inx.PtrInxCore.number c.read-above.result.parent) w
both_fall g c w h =
    let s = sibling g (goal.at.After-set_rank-3 g c).In-Some w h in
    let r = read_low g (goal.at.After-set_rank-3 g c).After-rank_at-low_right w s in
    mend_lower _ _ _ _ _ _ _ _ _ w s c.read-above.ensures (omega (arith, s, s.fits, r))
    (omega (arith, s, s.fits, r))
    (ap (λ z. z - 1) r.rank_is) refl c.set_rank-2.ensures.does c.set_rank-3.ensures.does

pub read-above-requires-clause-live : goal.read-above-requires-clause-live
read-above-requires-clause-live g c = broken_lives _ _ _ _ _ c.requires.1

pub rank_at-left-requires-clause-live : goal.rank_at-left-requires-clause-live
rank_at-left-requires-clause-live g c =
    if_named g.P.Inx.PtrInxCore.number (λ i. IsSome (g.K.NodeStore.nodes c.args.nodes.now i))
    c.read-above.result.left
    (broken_reads _ _ _ _ c.read-above.ensures _ _ c.requires.1).left_lives

pub rank_at-right-requires-clause-live : goal.rank_at-right-requires-clause-live
rank_at-right-requires-clause-live g c =
    if_named g.P.Inx.PtrInxCore.number (λ i. IsSome (g.K.NodeStore.nodes c.args.nodes.now i))
    c.read-above.result.right
    (broken_reads _ _ _ _ c.read-above.ensures _ _ c.requires.1).right_lives

pub rank_at-near_rank-requires-clause-live : goal.rank_at-near_rank-requires-clause-live
rank_at-near_rank-requires-clause-live g c =
    if_named g.P.Inx.PtrInxCore.number (λ i. IsSome (g.K.NodeStore.nodes c.args.nodes.now i))
    c.args.near (near_lives _ _ _ _ c.read-above.ensures _ _ c.requires.1)

pub is_fit_above-requires : goal.is_fit_above-requires
is_fit_above-requires g c =
    let e = near_rank _ _ _ _ c.read-above.ensures _ _ c.requires.1 _
    c.rank_at-near_rank.ensures.some c.rank_at-near_rank.ensures.none in
    let small = near_small _ _ _ _ c.read-above.ensures _ _ c.requires.1 in
    omega arith

pub returns-then-is_fit_above-clause-pending : goal.returns-then-is_fit_above-clause-pending
returns-then-is_fit_above-clause-pending g c = λ w h.
    broken_ends _ _ _ _ c.read-above.ensures _ w h _ c.rank_at-near_rank.ensures.some
    c.rank_at-near_rank.ensures.none (c.is_fit_above.ensures.0 c.if-is_fit_above.true)

pub overflow_add-max : goal.overflow_add-max
overflow_add-max g c =
    omega (arith, read g (goal.at.overflow_add-max g c).After-rank_at-right _ c.requires.1)

pub returns-then-max-rank-clause-pending : goal.returns-then-max-rank-clause-pending
returns-then-max-rank-clause-pending g c =
    λ w h. (falls g (goal.at.returns-then-max-rank-clause-pending g c).After-set_rank w h).pending

pub returns-then-max-rank-clause-rises : goal.returns-then-max-rank-clause-rises
returns-then-max-rank-clause-rises g c =
    let number = g.P.Inx.PtrInxCore.number in
    let old = g.K.NodeStore.nodes c.args.nodes.now in
    if_named number (λ i. rank_in old (number c.args.high) < rank_in
    (g.K.NodeStore.nodes c.set_rank.new.self) i) c.read-above.result.parent
    (falls g (goal.at.returns-then-max-rank-clause-rises g c).After-set_rank _ c.requires.1).rises

pub unreached-unreachable-requires : goal.unreached-unreachable-requires
unreached-unreachable-requires g c =
    let h = c.requires.1 in
    higher_some _ _ _ _ _ _ _ h
    (higher g (goal.at.unreached-unreachable-requires g c).After-child _ h)
    (ap (option_map g.P.Inx.PtrInxCore.number) c.in_default.is)

pub read-below-requires-clause-live : goal.read-below-requires-clause-live
read-below-requires-clause-live g c =
    spot_low _ _ _ (sibling g (goal.at.read-below-requires-clause-live g c).In-Some _
    c.requires.1).spot

pub rank_at-low_left-requires-clause-live : goal.rank_at-low_left-requires-clause-live
rank_at-low_left-requires-clause-live g c =
    let s = sibling g (goal.at.rank_at-low_left-requires-clause-live g c).In-Some _ c.requires.1 in
    if_live g.P.Inx.PtrInxCore.number (g.K.NodeStore.nodes c.args.nodes.now)
    c.read-below.result.left
    (spot_child _ _ _ _ Left c.read-below.ensures s.spot)

pub rank_at-low_right-requires-clause-live : goal.rank_at-low_right-requires-clause-live
rank_at-low_right-requires-clause-live g c =
    let s = sibling g (goal.at.rank_at-low_right-requires-clause-live g c).In-Some _ c.requires.1 in
    if_live g.P.Inx.PtrInxCore.number (g.K.NodeStore.nodes c.args.nodes.now)
    c.read-below.result.right
    (spot_child _ _ _ _ Right c.read-below.ensures s.spot)

pub overflow_add-max-2 : goal.overflow_add-max-2
overflow_add-max-2 g c =
    let s = sibling g (goal.at.overflow_add-max-2 g c).In-Some _ c.requires.1 in
    omega (
      arith,
      s,
      s.fits,
      read_low g (goal.at.overflow_add-max-2 g c).After-rank_at-low_right _ s,
    )

pub shorten-requires-clause-short : goal.shorten-requires-clause-short
shorten-requires-clause-short g c = (
  c.requires.0,
  too_high g (goal.at.shorten-requires-clause-short g c).Then-below-max _ c.requires.1,
)

pub returns-then-below-max-clause-pending : goal.returns-then-below-max-clause-pending
returns-then-below-max-clause-pending g c = λ w h.
    let at = (goal.at.returns-then-below-max-clause-pending g c).Then-below-max in
    (c.shorten.ensures.does w (too_high g at w h)).0

pub set_rank-requires-2-clause-live : goal.set_rank-requires-2-clause-live
set_rank-requires-2-clause-live g c =
    spot_low _ _ _ (sibling g (goal.at.set_rank-requires-2-clause-live g c).In-Some _
    c.requires.1).spot

pub set_rank-requires-3-clause-live : goal.set_rank-requires-3-clause-live
set_rank-requires-3-clause-live g c =
    let s = sibling g (goal.at.set_rank-requires-3-clause-live g c).In-Some _ c.requires.1 in
    sets_lives _ _ _ _ (spot_low _ _ _ s.spot) c.set_rank-2.ensures.does _
    (broken_lives _ _ _ _ _ c.requires.1)

pub returns-clause-pending : goal.returns-clause-pending
returns-clause-pending g c =
    λ w h. (both_fall g (goal.at.returns-clause-pending g c).After-set_rank-3 w h).pending

pub returns-clause-rises : goal.returns-clause-rises
returns-clause-rises g c =
    let number = g.P.Inx.PtrInxCore.number in
    let old = g.K.NodeStore.nodes c.args.nodes.now in
    if_named number (λ i. rank_in old (number c.args.high) < rank_in
    (g.K.NodeStore.nodes c.set_rank-3.new.self) i) c.read-above.result.parent
    (both_fall g (goal.at.returns-clause-rises g c).After-set_rank-3 _ c.requires.1).rises

pub returns-then-max-rank-clause-elsewhere : goal.returns-then-max-rank-clause-elsewhere
returns-then-max-rank-clause-elsewhere g c =
    λ w h. (falls g (goal.at.returns-then-max-rank-clause-elsewhere g c).After-set_rank w h).kept

pub returns-then-below-max-clause-elsewhere : goal.returns-then-below-max-clause-elsewhere
returns-then-below-max-clause-elsewhere g c = λ w h.
    let at = (goal.at.returns-then-below-max-clause-elsewhere g c).Then-below-max in
    (c.shorten.ensures.does w (too_high g at w h)).1

pub returns-clause-elsewhere : goal.returns-clause-elsewhere
returns-clause-elsewhere g c =
    λ w h. (both_fall g (goal.at.returns-clause-elsewhere g c).After-set_rank-3 w h).kept
