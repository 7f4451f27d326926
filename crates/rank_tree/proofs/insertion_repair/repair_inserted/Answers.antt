use Rattle.std.proofs.Common.{◌≡◌, true, ◌≤◌, ◌+◌, List, ℕ, false, inl, inr, sym, ◌∙◌, ap, arith}
use Rattle.std.proofs.lemmas.Bool.{cases_lt, false≢true}
use Rattle.std.specs.Option.{option_map}
use Rattle.rank_tree.specs.Named.{named}
use Rattle.rank_tree.specs.Tree.{rank_of}
use Rattle.rank_tree.specs.Repair.{Grown, Leaning}
use Rattle.rank_tree.specs.ClimbLaws.{Climbing, IsLevel, GrownTo, grown_under, grown_ends}
use Rattle.rank_tree.specs.ClimbLaws.{grown_lives}
use Rattle.rank_tree.specs.ClimbLaws.{parent_lives, climb_write}
use Rattle.rank_tree.specs.ClimbLaws.{climb_small, climb_ends, climb_leans, climb_up, climb_kept}
use Rattle.rank_tree.specs.ClimbLaws.{climb_ranks, climb_falls}
use Rattle.rank_tree.specs.FrameLaws.{both_kept}
use Rattle.rank_tree.proofs.insertion_repair.repair_inserted.Goals.{In-Some, After-is_two_lower}
use Rattle.rank_tree.proofs.insertion_repair.repair_inserted.Goals as goal

-- the node that has grown, below its parent
under : (g : _) (c : In-Some g) (w : List ℕ)
    → Grown (g.K.NodeStore.nodes c.args.nodes.now) (option_map g.P.Inx.PtrInxCore.number
    c.args.root.now)
    (g.P.Inx.PtrInxCore.number c.args.start) w
    → Climbing (g.K.NodeStore.nodes c.climb.nodes)
    (option_map g.P.Inx.PtrInxCore.number c.climb.root)
    (g.P.Inx.PtrInxCore.number c.climb.low) w (g.P.Inx.PtrInxCore.number c.in-Some.high)
under g c w grown =
    grown_under _ _ _ _ _ _ c.read-below.ensures (ap
    (option_map g.P.Inx.PtrInxCore.number) c.in-Some.is)
    (c.climb.invariant.0 w grown)

-- the parent, where it is no higher than the node that has grown
level : (g : _) (c : After-is_two_lower g) (w : List ℕ)
    (h : Climbing (g.K.NodeStore.nodes c.climb.nodes) (option_map g.P.Inx.PtrInxCore.number
    c.climb.root)
    (g.P.Inx.PtrInxCore.number c.climb.low) w (g.P.Inx.PtrInxCore.number c.in-Some.high))
    → IsLevel _ _ _ _ _ h (named g.P.Inx.PtrInxCore.number c.read-above.result)
    c.read-below.result.rank
level g c w h =
    let at = goal.at.After-is_two_lower g c in
    let e = climb_ranks _ _ _ _ _ _ c.read-below.ensures c.read-above.ensures w h in
    record { at_high = c.read-above.ensures; rank_is = e.0; no_higher = omega arith }

abbrev grown_to : (g : _) (c : After-is_two_lower g) (w : List ℕ)
    → Climbing (g.K.NodeStore.nodes c.climb.nodes) (option_map g.P.Inx.PtrInxCore.number
    c.climb.root)
    (g.P.Inx.PtrInxCore.number c.climb.low) w (g.P.Inx.PtrInxCore.number c.in-Some.high)
    → GrownTo (g.K.NodeStore.nodes c.climb.nodes)
    (named g.P.Inx.PtrInxCore.number c.read-above.result) c.read-below.result.rank
grown_to g c w h =
    record { root = _; low = _; w = w; high = _; climbing = h; level = level g c w h }

-- its other child is two lower
leans : (g : _) (c : After-is_two_lower g) → c.is_two_lower.result ≡ true → (w : List ℕ)
    → Climbing (g.K.NodeStore.nodes c.climb.nodes) (option_map g.P.Inx.PtrInxCore.number
    c.climb.root)
    (g.P.Inx.PtrInxCore.number c.climb.low) w (g.P.Inx.PtrInxCore.number c.in-Some.high)
    → Leaning (g.K.NodeStore.nodes c.climb.nodes)
    (option_map g.P.Inx.PtrInxCore.number c.climb.root)
    (g.P.Inx.PtrInxCore.number c.climb.low) w
leans g c said w h =
    let l = level g c w h in
    let rank_is = l.rank_is in
    let less = (c.is_two_lower.ensures (grown_to g c w h)).0 said in
    climb_leans _ _ _ _ w h l.no_higher (omega arith)

-- or one lower
rises : (g : _) (c : After-is_two_lower g) → c.is_two_lower.result ≡ false → (w : List ℕ)
    (h : Climbing (g.K.NodeStore.nodes c.climb.nodes) (option_map g.P.Inx.PtrInxCore.number
    c.climb.root)
    (g.P.Inx.PtrInxCore.number c.climb.low) w (g.P.Inx.PtrInxCore.number c.in-Some.high))
    → h.rank ≤ rank_of h.far + 1
rises g c denied w h =
    let l = level g c w h in
    let rank_is = l.rank_is in
    let tested = c.is_two_lower.ensures (grown_to g c w h) in
    elim (cases_lt (rank_of h.far + 1) c.read-below.result.rank) [
      | inl less ↦ absurd (false≢true (sym denied ∙ tested.1 less))
      | inr more ↦ omega arith
    ]

pub read-below-requires-clause-live : goal.read-below-requires-clause-live
read-below-requires-clause-live g c =
    grown_lives _ _ _ _ (c.climb.invariant.0 c.requires.grown.0 c.requires.grown.1)

pub read-above-requires-clause-live : goal.read-above-requires-clause-live
read-above-requires-clause-live g c =
    parent_lives _ _ _ _ _ (under g (goal.at.read-above-requires-clause-live g c).In-Some _
    c.requires.grown.1)

pub returns-then-below-above-clause-does : goal.returns-then-below-above-clause-does
returns-then-below-above-clause-does g c = λ w grown.
    let h = under g (goal.at.returns-then-below-above-clause-does g c).In-Some w grown in
    let e = climb_ranks _ _ _ _ _ _ c.read-below.ensures c.read-above.ensures w h in
    (climb_ends _ _ _ _ w h (omega arith), c.climb.invariant.2 w grown)

pub is_two_lower-requires-clause-grown : goal.is_two_lower-requires-clause-grown
is_two_lower-requires-clause-grown g c =
    let h = under g (goal.at.is_two_lower-requires-clause-grown g c).In-Some _ c.requires.grown.1 in
    let e = climb_ranks _ _ _ _ _ _ c.read-below.ensures c.read-above.ensures _ h in
    record {
      root = _;
      low = _;
      w = _;
      high = _;
      climbing = h;
      level = record { at_high = c.read-above.ensures; rank_is = e.0; no_higher = omega arith };
    }

pub lean-requires-clause-leaning : goal.lean-requires-clause-leaning
lean-requires-clause-leaning g c =
    let at = goal.at.lean-requires-clause-leaning g c in (
      c.requires.grown.0,
      leans g at.After-is_two_lower c.if-is_two_lower.true _
          (under g at.In-Some _ c.requires.grown.1),
    )

pub overflow_add-above : goal.overflow_add-above
overflow_add-above g c =
    let at = goal.at.overflow_add-above g c in
    let h = under g at.In-Some _ c.requires.grown.1 in
    let l = level g at.After-is_two_lower _ h in
    let e = climb_ranks _ _ _ _ _ _ c.read-below.ensures c.read-above.ensures _ h in
    let no_higher = l.no_higher in
    let b = climb_small _ _ _ _ _ h in omega arith

pub returns-in_default-clause-does : goal.returns-in_default-clause-does
returns-in_default-clause-does g c = λ w grown. (
  grown_ends _ _ _ _ w c.read-below.ensures (ap (option_map g.P.Inx.PtrInxCore.number)
      c.in_default.is) (c.climb.invariant.0 w grown),
  c.climb.invariant.2 w grown,
)

pub returns-then-is_two_lower-clause-does : goal.returns-then-is_two_lower-clause-does
returns-then-is_two_lower-clause-does g c = λ w grown.
    let at = goal.at.returns-then-is_two_lower-clause-does g c in
    let leaned = c.lean.ensures.does w (leans g at.After-is_two_lower c.if-is_two_lower.true w
    (under g at.In-Some w grown)) in
    (leaned.0, both_kept w _ _ _ (c.climb.invariant.2 w grown) leaned.1)

pub climb-smaller : goal.climb-smaller
climb-smaller g c =
    let at = goal.at.climb-smaller g c in
    let h = under g at.In-Some _ c.requires.grown.1 in
    let rank_is = (level g at.After-is_two_lower _ h).rank_is in
    let one_more = h.one_more in
    let f = h.high_fits in
    let e = climb_ranks _ _ _ _ _ _ c.read-below.ensures c.read-above.ensures _ h in
    let b = climb_small _ _ _ _ _ h in
    climb_falls _ _ _ _ _ _ c.read-below.ensures (c.set_rank.ensures.does _ c.read-above.ensures)
    (omega arith) (omega arith)

pub climb-preserved : goal.climb-preserved
climb-preserved g c =
    let at = goal.at.climb-preserved g c in
    let written = c.set_rank.ensures.does _ c.read-above.ensures in (
      λ w grown.
          let h = under g at.In-Some w grown in
          climb_up _ _ _ _ _ w h (level g at.After-is_two_lower w h).no_higher
          (rises g at.After-is_two_lower c.if-is_two_lower.false w h)
          (climb_write _ _ _ _ _ _ c.read-above.ensures written w h),
      c.set_rank.ensures.keeps ∙ c.climb.invariant.1,
      λ w grown.
          both_kept w _ _ _ (c.climb.invariant.2 w grown)
          (climb_kept _ _ _ _ _ _ w (under g at.In-Some w grown) written),
    )
