use Rattle.std.proofs.Common.{◌≡◌, min, Bool, true, false, refl, arith}
use Rattle.std.proofs.lemmas.Bool.{ltb-true, lt-ltb}
use Rattle.rank_tree.proofs.NameLemmas.{if_live, none_tested, some_tested}
use Rattle.rank_tree.specs.declared.side.Side.TheVariants.{Left, Right}
use Rattle.rank_tree.specs.Tree.{rank_of}
use Rattle.rank_tree.specs.Named.{named}
use Rattle.rank_tree.specs.ClimbLaws.{GrownTo, children_live, climb_small}
use Rattle.rank_tree.specs.ClimbLaws.{level_lower, level_none, level_some}
use Rattle.rank_tree.proofs.insertion_repair.is_two_lower.Goals.{After-rank_at-right}
use Rattle.rank_tree.proofs.insertion_repair.is_two_lower.Goals as goal

-- the lower of the two ranks
lower : (g : _) (c : After-rank_at-right g)
    (grown : GrownTo (g.K.NodeStore.nodes c.args.nodes.now)
    (named g.P.Inx.PtrInxCore.number c.args.above) c.args.rank)
    → min c.rank_at-left.result c.rank_at-right.result
    ≡ min c.args.rank (rank_of grown.climbing.far)
lower g c grown =
    level_lower _ _ _ _ _ _ _ _ c.rank_at-left.ensures.some c.rank_at-left.ensures.none
    c.rank_at-right.ensures.some c.rank_at-right.ensures.none _ grown.climbing grown.level

pub returns-then-is_none : goal.returns-then-is_none
returns-then-is_none g c = λ grown. (
  λ said. level_none _ _ _ _ _ _ _ grown.climbing grown.level Left (omega arith)
      (none_tested g.P.Inx.PtrInxCore.number c.args.above.left _ c.is_none.ensures
      c.if-is_none.true),
  λ less. c.if-is_none.true,
)

pub returns-else-is_none : goal.returns-else-is_none
returns-else-is_none g c = λ grown. (
  λ said. level_none _ _ _ _ _ _ _ grown.climbing grown.level Right (omega arith)
      (none_tested g.P.Inx.PtrInxCore.number c.args.above.right _ c.is_none-else-is_none.ensures
      said),
  λ less. found c.is_none-else-is_none.result (λ denied.
      level_some _ _ _ _ _ _ _ grown.climbing grown.level (omega arith)
      (some_tested g.P.Inx.PtrInxCore.number c.args.above.left _ c.is_none.ensures
      c.if-is_none.false)
      (some_tested g.P.Inx.PtrInxCore.number c.args.above.right _ c.is_none-else-is_none.ensures
      denied) less),
)
  where
    found : (b : Bool) → (b ≡ false → ⊥) → b ≡ true
    found true f = refl
    found false f = absurd (f refl)

pub rank_at-left-requires-clause-live : goal.rank_at-left-requires-clause-live
rank_at-left-requires-clause-live g c =
    let grown = c.requires.grown in
    if_live g.P.Inx.PtrInxCore.number (g.K.NodeStore.nodes c.args.nodes.now) c.args.above.left
    (children_live _ _ _ _ _ Left grown.level.at_high _ grown.climbing)

pub rank_at-right-requires-clause-live : goal.rank_at-right-requires-clause-live
rank_at-right-requires-clause-live g c =
    let grown = c.requires.grown in
    if_live g.P.Inx.PtrInxCore.number (g.K.NodeStore.nodes c.args.nodes.now) c.args.above.right
    (children_live _ _ _ _ _ Right grown.level.at_high _ grown.climbing)

pub overflow_add-result : goal.overflow_add-result
overflow_add-result g c =
    let grown = c.requires.grown in
    let rank_is = grown.level.rank_is in
    let e = lower g (goal.at.overflow_add-result g c).After-rank_at-right grown in
    let b = climb_small _ _ _ _ _ grown.climbing in omega arith

pub returns : goal.returns
returns g c = λ grown.
    let e = lower g (goal.at.returns g c).After-rank_at-right grown in
    let m = c.min.ensures in
    (λ said. let less = ltb-true _ _ said in omega arith, λ less. lt-ltb _ _ (omega arith))
