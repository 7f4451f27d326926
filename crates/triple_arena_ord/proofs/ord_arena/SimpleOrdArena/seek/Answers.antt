use Rattle.std.proofs.Common.{◌≡◌, ℕ, ◌+◌, Bool, Option, Some, IsSome, refl, sym, ap, ◌∙◌}
use Rattle.std.proofs.Common.{subst, option_map, arith, true, false, true≢false}
use Rattle.std.specs.Ordering.{is_eq, is_lt}
use Rattle.std.specs.declared.cmp.Ordering.{Ordering}
use Rattle.std.specs.declared.cmp.Ordering.TheVariants.{Less, Equal, Greater}
use Rattle.rank_tree.specs.Tree.{Tree}
use Rattle.rank_tree.specs.Search.{IsAnswer, IsFreeAt}
use Rattle.rank_tree.specs.NodeView.{NodeView}
use Rattle.triple_arena_chain.specs.Links.{values_in}
use Rattle.triple_arena_ord.specs.Node.{nodes_in}
use Rattle.triple_arena_ord.specs.Ordered.{asked_at}
use Rattle.rank_tree.specs.DescentLaws.{falls_down, descent_ends, descent_asked}
use Rattle.rank_tree.specs.DescentLaws.{descent_lives}
use Rattle.triple_arena_ord.proofs.SeekLemmas.{Step, seek_begins, seek_step, seek_ends, no_child}
use Rattle.triple_arena_ord.proofs.SeekLemmas.{leaf_ends, less_of, named_so, some_of}
use Rattle.triple_arena_ord.proofs.ord_arena.SimpleOrdArena.seek.Goals.{After-cmp-answer}
use Rattle.triple_arena_ord.proofs.ord_arena.SimpleOrdArena.seek.Goals as goal

equal_of : (o : Ordering) (is : Bool) → is ≡ is_eq o → is ≡ true → o ≡ Equal
equal_of Less is e h = absurd (true≢false (sym h ∙ e))
equal_of Equal is e h = refl
equal_of Greater is e h = absurd (true≢false (sym h ∙ e))

greater_of : (o : Ordering) (is less : Bool) → is ≡ is_eq o → is ≡ false → less ≡ is_lt o
    → less ≡ false → o ≡ Greater
greater_of Less is less e h f k = absurd (true≢false (sym f ∙ k))
greater_of Equal is less e h f k = absurd (true≢false (sym e ∙ h))
greater_of Greater is less e h f k = refl

answered_so : (f : ℕ → Ordering) (t : Tree) (i : ℕ) (d e : Ordering) → d ≡ e
    → IsAnswer f t (Some (i, e)) → IsAnswer f t (Some (i, d))
answered_so f t i d e same = subst (λ o. IsAnswer f t (Some (i, o))) (sym same)

lives_so : (v : Option NodeView) (d : Ordering) → d ≡ Equal → IsSome v → IsFreeAt d v
lives_so v d same = subst (λ o. IsFreeAt o v) (sym same)

pub get_inx_unwrap-node-requires : goal.get_inx_unwrap-node-requires
get_inx_unwrap-node-requires g c =
    let i = g.P.Inx.PtrInxCore.number c.in-Some.i in
    let lives = (descent_lives _ _ _ _ _ _ i
    (sym c.get.ensures ∙ ap (option_map g.P.Inx.PtrInxCore.number) c.in-Some.is)
    c.down.invariant.1.1).1 in
    subst (λ o. IsSome (values_in o.chains i)) (sym c.self.view_is)
    (some_of _ (values_in c.args.self.now.chains i) lives)

-- the node at the link is asked
step : (g : _) (c : After-cmp-answer g)
    → Step g.T.Key.Ord.cmp g.T.SimpleOrdItem.key_of c.args.k.now
    c.args.self.now
    (g.P.Inx.PtrInxCore.number c.in-Some.i) c.get_inx_unwrap-node.result.now c.down.invariant.0
step g c =
    seek_step g.T.Key.Ord.cmp g.T.SimpleOrdItem.key_of c.args.k.now
    c.args.self.now _ c.self.view_is
    (g.P.Inx.PtrInxCore.number c.in-Some.i) _ _ refl c.get_inx_unwrap-node.ensures _ _
    c.down.invariant.0
    (sym c.get.ensures ∙ ap (option_map g.P.Inx.PtrInxCore.number) c.in-Some.is)
    c.down.invariant.1.1

asked : (g : _) (c : After-cmp-answer g)
    → asked_at g.T.Key.Ord.cmp g.T.SimpleOrdItem.key_of c.args.k.now c.args.self.now
    (g.P.Inx.PtrInxCore.number c.in-Some.i) ≡ c.cmp-answer.result
asked g c = (step g c).is ∙ ap (g.T.Key.Ord.cmp c.args.k.now) (sym c.key.ensures)
    ∙ sym c.cmp-answer.ensures

pub returns-then-is_none-2-clause-answer : goal.returns-then-is_none-2-clause-answer
returns-then-is_none-2-clause-answer g c =
    let at = (goal.at.returns-then-is_none-2-clause-answer g c).After-cmp-answer in
    (leaf_ends _ _ _ _ _ _ (step g at).here (no_child _ c.if-is_none.ensures)
    (no_child _ c.if-is_none-2.ensures) _ (asked g at)).0

pub returns-then-is_none-2-clause-ticks : goal.returns-then-is_none-2-clause-ticks
returns-then-is_none-2-clause-ticks g c =
    let taken = c.replace-count.ensures.value in
    let at = (goal.at.returns-then-is_none-2-clause-ticks g c).After-cmp-answer in
    let before = c.down.invariant.1.0 in
    let ticked = c.tick.ensures in
    let all = (leaf_ends _ _ _ _ _ _ (step g at).here (no_child _ c.if-is_none.ensures)
    (no_child _ c.if-is_none-2.ensures) _ (asked g at)).1 in
    omega (arith, taken, before, ticked, all)

pub down-init : goal.down-init
down-init g c = (
  0,
  (
    (let taken = c.replace-count.ensures.value in omega (arith, taken)),
    rw (c.of-link.ensures)
        (seek_begins g.T.Key.Ord.cmp g.T.SimpleOrdItem.key_of c.args.k.now
        c.args.self.now _ c.self.view_is
        c.self.invariant.0),
  ),
)

pub down-smaller-then-is_lt : goal.down-smaller-then-is_lt
down-smaller-then-is_lt g c =
    falls_down (nodes_in c.args.self.now.chains) _
    c.get_inx_unwrap-node.result.now.p_tree0 _
    (sym c.get.ensures ∙ ap (option_map g.P.Inx.PtrInxCore.number) c.in-Some.is)
    (step g (goal.at.down-smaller-then-is_lt g c).After-cmp-answer).here.rank_left

pub down-preserved-then-is_lt : goal.down-preserved-then-is_lt
down-preserved-then-is_lt g c =
    let at = (goal.at.down-preserved-then-is_lt g c).After-cmp-answer in
    let before = c.down.invariant.1.0 in
    let ticked = c.tick.ensures in
    let less = less_of c.cmp-answer.result c.is_lt.result c.is_lt.ensures c.if-is_lt.true in (
      c.down.invariant.0 + 1,
      (omega arith, named_so _ _ _ _ _ _ _ _ less ((step g at).here.left (asked g at ∙ less))),
    )

pub returns-then-is_eq-clause-answer : goal.returns-then-is_eq-clause-answer
returns-then-is_eq-clause-answer g c =
    let at = (goal.at.returns-then-is_eq-clause-answer g c).After-cmp-answer in
    let equal = equal_of c.cmp-answer.result c.is_eq.result c.is_eq.ensures c.if-is_eq.true in
    answered_so _ _ _ _ _ equal ((step g at).here.stop (asked g at ∙ equal))

pub returns-then-is_eq-clause-ticks : goal.returns-then-is_eq-clause-ticks
returns-then-is_eq-clause-ticks g c =
    let taken = c.replace-count.ensures.value in
    let at = (goal.at.returns-then-is_eq-clause-ticks g c).After-cmp-answer in
    let before = c.down.invariant.1.0 in
    let ticked = c.tick.ensures in
    let equal = equal_of c.cmp-answer.result c.is_eq.result c.is_eq.ensures c.if-is_eq.true in
    let all = (step g at).here.all_asked (asked g at ∙ equal) in
    omega (arith, taken, before, ticked, all)

pub returns-clause-ticks : goal.returns-clause-ticks
returns-clause-ticks g c =
    let taken = c.replace-count.ensures.value in
    let before = c.down.invariant.1.0 in
    let all = descent_asked _ _ _ _ _ _
    (sym c.get.ensures ∙ ap (option_map g.P.Inx.PtrInxCore.number) c.in_default.is)
    c.down.invariant.1.1 in
    omega (arith, taken, before, all)

pub returns-then-is_eq-clause-bound : goal.returns-then-is_eq-clause-bound
returns-then-is_eq-clause-bound g c =
    let taken = c.replace-count.ensures.value in
    let before = c.down.invariant.1.0 in
    let ticked = c.tick.ensures in
    let bound = (step g (goal.at.returns-then-is_eq-clause-bound g
    c).After-cmp-answer).here.in_bound in
    omega (arith, taken, before, ticked, bound)

pub down-smaller : goal.down-smaller
down-smaller g c =
    falls_down (nodes_in c.args.self.now.chains) _
    c.get_inx_unwrap-node.result.now.p_tree1 _
    (sym c.get.ensures ∙ ap (option_map g.P.Inx.PtrInxCore.number) c.in-Some.is)
    (step g (goal.at.down-smaller g c).After-cmp-answer).here.rank_right

pub down-preserved : goal.down-preserved
down-preserved g c =
    let at = (goal.at.down-preserved g c).After-cmp-answer in
    let before = c.down.invariant.1.0 in
    let ticked = c.tick.ensures in
    let greater = greater_of c.cmp-answer.result c.is_eq.result c.is_lt.result c.is_eq.ensures
    c.if-is_eq.false c.is_lt.ensures c.if-is_lt.false in (
      c.down.invariant.0 + 1,
      (
        omega arith,
        named_so _ _ _ _ _ _ _ _ greater ((step g at).here.right (asked g at ∙ greater)),
      ),
    )

pub returns-clause-answer : goal.returns-clause-answer
returns-clause-answer g c =
    descent_ends _ _ _ _ _ _
    (sym c.get.ensures ∙ ap (option_map g.P.Inx.PtrInxCore.number) c.in_default.is)
    c.down.invariant.1.1

pub returns-clause-free : goal.returns-clause-free
returns-clause-free g c =
    seek_ends g.P.Inx.PtrInxCore.number g.T.Key.Ord.cmp g.T.SimpleOrdItem.key_of c.args.k.now
    c.args.self.now _ c.self.view_is
    c.self.invariant.0 c.before.down.place _ _
    (sym c.get.ensures ∙ ap (option_map g.P.Inx.PtrInxCore.number) c.in_default.is)
    c.down.invariant.1.1

pub returns-then-is_eq-clause-free : goal.returns-then-is_eq-clause-free
returns-then-is_eq-clause-free g c =
    let equal = equal_of c.cmp-answer.result c.is_eq.result c.is_eq.ensures c.if-is_eq.true in
    lives_so _ _ equal (descent_lives _ _ _ _ _ _ (g.P.Inx.PtrInxCore.number c.in-Some.i)
    (sym c.get.ensures ∙ ap (option_map g.P.Inx.PtrInxCore.number) c.in-Some.is)
    c.down.invariant.1.1).1
