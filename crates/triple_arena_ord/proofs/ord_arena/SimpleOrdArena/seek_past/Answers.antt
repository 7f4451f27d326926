use Rattle.std.proofs.Common.{◌≡◌, ◌≢◌, ◌+◌, Bool, IsSome, refl, sym, ap, ◌∙◌}
use Rattle.std.proofs.Common.{subst, option_map, arith, false, true≢false}
use Rattle.std.specs.Ordering.{is_lt}
use Rattle.std.specs.declared.cmp.Ordering.{Ordering}
use Rattle.std.specs.declared.cmp.Ordering.TheVariants.{Less, Equal, Greater}
use Rattle.triple_arena_chain.specs.Links.{values_in}
use Rattle.triple_arena_ord.specs.Bounds.{compares_past, way_past}
use Rattle.triple_arena_ord.specs.Node.{nodes_in}
use Rattle.triple_arena_ord.specs.Ordered.{asked_at}
use Rattle.rank_tree.specs.DescentLaws.{falls_down, descent_ends, descent_asked}
use Rattle.rank_tree.specs.DescentLaws.{descent_lives}
use Rattle.triple_arena_ord.proofs.SeekLemmas.{Step, seek_begins, seek_step, less_of}
use Rattle.triple_arena_ord.proofs.SeekLemmas.{named_so, some_of}
use Rattle.triple_arena_ord.proofs.ord_arena.SimpleOrdArena.seek_past.Goals.{After-way_past-answer}
use Rattle.triple_arena_ord.proofs.ord_arena.SimpleOrdArena.seek_past.Goals as goal

greater_of : (o : Ordering) (less : Bool) → less ≡ is_lt o → less ≡ false → o ≢ Equal → o ≡ Greater
greater_of Less less f k turns = absurd (true≢false (sym f ∙ k))
greater_of Equal less f k turns = absurd (turns refl)
greater_of Greater less f k turns = refl

pub get_inx_unwrap-node-requires : goal.get_inx_unwrap-node-requires
get_inx_unwrap-node-requires g c =
    let i = g.P.Inx.PtrInxCore.number c.in-Some.i in
    let lives = (descent_lives _ _ _ _ _ _ i
    (sym c.get.ensures ∙ ap (option_map g.P.Inx.PtrInxCore.number) c.in-Some.is)
    c.down.invariant.1.1).1 in
    subst (λ o. IsSome (values_in o.chains i)) (sym c.self.view_is)
    (some_of _ (values_in c.args.self.now.chains i) lives)

-- the node at the link is asked
step : (g : _) (c : After-way_past-answer g)
    → Step (compares_past c.args.past g.T.Key.Ord.cmp)
    g.T.SimpleOrdItem.key_of c.args.k.now
    c.args.self.now
    (g.P.Inx.PtrInxCore.number c.in-Some.i) c.get_inx_unwrap-node.result.now c.down.invariant.0
step g c =
    seek_step (compares_past c.args.past g.T.Key.Ord.cmp)
    g.T.SimpleOrdItem.key_of c.args.k.now
    c.args.self.now _ c.self.view_is
    (g.P.Inx.PtrInxCore.number c.in-Some.i) _ _ refl c.get_inx_unwrap-node.ensures _ _
    c.down.invariant.0
    (sym c.get.ensures ∙ ap (option_map g.P.Inx.PtrInxCore.number) c.in-Some.is)
    c.down.invariant.1.1

asked : (g : _) (c : After-way_past-answer g)
    → asked_at (compares_past c.args.past g.T.Key.Ord.cmp) g.T.SimpleOrdItem.key_of c.args.k.now
    c.args.self.now
    (g.P.Inx.PtrInxCore.number c.in-Some.i) ≡ c.way_past-answer.result
asked g c = (step g c).is
    ∙ ap (compares_past c.args.past g.T.Key.Ord.cmp c.args.k.now) (sym c.key.ensures)
    ∙ ap (way_past c.args.past) (sym c.cmp.ensures) ∙ sym c.way_past-answer.ensures.is

pub down-init : goal.down-init
down-init g c = (
  0,
  (
    (let taken = c.replace-count.ensures.value in omega (arith, taken)),
    rw (c.of-link.ensures)
        (seek_begins (compares_past c.args.past g.T.Key.Ord.cmp)
        g.T.SimpleOrdItem.key_of c.args.k.now
        c.args.self.now _ c.self.view_is
        c.self.invariant.0),
  ),
)

pub down-smaller-then-is_lt : goal.down-smaller-then-is_lt
down-smaller-then-is_lt g c =
    falls_down (nodes_in c.args.self.now.chains) _
    c.get_inx_unwrap-node.result.now.p_tree0 _
    (sym c.get.ensures ∙ ap (option_map g.P.Inx.PtrInxCore.number) c.in-Some.is)
    (step g (goal.at.down-smaller-then-is_lt g c).After-way_past-answer).here.rank_left

pub down-preserved-then-is_lt : goal.down-preserved-then-is_lt
down-preserved-then-is_lt g c =
    let at = (goal.at.down-preserved-then-is_lt g c).After-way_past-answer in
    let before = c.down.invariant.1.0 in
    let ticked = c.tick.ensures in
    let less = less_of c.way_past-answer.result c.is_lt.result c.is_lt.ensures c.if-is_lt.true in (
      c.down.invariant.0 + 1,
      (omega arith, named_so _ _ _ _ _ _ _ _ less ((step g at).here.left (asked g at ∙ less))),
    )

pub returns-clause-ticks : goal.returns-clause-ticks
returns-clause-ticks g c =
    let taken = c.replace-count.ensures.value in
    let before = c.down.invariant.1.0 in
    let all = descent_asked _ _ _ _ _ _
    (sym c.get.ensures ∙ ap (option_map g.P.Inx.PtrInxCore.number) c.in_default.is)
    c.down.invariant.1.1 in
    omega (arith, taken, before, all)

pub down-smaller : goal.down-smaller
down-smaller g c =
    falls_down (nodes_in c.args.self.now.chains) _
    c.get_inx_unwrap-node.result.now.p_tree1 _
    (sym c.get.ensures ∙ ap (option_map g.P.Inx.PtrInxCore.number) c.in-Some.is)
    (step g (goal.at.down-smaller g c).After-way_past-answer).here.rank_right

pub down-preserved : goal.down-preserved
down-preserved g c =
    let at = (goal.at.down-preserved g c).After-way_past-answer in
    let before = c.down.invariant.1.0 in
    let ticked = c.tick.ensures in
    let greater = greater_of c.way_past-answer.result c.is_lt.result c.is_lt.ensures
    c.if-is_lt.false c.way_past-answer.ensures.turns in (
      c.down.invariant.0 + 1,
      (
        omega arith,
        named_so _ _ _ _ _ _ _ _ greater ((step g at).here.right (asked g at ∙ greater)),
      ),
    )

pub returns-clause-answer : goal.returns-clause-answer
returns-clause-answer g c =
    descent_ends _ _ _ _ _ _
    (sym c.get.ensures ∙ ap (option_map g.P.Inx.PtrInxCore.number) c.in_default.is)
    c.down.invariant.1.1
