use Rattle.std.proofs.Common.{◌≡◌, ℕ, Option, Some, None, refl, sym, ap, ◌∙◌, of_calls}
use Rattle.std.specs.Option.{option_map}
use Rattle.rank_tree.specs.Whole.{tree_of}
use Rattle.triple_arena_ord.specs.Node.{view_of, nodes_among}
use Rattle.triple_arena_ord.proofs.AskedLemmas.{Asking, goes, goes_nowhere, asking_begins}
use Rattle.triple_arena_ord.proofs.AskedLemmas.{asking_step, asking_ends}
use Rattle.triple_arena_ord.proofs.SeekLemmas.{no_child}
use Rattle.triple_arena_ord.proofs.asks.ask_down.Goals.{After-f-answer}
use Rattle.triple_arena_ord.proofs.asks.ask_down.Goals as goal

-- the node at the link was asked
asked : (g : _) (c : After-f-answer g) (next : Option ℕ)
    → next ≡ goes c.f-answer.result (view_of c.in-Some-get_inx.entry.1.now)
    → Asking g.P.PtrCore.index g.P.PtrCore.generation (goal.F-step g)
    (g.A.ArenaTrait.entry_at c.args.arena.now)
    (tree_of (nodes_among (g.A.ArenaTrait.entry_at c.args.arena.now))
    (option_map g.P.Inx.PtrInxCore.number c.args.root))
    c.args.f.now next (Some (c._from_raw-p.result, c.f-answer.result)) c.f-answer.new.self
    c.args.probes.now c.tick.new.self
asked g c next leads =
    let number = g.P.Inx.PtrInxCore.number in
    let at = sym c.get_inx.ensures
    ∙ ap (option_map (λ e. (g.P.Gen.PtrGenCore.number e.0, e.1.now))) c.in-Some-get_inx.is in
    (asking_step _ _ _ _ _ _ _ _ _ _ _ c.down.invariant.1 (number c.in-Some.i)
    (sym c.get.ensures ∙ ap (option_map number) c.in-Some.is) _ _ at
    _ c._from_raw-p.ensures.has_index c._from_raw-p.ensures.has_generation _ refl _ _
    c.f-answer.ensures next leads _ c.tick.ensures).goes_on

pub returns-then-is_none-2-clause-asked : goal.returns-then-is_none-2-clause-asked
returns-then-is_none-2-clause-asked g c =
    let at = (goal.at.returns-then-is_none-2-clause-asked g c).After-f-answer in
    let ends = goes_nowhere c.f-answer.result (view_of c.in-Some-get_inx.entry.1.now)
    (no_child _ c.if-is_none.ensures) (no_child _ c.if-is_none-2.ensures) in
    let ended = asking_ends _ _ _ _ _ _ _ _ _ _ _ (asked g at None (sym ends)) refl in
    (ended.0, ended.1)

pub down-init : goal.down-init
down-init g c = rw (c.of-link.ensures)
    (search of_calls, asking_begins _ _ _ _ _ _ _ c.requires.whole)

pub down-preserved-in-Less : goal.down-preserved-in-Less
down-preserved-in-Less g c =
    let at = (goal.at.down-preserved-in-Less g c).After-f-answer in
    let step = asked g at _ (ap (λ d. goes d (view_of c.in-Some-get_inx.entry.1.now))
    (sym c.in-Less.is)) in
    (search of_calls, step)

pub down-preserved-in-Equal : goal.down-preserved-in-Equal
down-preserved-in-Equal g c =
    let at = (goal.at.down-preserved-in-Equal g c).After-f-answer in
    let step = asked g at _ (ap (λ d. goes d (view_of c.in-Some-get_inx.entry.1.now))
    (sym c.in-Equal.is)) in
    rw (c.none-link.ensures) (search of_calls, step)

pub down-preserved : goal.down-preserved
down-preserved g c =
    let at = (goal.at.down-preserved g c).After-f-answer in
    let step = asked g at _ (ap (λ d. goes d (view_of c.in-Some-get_inx.entry.1.now))
    (sym c.in-Greater.is)) in
    (search of_calls, step)

pub returns-clause-asked : goal.returns-clause-asked
returns-clause-asked g c = let ended =
    asking_ends _ _ _ _ _ _ _ _ _ _ _ c.down.invariant.1
    (sym c.get.ensures ∙ ap (option_map g.P.Inx.PtrInxCore.number) c.in_default.is) in
    (ended.0, ended.1)

pub returns-clause-bound : goal.returns-clause-bound
returns-clause-bound g c =
    (asking_ends _ _ _ _ _ _ _ _ _ _ _ c.down.invariant.1
    (sym c.get.ensures ∙ ap (option_map g.P.Inx.PtrInxCore.number) c.in_default.is)).2
