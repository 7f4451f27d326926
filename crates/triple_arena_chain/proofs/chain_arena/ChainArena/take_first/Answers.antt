use Rattle.std.proofs.Common.{rules, ◌≡◌, option_map, refl, sym}
use Rattle.triple_arena_ptr.specs.declared.invalidation.InvalidationOption.{InvalidationOption}
use Rattle.triple_arena_ptr.specs.InvalidationOption.{value_of, overflowed}
use Rattle.triple_arena_ptr.specs.InvalidationResult.{answer_of}
use Rattle.triple_arena_chain.specs.Drains.{IsStep, next_or_prev}
use Rattle.triple_arena_chain.specs.Links.{link_ends}
use Rattle.triple_arena_chain.proofs.DrainLemmas.{step_by}
use Rattle.triple_arena_chain.proofs.chain_arena.ChainArena.take_first.Goals.{After-_from_raw}
use Rattle.triple_arena_chain.proofs.chain_arena.ChainArena.take_first.Goals as goal

-- the link is taken, and given as an item
taken : (g : _) (c : After-_from_raw g) (item : InvalidationOption (_ × _))
    → value_of item ≡ (c._from_raw.result, c.in_ok-generation.link)
    → overflowed item ≡ c.in_ok-generation.wrapped
    → IsStep g.P.Gen.PtrGenCore.last g.P.PtrCore.index g.P.PtrCore.generation
    (g.P.Inx.PtrInxCore.number c.args.i) item
    (option_map g.P.Inx.PtrInxCore.number c.onward-next.result)
    c.args.self.now c.remove_inx_link_no_gen.new.self
taken g c item value wraps =
    let number = g.P.Inx.PtrInxCore.number in
    let next : option_map number c.onward-next.result
    ≡ next_or_prev (number c.args.i) (link_ends c.in_ok-generation.link) =
    search rules in
    step_by g.P.Gen.PtrGenCore.last g.P.Gen.PtrGenCore.number g.P.PtrCore.index
    g.P.PtrCore.generation (answer_of c.remove_inx_link_no_gen.result) c.args.self.now
    c.remove_inx_link_no_gen.new.self (number c.args.i) c._from_raw.result
    c.in_ok-generation.generation c.in_ok-generation.link c.in_ok-generation.wrapped item
    (option_map number c.onward-next.result) c.recall_chained.ensures c._from_raw.ensures.has_index
    c._from_raw.ensures.has_generation value wraps (search rules)
    c.remove_inx_link_no_gen.ensures.value c.remove_inx_link_no_gen.ensures.overflow
    c.remove_inx_link_no_gen.ensures.taken next

pub returns-then-wrapped-clause-step : goal.returns-then-wrapped-clause-step
returns-then-wrapped-clause-step g c =
    taken g (goal.at.returns-then-wrapped-clause-step g c).After-_from_raw _ refl
    (sym c.if-wrapped.true)

pub returns-else-wrapped-clause-step : goal.returns-else-wrapped-clause-step
returns-else-wrapped-clause-step g c =
    taken g (goal.at.returns-else-wrapped-clause-step g c).After-_from_raw _ refl
    (sym c.if-wrapped.false)
