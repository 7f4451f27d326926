use Rattle.std.proofs.Common.{rules, ◌≡◌, None, option_map, sym, subst}
use Rattle.triple_arena.specs.Content.{entry_at}
use Rattle.triple_arena_chain.specs.Drains.{IsRestDrained}
use Rattle.triple_arena_chain.proofs.DrainLemmas.{nothing_left, nothing_there}
use Rattle.triple_arena_chain.proofs.chain_arena.ChainArena.take_rest.Goals as goal

pub returns-in_default-take_first : goal.returns-in_default-take_first
returns-in_default-take_first g c =
    let number = g.P.Inx.PtrInxCore.number in
    let last = g.P.Gen.PtrGenCore.last in
    let now = c.loop-at.self in
    let same : c.take_first.new.self ≡ c.loop-at.self = search rules in
    let vacant : entry_at c.loop-at.self (g.P.Inx.PtrInxCore.number c.in-Some.i) ≡ None =
    search rules in
    c.loop-at.invariant c.take_first.new.self
    (subst (λ left. IsRestDrained last (option_map number c.loop-at.at) now left) (sym same)
    (subst (λ o. IsRestDrained last (option_map number o) now now) (sym c.in-Some.is)
    (nothing_there last now (number c.in-Some.i) vacant)))

pub loop-at-preserved : goal.loop-at-preserved
loop-at-preserved g c left drained =
    let number = g.P.Inx.PtrInxCore.number in
    c.loop-at.invariant left
    (subst (λ o. IsRestDrained g.P.Gen.PtrGenCore.last (option_map number o) c.loop-at.self
    left) (sym c.in-Some.is)
    (c.in-Some-take_first.ensures.step.leaves left drained))

pub returns : goal.returns
returns g c =
    let number = g.P.Inx.PtrInxCore.number in
    let last = g.P.Gen.PtrGenCore.last in
    let now = c.loop-at.self in
    c.loop-at.invariant now
    (subst (λ o. IsRestDrained last (option_map number o) now now) (sym c.in_default.is)
    (nothing_left last now))
