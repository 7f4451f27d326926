use Rattle.std.proofs.Common.{◌≡◌, Some, rules, length, sym, ap, ◌∙◌, arith}
use Rattle.std.specs.Option.{option_map}
use Rattle.triple_arena.specs.Content.{entry_at}
use Rattle.triple_arena_chain.specs.Links.{ends_in, entry_ends}
use Rattle.triple_arena_chain.proofs.IterChainLemmas.{link_given}
use Rattle.triple_arena_chain.proofs.chain_arena.iter_chain.IterChainIterator.next.Goals as goal

pub invariant_of-self : goal.invariant_of-self
invariant_of-self g c =
    let number = g.P.Inx.PtrInxCore.number in
    let chains = c.self.inside.chains.now in
    let i = number c.in_ok-i.i in
    let here : Some (g.P.Gen.PtrGenCore.number c.in-Some.generation, c.in-Some.link.now)
    ≡ entry_at chains i = search rules in
    let shown = ap (option_map entry_ends) (sym here) in
    let next : c.turned-start.result.1 ≡ Some i = search rules in
    (link_given chains _ c.turned-start.result.0
    c.turned-start.result.1
    c.onward-start.result.0 c.onward-start.result.1 i _ _
    c.self.invariant c.turned-start.ensures.same next here
    (c.onward-start.ensures (ends_in chains) i (search (shown, rules)))).1

pub returns-clause-steps : goal.returns-clause-steps
returns-clause-steps g c =
    let number = g.P.Inx.PtrInxCore.number in
    let chains = c.self.inside.chains.now in
    let i = number c.in_ok-i.i in
    let here : Some (g.P.Gen.PtrGenCore.number c.in-Some.generation, c.in-Some.link.now)
    ≡ entry_at chains i = search rules in
    let shown = ap (option_map entry_ends) (sym here) in
    let next : c.turned-start.result.1 ≡ Some i = search rules in
    let given = link_given chains _ c.turned-start.result.0
    c.turned-start.result.1
    c.onward-start.result.0 c.onward-start.result.1 i _ _
    c.self.invariant c.turned-start.ensures.same next here
    (c.onward-start.ensures (ends_in chains) i (search (shown, rules))) in
    sym c.self.view_is ∙ given.0 ∙ search rules

pub returns-clause-goes : goal.returns-clause-goes
returns-clause-goes g c =
    let fewer = ap length (returns-clause-steps g c) in
    record { on = λ finite. (tt, finite, omega (arith, fewer)); keeps = tt; rests = λ _. tt }
