use Rattle.std.proofs.Common.{◌≡◌, ◌+◌, ◌<◌, IsSome, true, false, option_map, refl, sym, ap, subst}
use Rattle.std.proofs.Common.{arith}
use Rattle.triple_arena.specs.Content.{entry_at, live_count}
use Rattle.triple_arena_chain.specs.Links.{ends_in}
use Rattle.triple_arena_chain.specs.Drains.{IsWalk, IsRestDrained}
use Rattle.triple_arena_chain.proofs.DrainLemmas.{walk_live}
use Rattle.triple_arena_chain.proofs.chain_arena.drain.ChainDrainIterator.next.Goals as goal

pub returns-in_err-item-clause-steps : goal.returns-in_err-item-clause-steps
returns-in_err-item-clause-steps g c =
    let number = g.P.Inx.PtrInxCore.number in
    let old = c.args.self.now.chains.now in
    let at = ap (option_map number) c.in_ok-i.was in
    let walk = subst (λ o. IsWalk (ends_in old) o c.requires.0) at c.requires.1 in
    let live : IsSome (entry_at old (number c.in_ok-i.i)) =
    walk_live g.P.Gen.PtrGenCore.last old (number c.in_ok-i.i) c.requires.0 walk in
    absurd (let never : false ≡ true = c.in_err-item.ensures.variant.1 live in cc)

pub returns-clause-steps : goal.returns-clause-steps
returns-clause-steps g c =
    let number = g.P.Inx.PtrInxCore.number in
    let last = g.P.Gen.PtrGenCore.last in
    let old = c.args.self.now.chains.now in
    let at = ap (option_map number) c.in_ok-i.was in
    let step = c.in_ok-item.ensures.step in
    let rest = step.goes_on c.requires.0
    (subst (λ o. IsWalk (ends_in old) o c.requires.0) at c.requires.1) in (
      (number c.in_ok-i.i, at, step),
      (
        refl,
        λ left leaves. subst (λ o. IsRestDrained last o old left) (sym at)
            (step.leaves left leaves),
      ),
      (rest.0, rest.2),
    )

pub returns-clause-goes : goal.returns-clause-goes
returns-clause-goes g c =
    let number = g.P.Inx.PtrInxCore.number in
    let old = c.args.self.now.chains.now in
    let at = ap (option_map number) c.in_ok-i.was in
    let step = c.in_ok-item.ensures.step in
    let rest = step.goes_on c.requires.0
    (subst (λ o. IsWalk (ends_in old) o c.requires.0) at c.requires.1) in
    let fewer : live_count c.take_first.new.self + 1 ≡ live_count old = step.taken.live in
    let less : live_count c.take_first.new.self < live_count old = omega (arith, fewer) in
    record {
      on = λ finite. ((rest.0, rest.2), finite, less);
      keeps = (rest.0, rest.2);
      rests = λ _. tt;
    }
