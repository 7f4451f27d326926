use Rattle.std.proofs.Common.{rules, ◌≡◌, Some, true≢false, sym, ap, ◌∙◌}
use Rattle.triple_arena.specs.Content.{get}
use Rattle.triple_arena_chain.proofs.FromArenaLemmas.{next_goes_back, prev_goes_on}
use Rattle.triple_arena_chain.proofs.chain_arena.ChainArena.interlinks_agree.Goals.{then-not-goes_back-via-then-not-goes_back}
use Rattle.triple_arena_chain.proofs.chain_arena.ChainArena.interlinks_agree.Goals.{then-not-goes_back-via-else-not-goes_back+then-not-goes_on}
use Rattle.triple_arena_chain.proofs.chain_arena.ChainArena.interlinks_agree.Goals as goal

pub returns-then-not-goes_back : goal.returns-then-not-goes_back
returns-then-not-goes_back g c =
    let number = g.P.Inx.PtrInxCore.number in
    let at : get c.args.arena.now (g.P.PtrCore.index c.in-Some.p)
    (g.P.PtrCore.generation c.in-Some.p) ≡ Some c.in-Some-get.link.now = search rules in (
      λ no. absurd (true≢false (sym no)),
      λ agreed.
          absurd (elim c.then-not-goes_back.branch [
            | then-not-goes_back-via-then-not-goes_back w ↦
                true≢false (sym (w.if-not-goes_back.ensures.1
                (λ q is. next_goes_back c.args.arena.now _ _ _ agreed at q
                (sym c.next.ensures ∙ is)
                ∙ ap Some (sym c.inx.ensures))))
            | then-not-goes_back-via-else-not-goes_back+then-not-goes_on w ↦
                true≢false
                (sym (w.if-not-goes_on.ensures.1
                (λ p is. prev_goes_on c.args.arena.now _ _ _ agreed at p
                (sym w.prev.ensures ∙ is)
                ∙ ap Some (sym w.inx-else-not-goes_back.ensures))))
          ]),
    )
