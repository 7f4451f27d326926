use denote.Param.Always.{always_mut, mut_by}
use Rattle.std.proofs.Common.{rules, of_calls}
use Rattle.triple_arena_chain.specs.LinkCopyLaws.{on_ok}
use Rattle.triple_arena_ord.proofs.LinkMoveLemmas.{items_transferred}
use Rattle.triple_arena_ord.proofs.ord_arena.link_moves.move_items.Goals as goal

pub move_from-requires-clause-callable : goal.move_from-requires-clause-callable
move_from-requires-clause-callable g c =
    mut_by _ (λ s. always_mut g.F.FnMut s.0) (λ s a i. search (rules, of_calls))
    (λ s a r t i e. search rules) _ c.requires

pub returns-clause-moved : goal.returns-clause-moved
returns-clause-moved g c =
    on_ok c.move_from.result
    (λ m. (
      m.0,
      (
        m.1.0,
        items_transferred g.V.HoldsItem.item g.W.HoldsItem.item (λ s. s.0)
            (λ h from n to l k e. search rules) m.1.1,
      ),
    )) c.move_from.ensures.moved
