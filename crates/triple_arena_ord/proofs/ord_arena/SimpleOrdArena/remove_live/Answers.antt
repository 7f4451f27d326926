use Rattle.std.proofs.Common.{◌≡◌, Some, ap, sym, ◌∙◌, subst}
use Rattle.std.specs.Option.{option_map}
use Rattle.triple_arena_ptr.specs.Generation.{next_wraps}
use Rattle.linked_lists.specs.LinkedLists.{next_in, next_at}
use Rattle.triple_arena_chain.specs.Links.{ends_in}
use Rattle.triple_arena_ord.specs.Ordered.{Ordered, ordered_by}
use Rattle.triple_arena_ord.specs.Removal.{IsEntryRemoved}
use Rattle.triple_arena_ord.proofs.LostEnds.{first_lost, last_lost}
use Rattle.triple_arena_ord.proofs.UprootingLemmas.{removed}
use Rattle.triple_arena_ord.proofs.ord_arena.SimpleOrdArena.remove_live.Goals as goal

pub take_entry-taken-requires-clause-next : goal.take_entry-taken-requires-clause-next
take_entry-taken-requires-clause-next g c =
    let number = g.P.Inx.PtrInxCore.number in
    subst (λ z. next_at (ends_in z.chains) (number c.args.gone)
    ≡ option_map number c.args.next) (sym c.self.view_is) (ap next_in c.requires.ends)

pub invariant_of-self : goal.invariant_of-self
invariant_of-self g c =
    let number = g.P.Inx.PtrInxCore.number in
    let o : Ordered g.row.T.Denot =
    ordered_by number c.self.inside.chains c.self.inside.root in
    let p : Ordered g.row.T.Denot =
    ordered_by number c.take_entry-taken.new.chains c.take_entry-taken.new.root in
    let h = number c.args.gone in
    let prev = option_map number c.args.prev in
    let next = option_map number c.args.next in
    let ends = subst (λ z. ends_in z.chains h ≡ Some (prev, next)) (sym c.self.view_is)
    c.requires.ends in (
      c.take_entry-taken.ensures.ordered,
      c.leave_end.ensures
          ∙ first_lost o p c.self.invariant.0 h c.take_entry-taken.ensures.order
          prev next ends _ c.self.invariant.1,
      c.leave_end-2.ensures ∙ last_lost o p c.self.invariant.0 h
          c.take_entry-taken.ensures.order prev next ends _ c.self.invariant.2,
    )

pub returns-clause-removed : goal.returns-clause-removed
returns-clause-removed g c =
    let number = g.P.Inx.PtrInxCore.number in
    let o : Ordered g.row.T.Denot =
    ordered_by number c.self.inside.chains c.self.inside.root in
    let p : Ordered g.row.T.Denot =
    ordered_by number c.take_entry-taken.new.chains c.take_entry-taken.new.root in
    let h = number c.args.gone in
    let last = g.P.Gen.PtrGenCore.last in
    let done = c.take_entry-taken.ensures in
    subst (λ z. IsEntryRemoved last h z p) c.self.view_is
    (removed last o p h c.self.invariant.0 done.ordered done.order done.entries done.counter
    done.free done.slots done.room)

pub returns-clause-overflow : goal.returns-clause-overflow
returns-clause-overflow g c =
    c.take_entry-taken.ensures.overflow
    ∙ ap (λ z. next_wraps g.P.Gen.PtrGenCore.last z.chains.counter) c.self.view_is
