use Rattle.std.proofs.Common.{◌≡◌, ◌∙◌, sym, subst, false, IfSome}
use Rattle.std.specs.Int.NonZero.{non_zero_u32_get}
use Rattle.triple_arena_ord.specs.Ordered.{order_in}
use Rattle.triple_arena_ord.specs.OrderedWalks.{IsFrom, entries_left, left_over}
use Rattle.ord_map_c.specs.declared.handle.Handle.{Handle}
use Rattle.ord_map_c.proofs.SearchLemmas.{rest_is, rest_left}
use Rattle.ord_map_c.proofs.entries.walk_from.Goals as goal

pub returns-in-Some-clause-left : goal.returns-in-Some-clause-left
returns-in-Some-clause-left c =
    let o = c.args.entries.now in
    let law = c.entries_stand_in_the_list.ensures in
    let t = c.in-Some.field-0-2 in
    let result = c.advancer_ordered.result in
    subst (λ l. IfSome result (λ w. entries_left o w ≡ l))
    (sym (rest_is {P = Handle} (λ h. h.index) (λ h. h.generation) o 0
    c.requires law c.args.from.index c.args.from.generation t c.in-Some.ensures.made.0
    c.in-Some.ensures.entry))
    (rest_left {P = Handle} (λ h. h.index) (λ h. h.generation) o 0
    c.requires law c.args.from.index c.args.from.generation t c.in-Some.ensures.entry result
    (subst (λ j. IfSome result
    (λ a. IsFrom (order_in o) j false (left_over o a)))
    (c._from_raw.ensures.has_index ∙ c.in-Some.ensures.index)
    c.advancer_ordered.ensures.along))
