use Rattle.std.proofs.Common.{◌∙◌, subst}
use Rattle.std.specs.Int.NonZero.{non_zero_u32_get}
use Rattle.triple_arena_ord.specs.Ordered.{order_in}
use Rattle.triple_arena_ord.specs.OrderedWalks.{IsFrom, left_over}
use Rattle.ord_map_c.specs.Entries.{pair}
use Rattle.ord_map_c.proofs.ChangeLemmas.{paired}
use Rattle.ord_map_c.specs.Entries.{pointer_of}
use Rattle.ord_map_c.specs.State.{beside_in, listed, pair_of}
use Rattle.ord_map_c.proofs.AlongLemmas.{none_if}
use Rattle.ord_map_c.proofs.SearchLemmas.{beside_is}
use Rattle.ord_map_c.proofs.entries.beside.Goals as goal

pub returns-clause-entry : goal.returns-clause-entry
returns-clause-entry c =
    let i = non_zero_u32_get c.args.inx in
    let generation = non_zero_u32_get c.args.generation in
    let there = paired c.args.entries.now i generation c.args.key c.requires.at in
    c.handle_if.ensures
    ∙ beside_is (λ p. non_zero_u32_get p.inx) (λ p. non_zero_u32_get p.generation)
    c.args.entries.now 0 c.requires.map c.entries_stand_in_the_list.ensures i generation
    (pair c.args.key there.value) there.is c.args.back c.in-Some.walk c.advance.new.self
    c.advance-2.new.self c.advance.result c.advance-2.result
    (subst (λ j. IsFrom (order_in c.args.entries.now) j c.args.back
    (left_over c.args.entries.now c.in-Some.walk)) c._from_raw.ensures.has_index
    c.in-Some.ensures.along)
    c.advance.ensures.given c.advance-2.ensures.given

pub returns-clause-none : goal.returns-clause-none
returns-clause-none c =
    none_if pair_of pointer_of c.handle_if.result
    (beside_in c.args.back (listed c.args.entries.now) c.args.key)
    (returns-clause-entry c)
