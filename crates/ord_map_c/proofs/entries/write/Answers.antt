use Rattle.std.proofs.Common.{inr, refl, sym, subst}
use Rattle.std.specs.Int.NonZero.{non_zero_u32_get}
use Rattle.triple_arena_ord.specs.Ordered.{entry_in}
use Rattle.triple_arena_ord.specs.States.{with_item}
use Rattle.ord_map_c.specs.Entries.{Pair, pair}
use Rattle.ord_map_c.specs.State.{IsMap}
use Rattle.ord_map_c.proofs.AlongLemmas.{pair_is}
use Rattle.ord_map_c.proofs.ChangeLemmas.{keyed, others_stay, rewritten}
use Rattle.ord_map_c.proofs.entries.write.Goals as goal

pub returns-clause-written : goal.returns-clause-written
returns-clause-written c =
    let o = c.args.entries.now in
    let i = non_zero_u32_get c.args.inx in
    let t = pair c.args.key c.args.value in
    let own = pair_is c.new.result c.args.key c.args.value c.new.ensures.key c.new.ensures.value in
    let there = keyed o i c.args.key c.requires.key in
    rw (own, there.is)
    (c.writes_keep_the_list.ensures.replaced o i there.generation t (pair c.args.key there.value)
    c.requires.map.ordered there.is)

pub returns-clause-listed : goal.returns-clause-listed
returns-clause-listed c =
    let o = c.args.entries.now in
    let i = non_zero_u32_get c.args.inx in
    let t = pair c.args.key c.args.value in
    let own = pair_is c.new.result c.args.key c.args.value c.new.ensures.key c.new.ensures.value in
    let there = keyed o i c.args.key c.requires.key in
    rw (own, there.is)
    (rewritten o (with_item o i t) c.requires.map c.entries_stand_in_the_list.ensures i
    there.generation t (pair c.args.key there.value) refl
    (c.writes_keep_the_list.ensures.replaced o i there.generation t (pair c.args.key there.value)
    c.requires.map.ordered there.is)).entries

pub returns-clause-map : goal.returns-clause-map
returns-clause-map c =
    let o = c.args.entries.now in
    let i = non_zero_u32_get c.args.inx in
    let own = pair_is c.new.result c.args.key c.args.value c.new.ensures.key c.new.ensures.value in
    let t = pair c.args.key c.args.value in
    let there = keyed o i c.args.key c.requires.key in
    subst (λ (x : Pair). IsMap (with_item o i x)) (sym own) (record {
      ordered = c.writes_keep_the_list.ensures.ordered o i t c.requires.map.ordered
          (rw there.is refl);
      rise = (rewritten o (with_item o i t) c.requires.map c.entries_stand_in_the_list.ensures i
          there.generation t (pair c.args.key there.value) refl
          (c.writes_keep_the_list.ensures.replaced o i there.generation t
          (pair c.args.key there.value) c.requires.map.ordered there.is)).rise;
    })

pub returns-clause-others : goal.returns-clause-others
returns-clause-others c =
    let o = c.args.entries.now in
    let i = non_zero_u32_get c.args.inx in
    let t = pair c.args.key c.args.value in
    let own = pair_is c.new.result c.args.key c.args.value c.new.ensures.key c.new.ensures.value in
    let there = keyed o i c.args.key c.requires.key in
    rw (own, there.is)
    (others_stay (entry_in o) (entry_in (with_item o i t)) i there.generation t
    (c.writes_keep_the_list.ensures.replaced o i there.generation t (pair c.args.key there.value)
    c.requires.map.ordered there.is).entries (inr (pair c.args.key there.value, there.is)))
