use Rattle.std.proofs.Common.{◌∙◌, ap, Some}
use Rattle.std.specs.Int.NonZero.{non_zero_u32_get}
use Rattle.ord_map_c.proofs.SearchLemmas.{has_key, near_lives, nearest_is}
use Rattle.ord_map_c.proofs.entries.nearest.Goals as goal

pub returns-in-Some-clause-entry : goal.returns-in-Some-clause-entry
returns-in-Some-clause-entry c =
    ap Some c.handle_of.ensures.pointer
    ∙ (nearest_is (λ p. non_zero_u32_get p.inx) (λ p. non_zero_u32_get p.generation)
    c.args.entries.now c.args.key c.requires c.entries_stand_in_the_list.ensures
    c.find_similar_key.result c.find_similar_key.ensures c.in-Some.p c.in-Some.way
    c.in-Some.is).entry

pub returns-in-Some-clause-equal : goal.returns-in-Some-clause-equal
returns-in-Some-clause-equal c =
    let near = nearest_is (λ p. non_zero_u32_get p.inx) (λ p. non_zero_u32_get p.generation)
    c.args.entries.now c.args.key c.requires c.entries_stand_in_the_list.ensures
    c.find_similar_key.result c.find_similar_key.ensures c.in-Some.p c.in-Some.way
    c.in-Some.is in
    near.equal

pub returns-in-Some-clause-has_key : goal.returns-in-Some-clause-has_key
returns-in-Some-clause-has_key c =
    let near = nearest_is (λ p. non_zero_u32_get p.inx) (λ p. non_zero_u32_get p.generation)
    c.args.entries.now c.args.key c.requires c.entries_stand_in_the_list.ensures
    c.find_similar_key.result c.find_similar_key.ensures c.in-Some.p c.in-Some.way
    c.in-Some.is in
    has_key (λ p. non_zero_u32_get p.inx) (λ p. non_zero_u32_get p.generation)
    c.args.entries.now c.args.key c.requires c.entries_stand_in_the_list.ensures c.in-Some.p
    c.in-Some.way near

pub returns-in-Some-clause-none : goal.returns-in-Some-clause-none
returns-in-Some-clause-none c =
    let near = nearest_is (λ p. non_zero_u32_get p.inx) (λ p. non_zero_u32_get p.generation)
    c.args.entries.now c.args.key c.requires c.entries_stand_in_the_list.ensures
    c.find_similar_key.result c.find_similar_key.ensures c.in-Some.p c.in-Some.way
    c.in-Some.is in (
      λ never. absurd (cc),
      λ empty. absurd
          (near_lives (λ p. non_zero_u32_get p.inx) (λ p. non_zero_u32_get p.generation)
          c.args.entries.now c.args.key c.requires c.entries_stand_in_the_list.ensures c.in-Some.p
          c.in-Some.way near empty),
    )
