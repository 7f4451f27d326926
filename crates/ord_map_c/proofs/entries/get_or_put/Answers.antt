use Rattle.std.proofs.Common.{◌∙◌, ap, sym}
use Rattle.std.specs.Int.NonZero.{non_zero_u32_get}
use Rattle.std.specs.Option.{option_copied}
use Rattle.ord_map_c.proofs.GetLemmas.{added_is, got_is, kept, never_gone, refused_is}
use Rattle.ord_map_c.proofs.entries.get_or_put.Goals as goal

pub unreachable-requires : goal.unreachable-requires
unreachable-requires c =
    never_gone (λ p. non_zero_u32_get p.inx) (λ p. non_zero_u32_get p.generation)
    c.args.entries.now c.get_or_insert.new.self c.requires c.entries_stand_in_the_list.ensures
    c.args.key c.args.value c.get_or_insert.result c.new.result c.new.ensures.key
    c.new.ensures.value c.get_or_insert.ensures c.in-Ok-default-Some.p
    c.in-Ok-default-Some.field-0-1 c.in-Ok-default-Some.field-0-1-0
    c.in-Ok-default-Some.is c.in-Ok-default-Some.field-0-1-is
    (sym c.get.ensures ∙ ap option_copied c.in_default.is)

pub returns-in-Some-clause-put : goal.returns-in-Some-clause-put
returns-in-Some-clause-put c =
    got_is (λ p. non_zero_u32_get p.inx) (λ p. non_zero_u32_get p.generation)
    c.args.entries.now c.get_or_insert.new.self c.requires c.entries_stand_in_the_list.ensures
    c.args.key c.args.value c.get_or_insert.result c.new.result c.new.ensures.key
    c.new.ensures.value c.get_or_insert.ensures c.handle_of.result c.in-Ok-default-Some.p
    c.in-Ok-default-Some.field-0-1 c.in-Ok-default-Some.field-0-1-0
    c.in-Ok-default-Some.is c.in-Ok-default-Some.field-0-1-is
    c.handle_of.ensures.same c.in-Some.own.now (sym c.get.ensures ∙ ap option_copied c.in-Some.is)
    c.v.result.now c.v.ensures

pub returns-in-Some-clause-stays : goal.returns-in-Some-clause-stays
returns-in-Some-clause-stays c =
    λ _. kept (λ p. non_zero_u32_get p.inx) (λ p. non_zero_u32_get p.generation)
    c.args.entries.now c.get_or_insert.new.self c.requires c.entries_stand_in_the_list.ensures
    c.args.key c.args.value c.get_or_insert.result c.new.result c.new.ensures.key
    c.new.ensures.value c.get_or_insert.ensures c.in-Ok-default-Some.p
    c.in-Ok-default-Some.field-0-1 c.in-Ok-default-Some.field-0-1-0
    c.in-Ok-default-Some.is c.in-Ok-default-Some.field-0-1-is

pub returns-in-Ok-default-None-clause-put : goal.returns-in-Ok-default-None-clause-put
returns-in-Ok-default-None-clause-put c =
    added_is (λ p. non_zero_u32_get p.inx) (λ p. non_zero_u32_get p.generation)
    c.args.entries.now c.get_or_insert.new.self c.requires c.entries_stand_in_the_list.ensures
    c.args.key c.args.value c.get_or_insert.result c.new.result c.new.ensures.key
    c.new.ensures.value c.get_or_insert.ensures c.handle_of-in-Ok-default-None.result
    c.in-Ok-default-None.p c.in-Ok-default-None.field-0-1 c.in-Ok-default-None.is
    c.in-Ok-default-None.field-0-1-is c.handle_of-in-Ok-default-None.ensures.same

pub returns-in-Err-clause-put : goal.returns-in-Err-clause-put
returns-in-Err-clause-put c =
    refused_is (λ p. non_zero_u32_get p.inx) (λ p. non_zero_u32_get p.generation)
    c.args.entries.now c.get_or_insert.new.self c.requires c.entries_stand_in_the_list.ensures
    c.args.key c.args.value c.get_or_insert.result c.new.result c.new.ensures.key
    c.new.ensures.value c.get_or_insert.ensures c.in-Err.error c.refusal_of.result
    c.in-Err.is c.refusal_of.ensures
