use Rattle.std.proofs.Common.{◌∙◌, ap, sym, ℕ, Some, Option}
use Rattle.std.specs.Int.NonZero.{non_zero_u32_get}
use Rattle.ord_map_c.specs.Entries.{Entry}
use Rattle.ord_map_c.proofs.AlongLemmas.{has_its_key}
use Rattle.ord_map_c.proofs.entries.look.Goals as goal

pub returns-in-Some-get_inx-clause-listed : goal.returns-in-Some-get_inx-clause-listed
returns-in-Some-get_inx-clause-listed c =
    let t = c.in-Some-get_inx.pair.now in
    let generation = sym c.get.ensures.value ∙ c.if-get-handle.true in
    has_its_key c.args.entries.now c.requires c.entries_stand_in_the_list.ensures
    (non_zero_u32_get c.in-Some.inx) (non_zero_u32_get c.in-Some-get_inx.generation, t)
    (sym c.in-Some-get_inx.ensures)
    ∙ ap (λ (i : ℕ). (let e : Option Entry =
    Some (i, (non_zero_u32_get c.in-Some-get_inx.generation, t)) in e)) c.in-Some.ensures
    ∙ ap (λ (g : ℕ). (let e : Option Entry = Some (c.args.handle.index, (g, t)) in e)) generation
