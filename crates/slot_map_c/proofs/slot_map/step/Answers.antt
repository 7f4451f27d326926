use Rattle.std.proofs.Common.{◌≡◌, ◌∙◌, sym, Some}
use Rattle.std.specs.Int.NonZero.{non_zero_u32_get}
use Rattle.std.specs.Option.{option_map}
use Rattle.triple_arena.specs.Content.{entry_at}
use Rattle.slot_map_c.proofs.EntriesLemmas.{step_after, end_after}
use Rattle.slot_map_c.proofs.slot_map.step.Goals as goal

pub returns-in_default-clause-none : goal.returns-in_default-clause-none
returns-in_default-clause-none c =
    end_after c.args.arena.now c.args.at.now c.args.walk.now c.advance.new.self c.requires.rises
    c.requires.low c.requires.reaches c.in_default.ensures.given

pub returns-clause-first : goal.returns-clause-first
returns-clause-first c =
    let at : c.get.result ≡ non_zero_u32_get c.in-Some.p.inx = c.get.ensures.value ∙ c.inx.ensures
    in
    let index : c.get-2.result ≡ non_zero_u32_get c.in-Some.p.inx =
    c.get-2.ensures.value ∙ c.inx-2.ensures in
    let generation : c.get-3.result ≡ non_zero_u32_get c.in-Some.p.generation =
    c.get-3.ensures.value ∙ c.generation.ensures in
    let value : option_map (λ e. e.1)
    (entry_at c.args.arena.now (non_zero_u32_get c.in-Some.p.inx))
    ≡ Some c.get_inx_unwrap.result.now = rw (sym c.inx-3.ensures) c.get_inx_unwrap.ensures in
    rw (at, index, generation)
    (step_after c.args.arena.now c.args.at.now (non_zero_u32_get c.in-Some.p.inx)
    (non_zero_u32_get c.in-Some.p.generation) c.get_inx_unwrap.result.now c.args.walk.now
    c.advance.new.self c.requires.rises c.requires.low c.in-Some.ensures.given value)
