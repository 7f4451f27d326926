use Rattle.std.proofs.Common.{rules, ap, sym, ◌∙◌}
use Rattle.std.specs.Int.NonZero.{non_zero_usize_get}
use Rattle.std.specs.Option.{option_map}
use Rattle.triple_arena.proofs.FreeListLemmas.{head_within, head_fits, room_behind}
use Rattle.triple_arena.proofs.arena.Arena.next_ptr.Goals as goal

pub place_of-requires-clause-fits : goal.place_of-requires-clause-fits
place_of-requires-clause-fits g c =
    head_fits c.self.inside.head c.len-count.ensures.value
    c.len-count.type_inv c.self.invariant

pub pointer_at-requires-clause-fits : goal.pointer_at-requires-clause-fits
pointer_at-requires-clause-fits g c =
    let within = head_within
    (sym c.place_of.ensures ∙ ap (option_map non_zero_usize_get) c.in-Some.is)
    c.self.invariant in
    let fits = c.self.invariant.fits in
    Prim.search rules

pub overflow_add-count : goal.overflow_add-count
overflow_add-count g c =
    let room = room_behind
    (sym c.place_of.ensures ∙ ap (option_map non_zero_usize_get) c.in_default.is)
    c.self.invariant c.self.view_is c.requires in
    Prim.search rules
