use mathlib.Core.List.{map-map}
use Rattle.std.proofs.Common.{map, ap, sym, ◌∙◌}
use Rattle.triple_arena.specs.LiveEntries.{live_entries}
use Rattle.triple_arena_chain.specs.Listed.{listed_value}
use Rattle.triple_arena_ord.specs.Indexed.{listed_item}
use Rattle.triple_arena_ord.proofs.ord_arena.SimpleOrdArena.iter.Goals as goal

pub returns : goal.returns
returns g c =
    let links = live_entries c.self.inside.chains in
    rw (← c.self.view_is)
    (c.shown_by.ensures ∙ ap (map (λ e. listed_item (listed_value e)))
    c.iter_link_no_gen.ensures ∙ sym (map-map listed_item listed_value links))
