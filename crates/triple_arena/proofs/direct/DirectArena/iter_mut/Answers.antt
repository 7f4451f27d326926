use Rattle.std.proofs.Common.{refl, sym, ap, ◌∙◌, length}
use Rattle.triple_arena.specs.DirectContent.{as_content}
use Rattle.triple_arena.specs.LiveEntries.{listed_from, live_entries-length}
use Rattle.triple_arena.proofs.IterMutLemmas.{direct_keyed-entries}
use Rattle.triple_arena.proofs.direct.DirectArena.iter_mut.Goals as goal

pub over-requires-clause-counted : goal.over-requires-clause-counted
over-requires-clause-counted g c =
    c.live-left.ensures.value ∙ sym (live_entries-length (as_content c.args.self.now))
    ∙ ap (λ es. length (listed_from 1 es)) (sym (direct_keyed-entries c.lend_slots.result.run ∙
    c.lend_slots.ensures.run))

pub returns : goal.returns
returns g c = (
  (sym c.over.ensures.name, λ w. refl),
  record {
    writes_back = tt;
    rest = c.over.ensures.rest ∙
        ap (λ es. listed_from 1 es) (direct_keyed-entries c.lend_slots.result.run ∙
        c.lend_slots.ensures.run);
    formed = c.live-left.ensures.formed;
  },
)
