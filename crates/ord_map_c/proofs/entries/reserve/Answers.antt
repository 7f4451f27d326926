use Rattle.std.proofs.Common.{◌∙◌, ap, sym, subst}
use Rattle.ord_map_c.specs.Entries.{KeysRise}
use Rattle.ord_map_c.specs.State.{listed}
use Rattle.ord_map_c.proofs.ChangeLemmas.{listed-reallocated}
use Rattle.ord_map_c.proofs.entries.reserve.Goals as goal

pub returns-in-Ok-clause-listed : goal.returns-in-Ok-clause-listed
returns-in-Ok-clause-listed c =
    ap listed c.in-Ok.ensures.exact ∙ listed-reallocated c.args.entries.now c.args.min

pub returns-in-Ok-clause-map : goal.returns-in-Ok-clause-map
returns-in-Ok-clause-map c = record {
  ordered = c.reallocate_min_capacity.ensures.formed.ordered;
  rise = subst KeysRise (sym (returns-in-Ok-clause-listed c)) c.requires.rise;
}
