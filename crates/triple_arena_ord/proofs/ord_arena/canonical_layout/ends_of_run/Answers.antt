use Rattle.std.proofs.Common.{rules, ◌≡◌, ◌<◌, Some, option_map, sym, ◌∙◌}
use Rattle.triple_arena_ord.proofs.CanonicalLayoutLemmas.{last_of_run}
use Rattle.triple_arena_ord.proofs.ord_arena.canonical_layout.ends_of_run.Goals as goal

pub returns-in-Some-clause-last : goal.returns-in-Some-clause-last
returns-in-Some-clause-last g c =
    let some : 0 < c.args.len = search rules in
    let made_it : option_map g.I.PtrInxCore.number c.try_from_usize-in-Some.result
    ≡ Some c.args.len = search rules in
    made_it ∙ sym (last_of_run c.args.len some)
