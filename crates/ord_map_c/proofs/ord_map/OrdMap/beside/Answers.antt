use Rattle.std.proofs.Common.{◌≡◌, ◌∙◌, ap, sym, subst, Some, None}
use Rattle.std.specs.Option.{option_map}
use Rattle.ord_map_c.specs.Entries.{pointer_of}
use Rattle.ord_map_c.specs.State.{State, beside_in, beside_of, listed, pair_in, pair_of}
use Rattle.ord_map_c.proofs.ord_map.OrdMap.beside.Goals as goal

pub returns-in-Some-beside-clause-entry : goal.returns-in-Some-beside-clause-entry
returns-in-Some-beside-clause-entry c =
    let o = c.self.inside.entries in
    let l = listed o in
    subst (λ (s : State). Some (pair_of c.in-Some-beside.next) ≡ option_map pointer_of
    (beside_of c.args.back (listed s.arena)
    (pair_in s.arena c.args.handle.index c.args.handle.generation))) c.self.view_is
    (c.in-Some-beside.ensures.entry
    ∙ ap (λ k. option_map pointer_of (beside_in c.args.back l k)) c.k.ensures
    ∙ sym (ap (λ t. option_map pointer_of (beside_of c.args.back l t)) c.in-Some.ensures.pair))

pub returns-in-None-clause-end : goal.returns-in-None-clause-end
returns-in-None-clause-end c = λ _.
    let o = c.self.inside.entries in
    let l = listed o in
    subst (λ (s : State). beside_of c.args.back (listed s.arena)
    (pair_in s.arena c.args.handle.index c.args.handle.generation) ≡ None) c.self.view_is
    (ap (beside_of c.args.back l) c.in-Some.ensures.pair
    ∙ ap (beside_in c.args.back l) (sym c.k.ensures) ∙ c.in-None.ensures.none)
