use Rattle.std.proofs.Common.{◌≡◌, ◌==◌, ℕ, List, [], Option, Some, Bor, rules, tests, sym, ap, ◌∙◌}
use Rattle.std.proofs.lemmas.Iterator.{YieldsList-from_slice}
use Rattle.std.proofs.lemmas.Iterator.Search.{position_from_yields_List}
use Rattle.std.specs.Option.{option_map_or}
use Rattle.route_lines.specs.Grammar.{fields_of}
use Rattle.route_lines.proofs.GrammarLemmas.{next_field, last_field}
use Rattle.route_lines.proofs.line.fields.Fields.next.Goals as goal

begun : (left : List (List ℕ)) (rest : Bor (List ℕ)) (inside : Option (Bor (List ℕ)))
    → option_map_or (λ r. fields_of r.now) inside [] ≡ left → inside ≡ Some rest
    → left ≡ fields_of rest.now
begun left rest inside view_is was = sym view_is
    ∙ ap (λ o. option_map_or (λ r. fields_of r.now) o []) was

pub returns-in-Some : goal.returns-in-Some
returns-in-Some c =
    let rest = c.in_ok-rest.rest.now in
    let at = position_from_yields_List (λ b. b == 32) _ _ _ c.position.ensures.ran
    (YieldsList-from_slice rest cc) (λ x b q k. search (rules, tests)) in
    begun _ _ _ c.self.view_is c.in_ok-rest.was
    ∙ next_field rest c.in-Some.end (sym at ∙ c.in-Some.is)

pub returns-in-None : goal.returns-in-None
returns-in-None c =
    let rest = c.in_ok-rest.rest.now in
    let at = position_from_yields_List (λ b. b == 32) _ _ _ c.position.ensures.ran
    (YieldsList-from_slice rest cc) (λ x b q k. search (rules, tests)) in
    begun _ _ _ c.self.view_is c.in_ok-rest.was ∙ last_field rest (sym at ∙ c.in-None.is)
