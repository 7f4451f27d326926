use Rattle.std.proofs.Common.{◌∙◌, ap, sym, rules}
use Rattle.triple_arena_ord.specs.Ordered.{entry_in, order_in}
use Rattle.route_book.proofs.FirstLemmas.{last_noted, keeps_name, or_none}
use Rattle.route_book.proofs.place_arena.floor_ticket.Goals as goal

pub returns-clause-ticket : goal.returns-clause-ticket
returns-clause-ticket g c =
    let asked = c.find_similar_by_counted.ensures.asked in
    c.noted-2-1.given.1 (keeps_name (λ f. f.1.ghost_name) _ (λ f q h s. search rules) _ _ _
    asked.0.made ∙ ap (λ f. f.1.ghost_name) asked.1)
    ∙ ap (λ f. f.1.now) (sym asked.1)
    ∙ last_noted g.P.PtrCore.index g.P.PtrCore.generation _ (λ f. f.0.now) (λ f. f.1.now)
    (entry_in c.args.places.now)
    (λ f p t d h s. record { same = search rules; way = search rules; note = search rules })
    asked.0.questions _ _
    (order_in c.args.places.now) asked.0.made asked.0.entries asked.0.way
    c.requires.rise
    ∙ or_none _
