use Rattle.std.proofs.Common.{◌≡◌, ◌∙◌, ap, sym, subst}
use Rattle.triple_arena_ord.specs.Inserted.{IsReplaced}
use Rattle.triple_arena_ord.specs.States.{with_item}
use Rattle.route_lines.specs.State.{Place}
use Rattle.route_book.proofs.NeighborLemmas.{entry_under}
use Rattle.route_book.proofs.place_arena.reword.Goals as goal
use Rattle.route_book.proofs.OptionLemmas.{some_same}

pub returns-clause-replaced : goal.returns-clause-replaced
returns-clause-replaced g c p value =
    let same : c.in-Some.place.now ≡ p = some_same (c.in-Some.ensures.value ∙ value) in
    let new : c.replace_word.new.self
    ≡ record { ticket = p.ticket; key = p.key; word = c.args.word } =
    c.replace_word.ensures.place
    ∙ ap (λ (q : Place). record { ticket = q.ticket; key = q.key; word = c.args.word }) same in
    subst (λ q. IsReplaced (g.P.PtrCore.index c.args.at)
    (g.P.PtrCore.generation c.args.at)
    (record { ticket = p.ticket; key = p.key; word = c.args.word }) p c.args.arena.now
    (with_item c.args.arena.now (g.P.PtrCore.index c.args.at) q)) (sym new)
    (c.writes_keep_the_list.ensures.replaced c.args.arena.now (g.P.PtrCore.index c.args.at)
    (g.P.PtrCore.generation c.args.at)
    (record { ticket = p.ticket; key = p.key; word = c.args.word }) p
    c.len.ensures.formed.ordered
    (entry_under _ (g.P.PtrCore.generation c.args.at) p value))
