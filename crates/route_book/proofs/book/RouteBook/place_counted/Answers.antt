use Rattle.route_book.proofs.PlaceLemmas.{found_now}
use Rattle.route_book.proofs.book.RouteBook.place_counted.Goals as goal

pub add_place-requires-clause-similar : goal.add_place-requires-clause-similar
add_place-requires-clause-similar g c =
    found_now _ g.P.PtrCore.index g.P.PtrCore.generation _ c.args.key _ _ c.self.view_is _
    c.self.invariant.book.last_is c.find_similar_key_counted-found.ensures.similar
