use Rattle.std.proofs.Common.{◌∙◌, ap}
use Rattle.route_lines.specs.Calls.{after_place, after_start}
use Rattle.route_lines.specs.State.{in_rooms}
use Rattle.promise_route_book_users.proofs.moving.grow.Goals as goal

pub returns-in-Ok-start_or_move : goal.returns-in-Ok-start_or_move
returns-in-Ok-start_or_move g c =
    c.in-Ok-start_or_move.ensures.moved
    ∙ ap (λ s. after_start (in_rooms (record { places = 100; stops = 100; marks = 100 }) s) 1)
    (c.start.ensures.changes.leaves ∙ ap (λ s. after_start s 1)
    (c.place.ensures.changes.leaves ∙ ap (λ s. after_place s 50 c.args.word) c.in-Ok.ensures.made))
